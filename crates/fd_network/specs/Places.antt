-- The elements of a circuit that passed the tests of Solve, at their places in order.
use Rattle.std.specs.Prelude.{◌≡◌, ℕ, ◌+◌, [], ◌∷◌}
use Rattle.dss_ready.specs.dss_layout.Layout.{Elements, LayoutView, first_magnitude, magnitude_phases}
use Rattle.fd_devices.specs.Standing.{IsReadyAt}

-- elements of which the first stands at a place in order, each ready at its place
abbrev pub AreReadyFrom : LayoutView → ℕ → Elements → Type 0
AreReadyFrom layout place [] = Unit {0}
AreReadyFrom layout place (e ∷ es) = IsReadyAt layout place e.1 × AreReadyFrom layout (place + 1) es

-- the magnitudes of elements of which the first stands at a place in order: they follow one another, from this one on
abbrev pub AreMagnitudesFrom : LayoutView → ℕ → ℕ → Elements → Type 0
AreMagnitudesFrom layout first place [] = Unit {0}
AreMagnitudesFrom layout first place (e ∷ es) = (first_magnitude layout place ≡ first) × AreMagnitudesFrom layout (first + magnitude_phases e.1) (place + 1) es

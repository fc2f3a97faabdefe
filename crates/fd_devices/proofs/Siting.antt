-- Where the sides, the branches and the magnitudes of an element stand, by its kind.
use Rattle.std.proofs.Common.{IsTrue, ℕ, ◌+◌, ◌≤◌, inl, inr, if◌then◌else◌, [], ◌∷◌, subst, arith}
use Rattle.dss_layout.specs.dss_model.LoadKinds.{has_magnitude}
use Rattle.dss_layout.specs.fd_arith.declared.terms.Ends.{Ends}
use Rattle.dss_layout.specs.dss_model.Ranges.{IsOneOf}
use Rattle.dss_layout.specs.dss_model.InRange.{ElementInRange}
use Rattle.dss_layout.specs.dss_model.declared.element.Element.{Element}
use Rattle.dss_layout.specs.dss_model.declared.element.Element.TheVariants as the
use Rattle.dss_layout.specs.dss_model.declared.load.Load.{Load}
use Rattle.dss_layout.specs.Layout.{branch_phases, magnitude_phases}
use Rattle.fd_devices.specs.Sound.{HasBranches, HasMagnitudes, IsSideOf, IsSited}
use Rattle.fd_devices.proofs.Sides.{first_count, second_count}

-- its sides have a node for each terminal, its branches are among the first n complex unknowns, of which the nodes come first, and its
-- magnitudes, of which the first's place is given, behind these among `size` real unknowns
pub record StandsAmong (nodes n size magnitude : ℕ) (at : Ends) (e : Element) : Type 0 where
  pub first : IsSideOf nodes (first_count e) at.first
  pub second : IsSideOf nodes (second_count e) at.second
  pub branches : at.branch + branch_phases e ≤ n
  pub magnitudes : HasMagnitudes n size (magnitude_phases e) magnitude

-- an element of one phase or of three has some
pub some_phases : (phases : ℕ) → IsOneOf (1 ∷ 3 ∷ []) phases → 1 ≤ phases
some_phases phases (inl h) = omega arith
some_phases phases (inr h) = omega arith

-- the branches of an element with phases
pub has_branches : (nodes n size magnitude : ℕ) (at : Ends) (e : Element) → 1 ≤ branch_phases e
    → StandsAmong nodes n size magnitude at e → HasBranches n (branch_phases e) at
has_branches nodes n size magnitude at e some p = record { some = some; below = p.branches }

-- the magnitudes of a load with a part of constant current
load_magnitudes : (n size magnitude : ℕ) (l : Load) → HasMagnitudes n size (magnitude_phases (the.Load l)) magnitude
    → IsTrue (has_magnitude l.model) → HasMagnitudes n size l.phases magnitude
load_magnitudes n size magnitude l h has = subst (λ b. HasMagnitudes n size (if b then l.phases else 0) magnitude) has h

pub sited : (nodes n size magnitude : ℕ) (at : Ends) (e : Element) → ElementInRange e
    → StandsAmong nodes n size magnitude at e → IsSited nodes n size magnitude at e
sited nodes n size magnitude at (the.Vsource v) r p = (p.first, has_branches nodes n size magnitude at (the.Vsource v) (some_phases v.phases r.phases) p)
sited nodes n size magnitude at (the.Line l) r p = (p.first, p.second, has_branches nodes n size magnitude at (the.Line l) r.phases.least p)
sited nodes n size magnitude at (the.Transformer t) r p =
    (p.first, p.second, has_branches nodes n size magnitude at (the.Transformer t) (some_phases t.phases r.phases) p)
sited nodes n size magnitude at (the.Capacitor c) r p = p.first
sited nodes n size magnitude at (the.Load l) r p = (p.first, load_magnitudes n size magnitude l p.magnitudes)
sited nodes n size magnitude at e r p = tt

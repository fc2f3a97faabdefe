-- What the tests of Solve say of an element that takes part in the equations, and where it stands.
use Rattle.std.specs.Prelude.{◌≡◌, IsTrue, ℕ, ◌+◌, ◌*◌, ◌≤◌, false, Ok, IsSome, List, length, All}
use Rattle.dss_layout.specs.fd_arith.declared.terms.NodeAt.{NodeAt}
use Rattle.dss_layout.specs.dss_model.LoadKinds.{has_magnitude}
use Rattle.dss_layout.specs.fd_arith.declared.terms.Ends.{Ends}
use Rattle.fd_xfmr.specs.fd_system.Terminals.{node_count}
use Rattle.dss_layout.specs.dss_model.declared.element.Element.{Element}
use Rattle.dss_layout.specs.dss_model.declared.element.Element.TheVariants as the
use Rattle.dss_layout.specs.Terminals.{terminal_numbers, tested}
use Rattle.dss_layout.specs.dss_model.Sound.{are_matrices_wrong, is_source_outside}
use Rattle.fd_pattern.specs.Conditions.{IsAmong}

-- ---- values

-- a source isn't past its limit, a line has an impedance, and the matrices that hold have a row for each phase
abbrev pub AreValuesSound : Element → Type 0
AreValuesSound (the.Vsource v) = is_source_outside v ≡ false
AreValuesSound (the.Line l) = (are_matrices_wrong l ≡ false) × IsSome l.constants.form
AreValuesSound e = Unit {0}

pub record IsSound (e : Element) : Type 0 where
  pub terminals : tested (terminal_numbers e) ≡ Ok tt
  pub values : AreValuesSound e

-- ---- places

-- a side of an element has a place for each of its m terminals, among the first n complex unknowns
pub record IsSideOf (n m : ℕ) (nodes : List NodeAt) : Type 0 where
  pub count : length nodes ≡ m
  pub below : All (IsAmong n) nodes

-- the branches of m phases are among the first n complex unknowns
pub record HasBranches (n m : ℕ) (at : Ends) : Type 0 where
  pub some : 1 ≤ m
  pub below : at.branch + m ≤ n

-- the magnitudes of m phases, of which the first's place is given, stand behind the first n complex unknowns, among `size` real ones
pub record HasMagnitudes (n size m first : ℕ) : Type 0 where
  pub behind : 2 * n ≤ first
  pub below : first + m ≤ size

-- where an element stands among n complex unknowns, of which the nodes come first, and `size` real ones: its sides at
-- nodes, its branches among the complex unknowns, and its magnitudes, which loads with a part of constant current have,
-- from the given place on
abbrev pub IsSited : ℕ → ℕ → ℕ → ℕ → Ends → Element → Type 0
IsSited nodes n size magnitude at (the.Vsource v) = IsSideOf nodes v.phases at.first × HasBranches n v.phases at
IsSited nodes n size magnitude at (the.Line l) = IsSideOf nodes l.phases at.first × IsSideOf nodes l.phases at.second × HasBranches n l.phases at
IsSited nodes n size magnitude at (the.Transformer t) =
    IsSideOf nodes (node_count t.phases) at.first
    × IsSideOf nodes (node_count t.phases) at.second
    × HasBranches n t.phases at
IsSited nodes n size magnitude at (the.Capacitor c) = IsSideOf nodes (node_count c.phases) at.first
IsSited nodes n size magnitude at (the.Load l) =
    IsSideOf nodes (node_count l.phases) at.first
    × (IsTrue (has_magnitude l.model) → HasMagnitudes n size l.phases magnitude)
IsSited nodes n size magnitude at e = Unit {0}

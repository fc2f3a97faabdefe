-- The nominal voltages that sources and windings give to their buses.
use Rattle.std.specs.Prelude.{ℕ, ◌==◌, Bool, false, ◌&&◌, ◌||◌, List, [], ◌∷◌, Result, Ok, Err, if◌then◌else◌}
use Rattle.dss_layout.specs.dss_model.declared.vsource.Vsource.{Vsource}
use Rattle.dss_layout.specs.dss_model.declared.transformer.Winding.{Winding}
use Rattle.dss_layout.specs.declared.numbers.TerminalFault.{TerminalFault}
use Rattle.dss_layout.specs.Terminals.{bus_numbers, one_phase_numbers}
use Rattle.fd_bases.specs.declared.nominal.Nominal.{Nominal}
use Rattle.fd_bases.specs.declared.nominal.Nominal.TheVariants.{Whole, OverRootThree}

-- of three phases the basekv over root three, of one phase the basekv as it is
abbrev pub source_nominal : Vsource → Nominal
source_nominal source = if source.phases == 1 then Whole source.basekv else OverRootThree source.basekv

-- one of the first two is ground
abbrev pub has_ground : List ℕ → Bool
has_ground [] = false
has_ground (a ∷ []) = a == 0
has_ground (a ∷ b ∷ more) = (a == 0) || (b == 0)

-- a bus that isn't given, or whose count of nodes isn't that of one phase, has no node at ground
abbrev pub grounded_by : Result (List ℕ) TerminalFault → Bool
grounded_by (Ok numbers) = has_ground numbers
grounded_by (Err fault) = false

-- a winding of one phase has one of its two nodes at ground
abbrev pub is_grounded : Winding → Bool
is_grounded winding = grounded_by (bus_numbers (one_phase_numbers winding.conn) winding.bus)

-- of one phase with one node at ground the kv as it is, else the kv over root three
abbrev pub winding_nominal : ℕ → Winding → Nominal
winding_nominal phases winding = if (phases == 1) && is_grounded winding then Whole winding.kv else OverRootThree winding.kv

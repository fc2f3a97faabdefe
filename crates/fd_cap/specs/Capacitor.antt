-- The equations of a capacitor bank, the contributions that add up to them, and what it draws at nominal voltage.
use Rattle.std.specs.Prelude.{ℕ, ◌*◌, ◌^◌, ◌≡◌, ◌⊎◌, ℤ, pos, ◌*ℤ◌, nat_abs, Bool, cond, List, [], ◌∷◌}
use Rattle.fd_system.specs.fd_exact.Rounding.{ceil_nat}
use Rattle.fd_system.specs.fd_exact.States.{State}
use Rattle.fd_system.specs.fd_exact.Ranges.{Between, UpTo}
use Rattle.fd_system.specs.fd_arith.declared.terms.Term.{Term}
use Rattle.fd_system.specs.fd_arith.declared.terms.Ends.{Ends}
use Rattle.fd_system.specs.Complex.{Complex, complex, ◌⊟◌, ◌⊠◌, negative}
use Rattle.fd_system.specs.Contributions.{shunt_list, concat_below}
use Rattle.fd_system.specs.Equations.{unknown, Part, both}
use Rattle.fd_system.specs.declared.terminals.NodePair.{NodePair}
use Rattle.fd_system.specs.Terminals.{pair_of, pairs_of, phase_volts}
use Rattle.fd_cap.specs.declared.data.CapData.{CapData}

-- ---- its numbers

-- the nominal voltage of a phase in microvolts
abbrev pub cap_volts : CapData → ℤ
cap_volts d = phase_volts d.phases d.conn d.kv

-- the reactive power of all phases in 10^-12 volt-ampere, of the kvar in 10^-9
abbrev pub cap_power : CapData → ℤ
cap_power d = d.kvar *ℤ pos (10 ^ 6)

-- the square of the nominal voltage in 10^-12 volt^2, times the number of phases
abbrev pub volts_squared : CapData → ℕ
volts_squared d = nat_abs (cap_volts d) * nat_abs (cap_volts d) * d.phases

-- the admittance j Q / V^2 of a phase in siemens; Q is the power over the number of phases
abbrev pub admittance : CapData → Complex
admittance d = complex (pos 0) (cap_power d) (volts_squared d)

-- ---- the equations

-- the nodes that phase k joins
abbrev pub cap_pair : CapData → Ends → ℕ → NodePair
cap_pair d at k = pair_of (pairs_of d.phases d.conn) at.first k

-- a closed phase draws j Q / V^2 times its voltage at its first node and gives it back at its second
abbrev pub phase_parts : CapData → NodePair → State → List Part
phase_parts d p x =
    let i = admittance d ⊠ (unknown x p.first ⊟ unknown x p.second) in
    both p.first i ∷ both p.second (negative i) ∷ []

abbrev pub parts_at : CapData → Ends → State → ℕ → List Part
parts_at d at x k = phase_parts d (cap_pair d at k) x

-- all phases of a closed bank, and nothing of an open one
abbrev pub cap_parts : CapData → Bool → Ends → State → List Part
cap_parts d closed at x = cond closed (concat_below (parts_at d at x) d.phases) []

-- ---- its contributions, in order

abbrev pub phase_list : CapData → NodePair → List Term
phase_list d p = shunt_list p.first p.second (pos 0) (cap_power d) (pos (volts_squared d))

abbrev pub list_at : CapData → Ends → ℕ → List Term
list_at d at k = phase_list d (cap_pair d at k)

abbrev pub cap_list : CapData → Bool → Ends → List Term
cap_list d closed at = cond closed (concat_below (list_at d at) d.phases) []

-- ---- what it draws

-- Q / V of a phase in whole microamperes, rounded up
abbrev pub phase_draw : CapData → ℕ
phase_draw d = ceil_nat (nat_abs (cap_power d)) (nat_abs (cap_volts d) * d.phases)

-- all phases of a closed bank, and nothing of an open one
abbrev pub cap_draw_of : CapData → Bool → ℕ
cap_draw_of d closed = cond closed (phase_draw d * d.phases) 0

-- ---- conditions

-- one or three phases, from 0 to 10^5 kvar and from 0.01 to 1000 kilovolt
pub record IsCap (d : CapData) : Type 0 where
  pub phases : (d.phases ≡ 1) ⊎ (d.phases ≡ 3)
  pub kvar : UpTo (10 ^ 14) d.kvar
  pub kv : Between (10 ^ 7) (10 ^ 12) d.kv

-- Nominal voltages of phases are in range.
use Rattle.std.proofs.Common.{ℕ, ◌+◌, ◌*◌, ◌/◌, ◌≤◌, ◌^◌, ℤ, pos, negsuc, Bool, true, false, cond, eqb, arith}
use Rattle.std.proofs.lemmas.Int.{ints}
use Rattle.fd_arith.specs.fd_exact.Ranges.{Between}
use Rattle.fd_arith.specs.fd_exact.RootThree.{root_three}
use Rattle.fd_arith.specs.declared.terms.Conn.{Conn}
use Rattle.fd_arith.specs.declared.terms.Conn.TheVariants.{Wye, Delta}
use Rattle.fd_system.specs.Terminals.{phase_volts, three_phase_volts}

wye_least : (m : ℕ) → 10 ^ 7 ≤ m → 5773000 ≤ (2 * (m * 10 ^ 15) + root_three) / (2 * root_three)
wye_least m h = omega arith

wye_most : (m : ℕ) → m ≤ 10 ^ 12 → (2 * (m * 10 ^ 15) + root_three) / (2 * root_three) ≤ 10 ^ 12
wye_most m h = omega arith

three_phase_between : (c : Conn) (kv : ℤ) → Between (10 ^ 7) (10 ^ 12) kv
    → Between 5773000 (10 ^ 12) (three_phase_volts c kv)
three_phase_between Wye (pos m) h =
    let least = wye_least m (omega (arith, ints, h.least)) in
    let most = wye_most m (omega (arith, ints, h.most)) in
    record { least = omega (arith, ints, least); most = omega (arith, ints, most) }
three_phase_between Wye (negsuc m) h = absurd (omega (arith, ints, h.least))
three_phase_between Delta kv h = record { least = omega (arith, ints, h.least); most = h.most }

-- a kV from 0.01 to 1000 kilovolt as the voltage of a phase
pub phase_volts_between : (phases : ℕ) (c : Conn) (kv : ℤ) → Between (10 ^ 7) (10 ^ 12) kv
    → Between 5773000 (10 ^ 12) (phase_volts phases c kv)
phase_volts_between phases c kv h = by (eqb phases 1)
  where
    by : (b : Bool) → Between 5773000 (10 ^ 12) (cond b kv (three_phase_volts c kv))
    by true = record { least = omega (arith, ints, h.least); most = h.most }
    by false = three_phase_between c kv h

-- A transformer's numbers at its taps are in range.
use Rattle.std.proofs.Common.{ℕ, ◌+◌, ◌*◌, ◌/◌, ◌<◌, ◌≤◌, ◌^◌, ℤ, pos, negsuc, ◌+ℤ◌, ◌*ℤ◌, nat_abs, arith}
use Rattle.std.proofs.Math.Nat.{mul-le-mul, div-lt_iff_lt-mul}
use Rattle.std.proofs.lemmas.Int.{ints}
use Rattle.fd_system.specs.fd_exact.Ranges.{Between, UpTo}
use Rattle.fd_system.specs.fd_exact.States.{part}
use Rattle.fd_system.specs.fd_arith.declared.terms.TapPair.{TapPair}
use Rattle.fd_system.proofs.CallerLemmas.{phase_volts_between}
use Rattle.fd_xfmr.specs.declared.data.XfmrData.{XfmrData}
use Rattle.fd_xfmr.specs.Windings.{conn1, conn2, first_volts, kv1, kv2, second_volts}
use Rattle.fd_xfmr.specs.Leakage.{AreTaps, AreWithin, IsXfmr, coefficients_of, nominal_leakage, percent_resistance}
use Rattle.fd_xfmr.proofs.Products.{over_positive, over_small, percent_most, phases_few, quotient_room, squares_most, times_most}

volts_size : (v : ℤ) → Between 5773000 (10 ^ 12) v → nat_abs v ≤ 10 ^ 12
volts_size v h = omega (arith, ints, h.least, h.most)

quotient_most : (n d q : ℕ) → 0 < d → n ≤ q * d → n / d ≤ q
quotient_most n d q h k = let below : n / d < q + 1 = (div-lt_iff_lt-mul h).1 (omega arith) in omega arith

leakage_small : (d : XfmrData) (percent : ℤ) → IsXfmr d → UpTo (2 * 10 ^ 11) percent
    → nat_abs (nominal_leakage d percent) ≤ 6 * 10 ^ 24
leakage_small d (pos m) h u =
    let v = nat_abs (second_volts d) in
    let size = volts_size (second_volts d) (phase_volts_between d.phases (conn2 d) (kv2 d) h.kv2) in
    let squares : v * v ≤ 10 ^ 12 * 10 ^ 12 = mul-le-mul size size in
    let all = squares_most (v * v) d.phases (omega (arith, squares)) (phases_few d.phases h.phases) in
    let product = percent_most m (v * v * d.phases) (omega (arith, ints, u.most)) all in
    let kva : 10 ^ 6 ≤ nat_abs d.kva = omega (arith, ints, h.kva.least) in
    quotient_most (m * (v * v * d.phases)) (nat_abs d.kva * 10 ^ 5) (6 * 10 ^ 24) (omega (arith, kva))
    (quotient_room (m * (v * v * d.phases)) (nat_abs d.kva) product kva)
leakage_small d (negsuc m) h u = absurd (omega (arith, ints, u.least))

squared_tap : (t : ℕ) → t ≤ 200000 → t * t ≤ 4 * 10 ^ 10
squared_tap t h = let m : t * t ≤ 200000 * 200000 = mul-le-mul h h in omega arith

at_tap : (d : XfmrData) (percent : ℤ) (t : ℕ) → IsXfmr d → UpTo (2 * 10 ^ 11) percent → t ≤ 200000
    → nat_abs (nominal_leakage d percent *ℤ pos (t * t)) ≤ 10 ^ 36
at_tap d percent t h u k =
    let m = times_most (nominal_leakage d percent) (t * t) (6 * 10 ^ 24) (4 * 10 ^ 10) (leakage_small d percent h u) (squared_tap t k) in
    omega (arith, m)

both_percents : (a b : ℤ) → UpTo (10 ^ 11) a → UpTo (10 ^ 11) b → UpTo (2 * 10 ^ 11) (a +ℤ b)
both_percents a b h k = record { least = omega (arith, ints, h.least, k.least); most = omega (arith, ints, h.most, k.most) }

pub are_within : (d : XfmrData) (t : TapPair) → IsXfmr d → AreTaps t → AreWithin (coefficients_of d t)
are_within d t h k =
    let first = phase_volts_between d.phases (conn1 d) (kv1 d) h.kv1 in
    let second = phase_volts_between d.phases (conn2 d) (kv2 d) h.kv2 in
    let ratio = times_most (second_volts d) t.second (10 ^ 12) 200000 (volts_size (second_volts d) second) k.second_most in
    record {
      ratio = omega (arith, ratio);
      over_least = over_positive (first_volts d) t.first first (omega (arith, k.first_least));
      over_most = over_small (first_volts d) t.first first k.first_most;
      r = at_tap d (percent_resistance d) t.second h (both_percents (part d.pct_r 0) (part d.pct_r 1) h.pct_r1 h.pct_r2) k.second_most;
      x = at_tap d d.xhl t.second h (record { least = h.xhl.least; most = omega (arith, ints, h.xhl.most) }) k.second_most;
    }

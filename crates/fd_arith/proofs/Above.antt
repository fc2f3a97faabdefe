-- A quotient is above a limit where the dividend is at least one more than the limit times the divisor. Both products
-- are compared by their lower and upper 128 bits.
use Rattle.std.proofs.Common.{◌≡◌, ℕ, ◌+◌, ◌*◌, ◌/◌, ◌^◌, ◌<◌, ◌≤◌, true, false, ltb, leb, eqb, ℤ, sym, ◌∙◌, ap, arith}
use Rattle.std.specs.Prelude.{nat_abs}
use Rattle.std.proofs.Math.Nat.{le-div_iff_mul-le}
use Rattle.std.proofs.lemmas.Bool.Decides.{nat_tests}
use Rattle.fd_arith.specs.ShortCircuit.{is_above_limit, most_source_ohms}

-- one more than the limit
abbrev least : ℕ
least = most_source_ohms + 1

quotient_above : (n d : ℕ) → (d ≡ 0 → ⊥)
    → (least * d ≤ n → ltb most_source_ohms (n / d) ≡ true) × (n < least * d → ltb most_source_ohms (n / d) ≡ false)
quotient_above n d nonzero =
    let positive : 0 < d = omega arith in
    let up : least * d ≤ n → least ≤ n / d = (le-div_iff_mul-le {k = d} {x = least} {y = n} positive).1 in
    let down : least ≤ n / d → least * d ≤ n = (le-div_iff_mul-le {k = d} {x = least} {y = n} positive).0 in
    (λ h. let q = up h in grind (arith, nat_tests), λ h. grind (arith, nat_tests, down))

same_as : (kv mva : ℤ) (volts power : ℕ) → volts ≡ nat_abs kv → power ≡ nat_abs mva
    → is_above_limit kv mva ≡ ltb most_source_ohms ((volts * volts) / power)
same_as kv mva volts power v p = ap (λ x. ltb most_source_ohms ((x * x) / nat_abs mva)) (sym v) ∙ ap (λ x. ltb most_source_ohms ((volts * volts) / x)) (sym p)

pub by_high : (kv mva : ℤ) (volts power low high least_low least_high : ℕ) → volts ≡ nat_abs kv → power ≡ nat_abs mva
    → (power ≡ 0 → ⊥) → low + high * 2 ^ 128 ≡ volts * volts → least_low + least_high * 2 ^ 128 ≡ least * power
    → low < 2 ^ 128 → least_low < 2 ^ 128 → least_high < high → ltb least_high high ≡ is_above_limit kv mva
by_high kv mva volts power low high least_low least_high v p nonzero square bound f g h =
    let q = quotient_above (volts * volts) power nonzero in
    let yes = q.0 (omega arith) in
    let lhs : ltb least_high high ≡ true = grind (arith, nat_tests) in
    lhs ∙ sym yes ∙ sym (same_as kv mva volts power v p)

pub by_equal : (kv mva : ℤ) (volts power low high least_low least_high : ℕ) → volts ≡ nat_abs kv → power ≡ nat_abs mva
    → (power ≡ 0 → ⊥) → low + high * 2 ^ 128 ≡ volts * volts → least_low + least_high * 2 ^ 128 ≡ least * power
    → low < 2 ^ 128 → least_low < 2 ^ 128 → high ≡ least_high → leb least_low low ≡ is_above_limit kv mva
by_equal kv mva volts power low high least_low least_high v p nonzero square bound f g h =
    let q = quotient_above (volts * volts) power nonzero in
    let yes : least_low ≤ low → ltb most_source_ohms ((volts * volts) / power) ≡ true = λ k. q.0 (omega arith) in
    let no : low < least_low → ltb most_source_ohms ((volts * volts) / power) ≡ false = λ k. q.1 (omega arith) in
    let both : leb least_low low ≡ ltb most_source_ohms ((volts * volts) / power) = grind (arith, nat_tests, yes, no) in
    both ∙ sym (same_as kv mva volts power v p)

pub by_less : (kv mva : ℤ) (volts power low high least_low least_high : ℕ) → volts ≡ nat_abs kv → power ≡ nat_abs mva
    → (power ≡ 0 → ⊥) → low + high * 2 ^ 128 ≡ volts * volts → least_low + least_high * 2 ^ 128 ≡ least * power
    → low < 2 ^ 128 → least_low < 2 ^ 128 → high ≤ least_high → (high ≡ least_high → ⊥)
    → eqb high least_high ≡ is_above_limit kv mva
by_less kv mva volts power low high least_low least_high v p nonzero square bound f g h k =
    let q = quotient_above (volts * volts) power nonzero in
    let no = q.1 (omega arith) in
    let lhs : eqb high least_high ≡ false = grind (arith, nat_tests) in
    lhs ∙ sym no ∙ sym (same_as kv mva volts power v p)

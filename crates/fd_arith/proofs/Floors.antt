-- Quotients of products with a sign.
use Rattle.std.proofs.Common.{◌≡◌, ◌∙◌, ℕ, zero, suc, ◌+◌, ◌-◌, ◌*◌, ◌/◌, ◌%◌, min, ◌<◌, ◌≤◌, ◌^◌, ℤ, pos, negsuc, neg_ℤ, ◌-ℤ◌, ◌*ℤ◌, ◌<ℤ◌, nat_abs, ap, arith, sym}
use Rattle.std.specs.Int.{w128, cast_signed, cast_unsigned, div_ceil}
use Rattle.std.proofs.lemmas.Int.{ints}
use Rattle.std.proofs.Math.Nat.{div-lt_iff_lt-mul}
use Rattle.std.proofs.lemmas.Nat.{div-mul-add}
use Rattle.fd_exact.specs.Rounding.{floor_div, ceil_nat}
use Rattle.fd_exact.specs.Quotients.{floor-neg, ceil_nat_is, ceil_nat_least}

negative_by : (n : ℤ) (f d : ℕ) → n <ℤ pos 0 → 0 < d
    → neg_ℤ (pos (ceil_nat (nat_abs n * f) d)) ≡ floor_div (n *ℤ pos f) d
negative_by (pos a) f d h k = absurd (omega (arith, ints))
negative_by (negsuc a) f d h k =
    let z : negsuc a *ℤ pos f ≡ neg_ℤ (pos (suc a * f)) = omega (arith, ints) in
    rw z (sym (floor-neg (pos (suc a * f)) d ∙ ap neg_ℤ (ceil_nat_is (suc a * f) d k)))

pub negative_floor : (n : ℤ) (s f d : ℕ) → n <ℤ pos 0 → s ≡ nat_abs n → 0 < d
    → neg_ℤ (pos (ceil_nat (s * f) d)) ≡ floor_div (n *ℤ pos f) d
negative_floor n s f d h e k = ap (λ t. neg_ℤ (pos (ceil_nat (t * f) d))) e ∙ negative_by n f d h k

-- the code's negation of a natural
pub minus : (q : ℕ) → q ≤ 2 ^ 126 → cast_signed w128 (cast_unsigned w128 (pos 0 -ℤ cast_signed w128 q)) ≡ neg_ℤ (pos q)
minus q h = omega (arith, ints)

pub down_least : (a d q : ℕ) → 0 < d → a ≤ q * d → a / d ≤ q
down_least a d q h k = let below : a / d < q + 1 = (div-lt_iff_lt-mul h).1 (omega arith) in omega arith

pub up_room : (a d : ℕ) → 0 < d → a ≤ 2 ^ 126 → ceil_nat a d ≤ 2 ^ 126
up_room a d h k = ceil_nat_least a d (2 ^ 126) h (omega arith)

pub down_room : (a d : ℕ) → 0 < d → a ≤ 2 ^ 126 → a / d ≤ 2 ^ 126
down_room a d h k = down_least a d (2 ^ 126) h (omega arith)

-- std's quotient rounded up
pub up_is : (a d : ℕ) → 0 < d → div_ceil a d ≡ ceil_nat a d
up_is a d h = sym (from (a / d) (a % d) (omega arith) (omega arith))
  where
    from : (q r : ℕ) → a ≡ q * d + r → r < d → ceil_nat a d ≡ q + min 1 r
    from q zero e l = ap (λ n. (n + (d - 1)) / d) e ∙ (λ i. (lower q i) / d) ∙ div-mul-add q d (d - 1) (omega arith) ∙ omega arith
      where
        lower : (q : ℕ) → q * d + 0 + (d - 1) ≡ q * d + (d - 1)
        lower q = omega arith
    from q (suc r) e l = ap (λ n. (n + (d - 1)) / d) e ∙ (λ i. (upper q r i) / d) ∙ div-mul-add (q + 1) d r (omega arith) ∙ omega arith
      where
        upper : (q r : ℕ) → q * d + suc r + (d - 1) ≡ (q + 1) * d + r
        upper q r = omega arith

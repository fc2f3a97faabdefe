-- Totals that stay at the greatest number of 128 bits.
use Rattle.std.proofs.Common.{◌≡◌, ◌∙◌, ℕ, zero, suc, ◌+◌, ◌*◌, ◌-◌, ◌<◌, ◌≤◌, ◌^◌, min, ℤ, nat_abs, ltb, leb, List, [], ◌∷◌, arith, refl, sym, inl, inr}
use Rattle.std.proofs.lemmas.Bool.{cases_lt, le-leb, le-ltb, lt-leb, lt-ltb}
use Rattle.std.proofs.lemmas.List.Elements.{All-head, All-tail}
use Rattle.fd_factors.specs.Factors.{HasPlaces, weighted_size}
use Rattle.fd_derived.specs.Sums.{capped}

pub capped_sum : (a b : ℕ) → capped (capped a + b) ≡ capped (a + b)
capped_sum a b = omega arith

pub capped_right : (a b : ℕ) → capped (a + capped b) ≡ capped (a + b)
capped_right a b = omega arith

-- a total with a size more, where as much is taken from what is still to come
pub drained_step : (whole next x before after all : ℕ) → next ≡ capped (whole + x) → before ≡ after + x → capped (whole + before) ≡ capped all
    → capped (next + after) ≡ capped all
drained_step whole next x before after all e f g = omega arith

pub capped_self : (x : ℕ) → x < 2 ^ 128 → x ≡ capped x
capped_self x fits = omega arith

pub capped_twice : (x y : ℕ) → x ≡ capped y → x ≡ capped x
capped_twice x y e = omega arith

pub drained_all : (whole rest all : ℕ) → whole ≡ capped whole → rest ≡ 0 → capped (whole + rest) ≡ capped all → whole ≡ capped all
drained_all whole rest all fits none e = omega arith

-- ---- the loops

pub size_step : (size next u part : ℕ) → next ≡ min (size + u) (2 ^ 128 - 1) → size ≡ capped part → next ≡ capped (part + u)
size_step size next u part e f = omega arith

pub weigh_step : (whole next total w x : ℕ) → next ≡ capped (whole + x) → whole ≡ capped (total + w) → next ≡ capped (total + (w + x))
weigh_step whole next total w x e f = omega arith

pub capped_start : (total : ℕ) → total < 2 ^ 128 → total ≡ capped (total + 0)
capped_start total fits = omega arith

-- ---- numbers that are capped themselves

at_top : (u x m : ℕ) → m ≤ x → m ≤ suc u * x
at_top u x m h =
    let e : suc u * x ≡ u * x + x = omega arith in
    omega arith

both_high : (a b : ℕ) → 2 ^ 128 - 1 ≤ a → 2 ^ 128 - 1 ≤ b → capped a ≡ capped b
both_high a b e f = omega arith

one_capped : (u x : ℕ) → capped (u * capped x) ≡ capped (u * x)
one_capped zero x = omega arith
one_capped (suc u) x =
    elim (cases_lt x (2 ^ 128)) [
      | inl low ↦ let e : capped x ≡ x = omega arith in rw e refl
      | inr high ↦ both_high (suc u * capped x) (suc u * x) (at_top u (capped x) (2 ^ 128 - 1) (omega arith))
          (at_top u x (2 ^ 128 - 1) (omega arith))
    ]

pub both_capped : (a b c d : ℕ) → capped a ≡ capped c → capped b ≡ capped d → capped (a + b) ≡ capped (c + d)
both_capped a b c d e f = omega arith

pub next_capped : (u g f : ℕ) → g ≡ capped f → capped (u * g) ≡ capped (u * f)
next_capped u g f e = rw e (one_capped u f)

-- weighing by capped numbers
pub weighted_capped : (f g : ℕ → ℕ) (n : ℕ) (row : List (ℕ × ℤ)) → HasPlaces n row → ((l : ℕ) → l < n → g l ≡ capped (f l))
    → capped (weighted_size row g) ≡ capped (weighted_size row f)
weighted_capped f g n [] h e = refl
weighted_capped f g n (t ∷ row) h e =
    both_capped (nat_abs t.1 * g t.0) (weighted_size row g) (nat_abs t.1 * f t.0) (weighted_size row f)
    (next_capped (nat_abs t.1) (g t.0) (f t.0) (e t.0 (All-head (λ (u : ℕ × ℤ). u.0 < n) t row h)))
    (weighted_capped f g n row (All-tail (λ (u : ℕ × ℤ). u.0 < n) t row h) e)

-- ---- comparisons

pub le_capped : (x l : ℕ) → l < 2 ^ 127 → leb (capped x) l ≡ leb x l
le_capped x l low =
    elim (cases_lt l x) [
      | inl p ↦ lt-leb (capped x) l (omega arith) ∙ sym (lt-leb x l p)
      | inr p ↦ le-leb (capped x) l (omega arith) ∙ sym (le-leb x l p)
    ]

pub lt_capped : (x y : ℕ) → y < 2 ^ 128 → ltb (capped x) y ≡ ltb x y
lt_capped x y low =
    elim (cases_lt x y) [
      | inl p ↦ lt-ltb (capped x) y (omega arith) ∙ sym (lt-ltb x y p)
      | inr p ↦ le-ltb (capped x) y (omega arith) ∙ sym (le-ltb x y p)
    ]

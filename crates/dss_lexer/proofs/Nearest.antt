-- Digits that are dropped, and what the nearest number is.
use Rattle.std.proofs.Common.{◌≡◌, ℕ, pos, neg_ℤ, List, ◌++◌, length, ◌+◌, ◌-◌, ◌*◌, ◌/◌, ◌%◌, ◌^◌, ◌<◌, ◌≤◌, refl, sym, true, false, Err, ◌∙◌, ap, arith, min, Bool, ⊎_elim}
use Rattle.std.proofs.Math.Nat.{one-le-pow, mul-le-mul_left}
use Rattle.std.proofs.lemmas.Nat.{pow-add, div-mul-add, div-add-mod'}
use Rattle.std.proofs.lemmas.Bool.{cases_lt, le-ltb}
use Rattle.std.specs.Int.RustNames.{unsigned_abs}
use Rattle.std.proofs.lemmas.Int.{ints}
use Rattle.dss_lexer.specs.declared.numbers.Shift.{Shift}
use Rattle.dss_lexer.specs.declared.fault.NumberFault.TheVariants.{NumberTooLarge}
use Rattle.fd_exact.specs.Rounding.{with_sign}
use Rattle.dss_lexer.specs.Number.{within_limit, units, value}

-- n over d, nearest, a half going up
abbrev pub nearest : ℕ → ℕ → ℕ
nearest n d = (2 * n + d) / (2 * d)

-- what lies less than half a unit off, or half a unit below
nearest_is : (n d x r : ℕ) → 2 * n + d ≡ x * (2 * d) + r → r < 2 * d → nearest n d ≡ x
nearest_is n d x r e h = ap (λ z. z / (2 * d)) e ∙ div-mul-add x (2 * d) r h

-- nothing is dropped
pub nearest_whole : (v l r : ℕ) → l ≤ r → nearest (v * 10 ^ r) (10 ^ l) ≡ v * 10 ^ (r - l)
nearest_whole v l r h =
    let some : 1 ≤ 10 ^ l = one-le-pow l 10 (omega arith) in
    let split : 10 ^ r ≡ 10 ^ (r - l) * 10 ^ l = ap (λ k. 10 ^ k) (let e : r ≡ (r - l) + l = omega arith in e) ∙ pow-add 10 (r - l) l in
    nearest_is (v * 10 ^ r) (10 ^ l) (v * 10 ^ (r - l)) (10 ^ l)
    (let product : v * 10 ^ r ≡ v * (10 ^ (r - l) * 10 ^ l) = ap (λ k. v * k) split in omega (arith, product))
    (omega arith)

-- all is dropped
pub nearest_none : (v n l r : ℕ) → v < 10 ^ n → n + r < l → nearest (v * 10 ^ r) (10 ^ l) ≡ 0
nearest_none v n l r small h =
    let some : 1 ≤ 10 ^ r = one-le-pow r 10 (omega arith) in
    let more : 1 ≤ 10 ^ (l - (n + r + 1)) = one-le-pow (l - (n + r + 1)) 10 (omega arith) in
    let split : 10 ^ l ≡ 10 ^ (n + r + 1) * 10 ^ (l - (n + r + 1)) =
    ap (λ k. 10 ^ k) (let e : l ≡ (n + r + 1) + (l - (n + r + 1)) = omega arith in e)
    ∙ pow-add 10 (n + r + 1) (l - (n + r + 1)) in
    let front : 10 ^ (n + r + 1) ≡ 10 ^ n * 10 ^ r * 10 = pow-add 10 (n + r) 1 ∙ ap (λ k. k * 10) (pow-add 10 n r) in
    let high : 10 ^ (n + r + 1) * 1 ≤ 10 ^ (n + r + 1) * 10 ^ (l - (n + r + 1)) = mul-le-mul_left (10 ^ (n + r + 1)) more in
    let low : 10 ^ r * (v + 1) ≤ 10 ^ r * 10 ^ n = mul-le-mul_left (10 ^ r) (let one : v + 1 ≤ 10 ^ n = omega arith in one) in
    nearest_is (v * 10 ^ r) (10 ^ l) 0 (2 * (v * 10 ^ r) + 10 ^ l) (omega arith) (omega arith)

cut_by : (k p q v rest s t d : ℕ) → 1 ≤ k → v ≡ q * p + rest → rest < p → s * 10 + t ≡ q + 5 → t ≤ 9 → d ≡ k * (p * 10)
    → nearest (v * k) d ≡ s
cut_by k p q v rest s t d some e h divided last scale =
    let tens : (k * p) * (s * 10 + t) ≡ (k * p) * (q + 5) = ap (λ z. (k * p) * z) divided in
    let low : k * (rest + 1) ≤ k * p = mul-le-mul_left k (let one : rest + 1 ≤ p = omega arith in one) in
    let digit : (k * p) * t ≤ (k * p) * 9 = mul-le-mul_left (k * p) last in
    let whole : v * k ≡ (q * p + rest) * k = ap (λ z. z * k) e in
    nearest_is (v * k) d s (2 * ((k * p) * t) + 2 * (k * rest))
    (let twice : s * (2 * d) ≡ s * (2 * (k * (p * 10))) = ap (λ z. s * (2 * z)) scale in omega arith) (omega arith)

-- the first digit that is dropped decides
pub nearest_cut : (v q rest m r : ℕ) → v ≡ q * 10 ^ m + rest → rest < 10 ^ m
    → nearest (v * 10 ^ r) (10 ^ (r + (m + 1))) ≡ (q + 5) / 10
nearest_cut v q rest m r e h =
    let s : ℕ = (q + 5) / 10 in
    let t : ℕ = (q + 5) % 10 in
    let divided : s * 10 + t ≡ q + 5 = div-add-mod' (q + 5) 10 in
    let scale : 10 ^ (r + (m + 1)) ≡ 10 ^ r * (10 ^ m * 10) = pow-add 10 r (m + 1) ∙ ap (λ k. 10 ^ r * k) (pow-add 10 m 1) in
    let last : t ≤ 9 = omega arith in
    cut_by (10 ^ r) (10 ^ m) q v rest s t (10 ^ (r + (m + 1))) (one-le-pow r 10 (omega arith)) e h divided last scale

-- a cut at the limit may come before the last test of it
pub zeros_cut : (v z : ℕ)
    → min 1_000_000_000_000_000_000 (min 10_000_000_000_000_000_000 (min 10_000_000_000_000_000_000 v * 10 ^ z)) ≡ min 1_000_000_000_000_000_000 (v * 10 ^ z)
zeros_cut v z =
    let some : 1 ≤ 10 ^ z = one-le-pow z 10 (omega arith) in
    let high : min 10_000_000_000_000_000_000 v * 1 ≤ min 10_000_000_000_000_000_000 v * 10 ^ z = mul-le-mul_left (min 10_000_000_000_000_000_000 v) some in
    let all : v * 1 ≤ v * 10 ^ z = mul-le-mul_left v some in
    ⊎_elim
    (λ (h : 10_000_000_000_000_000_000 < v). omega arith)
    (λ (h : v ≤ 10_000_000_000_000_000_000). let e : min 10_000_000_000_000_000_000 v ≡ v = omega arith in rw e (omega arith))
    (cases_lt 10_000_000_000_000_000_000 v)

pub tenth_cut : (q : ℕ)
    → min 1_000_000_000_000_000_000 ((min 10_000_000_000_000_000_000 q + 5) / 10) ≡ min 1_000_000_000_000_000_000 ((q + 5) / 10)
tenth_cut q = omega arith

pub one_more_zero : (m n k : ℕ) → min m (min m (n * 10 ^ k) * 10 + 0) ≡ min m (n * 10 ^ (k + 1))
one_more_zero m n k = let more : n * 10 ^ (k + 1) ≡ n * (10 ^ k * 10) = ap (λ p. n * p) (pow-add 10 k 1) in omega arith

pub size_up : (v front zeroed size l r : ℕ) → front ≡ min 10_000_000_000_000_000_000 v
    → zeroed ≡ min 10_000_000_000_000_000_000 (front * 10 ^ (r - l)) → size ≡ min zeroed 1_000_000_000_000_000_000
    → l ≤ r
    → size ≡ min 1_000_000_000_000_000_000 (nearest (v * 10 ^ r) (10 ^ l))
size_up v front zeroed size l r e₁ e₂ e₃ h =
    let zeroed_is : zeroed ≡ min 10_000_000_000_000_000_000 (min 10_000_000_000_000_000_000 v * 10 ^ (r - l)) =
    e₂ ∙ ap (λ f. min 10_000_000_000_000_000_000 (f * 10 ^ (r - l))) e₁ in
    omega (arith, zeros_cut v (r - l), nearest_whole v l r h)

pub size_none : (v n l r : ℕ) → v < 10 ^ n → n + r < l
    → 0 ≡ min 1_000_000_000_000_000_000 (nearest (v * 10 ^ r) (10 ^ l))
size_none v n l r small h = omega (arith, nearest_none v n l r small h)

pub size_cut : (v q rest front size m l r : ℕ) → front ≡ min 10_000_000_000_000_000_000 q
    → size ≡ min ((front + 5) / 10) 1_000_000_000_000_000_000 → v ≡ q * 10 ^ m + rest → rest < 10 ^ m → l ≡ r + (m + 1)
    → size ≡ min 1_000_000_000_000_000_000 (nearest (v * 10 ^ r) (10 ^ l))
size_cut v q rest front size m l r e₁ e₂ e₃ h e₄ =
    let cut : nearest (v * 10 ^ r) (10 ^ l) ≡ (q + 5) / 10 = ap (λ k. nearest (v * 10 ^ r) (10 ^ k)) e₄ ∙ nearest_cut v q rest m r e₃ h in
    omega (arith, tenth_cut q)

limit_past : (negative : Bool) (n : ℕ) → 1_000_000_000_000_000_000 ≤ n
    → within_limit (with_sign negative (pos n)) ≡ Err NumberTooLarge
limit_past true n h = let e : unsigned_abs (neg_ℤ (pos n)) ≡ n = omega (arith, ints) in rw (e, le-ltb n 1_000_000_000_000_000_000 h) refl
limit_past false n h = rw (le-ltb n 1_000_000_000_000_000_000 h) refl

sized_cut : (negative : Bool) (size n : ℕ) → size ≡ min 1_000_000_000_000_000_000 n
    → within_limit (with_sign negative (pos size)) ≡ within_limit (with_sign negative (pos n))
sized_cut negative size n e =
    ⊎_elim
    (λ (h : n < 1_000_000_000_000_000_000). let same : size ≡ n = omega arith in ap (λ k. within_limit (with_sign negative (pos k))) same)
    (λ (h : 1_000_000_000_000_000_000 ≤ n). limit_past negative size (omega arith) ∙ sym (limit_past negative n h))
    (cases_lt n 1_000_000_000_000_000_000)

pub within_limit_cut : (negative : Bool) (whole decimals : List ℕ) (shift : Shift) (size : ℕ)
    → size ≡ min 1_000_000_000_000_000_000 (unsigned_abs (units whole decimals shift))
    → within_limit (with_sign negative (pos size)) ≡ within_limit (with_sign negative (units whole decimals shift))
within_limit_cut negative whole decimals shift size e =
    sized_cut negative size
    (nearest (value (whole ++ decimals) * 10 ^ (shift.right + 9)) (10 ^ (shift.left + length decimals))) e

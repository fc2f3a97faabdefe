-- A step of Newton's method for a square root goes down, and not below the root.
use Rattle.std.proofs.Common.{◌≡◌, ℕ, ◌+◌, ◌-◌, ◌*◌, ◌/◌, ◌%◌, ◌<◌, ◌≤◌, Bool, true, false, nat_le, refl, subst, arith}
use Rattle.std.proofs.lemmas.Nat.{div-add-mod', div_below, mod_below, mul-le}

-- numbers that are d apart from their mean on either side have a product of at most its square
apart : (a d b : ℕ) → b ≤ a + d + d → a * b ≤ (a + d) * (a + d)
apart a d b h =
    let same : a ≤ a = omega arith in
    let k = mul-le a b a (a + d + d) same h in
    omega (arith, k)

means : (a b s : ℕ) → a + b ≤ s + s → a * b ≤ s * s
means a b s h = by (nat_le a s) refl
  where
    by : (t : Bool) → nat_le a s ≡ t → a * b ≤ s * s
    by true e =
        let below : a ≤ s = grind arith in
        let mean : a + (s - a) ≡ s = omega (arith, below) in
        subst (λ m. a * b ≤ m * m) mean (apart a (s - a) b (omega (arith, h, below)))
    by false e =
        let above : s < a = grind arith in
        let mean : b + (s - b) ≡ s = omega (arith, h, above) in
        let turned = subst (λ m. b * a ≤ m * m) mean (apart b (s - b) a (omega (arith, h, above))) in
        omega (arith, turned)

pub step_is_above : (n r : ℕ) → 0 < r → n < ((r + n / r) / 2 + 1) * ((r + n / r) / 2 + 1)
step_is_above n r p = by_quotient (n / r) (n % r) (div-add-mod' n r) (mod_below n r p)
  where
    by_quotient : (q rest : ℕ) → q * r + rest ≡ n → rest < r → n < ((r + q) / 2 + 1) * ((r + q) / 2 + 1)
    by_quotient q rest whole small =
        let product : n < r * (q + 1) = omega (arith, whole, small) in
        let half : r + (q + 1) ≤ ((r + q) / 2 + 1) + ((r + q) / 2 + 1) = omega arith in
        let m = means r (q + 1) ((r + q) / 2 + 1) half in
        omega (arith, product, m)

pub positive : (n r : ℕ) → n < r * r → 0 < r
positive n r h = grind arith

pub step_is_below : (n r : ℕ) → n < r * r → (r + n / r) / 2 < r
step_is_below n r h = let q = div_below n r r (positive n r h) h in omega (arith, q)

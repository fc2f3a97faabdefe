-- Squares: what keeps a size, and what follows from it.
use Rattle.std.proofs.Common.{◌≡◌, ℕ, ◌+◌, ◌*◌, ◌<◌, ◌≤◌, ◌^◌, ◌⊎◌, ⊎_elim, Bool, true, false, IsTrue, arith}
use Rattle.std.proofs.lemmas.Bool.{cases_lt}
use Rattle.std.proofs.Math.Nat.{mul-le-mul, mul-le-mul_left}
use Rattle.fd_source.specs.Powers.{KeepsSize, IsInside}

le_of_square : (x y : ℕ) → x * x ≤ y * y → x ≤ y
le_of_square x y h = grind arith

-- parts of something that is at most a size are at most that
pub inside_left : (r x size : ℕ) → IsInside r x size → r ≤ size
inside_left r x size h = le_of_square r size (omega arith)

pub inside_right : (r x size : ℕ) → IsInside r x size → x ≤ size
inside_right r x size h = le_of_square x size (omega arith)

-- less is inside too
pub inside_less : (r x r' x' size : ℕ) → r ≤ r' → x ≤ x' → IsInside r' x' size → IsInside r x size
inside_less r x r' x' size h k w =
    let a : r * r ≤ r' * r' = mul-le-mul h h in
    let b : x * x ≤ x' * x' = mul-le-mul k k in
    omega arith

module _ (r x ratio size : ℕ) where
  pub keeps_less : (s t : ℕ) → s ≤ t → KeepsSize r x ratio size t → KeepsSize r x ratio size s
  keeps_less s t h w =
      let k : ratio * s ≤ ratio * t = mul-le-mul_left ratio h in
      inside_less (10 ^ 4 * (r + s)) (10 ^ 4 * x + ratio * s) (10 ^ 4 * (r + t)) (10 ^ 4 * x + ratio * t) (10 ^ 4 * size) (omega arith) (omega arith) w

  pub keeps_within : (s : ℕ) → KeepsSize r x ratio size s → s ≤ size
  keeps_within s w = let h = inside_left (10 ^ 4 * (r + s)) (10 ^ 4 * x + ratio * s) (10 ^ 4 * size) w in omega arith

  pub kept_reactance : (s : ℕ) → KeepsSize r x ratio size s → ratio * s ≤ 10 ^ 4 * size
  kept_reactance s w = let h = inside_right (10 ^ 4 * (r + s)) (10 ^ 4 * x + ratio * s) (10 ^ 4 * size) w in omega arith

  -- what fits is less than what doesn't
  pub kept_below : (s t : ℕ) → ¬ KeepsSize r x ratio size t → KeepsSize r x ratio size s → s < t
  kept_below s t n w = ⊎_elim (λ less. less) (λ more. absurd (n (keeps_less t s more w))) (cases_lt s t)

  pub keeps_reactance : (s : ℕ) → KeepsSize r x ratio size s ⊎ (s ≡ 0) → ratio * s ≤ 10 ^ 4 * size
  keeps_reactance s w = ⊎_elim (kept_reactance s) (λ e. rw e (omega arith)) w

-- a test that failed
pub refused : (b : Bool) (P : Type 0) → b ≡ false → (IsTrue b → P) × (P → IsTrue b) → ¬ P
refused b P e h = λ p. let t : b ≡ true = h.1 p in absurd cc

-- A control's quantity, known by where it stands to whole edges: a magnitude by its square, any other by its value.
use Rattle.std.specs.Prelude.{◌≡◌, ℕ, ◌*◌, ℤ, pos, negsuc, ◌*ℤ◌, ◌≤ℤ◌, Bool, true, false, nat_lt, int_lt}

pub record Quantity : Type 0 where
  -- whether it is below, and above, an edge
  pub below : ℤ → Bool
  pub above : ℤ → Bool

-- a root is above every negative edge, and is compared with the others by squares
abbrev pub root_below : ℕ → ℕ → ℤ → Bool
root_below n d (pos k) = nat_lt n (k * k * d)
root_below n d (negsuc k) = false

abbrev pub root_above : ℕ → ℕ → ℤ → Bool
root_above n d (pos k) = nat_lt (k * k * d) n
root_above n d (negsuc k) = true

-- the magnitude whose square is n / d
abbrev pub magnitude : ℕ → ℕ → Quantity
magnitude n d = record { below = root_below n d; above = root_above n d }

-- n / d
abbrev pub value : ℤ → ℕ → Quantity
value n d = record { below = λ k. int_lt n (k *ℤ pos d); above = λ k. int_lt (k *ℤ pos d) n }

-- q is at most r
pub record AtMost (q r : Quantity) : Type 0 where
  pub below : (k : ℤ) → r.below k ≡ true → q.below k ≡ true
  pub above : (k : ℤ) → q.above k ≡ true → r.above k ≡ true

-- it stands to edges as a number does
pub record IsProper (q : Quantity) : Type 0 where
  pub below_up : (j k : ℤ) → j ≤ℤ k → q.below j ≡ true → q.below k ≡ true
  pub above_down : (j k : ℤ) → j ≤ℤ k → q.above k ≡ true → q.above j ≡ true
  pub apart : (k : ℤ) → q.below k ≡ true → q.above k ≡ false

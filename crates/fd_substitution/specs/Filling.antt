-- Numbers that are made one after another, each of those before it.
use Rattle.std.specs.Prelude.{ℕ, zero, suc, ◌==◌, if◌then◌else◌}

module _ {A : Type 0} (none : A) (key : ℕ → ℕ) (make : (ℕ → A) → ℕ → A) where
  -- those at the keys of the first so many steps, and none elsewhere
  unfoldable pub filled : ℕ → ℕ → A
  filled zero j = none
  filled (suc s) j = (if key s == j then make (filled s) s else filled s j)

-- The first such: the first number, and the first element of a list, of which a test holds.
use Rattle.std.specs.Prelude.{ℕ, zero, suc, Bool, if◌then◌else◌, List, [], ◌∷◌, Option, Some, None, option_map}
use Rattle.std.specs.Option.{option_or}

-- the first number below n of which p holds, if there is one
abbrev pub first_place : (ℕ → Bool) → ℕ → Option ℕ
first_place p zero = None
first_place p (suc n) = option_or (first_place p n) (if p n then Some n else None)

-- the place of the first element of which p holds, if there is one
abbrev pub first_such : {A : Type 0} → (A → Bool) → List A → Option ℕ
first_such p [] = None
first_such p (x ∷ xs) = if p x then Some zero else option_map suc (first_such p xs)

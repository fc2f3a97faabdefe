-- Texts of digits that are a line's numbers.
use Rattle.std.specs.Prelude.{◌≡◌, ℕ, zero, suc, ℤ, negsuc, Option, Some, None, ◌^◌, ◌<◌, ◌==◌, Bool, false, List, [], ◌∷◌}
use Rattle.std.specs.Str.Parse.{IsNumeral, digits_value}

-- a zero that other digits follow
abbrev pub leads_with_zero : List ℕ → Bool
leads_with_zero [] = false
leads_with_zero (c ∷ []) = false
leads_with_zero (c ∷ d ∷ cs) = c == 48

-- digits without leading zeros, which are worth less than 2^127
pub record IsSize (ds : List ℕ) : Type 0 where
  pub numeral : IsNumeral 10 ds
  pub no_zero : leads_with_zero ds ≡ false
  pub small : digits_value 10 ds < 2 ^ 127

-- minus a number, unless it is 0
abbrev pub below_zero : ℕ → Option ℤ
below_zero zero = None
below_zero (suc n) = Some (negsuc n)

-- a minus stands first
abbrev pub is_negative : List ℕ → Bool
is_negative [] = false
is_negative (c ∷ cs) = c == 45

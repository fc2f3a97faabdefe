-- Laws of numbers.
use Rattle.std.specs.Prelude.{◌≡◌, ℤ, ℕ, List, Some}
use Rattle.std.specs.Fmt.{signed_decimal}
use Rattle.fd_lines.specs.Numbers.{IsNumber, number_of}

-- a number is read from its decimal, and from no other text
pub record NumberLaw : Type 0 where
  pub again : (z : ℤ) → IsNumber z → number_of (signed_decimal z) ≡ Some z
  pub found : (text : List ℕ) (z : ℤ) → number_of text ≡ Some z → (text ≡ signed_decimal z) × IsNumber z

-- The text of numbers reads as these numbers.
use Rattle.std.specs.Prelude.{◌≡◌, ◌<◌, ℤ, List, All, Ok, unsigned_abs}
use Rattle.dss_lexer.specs.Arrays.{row_of}
use Rattle.dss_lexer.specs.Number.{number_of}
use Rattle.fd_decimal.specs.Decimals.{nano_text}
use Rattle.fd_shape.specs.Text.{values_text}

-- numbers below 10^9 in size, which are all that a script can spell
pub record TextLaw : Type 0 where
  pub number : (z : ℤ) → unsigned_abs z < 1_000_000_000_000_000_000 → number_of (nano_text z) ≡ Ok z
  pub numbers : (zs : List ℤ) → All (λ z. unsigned_abs z < 1_000_000_000_000_000_000) zs
      → row_of (values_text zs) ≡ Ok zs

-- Complex numbers whose parts are fractions.
use Rattle.std.specs.Prelude.{ℕ, zero, suc, ℤ}
use Rattle.fd_arith.specs.fd_exact.Fractions.{Fraction, fraction, ◌⊕◌, ◌⊖◌, ◌⊗◌, opposite, nothing, Same}

pub record Complex : Type 0 where
  pub re : Fraction
  pub im : Fraction

-- (a + j b) / d
abbrev pub complex : ℤ → ℤ → ℕ → Complex
complex a b d = record { re = fraction a d; im = fraction b d }

abbrev pub none : Complex
none = record { re = nothing; im = nothing }

infixl 56 ◌⊞◌ ◌⊟◌
infixl 57 ◌⊠◌
abbrev pub ◌⊞◌ : Complex → Complex → Complex
x ⊞ y = record { re = x.re ⊕ y.re; im = x.im ⊕ y.im }

abbrev pub ◌⊟◌ : Complex → Complex → Complex
x ⊟ y = record { re = x.re ⊖ y.re; im = x.im ⊖ y.im }

abbrev pub negative : Complex → Complex
negative x = record { re = opposite x.re; im = opposite x.im }

abbrev pub ◌⊠◌ : Complex → Complex → Complex
x ⊠ y = record { re = x.re ⊗ y.re ⊖ x.im ⊗ y.im; im = x.re ⊗ y.im ⊕ x.im ⊗ y.re }

-- f 0 + .. + f (n - 1)
abbrev pub total : (ℕ → Complex) → ℕ → Complex
total f zero = none
total f (suc n) = total f n ⊞ f n

-- one number, written in two ways
pub record SameComplex (x y : Complex) : Type 0 where
  pub re : Same x.re y.re
  pub im : Same x.im y.im

-- That a state meets numbers.
use Rattle.std.specs.Prelude.{ℕ, ◌<◌}
use Rattle.fd_arith.specs.fd_exact.Fractions.{Fraction, SizeWithin}
use Rattle.fd_arith.specs.fd_exact.States.{State}

-- the state x meets the number e of each of the first n rows: no row is past it in size
abbrev pub Meets : (State → ℕ → Fraction) → (ℕ → ℕ) → ℕ → State → Type 0
Meets F e n x = (l : ℕ) → l < n → SizeWithin (F x l) (e l)

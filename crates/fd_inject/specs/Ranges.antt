-- Lists and matrices that pass a limit, and the inverse of a matrix.
use Rattle.std.specs.Prelude.{ℕ, ◌<◌, ◌≤◌, ◌^◌, ℤ, nat_abs, nat_lt, List, length, Option, Some, None, Result, Ok, Err}
use Rattle.fd_equations.specs.fd_exact.States.{part}
use Rattle.fd_equations.specs.fd_exact.First.{first_place}
use Rattle.fd_equations.specs.fd_mat.Rows.{first_column_past}
use Rattle.fd_inverse.specs.Elimination.{inverse_of}
use Rattle.fd_inverse.specs.declared.fault.Stop.{Stop}
use Rattle.fd_inverse.specs.declared.fault.Stop.TheVariants.{Range}
use Rattle.fd_inject.specs.declared.fault.SolveFault.{SolveFault}
use Rattle.fd_inject.specs.declared.fault.SolveFault.TheVariants.{NoInverse, OutOfRange}

-- each number is at most this in size
abbrev pub SizesWithin : ℕ → List ℤ → Type 0
SizesWithin limit xs = (k : ℕ) → k < length xs → nat_abs (part xs k) ≤ limit

-- the first place of a list with a number past this in size
abbrev pub first_past : ℕ → List ℤ → Option ℕ
first_past limit xs = first_place (λ k. nat_lt limit (nat_abs (part xs k))) (length xs)

-- a list; where a place of it was found past a limit, that is out of range
abbrev pub unless_past : List ℤ → ℕ → Option ℕ → Result (List ℤ) SolveFault
unless_past xs step None = Ok xs
unless_past xs step (Some place) = Err (OutOfRange place step)

-- the list that comes at a step, if each number is at most this in size
unfoldable pub in_range : ℕ → ℕ → List ℤ → Result (List ℤ) SolveFault
in_range limit step xs = unless_past xs step (first_past limit xs)

-- why there is no inverse, as a fault of the procedure
abbrev pub without_inverse : Result (List (List ℤ)) (ℕ × Stop) → Result (List (List ℤ)) SolveFault
without_inverse (Ok c) = Ok c
without_inverse (Err e) = Err (NoInverse e.0 e.1)

-- the inverse of a matrix; where a column of it was found past a limit, that column is out of range
abbrev pub inverse_unless : List (List ℤ) → Option ℕ → Result (List (List ℤ)) SolveFault
inverse_unless m None = without_inverse (inverse_of m)
inverse_unless m (Some col) = Err (NoInverse col Range)

-- the inverse of a matrix, if each entry is at most 2^62 in size
unfoldable pub inverse_at : List (List ℤ) → Result (List (List ℤ)) SolveFault
inverse_at m = inverse_unless m (first_column_past (2 ^ 62) m)

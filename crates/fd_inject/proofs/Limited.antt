-- Lists and matrices within a limit or past it.
use Rattle.std.proofs.Common.{◌≡◌, ◌∙◌, ℕ, ◌<◌, ◌≤◌, ◌^◌, ℤ, nat_abs, nat_lt, List, length, true, false, Some, None, Ok, Err, arith, ap, sym}
use Rattle.fd_equations.specs.fd_exact.States.{part}
use Rattle.fd_equations.specs.fd_exact.FirstLaws.{first_none, first_some}
use Rattle.fd_equations.specs.fd_mat.Rows.{EntriesWithin, first_column_past}
use Rattle.fd_equations.proofs.CallerLemmas.fd_mat.{no_column_past}
use Rattle.fd_inverse.specs.Elimination.{inverse_of}
use Rattle.fd_inverse.specs.declared.fault.Stop.{Stop}
use Rattle.fd_inverse.specs.declared.fault.Stop.TheVariants.{Range}
use Rattle.fd_inject.specs.Faults.{UnlessMemory}
use Rattle.fd_inject.specs.Ranges.{SizesWithin, first_past, in_range, inverse_at, inverse_unless, unless_past, without_inverse}
use Rattle.fd_inject.specs.declared.fault.SolveFault.{SolveFault}
use Rattle.fd_inject.specs.declared.fault.SolveFault.TheVariants.{NoInverse, OutOfRange, NotConverged, NoMemory}

-- what a fault says follows from what another says
pub unless_more : (f : SolveFault) {P Q : Type 0} → (P → Q) → UnlessMemory f P → UnlessMemory f Q
unless_more (NoInverse column cause) g p = g p
unless_more (OutOfRange place step) g p = g p
unless_more (NotConverged place steps update) g p = g p
unless_more NoMemory g p = tt

pub unless_always : (f : SolveFault) {P : Type 0} → P → UnlessMemory f P
unless_always (NoInverse column cause) p = p
unless_always (OutOfRange place step) p = p
unless_always (NotConverged place steps update) p = p
unless_always NoMemory p = tt

pub not_past : (limit n : ℕ) → n ≤ limit → nat_lt limit n ≡ false
not_past limit n h = grind arith

pub is_past : (limit n : ℕ) → limit < n → nat_lt limit n ≡ true
is_past limit n h = grind arith

-- ---- lists

pub past_none : (limit : ℕ) (xs : List ℤ) → SizesWithin limit xs → first_past limit xs ≡ None
past_none limit xs h = first_none (λ k. nat_lt limit (nat_abs (part xs k))) (length xs) (λ k l. not_past limit (nat_abs (part xs k)) (h k l))

pub past_some : (limit : ℕ) (xs : List ℤ) (k : ℕ) → k < length xs → ((j : ℕ) → j < k → nat_abs (part xs j) ≤ limit)
    → limit < nat_abs (part xs k) → first_past limit xs ≡ Some k
past_some limit xs k l before here =
    first_some (λ k. nat_lt limit (nat_abs (part xs k))) (length xs) k l
    (λ j m. not_past limit (nat_abs (part xs j)) (before j m)) (is_past limit (nat_abs (part xs k)) here)

pub range_ok : (limit step : ℕ) (xs : List ℤ) → first_past limit xs ≡ None → in_range limit step xs ≡ Ok xs
unfolding in_range
range_ok limit step xs e = ap (unless_past xs step) e

pub range_err : (limit step : ℕ) (xs : List ℤ) (place : ℕ) → first_past limit xs ≡ Some place
    → in_range limit step xs ≡ Err (OutOfRange place step)
unfolding in_range
range_err limit step xs place e = ap (unless_past xs step) e

-- ---- matrices

pub inverse_ok : (m c : List (List ℤ)) → EntriesWithin m (2 ^ 62) → inverse_of m ≡ Ok c → inverse_at m ≡ Ok c
unfolding inverse_at
inverse_ok m c h e = ap (inverse_unless m) (no_column_past (2 ^ 62) m h) ∙ ap without_inverse e

pub inverse_err : (m : List (List ℤ)) (col : ℕ) (cause : Stop) → EntriesWithin m (2 ^ 62)
    → inverse_of m ≡ Err (col, cause) → inverse_at m ≡ Err (NoInverse col cause)
unfolding inverse_at
inverse_err m col cause h e = ap (inverse_unless m) (no_column_past (2 ^ 62) m h) ∙ ap without_inverse e

pub inverse_past : (m : List (List ℤ)) (col : ℕ) → Some col ≡ first_column_past (2 ^ 62) m
    → inverse_at m ≡ Err (NoInverse col Range)
unfolding inverse_at
inverse_past m col h = ap (inverse_unless m) (sym h)

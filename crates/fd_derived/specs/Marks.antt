-- Marks of the row that named an equation, a row or an unknown last, and what is made once for all rows.
use Rattle.std.specs.Prelude.{◌≡◌, ℕ, ◌<◌, List, length}
use Rattle.fd_derived.specs.Rows.{allowance_of, coefficients_at, number_at, number_of_rows, rows_of}
use Rattle.fd_derived.specs.Sums.{AreTotals, size_of}
use Rattle.fd_derived.specs.declared.entries.Claim.{Claim}
use Rattle.fd_derived.specs.declared.entries.Equation.{Equation}
use Rattle.fd_derived.specs.declared.lists.Lists.{Lists}
use Rattle.fd_derived.specs.declared.places.Marks.{Marks}

abbrev pub AreBelow : List ℕ → ℕ → Type 0
AreBelow marks mark = (p : ℕ) → p < length marks → number_at marks p < mark

-- marks for n equations, m rows and n unknowns, all below this one
pub record AreMarks (n m mark : ℕ) (marks : Marks) : Type 0 where
  pub equations_long : length marks.equations.items ≡ n
  pub rows_long : length marks.rows.items ≡ m
  pub unknowns_long : length marks.unknowns.items ≡ n
  pub equations : AreBelow marks.equations.items mark
  pub rows : AreBelow marks.rows.items mark
  pub unknowns : AreBelow marks.unknowns.items mark

-- the sizes of each equation's coefficients, those of what each row leaves, and what each equation may be off by
pub record AreLists (es : List Equation) (c : Claim) (lists : Lists) : Type 0 where
  pub coefficients : AreTotals (λ l. size_of (coefficients_at es l)) (length es) lists.coefficients.items
  pub left : AreTotals (λ k. size_of (rows_of c k).left) (number_of_rows c) lists.left.items
  pub allowances : AreTotals (allowance_of es c) (length es) lists.allowances.items

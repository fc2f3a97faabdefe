-- Lists of the defects of rows.
use Rattle.std.specs.Prelude.{◌≡◌, ℕ, ◌*◌, ◌<◌, nat_abs, List, [], length, map, get_or}
use Rattle.fd_substitution.specs.fd_derived.fd_factors.fd_exact.Sums.{list_n, sum_n}
use Rattle.fd_substitution.specs.fd_derived.Rows.{row_defect}
use Rattle.fd_substitution.specs.fd_derived.declared.entries.Equation.{Equation}
use Rattle.fd_substitution.specs.fd_derived.declared.entries.Row.{Row}
use Rattle.fd_bounds.specs.declared.defects.Defect.{Defect}
use Rattle.fd_bounds.specs.declared.defects.Defects.{Defects}

-- the sizes of defects, each times the number of its place
abbrev pub weighed : List Defect → (ℕ → ℕ) → ℕ
weighed defects r = list_n (λ d. d.size * r d.place) defects

abbrev pub sizes_of : Defects → List Defect
sizes_of d = d.sizes.items

abbrev pub defects_at : List Defects → ℕ → List Defect
defects_at lists t = get_or (map sizes_of lists) t []

-- the defects of the first so many rows
pub record AreDefects (es : List Equation) (rows : List Row) (m : ℕ) (lists : List Defects) : Type 0 where
  pub long : length lists ≡ m
  pub each : (t : ℕ) → t < m → (r : ℕ → ℕ)
      → weighed (defects_at lists t) r ≡ sum_n (λ j. nat_abs (row_defect es rows t j) * r j) (length es)

-- Rows as they are read.
use Rattle.std.proofs.Common.{◌≡◌, ◌∙◌, ℕ, zero, suc, ◌<◌, List, [], ◌∷◌, length, get_or, map, arith, ap, refl, sym}
use Rattle.fd_derived.specs.declared.entries.Equation.{Equation}
use Rattle.fd_derived.specs.declared.entries.Row.{Row}
use Rattle.fd_derived.specs.Rows.{coefficients_at, coefficients_of, derived_row, no_row, radii_at, radii_of, right_side_at, right_side_of, row_at}

-- what stands for an element of a list is that of the element there
pub map_at : {A B : Type 0} (f : A → B) (xs : List A) (i : ℕ) (x : A) (none : B) → i < length xs → get_or (map f xs) i none ≡ f (get_or xs i x)
map_at f [] i x none h = absurd (omega arith)
map_at f (y ∷ ys) zero x none h = refl
map_at f (y ∷ ys) (suc i) x none h = map_at f ys i x none (omega arith)

pub coefficients_read : (es : List Equation) (l : ℕ) (x : Equation) → l < length es → coefficients_at es l ≡ coefficients_of (get_or es l x)
coefficients_read es l x h = map_at coefficients_of es l x [] h

pub radii_read : (es : List Equation) (l : ℕ) (x : Equation) → l < length es → radii_at es l ≡ radii_of (get_or es l x)
radii_read es l x h = map_at radii_of es l x [] h

pub right_side_read : (es : List Equation) (l : ℕ) (x : Equation) → l < length es → right_side_at es l ≡ right_side_of (get_or es l x)
right_side_read es l x h = map_at right_side_of es l x 0 h

pub row_there : (rows : List Row) (i : ℕ) (x : Row) → i < length rows → row_at rows i ≡ derived_row (get_or rows i x)
row_there rows i x h = map_at derived_row rows i x no_row h

pub row_read : (rows : List Row) (i : ℕ) (x : Row) → i < length rows → x ≡ get_or rows i x → row_at rows i ≡ derived_row x
row_read rows i x h e = row_there rows i x h ∙ ap derived_row (sym e)

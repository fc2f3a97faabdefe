-- The equations of a state of a network: the entries of its Jacobian, the radii of its slopes in a box, and its
-- mismatches.
use Rattle.std.specs.Prelude.{◌≡◌, ℕ, ◌<◌, ◌≤◌, ℤ, pos, List, [], length, map, get_or, Option, Some, None, Result, Ok, Err}
use Rattle.std.specs.Option.{option_or}
use Rattle.fd_cert.specs.fd_enclosure.Radii.{part_radius}
use Rattle.fd_cert.specs.fd_enclosure.Sound.{right_side}
use Rattle.fd_cert.specs.fd_enclosure.fd_equations.Rounded.{jacobian_entry}
use Rattle.fd_cert.specs.fd_enclosure.fd_exact.First.{first_place}
use Rattle.fd_cert.specs.fd_enclosure.fd_pattern.Views.{NetworkView}
use Rattle.fd_bounds.specs.fd_derived.Rows.{coefficient, radius, right_side_at}
use Rattle.fd_bounds.specs.fd_derived.declared.entries.Entry.{Entry}
use Rattle.fd_bounds.specs.fd_derived.declared.entries.Equation.{Equation}
use Rattle.fd_rowcert.specs.Entries.{AreEntriesOf, is_wide}

-- ---- one equation

pub record Terms : Type 0 where
  pub coefficients : List Entry
  pub radii : List Entry
  pub right_side : ℕ

abbrev pub terms_of : Equation → Terms
terms_of q = record { coefficients = q.coefficients.items; radii = q.radii.items; right_side = q.right_side }

abbrev pub no_terms : Terms
no_terms = record { coefficients = []; radii = []; right_side = 0 }

abbrev pub terms_at : List Equation → ℕ → Terms
terms_at es l = get_or (map terms_of es) l no_terms

-- ---- as many as unknowns

-- n equations with the entries J and right sides for the mismatches e
pub record HaveCoefficients (n : ℕ) (J : ℕ → ℕ → ℤ) (e : List ℕ) (es : List Equation) : Type 0 where
  pub long : length es ≡ n
  pub entries : (l : ℕ) → l < n → AreEntriesOf n (J l) (terms_at es l).coefficients
  pub right_sides : (l : ℕ) → l < n → (terms_at es l).right_side ≡ right_side e l

-- the radii R of a row
abbrev pub radii_in : (ℕ → ℕ → ℕ) → ℕ → ℕ → ℤ
radii_in R l j = pos (R l j)

-- and with radii of these entries
pub record AreEquations (n : ℕ) (J : ℕ → ℕ → ℤ) (R : ℕ → ℕ → ℕ) (e : List ℕ) (es : List Equation) : Type 0 where
  pub have : HaveCoefficients n J e es
  pub radii : (l : ℕ) → l < n → AreEntriesOf n (radii_in R l) (terms_at es l).radii

-- the first of n rows whose sizes are past 2^62 together
abbrev pub first_wide : ℕ → (ℕ → ℕ → ℤ) → Option ℕ
first_wide n J = first_place (λ l. is_wide n (J l)) n

-- where nothing is first, P of what was found; else what is
abbrev pub Tells : {X E : Type 0} → Option E → Result X E → (X → Type 0) → Type 0
Tells first (Ok found) P = (first ≡ None) × P found
Tells first (Err b) P = first ≡ Some b

-- ---- of a network

-- the equations of the state x in the box of w / parts, for the mismatches e
abbrev pub AreEquationsOf : NetworkView → ℕ → List ℤ → List ℕ → List Equation → Type 0
AreEquationsOf v parts x e es = AreEquations v.size (jacobian_entry v x) (part_radius parts v x) e es

-- nothing stands in rows behind the last of n
abbrev pub EndsBy : ℕ → (ℕ → ℕ → ℤ) → Type 0
EndsBy n J = (l j : ℕ) → n ≤ l → J l j ≡ pos 0

-- the radii of slopes in the box of w / parts
abbrev pub radii_by : ℕ → NetworkView → List ℤ → ℕ → ℕ → ℤ
radii_by parts v x = radii_in (part_radius parts v x)

-- the first row whose entries of the Jacobian are past 2^62 together; else the first whose radii are
abbrev pub first_wide_slopes : ℕ → NetworkView → List ℤ → Option ℕ
first_wide_slopes parts v x = option_or (first_wide v.size (jacobian_entry v x)) (first_wide v.size
    (radii_by parts v x))

-- the numbers of equations are these, at all places
pub record HaveNumbers (n : ℕ) (J : ℕ → ℕ → ℤ) (R : ℕ → ℕ → ℕ) (e : List ℕ) (es : List Equation) : Type 0 where
  pub long : length es ≡ n
  pub coefficients : (l j : ℕ) → coefficient es l j ≡ J l j
  pub radii : (l j : ℕ) → radius es l j ≡ R l j
  pub right_sides : (l : ℕ) → right_side_at es l ≡ right_side e l

abbrev pub HaveNumbersOf : NetworkView → ℕ → List ℤ → List ℕ → List Equation → Type 0
HaveNumbersOf v parts x e es = HaveNumbers v.size (jacobian_entry v x) (part_radius parts v x) e es

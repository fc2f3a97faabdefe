-- The numbers of a solution, by place, in whole microvolts and microamperes.
use Rattle.std.specs.Prelude.{◌≡◌, ℕ, ◌<◌, ◌≤◌, ◌^◌, ℤ, nat_abs, List, length, get_or}
use Rattle.fd_inverse.specs.fd_exact.States.{part}

-- a state, the radii within which others lie, the half-widths of the box of which these speak, and the mismatch of each
-- row
pub record SolutionView : Type 0 where
  pub centre : List ℤ
  pub radii : List ℕ
  pub boxes : List ℕ
  pub mismatches : List ℕ

-- a number of a list, 0 outside it
abbrev pub number_at : List ℕ → ℕ → ℕ
number_at xs i = get_or xs i 0

-- it has n numbers of each kind; a part and a radius are at most 2^40 in size
pub record IsOfSize (n : ℕ) (s : SolutionView) : Type 0 where
  pub centre : length s.centre ≡ n
  pub radii : length s.radii ≡ n
  pub boxes : length s.boxes ≡ n
  pub mismatches : length s.mismatches ≡ n
  pub parts_small : (i : ℕ) → i < n → nat_abs (part s.centre i) ≤ 2 ^ 40
  pub radii_small : (i : ℕ) → i < n → number_at s.radii i ≤ 2 ^ 40

abbrev pub solution_of : List ℤ → List ℕ → List ℕ → List ℕ → SolutionView
solution_of centre radii boxes mismatches = record { centre = centre; radii = radii; boxes = boxes; mismatches = mismatches }

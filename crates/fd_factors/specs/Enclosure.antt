-- The enclosure by derived rows, for any equations whose rows change as a Jacobian says, up to radii.
use Rattle.std.specs.Prelude.{◌≡◌, ℕ, ◌*◌, ◌<◌, ◌≤◌, ◌^◌, ℤ, ◌*ℤ◌, nat_abs, List, Bool, true}
use Rattle.fd_exact.specs.Fractions.{Fraction, Near, SizeWithin, minus}
use Rattle.fd_exact.specs.States.{State, away}
use Rattle.fd_exact.specs.Sums.{sum_n, sum_z}
use Rattle.fd_factors.specs.Factors.{DerivedRow, BoundsUnknown, IsAbove}

-- n equations F of a state, whose values are fractions
module _ (n : ℕ) (F : State → ℕ → Fraction) where
  -- each value at the state x is at most the mismatch e of its row
  abbrev pub IsWithin : (ℕ → ℕ) → State → Type 0
  IsWithin e x = (l : ℕ) → l < n → SizeWithin (F x l) (e l)

  -- the centre, as a state
  abbrev pub centre_state : List ℤ → State
  centre_state c = record { parts = c; over = 1 }

  -- in the box each row changes from the centre as J says, up to R, both in units of 2^-40
  abbrev pub Follows : (State → Bool) → List ℤ → (ℕ → ℕ → ℤ) → (ℕ → ℕ → ℕ) → Type 0
  Follows box c J R =
      (x : State) → 0 < x.over → box x ≡ true → (l : ℕ) → l < n →
      Near (minus (F x l) (F (centre_state c) l))
      (sum_z (λ j. J l j *ℤ away c x j) n) (sum_n (λ j. R l j * nat_abs (away c x j)) n) (x.over * 2 ^ 40)

  -- every state in the box that meets the mismatches is within the radii of the centre; radii are in units of 1 / v
  abbrev pub Encloses : (State → Bool) → List ℤ → (ℕ → ℕ) → ℕ → (ℕ → ℕ) → Type 0
  Encloses box c e v r =
      (x : State) → 0 < x.over → box x ≡ true → IsWithin e x → (i : ℕ) → i < n →
      v * nat_abs (away c x i) ≤ x.over * r i

-- derived rows of J, with heights and radii above them for twice the mismatches, enclose: a state and its centre may
-- each be off by a mismatch
abbrev pub EnclosureLaw : Type 0
EnclosureLaw =
    (n m : ℕ) (F : State → ℕ → Fraction) (box : State → Bool) (c : List ℤ) (J : ℕ → ℕ → ℤ) (R : ℕ → ℕ → ℕ)
    (rows : ℕ → DerivedRow) (bounding : ℕ → ℕ) (e : ℕ → ℕ) (v : ℕ) (h r : ℕ → ℕ)
    → ((x : State) (l : ℕ) → 0 < x.over → 0 < (F x l).over)
    → Follows n F box c J R
    → IsWithin n F e (centre_state n F c)
    → ((i : ℕ) → i < m → IsAbove n m (2 ^ 40) J R rows (λ l. v * (2 * e l)) h r i)
    → ((j : ℕ) → j < n → BoundsUnknown n m (2 ^ 40) J R rows (λ l. v * (2 * e l)) h r (bounding j) j)
    → Encloses n F box c e v r

-- What is found for rows in order: the first pass that stands, or the unknown at which there is none.
use Rattle.std.specs.Prelude.{◌≡◌, ◌≢◌, ℕ, ◌<◌, List, length, Some, None}
use Rattle.fd_substitution.specs.fd_derived.Accepted.{IsAccepted}
use Rattle.fd_substitution.specs.fd_derived.Rows.{number_at}
use Rattle.fd_substitution.specs.fd_derived.declared.entries.Claim.{Claim}
use Rattle.fd_substitution.specs.fd_derived.declared.entries.Equation.{Equation}
use Rattle.fd_substitution.specs.fd_derived.declared.entries.Row.{Row}
use Rattle.fd_bounds.specs.Passes.{bounds_over, pass_bounds, pass_end, pass_heights, risen, row_past}
use Rattle.fd_bounds.specs.Rows.{unknown_at}
use Rattle.fd_bounds.specs.declared.fault.BoundFault.{BoundFault}
use Rattle.fd_bounds.specs.declared.fault.BoundFault.TheVariants.{NoMemory, Unbounded}
use Rattle.fd_bounds.specs.declared.passes.Bounds.{Bounds}

module _ (es : List Equation) (rows : List Row) where
  -- the first so many passes come to their end, and in each a bound rises
  pub record GoesOn (k : ℕ) : Type 0 where
    pub ends : (i : ℕ) → i < k → pass_end es rows (bounds_over es rows i) ≡ None
    pub rises : (i : ℕ) → i < k → risen es rows i ≢ None

  -- the pass at k, of 64, is the first in which no bound rises
  pub record StandsFirst (k : ℕ) : Type 0 where
    pub few : k < 64
    pub before : GoesOn k
    pub ends : pass_end es rows (bounds_over es rows k) ≡ None
    pub stands : risen es rows k ≡ None

  -- these are the heights and the bounds of that pass
  pub record AreOfFirst (hs bs : List ℕ) : Type 0 where
    pub pass : ℕ
    pub first : StandsFirst pass
    pub heights_long : length hs ≡ length rows
    pub heights : (t : ℕ) → number_at hs t ≡ pass_heights es rows (bounds_over es rows pass) t
    pub bounds_long : length bs ≡ length es
    pub bounds : (j : ℕ) → number_at bs j ≡ pass_bounds es rows (bounds_over es rows pass) j

  -- no pass stands: one ends at the unknown q, or it is the first whose bound rises in the 64th
  pub data NoneStands (q : ℕ) : Type 0 where
    ends : (k : ℕ) → k < 64 → GoesOn k → pass_end es rows (bounds_over es rows k) ≡ Some q → NoneStands q
    rises : GoesOn 64 → risen es rows 63 ≡ Some q → NoneStands q

  -- for each unknown the row that has its pivot
  pub record AreBounding (list : List ℕ) : Type 0 where
    pub long : length list ≡ length es
    pub each : (t : ℕ) → t < length rows → number_at list (unknown_at rows t) ≡ t

  -- the heights and bounds of the first pass that stands
  pub record AreFirst (b : Bounds) : Type 0 where
    pub range : row_past es rows ≡ None
    pub first : AreOfFirst b.heights.items b.bounds.items
    pub bounding : AreBounding b.bounding.items

  -- there are none, and q is the unknown of the first row whose sizes are past their limit, else that at which no pass
  -- stands
  pub data EndsAt (q : ℕ) : Type 0 where
    past : (t : ℕ) → row_past es rows ≡ Some t → q ≡ unknown_at rows t → EndsAt q
    none : row_past es rows ≡ None → NoneStands q → EndsAt q

  -- of a fault; want of memory says nothing
  abbrev pub HasEnded : BoundFault → Type 0
  HasEnded (Unbounded q) = EndsAt q
  HasEnded NoMemory = Unit {0}

  abbrev pub HasNoPass : BoundFault → Type 0
  HasNoPass (Unbounded q) = NoneStands q
  HasNoPass NoMemory = Unit {0}

  -- with the rows they are a claim that the checker accepts
  abbrev pub MakesClaim : Bounds → Type 0
  MakesClaim b = (claim : Claim) → claim.rows.items ≡ rows → claim.heights.items ≡ b.heights.items
      → claim.bounding.items ≡ b.bounding.items → claim.bounds.items ≡ b.bounds.items → IsAccepted es claim

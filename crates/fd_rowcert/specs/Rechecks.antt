-- The rules that a claim by derived rows may break, in their order, and the first that it breaks, whoever made it.
use Rattle.std.specs.Prelude.{◌≡◌, ℕ, ◌*◌, ◌==◌, ◌&&◌, ◌||◌, ◌^◌, ℤ, nat_abs, nat_le, nat_lt, Bool, cond, List, length, Option, Some, None, Result, Ok, Err}
use Rattle.std.specs.List.{list_any}
use Rattle.fd_cert.specs.Claims.{claim_in, proof_in}
use Rattle.fd_cert.specs.Rechecks.{is_untrue}
use Rattle.fd_cert.specs.declared.ball.Certified.{Certified}
use Rattle.fd_cert.specs.declared.ball.DerivedRows.{DerivedRows}
use Rattle.fd_cert.specs.fd_enclosure.Boxes.{part_boxes}
use Rattle.fd_cert.specs.fd_enclosure.Sound.{Claim, by_rows, mismatch_at, number_at}
use Rattle.fd_cert.specs.fd_enclosure.fd_exact.First.{first_place}
use Rattle.fd_cert.specs.fd_enclosure.fd_exact.States.{part}
use Rattle.fd_cert.specs.fd_enclosure.fd_factors.Factors.{DerivedRow}
use Rattle.fd_cert.specs.fd_enclosure.fd_pattern.Views.{NetworkView}
use Rattle.fd_bounds.specs.fd_derived.Refusals.{first_refusal}
use Rattle.fd_bounds.specs.fd_derived.Rows.{row_at}
use Rattle.fd_bounds.specs.fd_derived.declared.entries.Claim.{Claim as RowClaim}
use Rattle.fd_bounds.specs.fd_derived.declared.entries.Equation.{Equation}
use Rattle.fd_bounds.specs.fd_derived.declared.refusal.Refusal.{Refusal}
use Rattle.fd_bounds.specs.fd_derived.declared.refusal.Refusal.TheVariants as refusal
use Rattle.fd_rowcert.specs.Equations.{AreEquationsOf, first_wide_slopes}
use Rattle.fd_rowcert.specs.declared.broken.BrokenRow.{BrokenRow}
use Rattle.fd_rowcert.specs.declared.broken.BrokenRow.TheVariants as broken

-- ---- each rule

abbrev pub has_size : ℕ → List ℤ → List ℕ → List ℕ → RowClaim → Bool
has_size n x r e c = (length x == n) && ((length r == n) && ((length e == n) &&
    ((length c.heights.items == length c.rows.items)
    && ((length c.bounding.items == n) && (length c.bounds.items == n)))))

-- the boxes that a claim may have: those of 1/200, 1/2,000 and 1/20,000 of the weights
abbrev pub is_box : ℕ → Bool
is_box parts = (parts == 200) || ((parts == 2000) || (parts == 20000))

-- a centre or a radius is past 2^40 in size
abbrev pub is_far : ℤ → ℕ → Bool
is_far x r = nat_lt (2 ^ 40) (nat_abs x) || nat_lt (2 ^ 40) r

abbrev pub is_far_at : List ℤ → List ℕ → ℕ → Bool
is_far_at x r k = is_far (part x k) (number_at r k)

-- a number of a list of entries is past 2^62 in size
abbrev pub has_large : List (ℕ × ℤ) → Bool
has_large row = list_any (λ t. nat_lt (2 ^ 62) (nat_abs t.1)) row

-- a height is 2^87 or more, or a number of its row past 2^62 in size
abbrev pub is_large : ℕ → DerivedRow → Bool
is_large height row = nat_le (2 ^ 87) height || (has_large row.equations ||
    (has_large row.others || has_large row.left))

abbrev pub is_large_at : RowClaim → ℕ → Bool
is_large_at c i = is_large (number_at c.heights.items i) (row_at c.rows.items i)

abbrev pub is_high_at : List ℕ → ℕ → Bool
is_high_at bounds j = nat_lt (2 ^ 60) (number_at bounds j)

-- what a refusal of rows is
abbrev pub refused_by : Refusal → BrokenRow
refused_by refusal.Size = broken.Size
refused_by (refusal.Place i) = broken.Row i
refused_by (refusal.Range i) = broken.Row i
refused_by (refusal.Height i) = broken.Row i
refused_by (refusal.BoundRange j) = broken.Bound j
refused_by (refusal.Bound j) = broken.Bound j

-- a radius is below its bound
abbrev pub is_narrow : List ℕ → List ℕ → ℕ → Bool
is_narrow bounds r j = nat_lt (2 ^ 20 * number_at r j) (number_at bounds j)

-- ---- the first that is broken

-- a rule, where it is broken at a place; else what comes later
abbrev pub broken_at : (ℕ → BrokenRow) → Option ℕ → Option BrokenRow → Option BrokenRow
broken_at rule None later = later
broken_at rule (Some place) later = Some (rule place)

-- of rows over equations: what the checker of rows refuses, then radii
abbrev pub first_of_rows : Option Refusal → List ℕ → List ℕ → ℕ → Option BrokenRow
first_of_rows (Some r) bounds radii n = Some (refused_by r)
first_of_rows None bounds radii n = broken_at broken.Radius (first_place (is_narrow bounds radii) n) None

-- of the numbers of a claim on n unknowns
unfoldable pub first_of_ranges : ℕ → List ℤ → List ℕ → List ℕ → DerivedRows → Option BrokenRow
first_of_ranges n x r e d =
    cond (has_size n x r e d.claim)
    (cond (is_box d.parts)
    (broken_at broken.Range (first_place (is_far_at x r) n)
    (broken_at broken.RowRange (first_place (is_large_at d.claim) (length d.claim.rows.items))
    (broken_at broken.BoundRange (first_place (is_high_at d.claim.bounds.items) n) None)))
    (Some broken.Box))
    (Some broken.Size)

-- the first row whose mismatch is below the state's own, or above the greatest
abbrev pub first_untrue : NetworkView → List ℤ → List ℕ → Option ℕ
first_untrue v x e = first_place (λ l. is_untrue (mismatch_at v x l) (number_at e l)) v.size

module _ (v : NetworkView) (x : List ℤ) (r e : List ℕ) (d : DerivedRows) where
  -- of the rows of a claim: there are no equations, or it is what the state's equations in the box tell
  pub data IsFirstOfState (o : Option BrokenRow) : Type 0 where
    wide : (row : ℕ) → first_wide_slopes d.parts v x ≡ Some row → o ≡ Some (broken.Slopes row) → IsFirstOfState o
    told : (es : List Equation) → first_wide_slopes d.parts v x ≡ None → AreEquationsOf v d.parts x e es
        → o ≡ first_of_rows (first_refusal es d.claim) d.claim.bounds.items r v.size → IsFirstOfState o

  -- of a claim: of its numbers, of its mismatches, or of its rows
  pub data IsFirst (o : Option BrokenRow) : Type 0 where
    numbers : (b : BrokenRow) → first_of_ranges v.size x r e d ≡ Some b → o ≡ Some b → IsFirst o
    mismatch : (row : ℕ) → first_of_ranges v.size x r e d ≡ None → first_untrue v x e ≡ Some row
        → o ≡ Some (broken.Mismatch row) → IsFirst o
    state : first_of_ranges v.size x r e d ≡ None → first_untrue v x e ≡ None → IsFirstOfState o → IsFirst o

  -- the claim, with the boxes of its centre
  abbrev pub rows_claim : Claim
  rows_claim = record {
    centre = x;
    radii = r;
    mismatches = e;
    boxes = part_boxes d.parts v x;
    support = by_rows
        (proof_in d);
  }

  -- a certified state is this claim, which breaks no rule; or the first that it breaks
  abbrev pub IsRechecked : Result Certified BrokenRow → Type 0
  IsRechecked (Ok m) = IsFirst None × (claim_in m ≡ rows_claim)
  IsRechecked (Err b) = IsFirst (Some b)

-- where nothing is first, P of what was found; else what is
abbrev pub TellsFirst : {X : Type 0} → (Option BrokenRow → Type 0) → Result X BrokenRow → (X → Type 0) → Type 0
TellsFirst First (Ok found) P = First None × P found
TellsFirst First (Err b) P = First (Some b)

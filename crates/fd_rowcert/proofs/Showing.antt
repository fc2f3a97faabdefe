-- Derived rows that are accepted over a state's equations show its radii.
use Rattle.std.proofs.Common.{◌≡◌, ℕ, ◌<◌, ◌≤◌, ◌*◌, ◌^◌, List, length, sym, subst}
use Rattle.std.proofs.Math.Path.{transport}
use Rattle.std.proofs.lemmas.List.{length-map}
use Rattle.fd_cert.specs.Claims.{proof_in}
use Rattle.fd_cert.specs.declared.ball.DerivedRows.{DerivedRows}
use Rattle.fd_cert.specs.fd_enclosure.Radii.{part_radius}
use Rattle.fd_cert.specs.fd_enclosure.Sound.{Claim, IsShownByRows, number_at, right_side, row_in}
use Rattle.fd_cert.specs.fd_enclosure.fd_equations.Rounded.{jacobian_entry}
use Rattle.fd_cert.specs.fd_enclosure.fd_pattern.Views.{NetworkView}
use Rattle.fd_cert.specs.fd_enclosure.fd_factors.Factors.{BoundsUnknown, IsAbove}
use Rattle.fd_bounds.specs.fd_derived.Accepted.{IsAccepted}
use Rattle.fd_bounds.specs.fd_derived.Rows.{derived_row}
use Rattle.fd_bounds.specs.fd_derived.declared.entries.Equation.{Equation}
use Rattle.fd_rowcert.specs.Equations.{HaveNumbers}

module _ (v : NetworkView) (m : Claim) (d : DerivedRows) (es : List Equation)
    (is : HaveNumbers v.size (jacobian_entry v m.centre) (part_radius d.parts v m.centre) m.mismatches es)
    (accepted : IsAccepted es d.claim)
    (wide : (j : ℕ) → j < v.size → number_at d.claim.bounds.items j ≤ 2 ^ 20 * number_at m.radii j) where
  rows_long : length d.claim.rows.items ≡ length (proof_in d).rows
  rows_long = sym (length-map d.claim.rows.items derived_row)

  is_above : (i : ℕ) → i < length (proof_in d).rows
      → IsAbove v.size (length (proof_in d).rows) (2 ^ 40) (jacobian_entry v m.centre) (part_radius d.parts v m.centre)
      (row_in (proof_in d).rows) (right_side m.mismatches) (number_at (proof_in d).heights) (number_at
      (proof_in d).bounds) i
  is_above i l =
      transport (λ t. IsAbove (is.long t) (rows_long t) (2 ^ 40) (λ l j. is.coefficients l j t) (λ l j. is.radii l j t)
      (row_in (proof_in d).rows) (λ l. is.right_sides l t) (number_at (proof_in d).heights) (number_at
      (proof_in d).bounds) i)
      (accepted.above i (subst (λ n. i < n) (sym rows_long) l))

  is_bounded : (j : ℕ) → j < v.size
      → BoundsUnknown v.size (length (proof_in d).rows) (2 ^ 40) (jacobian_entry v m.centre)
      (part_radius d.parts v m.centre)
      (row_in (proof_in d).rows) (right_side m.mismatches) (number_at (proof_in d).heights) (number_at
      (proof_in d).bounds)
      (number_at (proof_in d).bounding j) j
  is_bounded j l =
      transport (λ t. BoundsUnknown (is.long t) (rows_long t) (2 ^ 40) (λ l j. is.coefficients l j t)
      (λ l j. is.radii l j t)
      (row_in (proof_in d).rows) (λ l. is.right_sides l t) (number_at (proof_in d).heights) (number_at
      (proof_in d).bounds)
      (number_at (proof_in d).bounding j) j)
      (accepted.bounded j (subst (λ n. j < n) (sym is.long) l))

  pub shown_by_rows : IsShownByRows v m (proof_in d)
  shown_by_rows = record { above = is_above; bounded = is_bounded; radii_least = wide }

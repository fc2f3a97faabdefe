-- Mismatches of a claim, read of a list of the state's own.
use Rattle.std.proofs.Common.{◌≡◌, ◌∙◌, ℕ, ℤ, List, [], length, None, Result, Ok, Err, IfOk, ap}
use Rattle.fd_cert.specs.Rechecks.{is_untrue}
use Rattle.fd_cert.specs.Claims.{proof_in}
use Rattle.fd_cert.specs.declared.ball.DerivedRows.{DerivedRows}
use Rattle.fd_cert.specs.fd_enclosure.Boxes.{part_boxes}
use Rattle.fd_cert.specs.fd_enclosure.Sound.{Claim, IsShownByRows, IsSound, by_rows, mismatch_at, mismatches_of, number_at}
use Rattle.fd_cert.specs.fd_enclosure.fd_exact.First.{first_place}
use Rattle.fd_cert.specs.fd_enclosure.fd_pattern.Views.{NetworkView}
use Rattle.fd_cert.proofs.CallerLemmas.{first_same, length-mismatches, numbers_at}
use Rattle.fd_rowcert.specs.Rechecks.{IsFirst, IsFirstOfState, TellsFirst, first_of_ranges, first_untrue, rows_claim, state}
use Rattle.fd_rowcert.specs.declared.broken.BrokenRow.{BrokenRow}
use Rattle.fd_rowcert.proofs.Numbered.{is_sound}

pub untrue_same : (v : NetworkView) (x : List ℤ) (e own : List ℕ) → own ≡ mismatches_of v x
    → first_place (λ l. is_untrue (number_at own l) (number_at e l)) (length own) ≡ first_untrue v x e
untrue_same v x e own is =
    ap (first_place (λ l. is_untrue (number_at own l) (number_at e l))) (ap length is ∙ length-mismatches v x)
    ∙ first_same (λ l. is_untrue (number_at own l) (number_at e l)) (λ l. is_untrue (mismatch_at v x l)
    (number_at e l)) v.size
    (λ l h. ap (λ m. is_untrue m (number_at e l)) (numbers_at v x [] own is l h))

module _ (v : NetworkView) (x : List ℤ) (r e : List ℕ) (d : DerivedRows) (range : first_of_ranges v.size x r e d ≡ None)
    (none : first_untrue v x e ≡ None) where
  inner_told : {X : Type 0} (P : X → Type 0) (t : Result X BrokenRow) → TellsFirst (IsFirstOfState v x r e d) t P
      → TellsFirst (IsFirst v x r e d) t P
  inner_told P (Ok found) h = (state range none h.0, h.1)
  inner_told P (Err b) h = state range none h

  pub told_later : {X F : Type 0} (P : X → Type 0) (t : Result (Result X BrokenRow) F)
      → IfOk t (λ t. TellsFirst (IsFirstOfState v x r e d) t P) → IfOk t (λ t. TellsFirst (IsFirst v x r e d) t P)
  told_later P (Ok t) h = inner_told P t h
  told_later P (Err f) h = tt

  inner_sound : {X : Type 0} (t : Result X BrokenRow)
      → IfOk t (λ _. IsShownByRows v (rows_claim v x r e d) (proof_in d))
      → IfOk t (λ _. IsSound v (rows_claim v x r e d))
  inner_sound (Ok found) h = is_sound v x r e d range none h
  inner_sound (Err b) h = tt

  pub sound_later : {X F : Type 0} (t : Result (Result X BrokenRow) F)
      → IfOk t (λ t. IfOk t (λ _. IsShownByRows v (rows_claim v x r e d) (proof_in d)))
      → IfOk t (λ t. IfOk t (λ _. IsSound v (rows_claim v x r e d)))
  sound_later (Ok t) h = inner_sound t h
  sound_later (Err f) h = tt

-- the claim with these half-widths
pub is_claim : (v : NetworkView) (x : List ℤ) (r e : List ℕ) (d : DerivedRows) (boxes : List ℕ)
    → boxes ≡ part_boxes d.parts v x
    → ◌≡◌ {A = Claim} (record {
      centre = x;
      radii = r;
      mismatches = e;
      boxes = boxes;
      support = by_rows
          (proof_in d);
    }) (rows_claim v x r e d)
is_claim v x r e d boxes is =
    ap (λ (b : List ℕ). record { centre = x; radii = r; mismatches = e; boxes = b; support = by_rows (proof_in d) }) is

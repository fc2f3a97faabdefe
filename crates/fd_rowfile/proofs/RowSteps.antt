-- A row line, and what ends the rows.
use Rattle.std.proofs.Common.{◌≡◌, ℕ, true, false, ℤ, List, [], ◌∷◌, inl, inr, Option, Some, None, is_some, Result, Ok, Err, refl, ap, sym, ◌∙◌}
use Rattle.std.specs.Option.{option_and_then, option_map}
use Rattle.std.proofs.lemmas.Bool.{cond-true, cond-false}
use Rattle.fd_lines.specs.Cuts.{first_number}
use Rattle.fd_lines.specs.Numbered.{is_place, or_refused, ◌>>=◌}
use Rattle.fd_lines.specs.Numbers.{numbers_of}
use Rattle.fd_lines.specs.WordLines.{Line, rest_of}
use Rattle.fd_lines.proofs.CallerLemmas.{first_none, first_some}
use Rattle.fd_rowfile.specs.Blocks.{Row, if_some, placed_row, row_in, row_of, row_step}
use Rattle.fd_rowfile.specs.Held.{IsRowOf, IsRowStep}
use Rattle.fd_rowfile.specs.declared.rows.HeldRow.{HeldRow}

-- ---- a row behind its place

placed_step : (n i : ℕ) (z : ℤ) (o : Option (List ℤ)) → is_place i z ≡ true
    → option_and_then (placed_row n i) (option_map (λ zs. z ∷ zs) o) ≡ option_and_then (row_of n) o
placed_step n i z None h = refl
placed_step n i z (Some zs) h = cond-true (is_place i z) _ _ h

misplaced_step : (n i : ℕ) (z : ℤ) (o : Option (List ℤ)) → is_place i z ≡ false
    → option_and_then (placed_row n i) (option_map (λ zs. z ∷ zs) o) ≡ None
misplaced_step n i z None h = refl
misplaced_step n i z (Some zs) h = cond-false (is_place i z) _ _ h

module _ (n i : ℕ) (fs : List (List ℕ)) where
  module _ (z : ℤ) (ts : List (List ℕ)) (e : Some (z, ts) ≡ first_number fs) where
    pub placed_same : is_place i z ≡ true
        → option_and_then (placed_row n i) (numbers_of fs) ≡ option_and_then (row_of n) (numbers_of ts)
    placed_same h = ap (option_and_then (placed_row n i)) (first_some fs z ts e) ∙ placed_step n i z (numbers_of ts) h

    pub placed_some : is_place i z ≡ true → (held : HeldRow) → IsRowOf (option_and_then (row_of n) (numbers_of ts)) held
        → IsRowOf (option_and_then (placed_row n i) (numbers_of fs)) held
    placed_some h held r = record { row = r.row; same = placed_same h ∙ r.same; held_is = r.held_is }

    pub placed_none : is_place i z ≡ true → option_and_then (row_of n) (numbers_of ts) ≡ None
        → option_and_then (placed_row n i) (numbers_of fs) ≡ None
    placed_none h r = placed_same h ∙ r

    pub placed_other : is_place i z ≡ false → option_and_then (placed_row n i) (numbers_of fs) ≡ None
    placed_other h = ap (option_and_then (placed_row n i)) (first_some fs z ts e) ∙ misplaced_step n i z (numbers_of ts) h

  pub placed_nothing : None ≡ first_number fs → option_and_then (placed_row n i) (numbers_of fs) ≡ None
  placed_nothing e = elim (first_none fs e) [
    | inl none ↦ ap (option_and_then (placed_row n i)) none
    | inr nil ↦ ap (option_and_then (placed_row n i)) nil
  ]

-- ---- the first line

module _ (n i : ℕ) (lines : List Line) where
  pub step_end : (bytes : List ℕ) → lines ≡ rest_of bytes → row_step n i lines ≡ Ok None
  step_end [] e = ap (row_step n i) e
  step_end (c ∷ bytes) e = ap (row_step n i) e

  module _ (l : Line) (more : List Line) (e : lines ≡ l ∷ more) where
    by : Option (List ℤ) → Result (Option (Row × List Line)) (List Line)
    by numbers = if_some numbers (Ok None) (λ zs. or_refused (l ∷ more) (placed_row n i zs) >>= λ r. Ok (Some (r, more)))

    step_by : (numbers : Option (List ℤ)) → row_in l ≡ numbers → row_step n i lines ≡ by numbers
    unfolding by
    step_by numbers f = ap (row_step n i) e
        ∙ ap (λ (o : Option (List ℤ)). if_some o (Ok None) (λ zs. or_refused (l ∷ more) (placed_row n i zs) >>= λ r. Ok (Some (r, more)))) f

    pub step_no_row : row_in l ≡ None → row_step n i lines ≡ Ok None
    unfolding by
    step_no_row f = step_by None f

    pub step_row : (numbers : Option (List ℤ)) (held : HeldRow) → row_in l ≡ numbers
        → IsRowOf (option_and_then (placed_row n i) numbers) held → IsRowStep (row_step n i lines) held more
    unfolding by
    step_row None held f r = let no : ⊥ = (let s = r.same in cc) in absurd no
    step_row (Some zs) held f r = record {
      row = r.row;
      same = step_by (Some zs) f ∙ ap (λ (o : Option Row). or_refused (l ∷ more) o >>= λ x. Ok (Some (x, more))) r.same;
      held_is = r.held_is;
    }

    pub step_refused : (numbers : Option (List ℤ)) → row_in l ≡ numbers → option_and_then (placed_row n i) numbers ≡ None
        → is_some numbers ≡ true → row_step n i lines ≡ Err lines
    unfolding by
    step_refused None f r s = absurd cc
    step_refused (Some zs) f r s = step_by (Some zs) f ∙ ap (λ (o : Option Row). or_refused (l ∷ more) o >>= λ x. Ok (Some (x, more))) r
        ∙ ap (λ (ls : List Line). Err ls) (sym e)

    pub step_other : (numbers : Option (List ℤ)) → row_in l ≡ numbers → is_some numbers ≡ false → row_step n i lines ≡ Ok None
    step_other None f s = step_no_row f
    step_other (Some zs) f s = absurd cc

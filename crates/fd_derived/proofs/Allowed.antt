-- Lists of totals, one more at a time, and what an equation may be off by.
use Rattle.std.proofs.Common.{◌≡◌, ◌∙◌, ℕ, ◌+◌, ◌*◌, ◌<◌, ℤ, List, [], ◌∷◌, ◌++◌, length, arith, ap, refl, subst, sym, inl, inr}
use Rattle.std.proofs.lemmas.Bool.{cases_lt}
use Rattle.std.proofs.lemmas.List.{get_or_append_left, get_or_past, get_or_push, length_push}
use Rattle.fd_factors.specs.Factors.{sizes_at, weighted_size}
use Rattle.fd_factors.specs.fd_exact.Sums.{sum_n}
use Rattle.fd_factors.proofs.CallerLemmas.{row_beyond}
use Rattle.fd_derived.specs.Rows.{number_at}
use Rattle.fd_derived.specs.Sums.{AreTotals, capped}

pub totals_start : (f : ℕ → ℕ) → AreTotals f 0 []
totals_start f = record { long = refl; each = λ i h. absurd (omega arith) }

pub totals_more : (f : ℕ → ℕ) (n : ℕ) (xs : List ℕ) (x : ℕ) → AreTotals f n xs → x ≡ capped (f n) → AreTotals f (n + 1) (xs ++ x ∷ [])
totals_more f n xs x h e = record {
  long = length_push xs x ∙ ap (λ k. k + 1) h.long;
  each = λ i l. elim (cases_lt i n) [
    | inl s ↦ get_or_append_left xs (x ∷ []) 0 i (subst (λ k. i < k) (sym h.long) s) ∙ h.each i s
    | inr s ↦ let q : n ≡ i = omega arith in
        subst (λ k. number_at (xs ++ x ∷ []) k ≡ capped (f k)) q (get_or_push xs x 0 n h.long ∙ e)
  ];
}

turned : (size right w side : ℕ) → size ≡ capped (0 + right) → w ≡ side → capped (size + w) ≡ capped (side + right)
turned size right w side e f = omega arith

-- what an equation may be off by, from its right side and its radii as they are read
pub allowed : (bounds : List ℕ) (n right : ℕ) (radii row : List (ℕ × ℤ)) (size found : ℕ) → length bounds ≡ n → radii ≡ row
    → size ≡ capped (0 + right) → found ≡ capped (size + weighted_size row (number_at bounds))
    → found ≡ capped (sum_n (λ j. sizes_at radii j * number_at bounds j) n + right)
allowed bounds n right radii row size found long is first second =
    let beyond = row_beyond (number_at bounds) n radii (λ j p. get_or_past bounds j 0 (omega arith)) in
    let same : weighted_size row (number_at bounds) ≡ sum_n (λ j. sizes_at radii j * number_at bounds j) n =
    ap (λ (r : List (ℕ × ℤ)). weighted_size r (number_at bounds)) (sym is) ∙ sym beyond in
    second ∙ turned size right (weighted_size row (number_at bounds)) (sum_n (λ j. sizes_at radii j * number_at bounds j) n) first same

-- The pairs of one more phase.
use Rattle.std.proofs.Common.{◌≡◌, ◌∙◌, ℕ, zero, suc, ◌+◌, List, [], ◌∷◌, ◌++◌, ap, sym, append_assoc, add-one, arith}
use Rattle.std.specs.List.{flat_map, range_with_len}
use Rattle.std.proofs.lemmas.List.{append-nil}
use Rattle.std.proofs.lemmas.List.Concat.{flat_map-append}

-- the numbers from one on, and one more
range_more : (a n : ℕ) → range_with_len a (suc n) ≡ range_with_len a n ++ (a + n) ∷ []
range_more a zero = let same : a ≡ a + 0 = omega arith in ap (λ k. k ∷ []) same
range_more a (suc n) =
    let same : (a + 1) + n ≡ a + suc n = omega arith in
    ap (λ ks. a ∷ ks) (range_more (a + 1) n ∙ ap (λ k. range_with_len (a + 1) n ++ k ∷ []) same)

pub phase_more : {X : Type 0} (f : ℕ → List X) (old before after : List X) (n : ℕ) → before ≡ old ++ flat_map f (range_with_len 0 n)
    → after ≡ before ++ f n → after ≡ old ++ flat_map f (range_with_len 0 (n + 1))
phase_more f old before after n were pushed =
    let first : 0 + n ≡ n = omega arith in
    pushed
    ∙ ap (λ ps. ps ++ f n) were
    ∙ append_assoc old (flat_map f (range_with_len 0 n)) (f n)
    ∙ ap (λ ps. old ++ (flat_map f (range_with_len 0 n) ++ ps)) (sym (append-nil (f n)))
    ∙ ap (λ ps. old ++ ps) (sym (flat_map-append f (range_with_len 0 n) (n ∷ [])))
    ∙ ap (λ k. old ++ flat_map f (range_with_len 0 n ++ k ∷ [])) (sym first)
    ∙ ap (λ ks. old ++ flat_map f ks) (sym (range_more 0 n))
    ∙ ap (λ k. old ++ flat_map f (range_with_len 0 k)) (sym (add-one n))

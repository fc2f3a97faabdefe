-- Pairs that are kept.
use Rattle.std.proofs.Common.{◌≡◌, ◌∙◌, ℕ, zero, suc, ◌+◌, ◌-◌, ◌<◌, ◌≤◌, ◌^◌, ℤ, List, [], ◌∷◌, ◌++◌, drop, get_or, length, All, Ok, Err, Some, None, Option, Result, arith, ap, sym, subst, refl}
use Rattle.std.specs.List.{remove}
use Rattle.std.proofs.lemmas.List.{get_or_read, length-drop, length_push}
use Rattle.std.proofs.lemmas.List.Elements.{All-drop, All-push}
use Rattle.fd_equations.specs.fd_mat.Rows.{EntriesWithin, first_column_past}
use Rattle.fd_inverse.specs.Elimination.{inverse_of}
use Rattle.fd_inverse.specs.declared.fault.Stop.{Stop}
use Rattle.fd_inverse.proofs.CallerLemmas.{inverse_size, inverse_small}
use Rattle.fd_inject.specs.declared.kept.KeptPair.{KeptPair}
use Rattle.fd_inject.specs.Kept.{IsInverted, IsKeptAt, with_latest}
use Rattle.fd_inject.specs.Ranges.{inverse_at, inverse_unless, without_inverse}

-- what the inverse of a kept matrix is
inverted : (r : Result (List (List ℤ)) (ℕ × Stop)) (c : List (List ℤ)) → without_inverse r ≡ Ok c → r ≡ Ok c
inverted (Ok d) c e = cc
inverted (Err x) c e = cc

unless : (m c : List (List ℤ)) (o : Option ℕ) → inverse_unless m o ≡ Ok c → inverse_of m ≡ Ok c
unless m c None e = inverted (inverse_of m) c e
unless m c (Some col) e = cc

kept_inverse : (m c : List (List ℤ)) → inverse_at m ≡ Ok c → inverse_of m ≡ Ok c
unfolding inverse_at
kept_inverse m c e = unless m c (first_column_past (2 ^ 62) m) e

pub kept_size : (m c : List (List ℤ)) → inverse_at m ≡ Ok c → length c ≡ length m
kept_size m c e = inverse_size m c (kept_inverse m c e)

pub kept_small : (m c : List (List ℤ)) → inverse_at m ≡ Ok c → EntriesWithin c (2 ^ 56)
kept_small m c e = inverse_small m c (kept_inverse m c e)

-- ---- a pair more

pub latest_few : (k : KeptPair) (ks new : List KeptPair) → length ks ≤ 3 → new ≡ ks ++ k ∷ [] → new ≡ with_latest k ks
latest_few k ks new l e = e ∙ ap (λ n. drop n ks ++ k ∷ []) (none (length ks) l)
  where
    none : (n : ℕ) → n ≤ 3 → 0 ≡ n - 3
    none n l = omega arith

pub latest_four : (k : KeptPair) (ks pushed new : List KeptPair) → length ks ≡ 4 → pushed ≡ ks ++ k ∷ [] → new ≡ remove pushed 0
    → new ≡ with_latest k ks
latest_four k [] pushed new l e f = absurd (omega arith)
latest_four k (x ∷ ks) pushed new l e f =
    f ∙ ap (λ l. remove l 0) e ∙ ap (λ n. drop n (x ∷ ks) ++ k ∷ []) (one (length (x ∷ ks)) l)
  where
    one : (n : ℕ) → n ≡ 4 → 1 ≡ n - 3
    one n l = omega arith

pub latest_are : (k : KeptPair) (ks : List KeptPair) → length ks ≤ 4 → All IsInverted ks → IsInverted k
    → (length (with_latest k ks) ≤ 4) × All IsInverted (with_latest k ks)
latest_are k ks few are i = (
  omega (arith, length_push (drop (length ks - 3) ks) k, length-drop (length ks - 3) ks),
  All-push IsInverted (drop (length ks - 3) ks) k (All-drop IsInverted (length ks - 3) ks are) i,
)

-- ---- where a matrix stands

pub is_at : (rows : List (List ℤ)) (inside ks : List KeptPair) (place : ℕ) (pair : KeptPair) → inside ≡ ks
    → place < length inside → pair ≡ get_or inside place pair → pair.matrix ≡ rows → IsKeptAt rows ks place
is_at rows inside ks place pair e l r m = subst (λ l. IsKeptAt rows l place) e (record {
  inside = l;
  same = λ k. ap (λ (p : KeptPair). p.matrix) (sym (get_or_read inside place pair l r k)) ∙ m;
})

pub at_is : (rows : List (List ℤ)) (inside ks : List KeptPair) (place : ℕ) (pair : KeptPair) → inside ≡ ks
    → pair ≡ get_or inside place pair → IsKeptAt rows ks place → pair.matrix ≡ rows
at_is rows inside ks place pair e r at =
    let a = subst (λ l. IsKeptAt rows l place) (sym e) at in
    ap (λ (p : KeptPair). p.matrix) r ∙ a.same pair

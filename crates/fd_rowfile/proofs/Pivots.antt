-- A pivot, and the pairs beside it.
use Rattle.std.proofs.Common.{◌≡◌, ℕ, ◌-◌, ◌<◌, true, false, ℤ, pos, negsuc, List, [], ◌∷◌, ◌++◌, length, Option, Some, None, refl, ap, sym, ◌∙◌, arith}
use Rattle.std.specs.Option.{option_and_then, option_map}
use Rattle.std.proofs.lemmas.Bool.{cond-true}
use Rattle.fd_rowfile.specs.Blocks.{is_below, is_beside, is_next, pairs_at, pivot_at, with_pair}
use Rattle.fd_rowfile.specs.Held.{IsPut, TakesPairs, clipped_pair, clipped_pairs}

pub no_pivot : (n k : ℕ) (all : Option (List ℤ)) → ((zs : List ℤ) → all ≡ Some zs → length zs < 2)
    → option_and_then (pivot_at n k) all ≡ None
no_pivot n k None h = refl
no_pivot n k (Some []) h = refl
no_pivot n k (Some (a ∷ [])) h = refl
no_pivot n k (Some (a ∷ b ∷ zs)) h = absurd (omega (arith, h (a ∷ b ∷ zs) refl))

pivot_step : (n k p : ℕ) (z : ℤ) (more : Option (List ℤ)) → is_next (is_below n) 0 p z ≡ true
    → option_and_then (pivot_at n k) (option_map (λ zs. pos p ∷ z ∷ zs) more)
    ≡ option_map (with_pair (p, z)) (option_and_then (pairs_at (is_beside n p) k 0) more)
pivot_step n k p z None h = refl
pivot_step n k p z (Some zs) h = cond-true (is_next (is_below n) 0 p z) _ _ h

joined : (p : ℕ × ℤ) (pairs : List (ℕ × ℤ)) (o : Option (List ℤ))
    → option_map (with_pair p) (option_map (λ zs. (pairs, zs)) o) ≡ option_map (λ zs. (p ∷ pairs, zs)) o
joined p pairs None = refl
joined p pairs (Some zs) = refl

pub pivot_some : (n k : ℕ) (all : Option (List ℤ)) (place z : ℤ) (more rest : Option (List ℤ)) (behind : ℕ)
    (old one new : List (ℕ × ℤ)) → all ≡ option_map (λ zs. place ∷ z ∷ zs) more → old ≡ []
    → IsPut (is_below n) 0 place z behind old one → TakesPairs (pairs_at (is_beside n (behind - 1)) k 0) more rest one new
    → TakesPairs (pivot_at n k) all rest [] new
pivot_some n k all (negsuc p) z more rest behind old one new e empty put t =
    let no : ⊥ = (let f : false ≡ true = put.next in cc) in absurd no
pivot_some n k all (pos p) z more rest behind old one new e empty put t =
    let at : behind - 1 ≡ p = omega (arith, put.behind_is) in
    record {
      pairs = (p, z) ∷ t.pairs;
      same = ap (option_and_then (pivot_at n k)) e ∙ pivot_step n k p z more put.next
          ∙ ap (λ (q : ℕ). option_map (with_pair (p, z)) (option_and_then (pairs_at (is_beside n q) k 0) more)) (sym at)
          ∙ ap (option_map (with_pair (p, z))) t.same ∙ joined (p, z) t.pairs rest;
      held = t.held
          ∙ ap (λ (ps : List (ℕ × ℤ)). ps ++ clipped_pairs t.pairs) (put.added ∙ ap (λ (ps : List (ℕ × ℤ)). ps ++ clipped_pair (p, z) ∷ []) empty);
    }

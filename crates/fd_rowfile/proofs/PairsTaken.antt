-- Pairs, one after another.
use Rattle.std.proofs.Common.{◌≡◌, ℕ, suc, ◌+◌, ◌-◌, ◌<◌, ◌≤◌, Bool, true, false, ℤ, pos, negsuc, List, [], ◌∷◌, ◌++◌, length, Option, Some, None, refl, ap, sym, subst, ◌∙◌, arith}
use Rattle.std.specs.Option.{option_and_then, option_map}
use Rattle.std.proofs.lemmas.Bool.{cond-true, cond-false}
use Rattle.std.proofs.lemmas.List.{append_assoc, append-nil, map-append}
use Rattle.fd_rowfile.specs.Blocks.{is_next, pairs_at, with_pair}
use Rattle.fd_rowfile.specs.Held.{IsPut, TakesPairs, clipped_pair, clipped_pairs, is_next_at}

-- these pairs, and then what is read
abbrev pub with_pairs : List (ℕ × ℤ) → List (ℕ × ℤ) × List ℤ → List (ℕ × ℤ) × List ℤ
with_pairs front read = (front ++ read.0, read.1)

-- so many pairs of k were taken of all numbers, and the next place is from j on
pub record IsTaken (fit : ℕ → Bool) (k : ℕ) (all : Option (List ℤ)) (old : List (ℕ × ℤ)) (i j : ℕ) (rest : Option (List ℤ))
    (new : List (ℕ × ℤ)) : Type 0 where
  pub pairs : List (ℕ × ℤ)
  pub same : option_and_then (pairs_at fit k 0) all ≡ option_map (with_pairs pairs) (option_and_then (pairs_at fit (k - i) j) rest)
  pub held : new ≡ old ++ clipped_pairs pairs

nothing : (o : Option (List (ℕ × ℤ) × List ℤ)) → o ≡ option_map (with_pairs []) o
nothing None = refl
nothing (Some x) = refl

pub taken_start : (fit : ℕ → Bool) (k : ℕ) (all : Option (List ℤ)) (old : List (ℕ × ℤ)) → IsTaken fit k all old 0 0 all old
taken_start fit k all old = record {
  pairs = [];
  same = nothing (option_and_then (pairs_at fit k 0) all)
      ∙ ap (λ (n : ℕ). option_map (with_pairs []) (option_and_then (pairs_at fit n 0) all)) (omega arith);
  held = sym (append-nil old);
}

pub put_same : (fit : ℕ → Bool) (j : ℕ) (p z q y : ℤ) (behind : ℕ) (old new : List (ℕ × ℤ)) → p ≡ q → z ≡ y
    → IsPut fit j p z behind old new → IsPut fit j q y behind old new
put_same fit j p z q y behind old new e f put = subst (λ (x : ℤ). IsPut fit j q x behind old new) f
    (subst (λ (x : ℤ). IsPut fit j x z behind old new) e put)

pub next_same : (fit : ℕ → Bool) (j : ℕ) (p z q y : ℤ) → p ≡ q → z ≡ y → is_next_at fit j p z ≡ false
    → is_next_at fit j q y ≡ false
next_same fit j p z q y e f h = sym (ap (λ (x : ℤ). is_next_at fit j x z) e ∙ ap (λ (x : ℤ). is_next_at fit j q x) f) ∙ h

-- ---- one pair

step_some : (fit : ℕ → Bool) (n j : ℕ) (place z : ℤ) (behind : ℕ) (old new : List (ℕ × ℤ)) (more : Option (List ℤ))
    → (put : IsPut fit j place z behind old new)
    → (p : ℕ) → place ≡ pos p → option_and_then (pairs_at fit (suc n) j) (option_map (λ zs. pos p ∷ z ∷ zs) more)
    ≡ option_map (with_pair (p, z)) (option_and_then (pairs_at fit n (suc p)) more)
step_some fit n j place z behind old new None put p e = refl
step_some fit n j place z behind old new (Some zs) put p e =
    cond-true (is_next fit j p z) _ _ (ap (λ (q : ℤ). is_next_at fit j q z) (sym e) ∙ put.next)

step_none : (fit : ℕ → Bool) (n j : ℕ) (place z : ℤ) (more : Option (List ℤ)) → is_next_at fit j place z ≡ false
    → option_and_then (pairs_at fit (suc n) j) (option_map (λ zs. place ∷ z ∷ zs) more) ≡ None
step_none fit n j place z None e = refl
step_none fit n j (negsuc p) z (Some zs) e = refl
step_none fit n j (pos p) z (Some zs) e = cond-false (is_next fit j p z) _ _ e

no_pair : (fit : ℕ → Bool) (n j : ℕ) (rest : Option (List ℤ)) → ((zs : List ℤ) → rest ≡ Some zs → length zs < 2)
    → option_and_then (pairs_at fit (suc n) j) rest ≡ None
no_pair fit n j None h = refl
no_pair fit n j (Some []) h = refl
no_pair fit n j (Some (a ∷ [])) h = refl
no_pair fit n j (Some (a ∷ b ∷ zs)) h = absurd (omega (arith, h (a ∷ b ∷ zs) refl))

joined : (front : List (ℕ × ℤ)) (x : ℕ × ℤ) (o : Option (List (ℕ × ℤ) × List ℤ))
    → option_map (with_pairs front) (option_map (with_pair x) o) ≡ option_map (with_pairs (front ++ x ∷ [])) o
joined front x None = refl
joined front x (Some y) = ap (λ (ps : List (ℕ × ℤ)). Some (ps, y.1)) (sym (append_assoc front (x ∷ []) y.0))

module _ (fit : ℕ → Bool) (k : ℕ) (all : Option (List ℤ)) (old : List (ℕ × ℤ)) (i j : ℕ) (rest : Option (List ℤ))
    (new : List (ℕ × ℤ)) (t : IsTaken fit k all old i j rest new) where
  module _ (l : i < k) where
    one_left : k - i ≡ suc (k - (i + 1))
    one_left = omega (arith, l)

    left : option_and_then (pairs_at fit k 0) all
        ≡ option_map (with_pairs t.pairs) (option_and_then (pairs_at fit (suc (k - (i + 1))) j) rest)
    left = t.same ∙ ap (λ (n : ℕ). option_map (with_pairs t.pairs) (option_and_then (pairs_at fit n j) rest)) one_left

    more_at : (p : ℕ) (z : ℤ) (behind : ℕ) (more : Option (List ℤ)) (next : List (ℕ × ℤ))
        → rest ≡ option_map (λ zs. pos p ∷ z ∷ zs) more → IsPut fit j (pos p) z behind new next
        → IsTaken fit k all old (i + 1) behind more next
    more_at p z behind more next e put = record {
      pairs = t.pairs ++ (p, z) ∷ [];
      same = left
          ∙ ap (λ (r : Option (List ℤ)). option_map (with_pairs t.pairs) (option_and_then (pairs_at fit (suc (k - (i + 1))) j) r)) e
          ∙ ap (option_map (with_pairs t.pairs)) (step_some fit (k - (i + 1)) j (pos p) z behind new next more put p refl)
          ∙ joined t.pairs (p, z) (option_and_then (pairs_at fit (k - (i + 1)) (suc p)) more)
          ∙ ap (λ (n : ℕ). option_map (with_pairs (t.pairs ++ (p, z) ∷ [])) (option_and_then (pairs_at fit (k - (i + 1)) n) more))
          (omega (arith, put.behind_is));
      held = put.added ∙ ap (λ (ps : List (ℕ × ℤ)). ps ++ clipped_pair (p, z) ∷ []) t.held
          ∙ append_assoc old (clipped_pairs t.pairs) (clipped_pair (p, z) ∷ [])
          ∙ ap (λ (ps : List (ℕ × ℤ)). old ++ ps) (sym (map-append clipped_pair t.pairs ((p, z) ∷ [])));
    }

    no_minus : (p : ℕ) (z : ℤ) (behind : ℕ) (next : List (ℕ × ℤ)) → IsPut fit j (negsuc p) z behind new next → ⊥
    no_minus p z behind next put = let e : false ≡ true = put.next in absurd cc

    pub taken_more : (place z : ℤ) (behind : ℕ) (more : Option (List ℤ)) (next : List (ℕ × ℤ))
        → rest ≡ option_map (λ zs. place ∷ z ∷ zs) more → IsPut fit j place z behind new next
        → IsTaken fit k all old (i + 1) behind more next
    taken_more (pos p) z behind more next e put = more_at p z behind more next e put
    taken_more (negsuc p) z behind more next e put = absurd (no_minus p z behind next put)

    pub taken_no_pair : ((zs : List ℤ) → rest ≡ Some zs → length zs < 2) → option_and_then (pairs_at fit k 0) all ≡ None
    taken_no_pair h = left ∙ ap (option_map (with_pairs t.pairs)) (no_pair fit (k - (i + 1)) j rest h)

    pub taken_not_next : (place z : ℤ) (more : Option (List ℤ)) → rest ≡ option_map (λ zs. place ∷ z ∷ zs) more
        → is_next_at fit j place z ≡ false → option_and_then (pairs_at fit k 0) all ≡ None
    taken_not_next place z more e f =
        left
        ∙ ap (λ (r : Option (List ℤ)). option_map (with_pairs t.pairs) (option_and_then (pairs_at fit (suc (k - (i + 1))) j) r)) e
        ∙ ap (option_map (with_pairs t.pairs)) (step_none fit (k - (i + 1)) j place z more f)

  ended : (r : Option (List ℤ)) → option_map (with_pairs t.pairs) (option_and_then (pairs_at fit 0 j) r)
      ≡ option_map (λ zs. (t.pairs, zs)) r
  ended None = refl
  ended (Some zs) = ap (λ (ps : List (ℕ × ℤ)). Some (ps, zs)) (append-nil t.pairs)

  pub taken_all : k ≤ i → TakesPairs (pairs_at fit k 0) all rest old new
  taken_all l =
      let none : k - i ≡ 0 = omega (arith, l) in
      record {
        pairs = t.pairs;
        same = t.same ∙ ap (λ (n : ℕ). option_map (with_pairs t.pairs) (option_and_then (pairs_at fit n j) rest)) none ∙ ended rest;
        held = t.held;
      }

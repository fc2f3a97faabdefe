-- Laws of the first number and of the first element of which a test holds.
use Rattle.std.proofs.Common.{◌≡◌, ℕ, zero, suc, ◌<◌, Bool, true, false, cond, Option, Some, None, is_some, option_map, List, [], ◌∷◌, length, take, drop, All, arith, refl, ap, sym, ◌∙◌, ◌⊎◌, ⊎_elim}
use Rattle.std.specs.Option.{option_or}
use Rattle.std.proofs.lemmas.Bool.{false_from_ne_true}
use Rattle.std.proofs.lemmas.List.Elements.{All-head, All-tail}
use Rattle.fd_exact.specs.First.{first_place, first_such}

-- ---- numbers

last : (k n : ℕ) → k < suc n → (k < n) ⊎ (k ≡ n)
last k n h = grind arith

-- there is none where the test holds of none
pub first_none : (p : ℕ → Bool) (n : ℕ) → ((k : ℕ) → k < n → p k ≡ false) → first_place p n ≡ None
first_none p zero h = refl
first_none p (suc n) h = rw (first_none p n (λ k l. h k (omega arith)), h n (omega arith)) refl

-- it is the one before which the test holds of none
pub first_some : (p : ℕ → Bool) (n k : ℕ) → k < n → ((j : ℕ) → j < k → p j ≡ false) → p k ≡ true
    → first_place p n ≡ Some k
first_some p zero k h before here = absurd (omega arith)
first_some p (suc n) k h before here = ⊎_elim
    (λ (l : k < n). ap (λ o. option_or o (cond (p n) (Some n) None)) (first_some p n k l before here))
    (λ (e : k ≡ n). let none : first_place p n ≡ None = first_none p n (λ j l. before j (omega arith)) in
    let at : p n ≡ true = ap p (sym e) ∙ here in
    rw (none, at) (ap Some (sym e)))
    (last k n h)

of_some : (o : Option ℕ) (q : Option ℕ) → is_some o ≡ true → is_some (option_or o q) ≡ true
of_some (Some k) q e = refl
of_some None q e = cc

of_new : (o : Option ℕ) (n : ℕ) → is_some (option_or o (Some n)) ≡ true
of_new (Some k) n = refl
of_new None n = refl

-- where the test holds somewhere a place is found
pub found : (p : ℕ → Bool) (n k : ℕ) → k < n → p k ≡ true → is_some (first_place p n) ≡ true
found p zero k h here = absurd (omega arith)
found p (suc n) k h here = ⊎_elim
    (λ (l : k < n). of_some (first_place p n) (cond (p n) (Some n) None) (found p n k l here))
    (λ (e : k ≡ n). let at : p n ≡ true = ap p (sym e) ∙ here in rw at (of_new (first_place p n) n))
    (last k n h)

-- where there is none the test holds of none
pub none_holds : (p : ℕ → Bool) (n k : ℕ) → first_place p n ≡ None → k < n → p k ≡ false
none_holds p n k e h = false_from_ne_true (p k) (λ t. let s : is_some (first_place p n) ≡ true = found p n k h t in let no : ⊥ = cc in no)

-- it is below the bound
pub place_below : (p : ℕ → Bool) (n k : ℕ) → first_place p n ≡ Some k → k < n
place_below p zero k e = cc
place_below p (suc n) k e = one (first_place p n) (p n) (place_below p n k) e
  where
    one : (o : Option ℕ) (b : Bool) → (o ≡ Some k → k < n) → option_or o (cond b (Some n) None) ≡ Some k → k < suc n
    one (Some j) b h e = let l = h e in omega arith
    one None true h e = let same : n ≡ k = cc in omega arith
    one None false h e = cc

-- ---- elements

module _ {A : Type 0} (p : A → Bool) where
  -- there is none where the test holds of none
  pub such_none : (xs : List A) → All (λ x. p x ≡ false) xs → first_such p xs ≡ None
  such_none [] h = refl
  such_none (x ∷ xs) h =
      ap (λ b. cond b (Some zero) (option_map suc (first_such p xs))) (All-head (λ x. p x ≡ false) x xs h)
      ∙ ap (option_map suc) (such_none xs (All-tail (λ x. p x ≡ false) x xs h))

  -- it is the one after those of which the test doesn't hold
  pub such_at : (xs : List A) (place : ℕ) (x : A) (rest : List A) → All (λ x. p x ≡ false) (take place xs)
      → drop place xs ≡ x ∷ rest → p x ≡ true → first_such p xs ≡ Some place
  such_at [] zero x rest h e t = cc
  such_at [] (suc place) x rest h e t = cc
  such_at (y ∷ xs) zero x rest h e t =
      let k : y ≡ x = cc in
      ap (λ b. cond b (Some zero) (option_map suc (first_such p xs))) (ap p k ∙ t)
  such_at (y ∷ xs) (suc place) x rest h e t =
      ap (λ b. cond b (Some zero) (option_map suc (first_such p xs))) (All-head (λ x. p x ≡ false) y (take place xs) h)
      ∙ ap (option_map suc) (such_at xs place x rest (All-tail (λ x. p x ≡ false) y (take place xs) h) e t)

  -- it is one of the elements
  pub such_below : (xs : List A) (place : ℕ) → first_such p xs ≡ Some place → place < length xs
  such_below [] place h = let no : ⊥ = cc in absurd no
  such_below (x ∷ xs) place h = by (p x) (first_such p xs) h (such_below xs)
    where
      by : (b : Bool) (o : Option ℕ) → cond b (Some zero) (option_map suc o) ≡ Some place
          → ((k : ℕ) → o ≡ Some k → k < length xs) → place < length (x ∷ xs)
      by false None e rest = let no : ⊥ = cc in absurd no
      by false (Some k) e rest =
          let is : suc k ≡ place = cc in
          let low = rest k refl in
          omega arith
      by true o e rest = let is : zero ≡ place = cc in omega arith

-- What stands at a place of a list of records, where one is written.
use Rattle.std.proofs.Common.{◌≡◌, ◌≢◌, ℕ, zero, suc, ◌<◌, List, [], ◌∷◌, ◌++◌, length, get_or, set, map, arith, refl, ap}

module _ {A B : Type 0} (f : A → B) (d : B) where
  pub at_same : (xs : List A) (i : ℕ) (x : A) → i < length xs → get_or (map f (set xs i x)) i d ≡ f x
  at_same [] i x h = absurd (omega arith)
  at_same (y ∷ xs) zero x h = refl
  at_same (y ∷ xs) (suc i) x h = at_same xs i x (omega arith)

  pub at_other : (xs : List A) (i j : ℕ) (x : A) → i ≢ j → get_or (map f (set xs i x)) j d ≡ get_or (map f xs) j d
  at_other [] i j x h = refl
  at_other (y ∷ xs) zero zero x h = absurd (h refl)
  at_other (y ∷ xs) zero (suc j) x h = refl
  at_other (y ∷ xs) (suc i) zero x h = refl
  at_other (y ∷ xs) (suc i) (suc j) x h = at_other xs i j x (λ e. h (ap suc e))

  -- what is read at a place
  pub at_read : (xs : List A) (i : ℕ) (x : A) → i < length xs → get_or (map f xs) i d ≡ f (get_or xs i x)
  at_read [] i x h = absurd (omega arith)
  at_read (y ∷ xs) zero x h = refl
  at_read (y ∷ xs) (suc i) x h = at_read xs i x (omega arith)

  -- one more at the end
  pub pushed_old : (xs : List A) (i : ℕ) (x : A) → i < length xs
      → get_or (map f (xs ++ x ∷ [])) i d ≡ get_or (map f xs) i d
  pushed_old [] i x h = absurd (omega arith)
  pushed_old (y ∷ xs) zero x h = refl
  pushed_old (y ∷ xs) (suc i) x h = pushed_old xs i x (omega arith)

  pub pushed_new : (xs : List A) (i : ℕ) (x : A) → i ≡ length xs → get_or (map f (xs ++ x ∷ [])) i d ≡ f x
  pushed_new [] zero x e = refl
  pushed_new [] (suc i) x e = absurd (omega (arith, e))
  pushed_new (y ∷ xs) zero x e = absurd (omega (arith, e))
  pushed_new (y ∷ xs) (suc i) x e = pushed_new xs i x (omega (arith, e))

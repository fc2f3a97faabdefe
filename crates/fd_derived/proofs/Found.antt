-- The first that is found, and tests one after another.
use Rattle.std.proofs.Common.{◌≡◌, ◌∙◌, ◌⊎◌, ⊎_elim, ℕ, zero, suc, ◌<◌, Bool, true, false, cond, Option, Some, None, is_some, arith, ap, refl, sym}
use Rattle.std.specs.Option.{option_or}
use Rattle.fd_derived.specs.declared.refusal.Refusal.{Refusal}
use Rattle.fd_derived.specs.Refusals.{first_found}

last : (k n : ℕ) → k < suc n → (k < n) ⊎ (k ≡ n)
last k n h = grind arith

module _ {A : Type 0} where
  pub found_none : (f : ℕ → Option A) (n : ℕ) → ((i : ℕ) → i < n → f i ≡ None) → first_found f n ≡ None
  found_none f zero h = refl
  found_none f (suc n) h = rw (found_none f n (λ i l. h i (omega arith)), h n (omega arith)) refl

  pub found_some : (f : ℕ → Option A) (n k : ℕ) (x : A) → k < n → ((i : ℕ) → i < k → f i ≡ None) → f k ≡ Some x
      → first_found f n ≡ Some x
  found_some f zero k x h before here = absurd (omega arith)
  found_some f (suc n) k x h before here = ⊎_elim
      (λ (l : k < n). ap (λ (o : Option A). option_or o (f n)) (found_some f n k x l before here))
      (λ (e : k ≡ n). let none : first_found f n ≡ None = found_none f n (λ i l. before i (omega arith)) in
      let at : f n ≡ Some x = ap f (sym e) ∙ here in
      rw (none, at) refl)
      (last k n h)

  both_none : (o q : Option A) → option_or o q ≡ None → (o ≡ None) × (q ≡ None)
  both_none None q e = (refl, e)
  both_none (Some a) q e = let no : ⊥ = cc in absurd no

  pub first_none : (o q : Option A) → option_or o q ≡ None → o ≡ None
  first_none o q e = (both_none o q e).0

  pub second_none : (o q : Option A) → option_or o q ≡ None → q ≡ None
  second_none o q e = (both_none o q e).1

  pub none_found : (f : ℕ → Option A) (n : ℕ) → first_found f n ≡ None → (i : ℕ) → i < n → f i ≡ None
  none_found f zero e i h = absurd (omega arith)
  none_found f (suc n) e i h = ⊎_elim
      (λ (l : i < n). none_found f n (first_none (first_found f n) (f n) e) i l)
      (λ (s : i ≡ n). ap f s ∙ second_none (first_found f n) (f n) e)
      (last i n h)

-- three tests and two, one after another
pub record AllThree (p q r : Bool) : Type 0 where
  pub first : p ≡ true
  pub second : q ≡ true
  pub third : r ≡ true

pub three_hold : (p q r : Bool) (x y z : Refusal) → cond p (cond q (cond r None (Some x)) (Some y)) (Some z) ≡ None → AllThree p q r
three_hold true true true x y z e = record { first = refl; second = refl; third = refl }
three_hold true true false x y z e = let no : ⊥ = cc in absurd no
three_hold true false r x y z e = let no : ⊥ = cc in absurd no
three_hold false q r x y z e = let no : ⊥ = cc in absurd no

pub two_hold : (p q : Bool) (x y : Refusal) → cond p (cond q None (Some x)) (Some y) ≡ None → (p ≡ true) × (q ≡ true)
two_hold true true x y e = (refl, refl)
two_hold true false x y e = let no : ⊥ = cc in absurd no
two_hold false q x y e = let no : ⊥ = cc in absurd no

pub one_holds : (p : Bool) (o : Option Refusal) (x : Refusal) → cond p o (Some x) ≡ None → (p ≡ true) × (o ≡ None)
one_holds true o x e = (refl, e)
one_holds false o x e = let no : ⊥ = cc in absurd no

-- what is found first at a number is found first of all
pub found_at : {A : Type 0} (f : ℕ → Option A) (n k : ℕ) (o : Option A) → k < n → ((i : ℕ) → i < k → f i ≡ None) → o ≡ f k → is_some o ≡ true
    → o ≡ first_found f n
found_at f n k None h before here some = let no : ⊥ = cc in absurd no
found_at f n k (Some x) h before here some = sym (found_some f n k x h before (sym here))

pub none_of : {A : Type 0} (o : Option A) → is_some o ≡ false → o ≡ None
none_of None e = refl
none_of (Some x) e = let no : ⊥ = cc in absurd no

-- The greatest resistance up to a size is the greatest of all that keep it.
use Rattle.std.proofs.Common.{◌≡◌, ◌∙◌, ℕ, zero, suc, ◌*◌, ◌≤◌, ◌⊎◌, inl, inr, Bool, true, false, if◌then◌else◌, arith, ap, sym, refl}
use Rattle.std.proofs.lemmas.Bool.{leb-true, le-leb}
use Rattle.fd_source.specs.Powers.{IsGreatest, KeepsSize, greatest_resistance, greatest_such, keeps_size, one_phase_size, positive_reactance, positive_resistance, ratio_of, three_phase_size}
use Rattle.fd_source.specs.Laws.{OhmsLaw}
use Rattle.fd_source.proofs.Squares.{keeps_within}

pub greatest_most : (holds : ℕ → Bool) (n m : ℕ) → holds m ≡ true → m ≤ n → m ≤ greatest_such holds n
unfolding greatest_such
greatest_most holds zero m t h = h
greatest_most holds (suc n) m t h = by (holds (suc n)) refl (greatest_most holds n m t)
  where
    smaller : (m ≡ suc n → ⊥) → m ≤ n
    smaller k = omega arith

    by : (b : Bool) → holds (suc n) ≡ b → (m ≤ n → m ≤ greatest_such holds n)
        → m ≤ (if b then suc n else greatest_such holds n)
    by true e below = h
    by false e below = below (smaller (λ s. let f : true ≡ false = sym t ∙ ap holds s ∙ e in cc))

pub greatest_holds : (holds : ℕ → Bool) (n : ℕ) → (holds (greatest_such holds n) ≡ true) ⊎ (greatest_such holds n ≡ 0)
unfolding greatest_such
greatest_holds holds zero = inr refl
greatest_holds holds (suc n) = by (holds (suc n)) refl (greatest_holds holds n)
  where
    by : (b : Bool) → holds (suc n) ≡ b → (holds (greatest_such holds n) ≡ true) ⊎ (greatest_such holds n ≡ 0)
        → (holds (if b then suc n else greatest_such holds n) ≡ true) ⊎ ((if b then suc n else greatest_such holds n) ≡ 0)
    by true e below = inl e
    by false e below = below

module _ (r x ratio size : ℕ) where
  resistance_holds : (n : ℕ) → (keeps_size r x ratio size n ≡ true) ⊎ (n ≡ 0) → KeepsSize r x ratio size n ⊎ (n ≡ 0)
  resistance_holds n (inl t) = inl (leb-true _ _ t)
  resistance_holds n (inr e) = inr e

  pub resistance_greatest : IsGreatest (KeepsSize r x ratio size) (greatest_resistance r x ratio size)
  resistance_greatest = record {
    holding = resistance_holds (greatest_resistance r x ratio size) (greatest_holds (keeps_size r x ratio size) size);
    most = λ m k. greatest_most (keeps_size r x ratio size) size m (le-leb _ _ k) (keeps_within r x ratio size m k);
  }

pub are_greatest : OhmsLaw
are_greatest s = record {
  r1 = resistance_greatest 0 0 (ratio_of s.x1r1) (three_phase_size s);
  r0 = resistance_greatest (2 * positive_resistance s) (2 * positive_reactance s) (ratio_of s.x0r0) (3 * one_phase_size s);
}

-- there is one greatest number
below : (P : ℕ → Type 0) (a b : ℕ) → IsGreatest P b → P a ⊎ (a ≡ 0) → a ≤ b
below P a b h (inl p) = h.most a p
below P a b h (inr e) = omega arith

pub greatest_same : (P : ℕ → Type 0) (a b : ℕ) → IsGreatest P a → IsGreatest P b → a ≡ b
greatest_same P a b h k =
    let u = below P a b k h.holding in
    let v = below P b a h k.holding in
    omega arith

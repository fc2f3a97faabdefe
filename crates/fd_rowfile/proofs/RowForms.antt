-- A row has one list of numbers.
use Rattle.std.proofs.Common.{◌≡◌, ℕ, zero, suc, Bool, true, false, cond, ℤ, pos, negsuc, List, [], ◌∷◌, ◌++◌, length, Option, Some, None, refl, ap, sym, subst, ◌∙◌}
use Rattle.std.specs.Prelude.{flat_map}
use Rattle.std.specs.Option.{option_and_then, option_map}
use Rattle.std.proofs.lemmas.Bool.{cond-true}
use Rattle.std.proofs.lemmas.List.{append-nil}
use Rattle.fd_derived.specs.fd_factors.Factors.{DerivedRow}
use Rattle.fd_lines.proofs.CallerLemmas.{and_then_some, map_some}
use Rattle.fd_rowfile.specs.Blocks.{AreRising, IsLeft, IsRow, Row, derived_fields, is_anywhere, is_below, is_beside, is_next, left_at, list_at, list_fields, pair_fields, pairs_at, pivot_at, row_of, row_with, with_pair}

abbrev pub Pairs : Type 0
Pairs = List (ℕ × ℤ)

abbrev pub numbers_of_pairs : Pairs → List ℤ
numbers_of_pairs pairs = flat_map pair_fields pairs

-- ---- pairs

pub pairs_again : (fit : ℕ → Bool) (j : ℕ) (pairs : Pairs) (more : List ℤ) → AreRising fit j pairs
    → pairs_at fit (length pairs) j (numbers_of_pairs pairs ++ more) ≡ Some (pairs, more)
pairs_again fit j [] more h = refl
pairs_again fit j (p ∷ pairs) more h =
    cond-true (is_next fit j p.0 p.1) _ _ h.0 ∙ ap (option_map (with_pair p)) (pairs_again fit (suc p.0) pairs more h.1)

-- what pairs were read of
pub record PairsFound (fit : ℕ → Bool) (k j : ℕ) (numbers : List ℤ) (y : Pairs × List ℤ) : Type 0 where
  pub numbers_are : numbers ≡ numbers_of_pairs y.0 ++ y.1
  pub many : length y.0 ≡ k
  pub rising : AreRising fit j y.0

pub then_found : {A : Type 0} (b : Bool) (o : Option A) (y : A) → cond b o None ≡ Some y → (b ≡ true) × (o ≡ Some y)
then_found true o y e = (refl, e)
then_found false o y e = absurd cc

pub some_is : {X : Type 0} {x y : X} → Some x ≡ Some y → x ≡ y
some_is e = cc

pub pairs_found : (fit : ℕ → Bool) (k j : ℕ) (numbers : List ℤ) (y : Pairs × List ℤ) → pairs_at fit k j numbers ≡ Some y
    → PairsFound fit k j numbers y
pairs_found fit zero j numbers y e =
    subst (PairsFound fit 0 j numbers) (some_is e) (record { numbers_are = refl; many = refl; rising = tt })
pairs_found fit (suc k) j [] y e = absurd cc
pairs_found fit (suc k) j (p ∷ []) y e = absurd cc
pairs_found fit (suc k) j (negsuc p ∷ z ∷ numbers) y e = absurd cc
pairs_found fit (suc k) j (pos p ∷ z ∷ numbers) y e =
    let a = then_found (is_next fit j p z) (option_map (with_pair (p, z)) (pairs_at fit k (suc p) numbers)) y e in
    let b = map_some (with_pair (p, z)) (pairs_at fit k (suc p) numbers) y a.1 in
    let c = pairs_found fit k (suc p) numbers b.0 b.1 in
    subst (PairsFound fit (suc k) j (pos p ∷ z ∷ numbers)) b.2 (record {
      numbers_are = ap (λ (zs : List ℤ). pos p ∷ z ∷ zs) c.numbers_are;
      many = ap suc c.many;
      rising = (a.0, c.rising);
    })

-- ---- lists

pub list_again : (fit : ℕ → Bool) (pairs : Pairs) (more : List ℤ) → AreRising fit 0 pairs
    → list_at fit (list_fields pairs ++ more) ≡ Some (pairs, more)
list_again fit pairs more h = pairs_again fit 0 pairs more h

pub list_found : (fit : ℕ → Bool) (numbers : List ℤ) (y : Pairs × List ℤ) → list_at fit numbers ≡ Some y
    → (numbers ≡ list_fields y.0 ++ y.1) × AreRising fit 0 y.0
list_found fit [] y e = absurd cc
list_found fit (negsuc k ∷ numbers) y e = absurd cc
list_found fit (pos k ∷ numbers) y e =
    let f = pairs_found fit k 0 numbers y e in
    (ap (λ (n : ℕ). pos n ∷ numbers) (sym f.many) ∙ ap (λ (zs : List ℤ). pos (length y.0) ∷ zs) f.numbers_are, f.rising)

pub left_again : (n : ℕ) (pairs : Pairs) (more : List ℤ) → IsLeft n pairs
    → left_at n (list_fields pairs ++ more) ≡ Some (pairs, more)
left_again n [] more h = absurd h
left_again n (p ∷ pairs) more h =
    cond-true (is_next (is_below n) 0 p.0 p.1) _ _ h.0
    ∙ ap (option_map (with_pair p)) (pairs_again (is_beside n p.0) 0 pairs more h.1)

pivot_found : (n k : ℕ) (numbers : List ℤ) (y : Pairs × List ℤ) → pivot_at n k numbers ≡ Some y
    → (pos (suc k) ∷ numbers ≡ list_fields y.0 ++ y.1) × IsLeft n y.0
pivot_found n k [] y e = absurd cc
pivot_found n k (p ∷ []) y e = absurd cc
pivot_found n k (negsuc p ∷ z ∷ numbers) y e = absurd cc
pivot_found n k (pos p ∷ z ∷ numbers) y e =
    let a = then_found (is_next (is_below n) 0 p z) (option_map (with_pair (p, z)) (pairs_at (is_beside n p) k 0 numbers)) y e in
    let b = map_some (with_pair (p, z)) (pairs_at (is_beside n p) k 0 numbers) y a.1 in
    let c = pairs_found (is_beside n p) k 0 numbers b.0 b.1 in
    subst (λ (w : Pairs × List ℤ). (pos (suc k) ∷ pos p ∷ z ∷ numbers ≡ list_fields w.0 ++ w.1) × IsLeft n w.0) b.2 (
      ap (λ (m : ℕ). pos (suc m) ∷ pos p ∷ z ∷ numbers) (sym c.many)
          ∙ ap (λ (zs : List ℤ). pos (suc (length b.0.0)) ∷ pos p ∷ z ∷ zs) c.numbers_are,
      (a.0, c.rising),
    )

pub left_found : (n : ℕ) (numbers : List ℤ) (y : Pairs × List ℤ) → left_at n numbers ≡ Some y
    → (numbers ≡ list_fields y.0 ++ y.1) × IsLeft n y.0
left_found n [] y e = absurd cc
left_found n (negsuc k ∷ numbers) y e = absurd cc
left_found n (pos zero ∷ numbers) y e = absurd cc
left_found n (pos (suc k) ∷ numbers) y e = pivot_found n k numbers y e

-- ---- rows

module _ (n : ℕ) (height : ℤ) where
  abbrev last_of : Pairs → Pairs × List ℤ → Option Row
  last_of a b = option_and_then (row_with height a b.0) (left_at n b.1)

  abbrev others_of : Pairs × List ℤ → Option Row
  others_of a = option_and_then (last_of a.0) (list_at is_anywhere a.1)

  pub row_again : (r : DerivedRow) → IsRow n (record { height = height; derived = r })
      → row_of n (height ∷ derived_fields r) ≡ Some (record { height = height; derived = r })
  row_again r h =
      ap (option_and_then others_of) (list_again (is_below n) r.equations (list_fields r.others ++ list_fields r.left) h.equations)
      ∙ ap (option_and_then (last_of r.equations)) (list_again is_anywhere r.others (list_fields r.left) h.others)
      ∙ ap (option_and_then (row_with height r.equations r.others))
      (ap (left_at n) (sym (append-nil (list_fields r.left))) ∙ left_again n r.left [] h.left)

  with_found : (a b : Pairs) (c : Pairs × List ℤ) (r : Row) → row_with height a b c ≡ Some r
      → (c.1 ≡ []) × (record { height = height; derived = record { equations = a; others = b; left = c.0 } } ≡ r)
  with_found a b (left, []) r e = (refl, some_is e)
  with_found a b (left, z ∷ numbers) r e = absurd cc

  pub row_found : (numbers : List ℤ) (r : Row) → row_of n (height ∷ numbers) ≡ Some r
      → (height ∷ numbers ≡ r.height ∷ derived_fields r.derived) × IsRow n r
  row_found numbers r e =
      let a = and_then_some others_of (list_at (is_below n) numbers) r e in
      let b = and_then_some (last_of a.0.0) (list_at is_anywhere a.0.1) r a.2 in
      let c = and_then_some (row_with height a.0.0 b.0.0) (left_at n b.0.1) r b.2 in
      let w = with_found a.0.0 b.0.0 c.0 r c.2 in
      let fa = list_found (is_below n) numbers a.0 a.1 in
      let fb = list_found is_anywhere a.0.1 b.0 b.1 in
      let fc = left_found n b.0.1 c.0 c.1 in
      subst (λ (x : Row). (height ∷ numbers ≡ x.height ∷ derived_fields x.derived) × IsRow n x) w.1 (
        ap (λ (zs : List ℤ). height ∷ zs) (fa.0
            ∙ ap (λ (zs : List ℤ). list_fields a.0.0 ++ zs) (fb.0
            ∙ ap (λ (zs : List ℤ). list_fields b.0.0 ++ zs) (fc.0 ∙ ap (λ (zs : List ℤ). list_fields c.0.0 ++ zs) w.0 ∙ append-nil (list_fields c.0.0)))),
        record { equations = fa.1; others = fb.1; left = fc.1 },
      )

-- The contributions of complex numbers add up to their products with the unknowns.
use Rattle.std.proofs.Common.{◌≡◌, ◌∙◌, ℕ, zero, suc, ◌+◌, ◌*◌, ◌<◌, ℤ, pos, negsuc, neg_ℤ, ◌+ℤ◌, ◌-ℤ◌, ◌*ℤ◌, FitsSigned, Bool, true, false, cond, eqb, List, [], ◌∷◌, ◌++◌, arith, lit<, ap, sym, refl, subst}
use Rattle.std.specs.Ordering.{int_eq}
use Rattle.std.specs.Int.{w128, cast_signed, cast_unsigned}
use Rattle.std.specs.Int.RustNames.{unsigned_abs}
use Rattle.std.proofs.Math.Nat.{mul-pos}
use Rattle.std.proofs.lemmas.Int.{ints}
use Rattle.std.proofs.lemmas.Bool.{ne_eqb, eqb-true}
use Rattle.std.proofs.lemmas.Bool.Decides.{Decides-int_eq}
use Rattle.fd_arith.specs.fd_exact.Integers.{as_val, val-same, vals, neg-neg, mul-neg}
use Rattle.fd_arith.specs.fd_exact.States.{State, part}
use Rattle.fd_arith.specs.declared.terms.Term.{Term}
use Rattle.fd_arith.specs.declared.terms.NodeAt.{NodeAt}
use Rattle.fd_arith.specs.declared.terms.NodeAt.TheVariants.{Ground, Node}
use Rattle.fd_arith.specs.fd_exact.Fractions.{Fraction, fraction, ◌⊕◌, ◌⊗◌, opposite, nothing, Same}
use Rattle.fd_system.specs.Complex.{Complex, complex, none, ◌⊞◌, ◌⊟◌, ◌⊠◌, negative, total, SameComplex}
use Rattle.fd_system.specs.Contributions.{row_sum, one, complex_terms, concat_below}
use Rattle.fd_system.specs.Equations.{unknown, Part, side, seen, equation}
use Rattle.fd_arith.specs.fd_exact.FractionLaws.{sum_of-append, nothing-pos, Same-nothing, plus_comm, opposite-plus, nothing-plus, plus-nothing, opposite-times, opposite-nothing, pair_of, Same-refl, Same-sym, Same-trans, Same-plus, Same-opposite, plus_swap}

-- ---- sums of rows

pub row_sum-append : (l : ℕ) (ts us : List Term) (x : State) → row_sum l (ts ++ us) x ≡ row_sum l ts x ⊕ row_sum l us x
row_sum-append l ts us x = sum_of-append _ ts us

-- ---- one contribution

zero_value : (b : Bool) (p : ℤ) (o : ℕ) → 0 < o → Same nothing (cond b (fraction (pos 0 *ℤ p) o) nothing)
unfolding nothing
zero_value true p o h = record { left = omega arith; right = h; cross = omega (arith, ints) }
zero_value false p o h = Same-refl _ (omega arith)

one_value : (b : Bool) (v : Fraction) → 0 < v.over → Same (cond b v nothing ⊕ nothing) (cond b v nothing)
one_value true v h = subst (λ s. Same s v) (sym (plus-nothing v)) (Same-refl v h)
one_value false v h = subst (λ s. Same s nothing) (sym (plus-nothing nothing)) Same-nothing

one_by : (t : Bool) (l r c : ℕ) (n d : ℤ) (x : State) → 0 < unsigned_abs d * x.over → (t ≡ true → n ≡ pos 0)
    → Same (row_sum l (cond t [] (record { row = r; col = c; num = n; den = d } ∷ [])) x)
    (cond (eqb r l) (fraction (n *ℤ part x.parts c) (unsigned_abs d * x.over)) nothing)
one_by true l r c n d x h e = rw (e refl) (zero_value (eqb r l) (part x.parts c) (unsigned_abs d * x.over) h)
one_by false l r c n d x h e = one_value (eqb r l) _ h

pub one_sum : (l r c : ℕ) (n d : ℤ) (x : State) → 0 < unsigned_abs d * x.over →
    Same (row_sum l (one r c n d) x) (cond (eqb r l) (fraction (n *ℤ part x.parts c) (unsigned_abs d * x.over)) nothing)
one_sum l r c n d x h = one_by (int_eq n (pos 0)) l r c n d x h (λ e. (Decides-int_eq n (pos 0)).0 e)

-- ---- four contributions

pub apart : (r l : ℕ) → eqb (2 * r) l ≡ true → eqb (2 * r + 1) l ≡ false
apart r l e = ne_eqb _ _ (λ p. let q = eqb-true (2 * r) l e in omega arith)

four : (l : ℕ) (a b c d : List Term) (x : State)
    → row_sum l (a ++ (b ++ (c ++ d))) x ≡ row_sum l a x ⊕ (row_sum l b x ⊕ (row_sum l c x ⊕ row_sum l d x))
four l a b c d x = row_sum-append l a _ x ∙ ap (λ s. row_sum l a x ⊕ s) (row_sum-append l b _ x ∙ ap (λ s. row_sum l b x ⊕ s) (row_sum-append l c d x))

pub plus-pos : (v w : Fraction) → 0 < v.over → 0 < w.over → 0 < (v ⊕ w).over
unfolding ◌⊕◌
plus-pos v w h k = mul-pos h k

four_by : (b d : Bool) (v v' w w' u u' t t' : Fraction) → (b ≡ true → d ≡ false) → v ≡ v' → w ≡ w' → u ≡ u' → t ≡ t'
    → 0 < v.over → 0 < w.over → 0 < u.over → 0 < t.over
    → Same (cond b v nothing ⊕ (cond b w nothing ⊕ (cond d u nothing ⊕ cond d t nothing))) (cond b (v' ⊕ w') (cond d (t' ⊕ u') nothing))
four_by true d v v' w w' u u' t t' x e f g h i j k m = rw (x refl, nothing-plus nothing, plus-nothing w, ← e, ← f) (Same-refl (v ⊕ w) (plus-pos v w i j))
four_by false true v v' w w' u u' t t' x e f g h i j k m =
    rw (nothing-plus (u ⊕ t), nothing-plus (u ⊕ t), plus_comm u t, ← g, ← h) (Same-refl (t ⊕ u) (plus-pos t u m k))
four_by false false v v' w w' u u' t t' x e f g h i j k m = simp nothing-plus Same-nothing

value-times : (n p : ℤ) (d o : ℕ) → fraction (n *ℤ p) (d * o) ≡ fraction n d ⊗ fraction p o
unfolding ◌⊗◌
value-times n p d o = refl

module _ (r c l : ℕ) (a b d : ℤ) (x : State) (h : 0 < unsigned_abs d * x.over) where
  stamp_side : Same (row_sum l (complex_terms (Node r) (Node c) a b d) x) (side l (Node r) (complex a b (unsigned_abs d) ⊠ unknown x (Node c)))
  stamp_side =
      let D = unsigned_abs d in
      let X = part x.parts (2 * c) in
      let Y = part x.parts (2 * c + 1) in
      let p = one_sum l (2 * r) (2 * c) a d x h in
      let q = one_sum l (2 * r) (2 * c + 1) (neg_ℤ b) d x h in
      let s = one_sum l (2 * r + 1) (2 * c) b d x h in
      let t = one_sum l (2 * r + 1) (2 * c + 1) a d x h in
      rw (four l (one (2 * r) (2 * c) a d) (one (2 * r) (2 * c + 1) (neg_ℤ b) d) (one (2 * r + 1) (2 * c) b d)
      (one (2 * r + 1) (2 * c + 1) a d) x)
      (Same-trans (Same-plus p (Same-plus q (Same-plus s t)))
      (four_by (eqb (2 * r) l) (eqb (2 * r + 1) l) _ _ _ _ _ _ _ _ (apart r l) (value-times a X D x.over)
      (value-times (neg_ℤ b) Y D x.over ∙ opposite-times b D (fraction Y x.over)) (value-times b X D x.over)
      (value-times a Y D x.over) h h h h))

zero_times : (p : Fraction) → 0 < p.over → Same nothing (p ⊗ nothing)
unfolding nothing ◌⊗◌
zero_times p h = record { left = omega arith; right = omega arith; cross = omega (arith, ints) }

zero_sum : {p q : Fraction} → Same nothing p → Same nothing q → Same nothing (p ⊕ q)
zero_sum {p} {q} h k = subst (λ s. Same s (p ⊕ q)) (nothing-plus nothing) (Same-plus h k)

zero_opposite : {p : Fraction} → Same nothing p → Same nothing (opposite p)
zero_opposite {p} h = subst (λ s. Same s (opposite p)) opposite-nothing (Same-opposite h)

zero_side : (l : ℕ) (r : NodeAt) (z : Complex) → Same nothing z.re → Same nothing z.im → Same nothing (side l r z)
zero_side l Ground z h j = Same-nothing
zero_side l (Node r) z h j = by_two (eqb (2 * r) l) (eqb (2 * r + 1) l)
  where
    by_two : (b d : Bool) → Same nothing (cond b z.re (cond d z.im nothing))
    by_two true d = h
    by_two false true = j
    by_two false false = Same-nothing

pub complex_row : (r c : NodeAt) (a b d : ℤ) (x : State) (l : ℕ) → 0 < unsigned_abs d → 0 < x.over
    → Same (row_sum l (complex_terms r c a b d) x) (side l r (complex a b (unsigned_abs d) ⊠ unknown x c))
complex_row (Node r) (Node c) a b d x l h o = stamp_side r c l a b d x (mul-pos h o)
complex_row (Node r) Ground a b d x l h o =
    let D = unsigned_abs d in
    let p = zero_times (fraction a D) h in
    let q = zero_times (fraction b D) h in
    zero_side l (Node r) (complex a b D ⊠ none) (zero_sum p (zero_opposite q)) (zero_sum p q)
complex_row Ground c a b d x l h o = Same-nothing

-- ---- rows are put together

pub cond-plus : (b : Bool) (p q : Fraction) → cond b p nothing ⊕ cond b q nothing ≡ cond b (p ⊕ q) nothing
cond-plus true p q = refl
cond-plus false p q = nothing-plus nothing

cond-plus_two : (b d : Bool) (p q s t : Fraction)
    → cond b p (cond d q nothing) ⊕ cond b s (cond d t nothing) ≡ cond b (p ⊕ s) (cond d (q ⊕ t) nothing)
cond-plus_two true d p q s t = refl
cond-plus_two false d p q s t = cond-plus d q t

pub side-plus : (l : ℕ) (r : NodeAt) (z w : Complex) → side l r z ⊕ side l r w ≡ side l r (z ⊞ w)
side-plus l Ground z w = nothing-plus nothing
side-plus l (Node r) z w = cond-plus_two (eqb (2 * r) l) (eqb (2 * r + 1) l) z.re z.im w.re w.im

pub row-append : (ts us : List Term) (x : State) (l : ℕ) (v w : Fraction) → Same (row_sum l ts x) v
    → Same (row_sum l us x) w → Same (row_sum l (ts ++ us) x) (v ⊕ w)
row-append ts us x l v w h k = rw (row_sum-append l ts us x) (Same-plus h k)

-- two at one place
pub same_place : (ts us : List Term) (x : State) (l : ℕ) (r : NodeAt) (z w : Complex)
    → Same (row_sum l ts x) (side l r z) → Same (row_sum l us x) (side l r w)
    → Same (row_sum l (ts ++ us) x) (side l r (z ⊞ w))
same_place ts us x l r z w h j = subst (Same (row_sum l (ts ++ us) x)) (side-plus l r z w) (row-append ts us x l _ _ h j)

pub same_place_concat : (f : ℕ → List Term) (x : State) (l : ℕ) (r : NodeAt) (z : ℕ → Complex) (n : ℕ)
    → ((m : ℕ) → m < n → Same (row_sum l (f m) x) (side l r (z m)))
    → Same (row_sum l (concat_below f n) x) (side l r (total z n))
same_place_concat f x l r z zero h = zero_side l r none Same-nothing Same-nothing
same_place_concat f x l r z (suc n) h =
    same_place (concat_below f n) (f n) x l r (total z n) (z n)
    (same_place_concat f x l r z n (λ m p. h m (omega arith))) (h n (omega arith))

-- the number may be written in another way
pub rewritten : (p : Fraction) (l : ℕ) (r : NodeAt) (z w : Complex) → SameComplex z w → Same p (side l r z)
    → Same p (side l r w)
rewritten p l Ground z w e h = h
rewritten p l (Node r) z w e h = by_two (eqb (2 * r) l) (eqb (2 * r + 1) l) h
  where
    by_two : (b d : Bool) → Same p (cond b z.re (cond d z.im nothing)) → Same p (cond b w.re (cond d w.im nothing))
    by_two true d k = Same-trans k e.re
    by_two false true k = Same-trans k e.im
    by_two false false k = k

pub equation-append : (l : ℕ) (ps qs : List Part) → equation l (ps ++ qs) ≡ equation l ps ⊕ equation l qs
equation-append l ps qs = sum_of-append (seen l) ps qs

pub concat_row : (f : ℕ → List Term) (x : State) (l : ℕ) (p : ℕ → List Part) (n : ℕ)
    → ((m : ℕ) → m < n → Same (row_sum l (f m) x) (equation l (p m)))
    → Same (row_sum l (concat_below f n) x) (equation l (concat_below p n))
concat_row f x l p zero h = Same-nothing
concat_row f x l p (suc n) h =
    rw (equation-append l (concat_below p n) (p n)) (row-append (concat_below f n) (f n) x l _ _
    (concat_row f x l p n (λ m q. h m (omega arith))) (h n (omega arith)))

-- the last of the parts
pub single : (p v : Fraction) → Same p v → Same p (v ⊕ nothing)
single p v h = subst (Same p) (sym (plus-nothing v)) h

-- ---- kinds of contributions

-- the parts of a number have positive denominators
pub record IsWhole (z : Complex) : Type 0 where
  pub re : 0 < z.re.over
  pub im : 0 < z.im.over

pub unknown-pos : (x : State) (c : NodeAt) → 0 < x.over → IsWhole (unknown x c)
unknown-pos x (Node c) h = record { re = h; im = h }
unknown-pos x Ground h = record { re = nothing-pos; im = nothing-pos }

one_times : (p : Fraction) → fraction (pos 1) 1 ⊗ p ≡ p
unfolding ◌⊗◌
one_times p = pair_of _ _ (omega (arith, ints)) (omega arith)

minus_times : (p : Fraction) → fraction (negsuc 0) 1 ⊗ p ≡ opposite p
unfolding ◌⊗◌ opposite
minus_times p = pair_of _ _ (omega (arith, ints)) (omega arith)

zero_left : (q : Fraction) → 0 < q.over → Same nothing (fraction (pos 0) 1 ⊗ q)
unfolding ◌⊗◌ nothing
zero_left q h = record { left = omega arith; right = omega arith; cross = omega (arith, ints) }

pub plus-zero : (p z : Fraction) → 0 < p.over → Same nothing z → Same (p ⊕ z) p
plus-zero p z h k = subst (Same (p ⊕ z)) (plus-nothing p) (Same-plus (Same-refl p h) (Same-sym k))

pub opposite-pos : (p : Fraction) → 0 < p.over → 0 < (opposite p).over
unfolding opposite
opposite-pos p h = h

times_one : (p q : Fraction) → 0 < p.over → 0 < q.over
    → Same (fraction (pos 1) 1 ⊗ p ⊕ opposite (fraction (pos 0) 1 ⊗ q)) p
times_one p q h k = rw (one_times p) (plus-zero p _ h (zero_opposite (zero_left q k)))

times_one_im : (p q : Fraction) → 0 < p.over → 0 < q.over → Same (fraction (pos 1) 1 ⊗ q ⊕ fraction (pos 0) 1 ⊗ p) q
times_one_im p q h k = rw (one_times q) (plus-zero q _ k (zero_left p h))

times_minus : (p q : Fraction) → 0 < p.over → 0 < q.over
    → Same (fraction (negsuc 0) 1 ⊗ p ⊕ opposite (fraction (pos 0) 1 ⊗ q)) (opposite p)
times_minus p q h k = rw (minus_times p) (plus-zero (opposite p) _ (opposite-pos p h) (zero_opposite (zero_left q k)))

times_minus_im : (p q : Fraction) → 0 < p.over → 0 < q.over
    → Same (fraction (negsuc 0) 1 ⊗ q ⊕ fraction (pos 0) 1 ⊗ p) (opposite q)
times_minus_im p q h k = rw (minus_times q) (plus-zero (opposite q) _ (opposite-pos q k) (zero_left p h))

pub plain_complex : (r c : NodeAt) (x : State) (l : ℕ) → 0 < x.over
    → Same (row_sum l (complex_terms r c (pos 1) (pos 0) (pos 1)) x) (side l r (unknown x c))
plain_complex r c x l h =
    let u = unknown-pos x c h in
    rewritten _ l r _ (unknown x c) (record { re = times_one _ _ u.re u.im; im = times_one_im _ _ u.re u.im })
    (complex_row r c (pos 1) (pos 0) (pos 1) x l (lit< tt) h)

pub minus_complex : (r c : NodeAt) (x : State) (l : ℕ) → 0 < x.over
    → Same (row_sum l (complex_terms r c (negsuc 0) (pos 0) (pos 1)) x) (side l r (negative (unknown x c)))
minus_complex r c x l h =
    let u = unknown-pos x c h in
    rewritten _ l r _ (negative (unknown x c))
    (record { re = times_minus _ _ u.re u.im; im = times_minus_im _ _ u.re u.im })
    (complex_row r c (negsuc 0) (pos 0) (pos 1) x l (lit< tt) h)

negative_re : (a b : ℤ) (d : ℕ) (z : Complex) → complex (neg_ℤ a) (neg_ℤ b) d ⊠ z ≡ negative (complex a b d ⊠ z)
negative_re a b d z =
    let p = opposite-times a d z.re in
    let q = opposite-times b d z.im in
    let s = opposite-times a d z.im in
    let t = opposite-times b d z.re in
    let u = sym (opposite-plus (fraction a d ⊗ z.re) (opposite (fraction b d ⊗ z.im))) in
    let v = sym (opposite-plus (fraction a d ⊗ z.im) (fraction b d ⊗ z.re)) in
    (λ i. record { re = p i ⊕ opposite (q i); im = s i ⊕ t i }) ∙ (λ i. record { re = u i; im = v i })

pub negative_complex : (r c : NodeAt) (a b d : ℤ) (x : State) (l : ℕ) → 0 < unsigned_abs d → 0 < x.over
    → Same (row_sum l (complex_terms r c (neg_ℤ a) (neg_ℤ b) d) x) (side l r (negative (complex a b (unsigned_abs d) ⊠ unknown x c)))
negative_complex r c a b d x l h o =
    subst (λ z. Same (row_sum l (complex_terms r c (neg_ℤ a) (neg_ℤ b) d) x) (side l r z))
    (negative_re a b (unsigned_abs d) (unknown x c)) (complex_row r c (neg_ℤ a) (neg_ℤ b) d x l h o)

pub total-negative : (f : ℕ → Complex) (n : ℕ) → total (λ m. negative (f m)) n ≡ negative (total f n)
total-negative f zero = λ i. record { re = sym opposite-nothing i; im = sym opposite-nothing i }
total-negative f (suc n) =
    let g = ap (λ s. s ⊞ negative (f n)) (total-negative f n) in
    let u = sym (opposite-plus (total f n).re (f n).re) in
    let v = sym (opposite-plus (total f n).im (f n).im) in
    g ∙ (λ i. record { re = u i; im = v i })

-- ---- products and differences

distrib_cross : (a b c : ℤ) (o p q : ℕ)
    → (a *ℤ (b *ℤ pos q +ℤ c *ℤ pos p)) *ℤ pos (o * p * (o * q)) ≡ ((a *ℤ b) *ℤ pos (o * q) +ℤ (a *ℤ c) *ℤ pos (o * p)) *ℤ pos (o * (p * q))
distrib_cross a b c o p q = rw (as_val a, as_val b, as_val c) (simp vals (val-same _ _ _ _ (omega arith)))

distrib : (a b c : Fraction) → 0 < a.over → 0 < b.over → 0 < c.over → Same (a ⊗ (b ⊕ c)) (a ⊗ b ⊕ a ⊗ c)
unfolding ◌⊗◌ ◌⊕◌
distrib a b c h j k = record {
  left = mul-pos h (mul-pos j k);
  right = mul-pos (mul-pos h j) (mul-pos h k);
  cross = distrib_cross a.top b.top c.top a.over b.over c.over;
}

times-opposite : (a b : Fraction) → a ⊗ opposite b ≡ opposite (a ⊗ b)
unfolding ◌⊗◌ opposite
times-opposite a b = pair_of _ _ (mul-neg a.top b.top) refl

distrib_minus : (a b c : Fraction) → 0 < a.over → 0 < b.over → 0 < c.over
    → Same (a ⊗ (b ⊕ opposite c)) (a ⊗ b ⊕ opposite (a ⊗ c))
distrib_minus a b c h j k = subst (λ s. Same (a ⊗ (b ⊕ opposite c)) (a ⊗ b ⊕ s)) (times-opposite a c) (distrib a b (opposite c) h j (opposite-pos c k))

-- z (u - v) and z u - z v
pub difference_times : (z u v : Complex) → IsWhole z → IsWhole u → IsWhole v → SameComplex (z ⊠ (u ⊟ v)) (z ⊠ u ⊟ z ⊠ v)
difference_times z u v pz pu pv =
    let a = z.re ⊗ u.re in
    let b = z.re ⊗ v.re in
    let c = z.im ⊗ u.im in
    let d = z.im ⊗ v.im in
    let e = z.re ⊗ u.im in
    let f = z.re ⊗ v.im in
    let g = z.im ⊗ u.re in
    let h = z.im ⊗ v.re in
    let re = Same-plus (distrib_minus z.re u.re v.re pz.re pu.re pv.re) (Same-opposite (distrib_minus z.im u.im v.im pz.im pu.im pv.im)) in
    let im = Same-plus (distrib_minus z.re u.im v.im pz.re pu.im pv.im) (distrib_minus z.im u.re v.re pz.im pu.re pv.re) in
    let p = (λ i. (a ⊕ opposite b) ⊕ opposite-plus c (opposite d) i)
    ∙ plus_swap a (opposite b) (opposite c) (opposite (opposite d))
    ∙ (λ i. (a ⊕ opposite c) ⊕ sym (opposite-plus b (opposite d)) i) in
    let q = plus_swap e (opposite f) g (opposite h) ∙ (λ i. (e ⊕ g) ⊕ sym (opposite-plus f h) i) in
    record { re = subst (Same (z ⊠ (u ⊟ v)).re) p re; im = subst (Same (z ⊠ (u ⊟ v)).im) q im }

pub SameComplex-sym : {z w : Complex} → SameComplex z w → SameComplex w z
SameComplex-sym h = record { re = Same-sym h.re; im = Same-sym h.im }

opposite-opposite : (a : Fraction) → opposite (opposite a) ≡ a
unfolding opposite
opposite-opposite a = pair_of _ _ (neg-neg a.top) refl

-- -(u - v) = v - u
pub negative-minus : (u v : Complex) → negative (u ⊟ v) ≡ negative u ⊞ v
negative-minus u v = λ i. record {
  re = (opposite-plus u.re (opposite v.re) ∙ ap (λ s. opposite u.re ⊕ s) (opposite-opposite v.re)) i;
  im = (opposite-plus u.im (opposite v.im) ∙ ap (λ s. opposite u.im ⊕ s) (opposite-opposite v.im)) i;
}

pub side-pos : (l : ℕ) (r : NodeAt) (z : Complex) → IsWhole z → 0 < (side l r z).over
side-pos l Ground z h = nothing-pos
side-pos l (Node r) z h = by_two (eqb (2 * r) l) (eqb (2 * r + 1) l)
  where
    by_two : (b d : Bool) → 0 < (cond b z.re (cond d z.im nothing)).over
    by_two true d = h.re
    by_two false true = h.im
    by_two false false = nothing-pos

-- what the code negates
pub negated : (im : ℤ) → FitsSigned w128 im → FitsSigned w128 (neg_ℤ im)
    → cast_signed w128 (cast_unsigned w128 (pos 0 -ℤ cast_signed w128 (cast_unsigned w128 im))) ≡ neg_ℤ im
negated im h k = omega (arith, ints)

-- A part load's contributions, and what it adds beside them, are the current that it draws and the row of its magnitude.
use Rattle.std.proofs.Common.{◌≡◌, ◌∙◌, ℕ, ◌*◌, ◌<◌, ◌≤◌, ◌^◌, ℤ, pos, neg_ℤ, ◌+ℤ◌, ◌-ℤ◌, ◌*ℤ◌, Option, Some, None, Bool, true, false, cond, eqb, List, [], ◌∷◌, ◌++◌, arith, ap, sym, refl, subst}
use Rattle.std.specs.List.{All, flat_map}
use Rattle.std.specs.Int.RustNames.{unsigned_abs}
use Rattle.std.proofs.Math.Nat.{mul-pos}
use Rattle.std.proofs.lemmas.Int.{ints, unsigned_abs-mul}
use Rattle.std.proofs.lemmas.List.{append-nil}
use Rattle.std.proofs.lemmas.List.Elements.{All-head, All-tail}
use Rattle.fd_arith.specs.fd_exact.Integers.{as_val, vals, val-same}
use Rattle.fd_arith.specs.fd_exact.Fractions.{Fraction, fraction, ◌⊕◌, ◌⊗◌, opposite, nothing, Same}
use Rattle.fd_arith.specs.fd_exact.FractionLaws.{nothing-pos, Same-times, nothing-plus, plus-nothing, Same-plus, Same-refl, Same-trans, Same-opposite}
use Rattle.fd_arith.specs.fd_exact.Sums.{sum_of}
use Rattle.fd_arith.specs.fd_exact.States.{State, part}
use Rattle.fd_arith.specs.declared.terms.NodeAt.{NodeAt}
use Rattle.fd_arith.specs.declared.terms.NodeAt.TheVariants.{Ground, Node}
use Rattle.fd_arith.specs.declared.terms.LoadModel.{LoadModel}
use Rattle.fd_arith.specs.declared.terms.LoadModel.TheVariants.{ConstantPower, ConstantImpedance, ConstantCurrent}
use Rattle.fd_arith.specs.LoadModels.{by_model, is_linear}
use Rattle.fd_system.specs.declared.loads.LoadPhase.{LoadPhase}
use Rattle.fd_system.specs.declared.loads.LoadAt.{LoadAt}
use Rattle.fd_system.specs.Complex.{Complex, complex, ◌⊟◌, ◌⊠◌, negative, SameComplex}
use Rattle.fd_system.specs.Contributions.{complex_terms, row_sum}
use Rattle.fd_system.specs.Equations.{unknown, both, side, seen, equation}
use Rattle.fd_system.specs.Loads.{FitsModel, re_of, im_of, magnitude_of, clamp, square_of, non_negative, constant_power, constant_impedance, constant_current, drawn, load_current, magnitude_row, magnitude_parts, load_parts, IsLoad, impedance_list}
use Rattle.fd_system.specs.System.{Represents, load_stamp, loads_stamp}
use Rattle.fd_system.proofs.ComplexRows.{complex_row, negative_complex, same_place, row-append, rewritten, single, difference_times, negative-minus, unknown-pos, IsWhole, SameComplex-sym, plus-pos, opposite-pos, side-pos}
use Rattle.fd_system.proofs.Joining.{beside_row, no_parts}

-- ---- constant impedance

zero_over : (d : ℕ) → 0 < d → Same nothing (fraction (pos 0) d)
unfolding nothing
zero_over d h = record { left = omega arith; right = h; cross = omega (arith, ints) }

re_same : (x : State) (c : NodeAt) → 0 < x.over → Same (unknown x c).re (fraction (re_of x c) x.over)
re_same x (Node k) h = Same-refl _ h
re_same x Ground h = zero_over x.over h

im_same : (x : State) (c : NodeAt) → 0 < x.over → Same (unknown x c).im (fraction (im_of x c) x.over)
im_same x (Node k) h = Same-refl _ h
im_same x Ground h = zero_over x.over h

minus_cross : (p q : ℤ) (d : ℕ) → (p *ℤ pos d +ℤ neg_ℤ q *ℤ pos d) *ℤ pos d ≡ (p -ℤ q) *ℤ pos (d * d)
minus_cross p q d = rw (as_val p, as_val q) (simp vals (val-same _ _ _ _ (omega arith)))

minus_same : (p q : ℤ) (d : ℕ) → 0 < d → Same (fraction p d ⊕ opposite (fraction q d)) (fraction (p -ℤ q) d)
unfolding ◌⊕◌ opposite
minus_same p q d h = record { left = mul-pos h h; right = h; cross = minus_cross p q d }

terminal_same : (x : State) (c e : NodeAt) → 0 < x.over
    → SameComplex (unknown x c ⊟ unknown x e) (complex (re_of x c -ℤ re_of x e) (im_of x c -ℤ im_of x e) x.over)
terminal_same x c e h = record {
  re = Same-trans (Same-plus (re_same x c h) (Same-opposite (re_same x e h))) (minus_same _ _ x.over h);
  im = Same-trans (Same-plus (im_same x c h) (Same-opposite (im_same x e h))) (minus_same _ _ x.over h);
}

times_same : (z u v : Complex) → IsWhole z → SameComplex u v → SameComplex (z ⊠ u) (z ⊠ v)
times_same z u v w s = record {
  re = Same-plus (Same-times (Same-refl z.re w.re) s.re) (Same-opposite (Same-times (Same-refl z.im w.im) s.im));
  im = Same-plus (Same-times (Same-refl z.re w.re) s.im) (Same-times (Same-refl z.im w.im) s.re);
}

re_cross : (a b p q : ℤ) (n d : ℕ)
    → ((a *ℤ p) *ℤ pos (n * d) +ℤ neg_ℤ (neg_ℤ b *ℤ q) *ℤ pos (n * d)) *ℤ pos (n * d) ≡ (a *ℤ p +ℤ b *ℤ q) *ℤ pos (n * d * (n * d))
re_cross a b p q n d = rw (as_val a, as_val b, as_val p, as_val q) (simp vals (val-same _ _ _ _ (omega arith)))

im_cross : (a b p q : ℤ) (n d : ℕ)
    → ((a *ℤ q) *ℤ pos (n * d) +ℤ (neg_ℤ b *ℤ p) *ℤ pos (n * d)) *ℤ pos (n * d) ≡ (neg_ℤ b *ℤ p +ℤ a *ℤ q) *ℤ pos (n * d * (n * d))
im_cross a b p q n d = rw (as_val a, as_val b, as_val p, as_val q) (simp vals (val-same _ _ _ _ (omega arith)))

admittance_times : (a b p q : ℤ) (n d : ℕ) → 0 < n → 0 < d
    → SameComplex (complex a (neg_ℤ b) n ⊠ complex p q d) (complex (a *ℤ p +ℤ b *ℤ q) (neg_ℤ b *ℤ p +ℤ a *ℤ q) (n * d))
unfolding ◌⊕◌ ◌⊗◌ opposite
admittance_times a b p q n d h o =
    let k = mul-pos h o in
    record {
      re = record { left = mul-pos k k; right = k; cross = re_cross a b p q n d };
      im = record { left = mul-pos k k; right = k; cross = im_cross a b p q n d };
    }

middle_of : {A : Type 0} (model : LoadModel) (f g h : A) → is_linear model ≡ true → by_model model f g h ≡ g
middle_of ConstantPower f g h e = absurd cc
middle_of ConstantImpedance f g h e = refl
middle_of ConstantCurrent f g h e = absurd cc

drawn_linear : (w : LoadPhase) (a b p q m : ℤ) (d : ℕ) → is_linear w.model ≡ true
    → drawn w a b p q m d ≡ constant_impedance a b (unsigned_abs w.vn) p q d
drawn_linear w a b p q m d e = middle_of w.model _ _ _ e

pub SameComplex-trans : {z w v : Complex} → SameComplex z w → SameComplex w v → SameComplex z v
SameComplex-trans h k = record { re = Same-trans h.re k.re; im = Same-trans h.im k.im }

pub SameComplex-negative : {z w : Complex} → SameComplex z w → SameComplex (negative z) (negative w)
SameComplex-negative h = record { re = Same-opposite h.re; im = Same-opposite h.im }

module _ (u : LoadAt) (e : is_linear u.load.model ≡ true) (vn : 0 < unsigned_abs u.load.vn) (x : State)
    (o : 0 < x.over) where
  square : unsigned_abs (u.load.vn *ℤ u.load.vn) ≡ unsigned_abs u.load.vn * unsigned_abs u.load.vn
  square = unsigned_abs-mul u.load.vn u.load.vn

  square_pos : 0 < unsigned_abs (u.load.vn *ℤ u.load.vn)
  square_pos = subst (λ s. 0 < s) (sym square) (mul-pos vn vn)

  abbrev admittance : Complex
  admittance = complex (pos (10 ^ 9) *ℤ u.load.p) (neg_ℤ (pos (10 ^ 9) *ℤ u.load.q)) (unsigned_abs (u.load.vn *ℤ u.load.vn))

  drawn_current : load_current u x
      ≡ complex (pos (10 ^ 9) *ℤ u.load.p *ℤ (re_of x u.first -ℤ re_of x u.second)
      +ℤ pos (10 ^ 9) *ℤ u.load.q *ℤ (im_of x u.first -ℤ im_of x u.second))
      (neg_ℤ (pos (10 ^ 9) *ℤ u.load.q) *ℤ (re_of x u.first -ℤ re_of x u.second)
      +ℤ pos (10 ^ 9) *ℤ u.load.p *ℤ (im_of x u.first -ℤ im_of x u.second))
      (unsigned_abs (u.load.vn *ℤ u.load.vn) * x.over)
  drawn_current =
      let p = re_of x u.first -ℤ re_of x u.second in
      let q = im_of x u.first -ℤ im_of x u.second in
      let m = magnitude_of x u.magnitude in
      let a = pos (10 ^ 9) *ℤ u.load.p in
      let b = pos (10 ^ 9) *ℤ u.load.q in
      let f = drawn_linear u.load a b p q m x.over e in
      let g = drawn_linear u.load (neg_ℤ b) a p q m x.over e in
      rw square (λ i. record { re = f i; im = g i })

  current_same : SameComplex (admittance ⊠ unknown x u.first ⊟ admittance ⊠ unknown x u.second) (load_current u x)
  current_same =
      let w : IsWhole admittance = record { re = square_pos; im = square_pos } in
      let f = SameComplex-sym (difference_times admittance (unknown x u.first) (unknown x u.second) w (unknown-pos x u.first o) (unknown-pos x u.second o)) in
      let g = times_same admittance _ _ w (terminal_same x u.first u.second o) in
      let h = admittance_times (pos (10 ^ 9) *ℤ u.load.p) (pos (10 ^ 9) *ℤ u.load.q)
      (re_of x u.first -ℤ re_of x u.second) (im_of x u.first -ℤ im_of x u.second) _ x.over square_pos o in
      subst (SameComplex (admittance ⊠ unknown x u.first ⊟ admittance ⊠ unknown x u.second)) (sym drawn_current) (SameComplex-trans f (SameComplex-trans g h))

  impedance_row : (l : ℕ)
      → Same (row_sum l (impedance_list u) x) (equation l (both u.first (load_current u x) ∷ both u.second (negative (load_current u x)) ∷ []))
  impedance_row l =
      let a = pos (10 ^ 9) *ℤ u.load.p in
      let b = pos (10 ^ 9) *ℤ u.load.q in
      let d = u.load.vn *ℤ u.load.vn in
      let v = unknown x u.first in
      let w = unknown x u.second in
      let one = rewritten _ l u.first _ (load_current u x) current_same
      (same_place (complex_terms u.first u.first a (neg_ℤ b) d)
      (complex_terms u.first u.second (neg_ℤ a) (neg_ℤ (neg_ℤ b)) d) x l u.first _ _
      (complex_row u.first u.first a (neg_ℤ b) d x l square_pos o)
      (negative_complex u.first u.second a (neg_ℤ b) d x l square_pos o)) in
      let two = same_place (complex_terms u.second u.first (neg_ℤ a) (neg_ℤ (neg_ℤ b)) d)
      (complex_terms u.second u.second a (neg_ℤ b) d) x l u.second _ _
      (negative_complex u.second u.first a (neg_ℤ b) d x l square_pos o)
      (complex_row u.second u.second a (neg_ℤ b) d x l square_pos o) in
      let back = sym (negative-minus (admittance ⊠ v) (admittance ⊠ w)) in
      let three = subst (λ z. Same (row_sum l (complex_terms u.second u.first (neg_ℤ a) (neg_ℤ (neg_ℤ b)) d
      ++ complex_terms u.second u.second a (neg_ℤ b) d) x) (side l u.second z)) back two in
      row-append _ _ x l _ _ one (single _ _ (rewritten _ l u.second _ (negative (load_current u x)) (SameComplex-negative current_same) three))

-- ---- positive denominators

clamp-pos : (u lo hi : ℕ) → 0 < lo → 0 < hi → 0 < clamp u lo hi
clamp-pos u lo hi h k = omega arith

drawn-pos : (w : LoadPhase) (a b p q m : ℤ) (d : ℕ) → 0 < unsigned_abs w.vn → 0 < unsigned_abs w.vlo
    → unsigned_abs w.vlo ≤ unsigned_abs w.vhi → 0 < d → 0 < (drawn w a b p q m d).over
drawn-pos w a b p q m d vn lo order o = in_each w.model
  where
    hi : 0 < unsigned_abs w.vhi
    hi = omega arith

    in_each : (model : LoadModel)
        → 0 < (by_model model (constant_power a b (unsigned_abs w.vlo * unsigned_abs w.vlo)
        (unsigned_abs w.vhi * unsigned_abs w.vhi) p q d) (constant_impedance a b (unsigned_abs w.vn) p q d)
        (constant_current a b (unsigned_abs w.vn) (unsigned_abs w.vlo) (unsigned_abs w.vhi) p q m d)).over
    in_each ConstantPower = clamp-pos (square_of p q) _ _ (mul-pos (mul-pos lo lo) (mul-pos o o)) (mul-pos (mul-pos hi hi) (mul-pos o o))
    in_each ConstantImpedance = mul-pos (mul-pos vn vn) o
    in_each ConstantCurrent = mul-pos vn (clamp-pos (non_negative m) _ _ (mul-pos lo o) (mul-pos hi o))

magnitude-pos : (u : LoadAt) (x : State) (l : ℕ) (m : Option ℕ) → 0 < unsigned_abs u.load.vn → 0 < x.over
    → 0 < (sum_of (seen l) (magnitude_parts u x m)).over
magnitude-pos u x l None h o = nothing-pos
magnitude-pos u x l (Some k) h o = plus-pos _ _ (by_test (eqb k l)) nothing-pos
  where
    by_test : (b : Bool)
        → 0 < (cond b (magnitude_row (unsigned_abs u.load.vn) (re_of x u.first -ℤ re_of x u.second)
        (im_of x u.first -ℤ im_of x u.second) (part x.parts k) x.over) nothing).over
    by_test true = mul-pos h (mul-pos o o)
    by_test false = nothing-pos

load_whole : (u : LoadAt) (x : State) → IsLoad u → 0 < x.over → IsWhole (load_current u x)
load_whole u x h o =
    let p = re_of x u.first -ℤ re_of x u.second in
    let q = im_of x u.first -ℤ im_of x u.second in
    let m = magnitude_of x u.magnitude in
    let a = pos (10 ^ 9) *ℤ u.load.p in
    let b = pos (10 ^ 9) *ℤ u.load.q in
    record { re = drawn-pos u.load a b p q m x.over h.vn h.low h.order o; im = drawn-pos u.load (neg_ℤ b) a p q m x.over h.vn h.low h.order o }

pub load-pos : (u : LoadAt) (x : State) (l : ℕ) → IsLoad u → 0 < x.over → 0 < (equation l (load_parts u x)).over
load-pos u x l h o =
    let c = load_whole u x h o in
    let n : IsWhole (negative (load_current u x)) = record { re = opposite-pos _ c.re; im = opposite-pos _ c.im } in
    plus-pos _ _ (side-pos l u.first (load_current u x) c)
    (plus-pos _ _ (side-pos l u.second (negative (load_current u x)) n) (magnitude-pos u x l u.magnitude h.vn o))

-- ---- a part load of any model

abbrev IsPlain : Option ℕ → Type 0
IsPlain None = Unit {0}
IsPlain (Some l) = ⊥

-- a constant impedance has no magnitude
plain : (model : LoadModel) (m : Option ℕ) → FitsModel model m → cond (is_linear model) (IsPlain m) (Unit {0})
plain ConstantPower m h = tt
plain ConstantImpedance None h = tt
plain ConstantImpedance (Some l) h = absurd cc
plain ConstantCurrent m h = tt

no_magnitude : (u : LoadAt) (x : State) (m : Option ℕ) → IsPlain m → magnitude_parts u x m ≡ []
no_magnitude u x None h = refl
no_magnitude u x (Some l) h = absurd h

-- what the stamp adds to a row, by whether the model is linear
abbrev stamped_row : (u : LoadAt) (x : State) (l : ℕ) (t : Bool) → Fraction
stamped_row u x l t = (nothing ⊕ row_sum l (cond t (impedance_list u) []) x) ⊕ equation l (cond t [] (load_parts u x) ++ [])

linear_row_of : (u : LoadAt) (x : State) (l : ℕ) → IsLoad u → 0 < x.over → is_linear u.load.model ≡ true
    → IsPlain u.magnitude → Same (stamped_row u x l true) (equation l (load_parts u x))
linear_row_of u x l h o e p =
    let r = impedance_row u e h.vn x o l in
    let q : equation l (load_parts u x)
    ≡ equation l (both u.first (load_current u x) ∷ both u.second (negative (load_current u x)) ∷ []) =
    ap (λ ps. equation l (both u.first (load_current u x) ∷ both u.second (negative (load_current u x)) ∷ ps))
    (no_magnitude u x u.magnitude p) in
    rw (q, plus-nothing (nothing ⊕ row_sum l (impedance_list u) x), nothing-plus (row_sum l (impedance_list u) x)) r

other_row_of : (u : LoadAt) (x : State) (l : ℕ) → IsLoad u → 0 < x.over
    → Same (stamped_row u x l false) (equation l (load_parts u x))
other_row_of u x l h o =
    let e : stamped_row u x l false ≡ equation l (load_parts u x) =
    ap (λ s. s ⊕ equation l (load_parts u x ++ [])) (nothing-plus nothing)
    ∙ nothing-plus _
    ∙ ap (equation l) (append-nil (load_parts u x)) in
    subst (λ s. Same s (equation l (load_parts u x))) (sym e) (Same-refl _ (load-pos u x l h o))

load_row : (u : LoadAt) (x : State) (l : ℕ) → IsLoad u → 0 < x.over → (t : Bool) → is_linear u.load.model ≡ t
    → cond t (IsPlain u.magnitude) (Unit {0}) → Same (stamped_row u x l t) (equation l (load_parts u x))
load_row u x l h o true e p = linear_row_of u x l h o e p
load_row u x l h o false e p = other_row_of u x l h o

pub load_represents : (u : LoadAt) → IsLoad u → Represents (load_stamp u) (load_parts u)
load_represents u h x o l = load_row u x l h o (is_linear u.load.model) refl (plain u.load.model u.magnitude h.model)

-- the part loads of an element
pub loads_represent : (us : List LoadAt) → All IsLoad us
    → Represents (loads_stamp us) (λ x. flat_map (λ u. load_parts u x) us)
loads_represent [] h = λ x o l. no_parts
loads_represent (u ∷ us) h = λ x o l. beside_row (load_stamp u) (loads_stamp us) x l (load_parts u x) (flat_map (λ d. load_parts d x) us)
    (load_represents u (All-head IsLoad u us h) x o l) (loads_represent us (All-tail IsLoad u us h) x o l)

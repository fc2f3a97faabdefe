-- The interval residual holds the residual, and the rows of a table of intervals are the interval residual.
use Rattle.std.proofs.Common.{◌≡◌, ◌∙◌, ℕ, ◌+◌, ◌*◌, ◌<◌, ◌≤◌, ◌^◌, ℤ, pos, neg_ℤ, ◌*ℤ◌, ◌≤ℤ◌, List, [], ◌∷◌, length, get_or, set, Some, None, Bool, true, false, max, arith, inl, inr, ap, sym, refl, subst, cond, eqb}
use Rattle.std.specs.Int.RustNames.{unsigned_abs}
use Rattle.std.specs.List.{fold, All}
use Rattle.std.proofs.lemmas.Int.{ints}
use Rattle.std.proofs.lemmas.Bool.{cases_eq, eq-eqb, ne_eqb}
use Rattle.std.proofs.lemmas.List.{get_or-set_same, get_or-set_other, length-set}
use Rattle.std.proofs.lemmas.List.Elements.{All-head, All-tail}
use Rattle.fd_arith.specs.fd_exact.Integers.{as_val, vals, val-same, neg-mul}
use Rattle.fd_arith.specs.fd_exact.Order.{scale}
use Rattle.fd_arith.specs.fd_exact.Fractions.{Fraction, fraction, SizeWithin, ◌⊕◌, ◌⊗◌, nothing, Same}
use Rattle.fd_arith.specs.fd_exact.FractionLaws.{plus-nothing, plus_assoc, nothing-plus}
use Rattle.fd_arith.specs.fd_exact.Sums.{sum_of}
use Rattle.fd_arith.specs.fd_exact.States.{part}
use Rattle.fd_arith.specs.Interval.{Bounds, Holds, capped, outward, sum}
use Rattle.fd_arith.specs.Enclosing.{sum-holds, Holds-same}
use Rattle.fd_arith.specs.Capping.{outward-holds, point-holds}
use Rattle.fd_arith.specs.Products.{product-holds}
use Rattle.fd_arith.specs.declared.terms.Term.{Term}
use Rattle.fd_arith.specs.declared.terms.NodeAt.TheVariants.{Ground, Node}
use Rattle.fd_system.specs.declared.constants.Constant.{Constant}
use Rattle.fd_system.specs.Contributions.{value_of, given, row_sum}
use Rattle.fd_system.specs.Equations.{Part, both, alone, seen, equation}
use Rattle.fd_system.specs.System.{StampView, constant_given, linear_of, nonlinear_of, residual_of}
use Rattle.fd_system.specs.Residual.{HasDen, HasParts, whole_state, term_interval, fraction_interval, with_constant, with_term, with_part, linear_interval, residual_interval, greater_size, constant_added, term_added}

-- ---- what an interval holds

term_same : (v n : ℤ) (d : ℕ) → 0 < d → Same (fraction v 1 ⊗ fraction n d) (fraction (n *ℤ v) (d * 1))
unfolding ◌⊗◌
term_same v n d h = record { left = omega arith; right = omega arith; cross = term_cross v n d }
  where
    term_cross : (v n : ℤ) (d : ℕ) → (v *ℤ n) *ℤ pos (d * 1) ≡ (n *ℤ v) *ℤ pos (1 * d)
    term_cross v n d = rw (as_val v, as_val n) (simp vals (val-same _ _ _ _ (omega arith)))

pub term-holds : (t : Term) (x : List ℤ) → 0 < unsigned_abs t.den
    → Holds (term_interval t x) (value_of t (whole_state x))
term-holds t x h =
    let v = part x t.col in
    let d = unsigned_abs t.den in
    let p = product-holds (capped v v) (outward (t.num *ℤ pos (2 ^ 40)) d) (fraction v 1) (fraction t.num d)
    (point-holds v) (outward-holds (t.num *ℤ pos (2 ^ 40)) d h) in
    Holds-same _ (fraction v 1 ⊗ fraction t.num d) (fraction (t.num *ℤ v) (d * 1)) (term_same v t.num d h) p

-- ---- the interval residual holds the residual

constant_step : (l : ℕ) (a : Bounds) (f : Fraction) (c : Constant) → Holds a f
    → Holds (with_constant l a c) (f ⊕ constant_given l c)
constant_step l a f c h = by_test (eqb c.row l)
  where
    by_test : (t : Bool) → Holds (cond t (sum a (capped c.value c.value)) a) (f ⊕ cond t (fraction c.value 1) nothing)
    by_test true = sum-holds a (capped c.value c.value) f (fraction c.value 1) h (point-holds c.value)
    by_test false = subst (Holds a) (sym (plus-nothing f)) h

constants_held : (l : ℕ) (a : Bounds) (f : Fraction) (cs : List Constant) → Holds a f
    → Holds (fold (with_constant l) a cs) (f ⊕ sum_of (constant_given l) cs)
constants_held l a f [] h = subst (Holds a) (sym (plus-nothing f)) h
constants_held l a f (c ∷ cs) h =
    subst (Holds (fold (with_constant l) (with_constant l a c) cs))
    (plus_assoc f (constant_given l c) (sum_of (constant_given l) cs))
    (constants_held l (with_constant l a c) (f ⊕ constant_given l c) cs (constant_step l a f c h))

term_step : (l : ℕ) (x : List ℤ) (a : Bounds) (f : Fraction) (t : Term) → HasDen t → Holds a f
    → Holds (with_term x l a t) (f ⊕ given l t (whole_state x))
term_step l x a f t d h = by_test (eqb t.row l)
  where
    by_test : (b : Bool)
        → Holds (cond b (sum a (term_interval t x)) a) (f ⊕ cond b (value_of t (whole_state x)) nothing)
    by_test true = sum-holds a (term_interval t x) f (value_of t (whole_state x)) h (term-holds t x d)
    by_test false = subst (Holds a) (sym (plus-nothing f)) h

terms_held : (l : ℕ) (x : List ℤ) (a : Bounds) (f : Fraction) (ts : List Term) → All HasDen ts → Holds a f
    → Holds (fold (with_term x l) a ts) (f ⊕ row_sum l ts (whole_state x))
terms_held l x a f [] d h = subst (Holds a) (sym (plus-nothing f)) h
terms_held l x a f (t ∷ ts) d h =
    subst (Holds (fold (with_term x l) (with_term x l a t) ts))
    (plus_assoc f (given l t (whole_state x)) (row_sum l ts (whole_state x)))
    (terms_held l x (with_term x l a t) (f ⊕ given l t (whole_state x)) ts (All-tail HasDen t ts d)
    (term_step l x a f t (All-head HasDen t ts d) h))

part_step : (l : ℕ) (a : Bounds) (f : Fraction) (p : Part) → 0 < (seen l p).over → Holds a f
    → Holds (with_part l a p) (f ⊕ seen l p)
part_step l a f (both Ground z) o h = subst (Holds a) (sym (plus-nothing f)) h
part_step l a f (both (Node r) z) o h = by_two (eqb (2 * r) l) (eqb (2 * r + 1) l) o
  where
    by_two : (b d : Bool) → 0 < (cond b z.re (cond d z.im nothing)).over
        → Holds (cond b (sum a (fraction_interval z.re)) (cond d (sum a (fraction_interval z.im)) a)) (f ⊕ cond b z.re (cond d z.im nothing))
    by_two true d k = sum-holds a (fraction_interval z.re) f z.re h (outward-holds z.re.top z.re.over k)
    by_two false true k = sum-holds a (fraction_interval z.im) f z.im h (outward-holds z.im.top z.im.over k)
    by_two false false k = subst (Holds a) (sym (plus-nothing f)) h
part_step l a f (alone m g) o h = by_test (eqb m l) o
  where
    by_test : (b : Bool) → 0 < (cond b g nothing).over
        → Holds (cond b (sum a (fraction_interval g)) a) (f ⊕ cond b g nothing)
    by_test true k = sum-holds a (fraction_interval g) f g h (outward-holds g.top g.over k)
    by_test false k = subst (Holds a) (sym (plus-nothing f)) h

parts_held : (l : ℕ) (a : Bounds) (f : Fraction) (ps : List Part) → HasParts l ps → Holds a f
    → Holds (fold (with_part l) a ps) (f ⊕ equation l ps)
parts_held l a f [] o h = subst (Holds a) (sym (plus-nothing f)) h
parts_held l a f (p ∷ ps) o h =
    subst (Holds (fold (with_part l) (with_part l a p) ps)) (plus_assoc f (seen l p) (equation l ps))
    (parts_held l (with_part l a p) (f ⊕ seen l p) ps (All-tail (λ q. 0 < (seen l q).over) p ps o)
    (part_step l a f p (All-head (λ q. 0 < (seen l q).over) p ps o) h))

zero_held : Holds (capped (pos 0) (pos 0)) nothing
unfolding nothing
zero_held = point-holds (pos 0)

pub linear_holds : (cs : List Constant) (ts : List Term) (x : List ℤ) (l : ℕ) → All HasDen ts
    → Holds (linear_interval cs ts x l) (linear_of cs ts (whole_state x) l)
linear_holds cs ts x l d =
    let c = subst (Holds (fold (with_constant l) (capped (pos 0) (pos 0)) cs))
    (nothing-plus (sum_of (constant_given l) cs)) (constants_held l (capped (pos 0) (pos 0)) nothing cs zero_held) in
    terms_held l x _ (sum_of (constant_given l) cs) ts d c

pub residual_holds : (s : StampView) (x : List ℤ) (l : ℕ) → All HasDen s.terms
    → HasParts l (nonlinear_of s.loads (whole_state x))
    → Holds (residual_interval s x l) (residual_of s (whole_state x) l)
residual_holds s x l d o =
    parts_held l _ (linear_of s.constants s.terms (whole_state x) l) (nonlinear_of s.loads (whole_state x)) o
    (linear_holds s.constants s.terms x l d)

-- ---- the mismatch

held_within : (lo hi t : ℤ) (d m : ℕ) → (lo *ℤ pos d) ≤ℤ t → t ≤ℤ (hi *ℤ pos d) → unsigned_abs lo ≤ m
    → unsigned_abs hi ≤ m → unsigned_abs t ≤ m * d
held_within lo hi t d m l h a b =
    let p = scale hi (pos m) d (omega (arith, ints)) in
    let q = scale (neg_ℤ (pos m)) lo d (omega (arith, ints)) in
    let r = neg-mul (pos m) (pos d) in
    omega (arith, ints)

pub mismatch_held : (row : Bounds) (lo hi : ℤ) (m : ℕ) → Some (lo, hi) ≡ row → unsigned_abs lo ≤ m → unsigned_abs hi ≤ m
    → (f : Fraction) → Holds row f → SizeWithin f m
mismatch_held row lo hi m e a b f h =
    let k : Holds (Some (lo, hi)) f = subst (λ r. Holds r f) (sym e) h in
    held_within lo hi f.top f.over m k.0 k.1 a b

pub greater_size_held : (row : Bounds) (m : ℤ) → Some m ≡ greater_size row → (f : Fraction) → Holds row f
    → SizeWithin f (unsigned_abs m)
greater_size_held None m e f h = absurd cc
greater_size_held (Some r) m e f h =
    let k : m ≡ pos (max (unsigned_abs r.0) (unsigned_abs r.1)) = cc in
    held_within r.0 r.1 f.top f.over (unsigned_abs m) h.0 h.1 (rw k (omega arith)) (rw k (omega arith))

-- ---- a table of intervals

-- row l takes the interval where it is the row of a contribution, and stays otherwise
row_set : (rows : List Bounds) (r l : ℕ) (v : Bounds) → l < length rows
    → get_or (set rows r (sum (get_or rows r None) v)) l None ≡ cond (eqb r l) (sum (get_or rows l None) v) (get_or rows l None)
row_set rows r l v h = elim (cases_eq r l) [
  | inl s ↦ subst (λ m. m < length rows
      → get_or (set rows r (sum (get_or rows r None) v)) m None
      ≡ cond (eqb r m) (sum (get_or rows m None) v) (get_or rows m None))
      s (λ q. rw (eq-eqb r r refl) (get_or-set_same rows r (sum (get_or rows r None) v) None q)) h
  | inr ne ↦ rw (ne_eqb r l ne) (get_or-set_other rows r l (sum (get_or rows r None) v) None (λ q. ne (sym q)))
]

pub length-constants : (rows : List Bounds) (cs : List Constant) → length (fold constant_added rows cs) ≡ length rows
length-constants rows [] = refl
length-constants rows (c ∷ cs) = length-constants (constant_added rows c) cs ∙ length-set rows c.row _

pub length-terms : (x : List ℤ) (rows : List Bounds) (ts : List Term)
    → length (fold (term_added x) rows ts) ≡ length rows
length-terms x rows [] = refl
length-terms x rows (t ∷ ts) = length-terms x (term_added x rows t) ts ∙ length-set rows t.row _

pub row-constants : (rows : List Bounds) (cs : List Constant) (l : ℕ) → l < length rows
    → get_or (fold constant_added rows cs) l None ≡ fold (with_constant l) (get_or rows l None) cs
row-constants rows [] l h = refl
row-constants rows (c ∷ cs) l h =
    row-constants (constant_added rows c) cs l (subst (λ n. l < n) (sym (length-set rows c.row (sum (get_or rows c.row None) (capped c.value c.value)))) h)
    ∙ ap (λ a. fold (with_constant l) a cs) (row_set rows c.row l (capped c.value c.value) h)

pub row-terms : (x : List ℤ) (rows : List Bounds) (ts : List Term) (l : ℕ) → l < length rows
    → get_or (fold (term_added x) rows ts) l None ≡ fold (with_term x l) (get_or rows l None) ts
row-terms x rows [] l h = refl
row-terms x rows (t ∷ ts) l h =
    row-terms x (term_added x rows t) ts l (subst (λ n. l < n) (sym (length-set rows t.row (sum (get_or rows t.row None) (term_interval t x)))) h)
    ∙ ap (λ a. fold (with_term x l) a ts) (row_set rows t.row l (term_interval t x) h)

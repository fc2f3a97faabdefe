-- The constants and contributions of a source are its equations.
use Rattle.std.proofs.Common.{◌≡◌, ◌∙◌, ℕ, zero, suc, ◌+◌, ◌*◌, ◌<◌, ◌≤◌, ◌^◌, ℤ, pos, negsuc, neg_ℤ, Bool, true, false, cond, List, [], ◌∷◌, ◌++◌, length, length-append, arith, ap, sym, refl, subst, lit<}
use Rattle.std.specs.List.{All}
use Rattle.std.proofs.lemmas.List.Elements.{All-append}
use Rattle.fd_system.specs.fd_exact.Fractions.{Fraction, ◌⊕◌, nothing, Same}
use Rattle.fd_system.specs.fd_exact.FractionLaws.{sum_of-append, Same-nothing, nothing-plus, plus-nothing, plus_assoc, plus_swap, Same-plus, Same-refl}
use Rattle.fd_system.specs.fd_exact.States.{State}
use Rattle.fd_system.specs.fd_exact.Sums.{sum_of}
use Rattle.fd_system.specs.fd_arith.declared.terms.Term.{Term}
use Rattle.fd_system.specs.fd_arith.declared.terms.NodeAt.{NodeAt}
use Rattle.fd_system.specs.fd_arith.declared.terms.Ends.{Ends}
use Rattle.fd_system.specs.declared.constants.Constant.{Constant}
use Rattle.fd_system.specs.Complex.{Complex, complex, ◌⊞◌, negative}
use Rattle.fd_system.specs.Contributions.{row_sum, complex_terms, concat_below, IsDivided}
use Rattle.fd_system.specs.Equations.{unknown, Part, side, equation}
use Rattle.fd_system.specs.System.{constant_given, linear_of, Represents}
use Rattle.fd_system.specs.Terminals.{branch_of, node_of}
use Rattle.fd_system.specs.Series.{drop_at, drop_list, drop_of}
use Rattle.fd_system.proofs.CallerLemmas.{same_place, row-append, row_sum-append, equation-append, minus_complex, single, side-plus, side-pos, apart, linear_row, complex_divided, concat_divided, drops_add, drops_divided, joined_few, concat_few, complex_few, real_few}
use Rattle.fd_source.specs.declared.data.SourceData.{SourceData}
use Rattle.fd_source.specs.Phasors.{volts_im, volts_re}
use Rattle.fd_source.specs.Equations.{constants_from, phase_constants, phase_list, reactance_of, resistance_of, stamp_from, source_constants, source_list, source_parts, source_phase}
use Rattle.fd_source.specs.Laws.{SourceLaw}

-- ---- constants of rows that follow one another

from-append : (row : ℕ) (xs ys : List ℤ)
    → constants_from row (xs ++ ys) ≡ constants_from row xs ++ constants_from (row + length xs) ys
from-append row [] ys = ap (λ r. constants_from r ys) (omega arith)
from-append row (x ∷ xs) ys =
    let e : row + 1 + length xs ≡ row + length (x ∷ xs) = omega arith in
    ap (λ t. record { row = row; value = x } ∷ t) (from-append (row + 1) xs ys ∙ ap (λ r. constants_from (row + 1) xs ++ constants_from r ys) e)

module _ (s : SourceData) (at : Ends) where
  -- those of phase k
  abbrev at_phase : ℕ → List Constant
  at_phase k = record { row = 2 * (at.branch + k); value = volts_re s k } ∷ record { row = 2 * (at.branch + k) + 1; value = volts_im s k } ∷ []

  concat_length : (n : ℕ) → length (concat_below (phase_constants s) n) ≡ 2 * n
  concat_length zero = refl
  concat_length (suc n) = length-append (concat_below (phase_constants s) n) (phase_constants s n) ∙ omega (arith, concat_length n)

  placed : (n : ℕ) → constants_from (2 * at.branch) (concat_below (phase_constants s) n) ≡ concat_below at_phase n
  placed zero = refl
  placed (suc n) =
      let e : 2 * at.branch + length (concat_below (phase_constants s) n) ≡ 2 * (at.branch + n) = omega (arith, concat_length n) in
      from-append (2 * at.branch) (concat_below (phase_constants s) n) (phase_constants s n) ∙ (λ i. placed n i ++ constants_from (e i) (phase_constants s n))

-- two constants are one complex number at a place
constant_by : (b d : Bool) (e f : Fraction) → (b ≡ true → d ≡ false)
    → cond b e nothing ⊕ (cond d f nothing ⊕ nothing) ≡ cond b e (cond d f nothing)
constant_by true d e f h = rw (h refl, nothing-plus nothing, plus-nothing e) refl
constant_by false d e f h = nothing-plus _ ∙ plus-nothing _

-- a constant beside what stands at its place
merged : (l : ℕ) (r : NodeAt) (e v w : Complex) (s : Fraction)
    → side l r e ⊕ (side l r (v ⊞ w) ⊕ s) ≡ side l r ((e ⊞ v) ⊞ w) ⊕ s
merged l r e v w s =
    let p = plus_assoc e.re v.re w.re in
    let q = plus_assoc e.im v.im w.im in
    sym (plus_assoc _ _ s) ∙ ap (λ t. t ⊕ s) (side-plus l r e (v ⊞ w) ∙ (λ i. side l r (record { re = sym p i; im = sym q i })))

phase_row : (s : SourceData) (at : Ends) (x : State) (o : 0 < x.over) (k l : ℕ)
    → Same (linear_of (at_phase s at k) (phase_list s at k) x l) (equation l (source_phase s at x k))
phase_row s at x o k l =
    let r = branch_of at.branch k in
    let p = node_of at.first k in
    let v = unknown x p in
    let i = unknown x r in
    let d = drop_of (resistance_of s) (reactance_of s) at.branch s.phases x k in
    let e = complex (volts_re s k) (volts_im s k) 1 in
    let drops = drops_add (resistance_of s) (reactance_of s) at.branch s.phases k x l o in
    let t = row-append _ _ x l _ _ (same_place _ _ x l r _ _ (minus_complex r p x l o) drops) (single _ _ (minus_complex p r x l o)) in
    let c : sum_of (constant_given l) (at_phase s at k) ≡ side l r e = constant_by _ _ _ _ (apart (at.branch + k) l) in
    let q = Same-plus (Same-refl (side l r e) (side-pos l r e (record { re = lit< tt; im = lit< tt }))) t in
    let u = subst (Same (side l r e ⊕ row_sum l (phase_list s at k) x)) (merged l r e (negative v) (negative d) (side l p (negative i) ⊕ nothing)) q in
    subst (λ f. Same (f ⊕ row_sum l (phase_list s at k) x) (equation l (source_phase s at x k))) (sym c) u

linear-append : (cs ds : List Constant) (ts us : List Term) (x : State) (l : ℕ)
    → linear_of (cs ++ ds) (ts ++ us) x l ≡ linear_of cs ts x l ⊕ linear_of ds us x l
linear-append cs ds ts us x l =
    let e = sum_of-append (constant_given l) cs ds in
    let f = row_sum-append l ts us x in
    (λ i. e i ⊕ f i) ∙ plus_swap _ _ _ _

concat_linear : (c : ℕ → List Constant) (t : ℕ → List Term) (p : ℕ → List Part) (x : State) (l n : ℕ)
    → ((m : ℕ) → Same (linear_of (c m) (t m) x l) (equation l (p m)))
    → Same (linear_of (concat_below c n) (concat_below t n) x l) (equation l (concat_below p n))
concat_linear c t p x l zero h = subst (λ s. Same s nothing) (sym (nothing-plus nothing)) Same-nothing
concat_linear c t p x l (suc n) h = rw (
  linear-append (concat_below c n) (c n) (concat_below t n) (t n) x l,
  equation-append l (concat_below p n) (p n),
) (Same-plus (concat_linear c t p x l n h) (h n))

source_represents : (s : SourceData) (at : Ends)
    → Represents (stamp_from at (source_constants s) (source_list s at)) (source_parts s at)
source_represents s at x o l =
    let r = concat_linear (at_phase s at) (phase_list s at) (source_phase s at x) x l s.phases (λ m. phase_row s at x o m l) in
    linear_row _ _ 0 x l (source_parts s at x)
    (subst (λ c. Same (linear_of c (source_list s at) x l) (equation l (source_parts s at x)))
    (sym (placed s at s.phases)) r)

-- ---- the denominators

phase_divided : (s : SourceData) (at : Ends) (k : ℕ) → All IsDivided (phase_list s at k)
phase_divided s at k =
    let r = branch_of at.branch k in
    let p = node_of at.first k in
    All-append IsDivided (complex_terms r p (negsuc 0) (pos 0) (pos 1) ++ drop_list (resistance_of s) (reactance_of s) at.branch s.phases k) _
    (All-append IsDivided (complex_terms r p (negsuc 0) (pos 0) (pos 1)) _ (whole r p) (drops_divided (resistance_of s) (reactance_of s) at.branch s.phases k))
    (whole p r)
  where
    whole : (r c : NodeAt) → All IsDivided (complex_terms r c (negsuc 0) (pos 0) (pos 1))
    whole r c = complex_divided (pos 1) (record { lt = tt }) (record { le = tt }) r c (negsuc 0) (pos 0)

source_divided : (s : SourceData) (at : Ends) → All IsDivided (source_list s at)
source_divided s at = concat_divided (phase_list s at) s.phases (phase_divided s at)

-- ---- their number

module _ (s : SourceData) (at : Ends) (h : s.phases ≤ 3) where
  phase_few : (k : ℕ) → length (phase_list s at k) ≤ 16
  phase_few k =
      let r = branch_of at.branch k in
      let p = node_of at.first k in
      let drops = concat_few 4 (drop_at (resistance_of s) (reactance_of s) at.branch k) s.phases
      (λ m. complex_few r (branch_of at.branch m) (neg_ℤ (resistance_of s k m)) (neg_ℤ (reactance_of s k m)) (pos (10 ^ 12))) in
      let all = joined_few (2 + s.phases * 4) 2 _ (complex_terms p r (negsuc 0) (pos 0) (pos 1))
      (joined_few 2 (s.phases * 4) (complex_terms r p (negsuc 0) (pos 0) (pos 1))
      (drop_list (resistance_of s) (reactance_of s) at.branch s.phases k) (real_few r p (negsuc 0) (pos 1)) drops)
      (real_few p r (negsuc 0) (pos 1)) in
      omega (arith, all)

  source_few : length (source_list s at) ≤ 16 * s.phases
  source_few = let all = concat_few 16 (phase_list s at) s.phases phase_few in omega (arith, all)

pub source_is : SourceLaw
source_is s at = record { represents = source_represents s at; divided = source_divided s at; few = source_few s at }

-- What part loads add to the intervals of the rows: the parts of the system, their width, and their positive denominators.
use Rattle.std.proofs.Common.{◌≡◌, ◌∙◌, ℕ, suc, ◌+◌, ◌*◌, ◌<◌, ◌≤◌, ◌^◌, ℤ, pos, neg_ℤ, nat_abs, Bool, true, false, cond, eqb, ◌&&◌, List, [], ◌∷◌, ◌++◌, length, take, get_or, Option, Some, None, arith, ap, sym, refl, subst, lit≤, append-nil}
use Rattle.std.specs.List.{fold, All}
use Rattle.std.proofs.lemmas.Grind.{flat_map-append}
use Rattle.std.proofs.lemmas.Int.{ints}
use Rattle.std.proofs.lemmas.List.{take_more}
use Rattle.std.proofs.lemmas.List.Elements.{All-append, All-cons, All-head, All-nil, All-tail}
use Rattle.std.proofs.lemmas.List.Sums.{fold-append}
use Rattle.fd_mat.specs.fd_exact.Fractions.{Fraction, opposite, nothing}
use Rattle.fd_mat.specs.fd_exact.FractionLaws.{nothing-pos}
use Rattle.fd_mat.specs.fd_exact.Quotients.{ceil-neg, floor-neg}
use Rattle.fd_mat.specs.fd_exact.Rounding.{ceil_div, floor_div, near_div}
use Rattle.fd_mat.specs.fd_exact.States.{State, part}
use Rattle.fd_pattern.specs.fd_arith.Capping.{fits-true, same_bool, true-fits}
use Rattle.fd_pattern.specs.fd_arith.Interval.{Bounds, capped, negation, outward, sum}
use Rattle.fd_pattern.specs.fd_arith.Limits.{fits}
use Rattle.fd_pattern.specs.fd_arith.declared.terms.NodeAt.{NodeAt}
use Rattle.fd_pattern.specs.fd_arith.declared.terms.NodeAt.TheVariants.{Ground, Node}
use Rattle.fd_pattern.specs.fd_load.Current.{AreVoltages, IsLoadPhase, divisor, excess, in_phase, quadrature}
use Rattle.fd_pattern.proofs.CallerLemmas.fd_load.{current_is, divisor-positive, magnitude_is}
use Rattle.fd_pattern.specs.fd_arith.LoadModels.{is_linear}
use Rattle.fd_pattern.specs.fd_system.declared.loads.LoadAt.{LoadAt}
use Rattle.fd_pattern.specs.fd_system.Complex.{Complex, negative}
use Rattle.fd_pattern.specs.fd_system.Equations.{alone, both, seen}
use Rattle.fd_pattern.specs.fd_system.Loads.{load_current, load_parts, magnitude_parts, magnitude_row, nonlinear_parts}
use Rattle.fd_pattern.specs.fd_system.Residual.{HasParts, fraction_interval, whole_state, with_part}
use Rattle.fd_pattern.specs.fd_system.System.{nonlinear_of}
use Rattle.fd_pattern.proofs.CallerLemmas.fd_system.{IsWhole, opposite-pos, side-pos}
use Rattle.fd_pattern.specs.Conditions.{IsPart}
use Rattle.fd_equations.specs.Enclosure.{with_current, with_drawn, with_magnitude}
use Rattle.fd_equations.specs.PartLoads.{current_count, current_counts}
use Rattle.fd_pattern.specs.Terminals.{IsConnected, count_magnitude, count_node, count_terminal, imaginary_of, magnitude_in, real_of}
use Rattle.fd_pattern.proofs.CallerLemmas.{excess_small, in_phase_small, quadrature_small}
use Rattle.fd_equations.proofs.LoadSums.{no_load, voltages}
use Rattle.fd_equations.proofs.Widths.{Narrow, narrow_outward, narrow_sum, wider}

-- ---- signs

fits_negative : (z : ℤ) → fits (neg_ℤ z) ≡ fits z
fits_negative z = same_bool (fits (neg_ℤ z)) (fits z)
    (λ e. let f = fits-true (neg_ℤ z) e in true-fits z (omega (arith, ints, f.0, f.1), omega (arith, ints, f.0, f.1)))
    (λ e. let f = fits-true z e in true-fits (neg_ℤ z) (omega (arith, ints, f.0, f.1), omega (arith, ints, f.0, f.1)))

capped_negative : (lo hi : ℤ) → capped (neg_ℤ hi) (neg_ℤ lo) ≡ negation (capped lo hi)
unfolding capped
capped_negative lo hi = (λ i. cond (fits_negative hi i && fits_negative lo i) (Some (neg_ℤ hi, neg_ℤ lo)) None) ∙ by_tests (fits lo) (fits hi)
  where
    by_tests : (a b : Bool) → cond (b && a) (Some (neg_ℤ hi, neg_ℤ lo)) None ≡ negation (cond (a && b) (Some (lo, hi)) None)
    by_tests true true = refl
    by_tests true false = refl
    by_tests false true = refl
    by_tests false false = refl

outward_negative : (z : ℤ) (d : ℕ) → outward (neg_ℤ z) d ≡ negation (outward z d)
outward_negative z d = (λ i. capped (floor-neg z d i) (ceil-neg z d i)) ∙ capped_negative (floor_div z d) (ceil_div z d)

opposite_interval : (f : Fraction) → fraction_interval (opposite f) ≡ negation (fraction_interval f)
unfolding opposite
opposite_interval f = outward_negative f.top f.over

-- ---- the parts of a part load

part_current : (l : ℕ) (a : Bounds) (node : NodeAt) (z : Complex)
    → with_part l a (both node z) ≡ with_current l a node (fraction_interval z.re) (fraction_interval z.im)
part_current l a Ground z = refl
part_current l a (Node k) z = refl

part_negative : (l : ℕ) (a : Bounds) (node : NodeAt) (z : Complex)
    → with_part l a (both node (negative z))
    ≡ with_current l a node (negation (fraction_interval z.re)) (negation (fraction_interval z.im))
part_negative l a node z = part_current l a node (negative z) ∙ (λ i. with_current l a node (opposite_interval z.re i) (opposite_interval z.im i))

magnitude_of_part : (l : ℕ) (a : Bounds) (u : LoadAt) (x : List ℤ) (place : Option ℕ) → u.magnitude ≡ place
    → fold (with_part l) a (magnitude_parts u (whole_state x) place)
    ≡ with_magnitude l a place
    (outward (excess (real_of x u) (imaginary_of x u) (magnitude_in x u)) (nat_abs u.load.vn))
magnitude_of_part l a u x None e = refl
magnitude_of_part l a u x (Some k) e =
    let m : part x k ≡ magnitude_in x u = ap (λ o. magnitude_here x o) (sym e) in
    ap (λ f. cond (eqb k l) (sum a (fraction_interval f)) a) (magnitude_is u.load (real_of x u) (imaginary_of x u) (part x k))
    ∙ ap (λ z. cond (eqb k l) (sum a (outward (excess (real_of x u) (imaginary_of x u) z) (nat_abs u.load.vn))) a) m
  where
    magnitude_here : List ℤ → Option ℕ → ℤ
    magnitude_here x None = pos 0
    magnitude_here x (Some k) = part x k

pub parts_are : (l : ℕ) (a : Bounds) (u : LoadAt) (x : List ℤ) → is_linear u.load.model ≡ false
    → with_drawn l a u (real_of x u) (imaginary_of x u) (magnitude_in x u)
    ≡ fold (with_part l) a (nonlinear_parts u (whole_state x))
unfolding with_drawn
parts_are l a u x ne =
    let w = u.load in
    let p = real_of x u in
    let q = imaginary_of x u in
    let m = magnitude_in x u in
    let c = load_current u (whole_state x) in
    let re : fraction_interval c.re ≡ outward (in_phase w p q) (divisor w p q m) = ap (λ z. fraction_interval z.re) (current_is u x) in
    let im : fraction_interval c.im ≡ outward (quadrature w p q) (divisor w p q m) = ap (λ z. fraction_interval z.im) (current_is u x) in
    let first = part_current l a u.first c ∙ (λ i. with_current l a u.first (re i) (im i)) in
    let second = part_negative l (with_part l a (both u.first c)) u.second c ∙ (λ i. with_current l (first i) u.second (negation (re i)) (negation (im i))) in
    sym (ap (λ b. fold (with_part l) a (cond b [] (load_parts u (whole_state x)))) ne
    ∙ magnitude_of_part l (with_part l (with_part l a (both u.first c)) (both u.second (negative c))) u x u.magnitude refl
    ∙ ap (λ b. with_magnitude l b u.magnitude (outward (excess p q m) (nat_abs w.vn))) second)

pub parts_none : (l : ℕ) (a : Bounds) (u : LoadAt) (s : State) → is_linear u.load.model ≡ true → a ≡ fold (with_part l) a (nonlinear_parts u s)
parts_none l a u s e = sym (ap (λ b. fold (with_part l) a (cond b [] (load_parts u s))) e)

pub drawn_some : (l : ℕ) (a : Bounds) (u : LoadAt) (p q m : ℤ) (place : ℕ) → u.magnitude ≡ Some place
    → with_magnitude l (with_current l (with_current l a u.first
    (outward (in_phase u.load p q) (divisor u.load p q m)) (outward (quadrature u.load p q) (divisor u.load p q m)))
    u.second (negation (outward (in_phase u.load p q) (divisor u.load p q m)))
    (negation (outward (quadrature u.load p q) (divisor u.load p q m))))
    (Some place) (outward (excess p q m) (nat_abs u.load.vn))
    ≡ with_drawn l a u p q m
unfolding with_drawn
drawn_some l a u p q m place e =
    ap (λ o.
    with_magnitude l (with_current l (with_current l a u.first (outward (in_phase u.load p q) (divisor u.load p q m))
    (outward (quadrature u.load p q) (divisor u.load p q m)))
    u.second (negation (outward (in_phase u.load p q) (divisor u.load p q m)))
    (negation (outward (quadrature u.load p q) (divisor u.load p q m))))
    o (outward (excess p q m) (nat_abs u.load.vn)))
    (sym e)

pub drawn_none : (l : ℕ) (a : Bounds) (u : LoadAt) (p q m : ℤ) → u.magnitude ≡ None
    → with_current l (with_current l a u.first (outward (in_phase u.load p q) (divisor u.load p q m))
    (outward (quadrature u.load p q) (divisor u.load p q m)))
    u.second (negation (outward (in_phase u.load p q) (divisor u.load p q m)))
    (negation (outward (quadrature u.load p q) (divisor u.load p q m)))
    ≡ with_drawn l a u p q m
unfolding with_drawn
drawn_none l a u p q m e =
    ap (λ o.
    with_magnitude l (with_current l (with_current l a u.first (outward (in_phase u.load p q) (divisor u.load p q m))
    (outward (quadrature u.load p q) (divisor u.load p q m)))
    u.second (negation (outward (in_phase u.load p q) (divisor u.load p q m)))
    (negation (outward (quadrature u.load p q) (divisor u.load p q m))))
    o (outward (excess p q m) (nat_abs u.load.vn)))
    (sym e)

-- ---- part loads so far

pub parts_more : (l : ℕ) (a : Bounds) (us : List LoadAt) (k : ℕ) (s : State) → k < length us
    → fold (with_part l) a (nonlinear_of (take (k + 1) us) s)
    ≡ fold (with_part l) (fold (with_part l) a (nonlinear_of (take k us) s)) (nonlinear_parts (get_or us k no_load) s)
parts_more l a us k s h =
    ap (λ vs. fold (with_part l) a (nonlinear_of vs s)) (take_more us k no_load h)
    ∙ ap (fold (with_part l) a) (flat_map-append (λ u. nonlinear_parts u s) (take k us) (get_or us k no_load ∷ [])
    ∙ ap (λ ps. nonlinear_of (take k us) s ++ ps) (append-nil (nonlinear_parts (get_or us k no_load) s)))
    ∙ fold-append (with_part l) a (nonlinear_of (take k us) s) (nonlinear_parts (get_or us k no_load) s)

-- ---- width

narrow_negation : (a : Bounds) (w m : ℕ) → Narrow a w m → Narrow (negation a) w m
narrow_negation a w m n = record {
  low = neg_ℤ n.high;
  high = neg_ℤ n.low;
  ends = ap negation n.ends;
  order = omega (arith, ints, n.order);
  apart = omega (arith, ints, n.apart);
  low_small = omega (arith, ints, n.high_small);
  high_small = omega (arith, ints, n.low_small);
}

narrow_current : (l : ℕ) (a : Bounds) (node : NodeAt) (re im : Bounds) (w m : ℕ) → m + 2 ^ 63 ≤ 2 ^ 120 → Narrow a w m
    → Narrow re 1 (2 ^ 63) → Narrow im 1 (2 ^ 63)
    → Narrow (with_current l a node re im) (w + count_node l node) (m + 2 ^ 63)
narrow_current l a Ground re im w m few n r i = wider a w (w + 0) m (m + 2 ^ 63) (omega arith) (omega arith) n
narrow_current l a (Node k) re im w m few n r i = by_two (eqb (2 * k) l) (eqb (2 * k + 1) l)
  where
    by_two : (b d : Bool) → Narrow (cond b (sum a re) (cond d (sum a im) a)) (w + (cond b 1 0 + cond d 1 0)) (m + 2 ^ 63)
    by_two true true = wider (sum a re) (w + 1) (w + (1 + 1)) (m + 2 ^ 63) (m + 2 ^ 63) (omega arith) (omega arith) (narrow_sum a re w 1 m (2 ^ 63) few n r)
    by_two true false = wider (sum a re) (w + 1) (w + (1 + 0)) (m + 2 ^ 63) (m + 2 ^ 63) (omega arith) (omega arith) (narrow_sum a re w 1 m (2 ^ 63) few n r)
    by_two false true = wider (sum a im) (w + 1) (w + (0 + 1)) (m + 2 ^ 63) (m + 2 ^ 63) (omega arith) (omega arith) (narrow_sum a im w 1 m (2 ^ 63) few n i)
    by_two false false = wider a w (w + (0 + 0)) m (m + 2 ^ 63) (omega arith) (omega arith) n

narrow_magnitude : (l : ℕ) (a : Bounds) (place : Option ℕ) (b : Bounds) (w m : ℕ) → m + 2 ^ 63 ≤ 2 ^ 120
    → Narrow a w m → Narrow b 1 (2 ^ 63)
    → Narrow (with_magnitude l a place b) (w + count_magnitude l place) (m + 2 ^ 63)
narrow_magnitude l a None b w m few n k = wider a w (w + 0) m (m + 2 ^ 63) (omega arith) (omega arith) n
narrow_magnitude l a (Some place) b w m few n k = by_test (eqb place l)
  where
    by_test : (t : Bool) → Narrow (cond t (sum a b) a) (w + cond t 1 0) (m + 2 ^ 63)
    by_test true = narrow_sum a b w 1 m (2 ^ 63) few n k
    by_test false = wider a w (w + 0) m (m + 2 ^ 63) (omega arith) (omega arith) n

narrow_quotient : (z : ℤ) (d : ℕ) → 0 < d → nat_abs (near_div z d) ≤ 2 ^ 62 → Narrow (outward z d) 1 (2 ^ 63)
narrow_quotient z d p h = wider (outward z d) 1 1 (2 ^ 62 + 1) (2 ^ 63) (omega arith) (lit≤ tt) (narrow_outward z d p (2 ^ 62) (lit≤ tt) h)

narrow_drawn : (l : ℕ) (a : Bounds) (u : LoadAt) (p q m : ℤ) (w s : ℕ) → IsLoadPhase u.load → AreVoltages p q m
    → s + 3 * 2 ^ 63 ≤ 2 ^ 120 → Narrow a w s
    → Narrow (with_drawn l a u p q m) (w + count_terminal l u) (s + 3 * 2 ^ 63)
unfolding with_drawn count_terminal
narrow_drawn l a u p q m w s h v few n =
    let d = divisor u.load p q m in
    let positive = divisor-positive u.load p q m h in
    let vn : 0 < nat_abs u.load.vn = omega (arith, ints, h.nominal_least) in
    let re = narrow_quotient (in_phase u.load p q) d positive (in_phase_small u.load p q m h v) in
    let im = narrow_quotient (quadrature u.load p q) d positive (quadrature_small u.load p q m h v) in
    let row = narrow_quotient (excess p q m) (nat_abs u.load.vn) vn (excess_small u.load p q m h v) in
    let first = narrow_current l a u.first (outward (in_phase u.load p q) d) (outward (quadrature u.load p q) d) w s (omega arith) n re im in
    let second =
    narrow_current l (with_current l a u.first (outward (in_phase u.load p q) d) (outward (quadrature u.load p q) d))
    u.second (negation (outward (in_phase u.load p q) d)) (negation (outward (quadrature u.load p q) d))
    (w + count_node l u.first) (s + 2 ^ 63) (omega arith) first
    (narrow_negation (outward (in_phase u.load p q) d) 1 (2 ^ 63) re)
    (narrow_negation (outward (quadrature u.load p q) d) 1 (2 ^ 63) im) in
    let third = narrow_magnitude l
    (with_current l (with_current l a u.first (outward (in_phase u.load p q) d) (outward (quadrature u.load p q) d))
    u.second (negation (outward (in_phase u.load p q) d)) (negation (outward (quadrature u.load p q) d)))
    u.magnitude (outward (excess p q m) (nat_abs u.load.vn)) (w + count_node l u.first + count_node l u.second)
    (s + 2 ^ 63 + 2 ^ 63) (omega arith) second row in
    wider _ (w + count_node l u.first + count_node l u.second + count_magnitude l u.magnitude)
    (w + ((count_node l u.first + count_node l u.second) + count_magnitude l u.magnitude))
    (s + 2 ^ 63 + 2 ^ 63 + 2 ^ 63) (s + 3 * 2 ^ 63) (omega arith) (omega arith) third

narrow_load : (l : ℕ) (a : Bounds) (u : LoadAt) (x : List ℤ) (w s : ℕ) → All IsPart x → IsConnected (length x) u
    → s + 3 * 2 ^ 63 ≤ 2 ^ 120 → Narrow a w s
    → Narrow (fold (with_part l) a (nonlinear_parts u (whole_state x))) (w + current_count l u) (s + 3 * 2 ^ 63)
unfolding current_count
narrow_load l a u x w s parts h few n = by_model (is_linear u.load.model) refl
  where
    by_model : (b : Bool) → is_linear u.load.model ≡ b
        → Narrow (fold (with_part l) a (cond b [] (load_parts u (whole_state x)))) (w + cond b 0 (count_terminal l u))
        (s + 3 * 2 ^ 63)
    by_model true e = wider a w (w + 0) s (s + 3 * 2 ^ 63) (omega arith) (omega arith) n
    by_model false e =
        let is : with_drawn l a u (real_of x u) (imaginary_of x u) (magnitude_in x u)
        ≡ fold (with_part l) a (load_parts u (whole_state x)) =
        parts_are l a u x e ∙ ap (λ b. fold (with_part l) a (cond b [] (load_parts u (whole_state x)))) e in
        subst (λ b. Narrow b (w + count_terminal l u) (s + 3 * 2 ^ 63)) is
        (narrow_drawn l a u (real_of x u) (imaginary_of x u) (magnitude_in x u) w s h.phase (voltages x parts u h) few
        n)

pub narrow_loads : (l : ℕ) (a : Bounds) (us : List LoadAt) (x : List ℤ) (w s : ℕ) → All IsPart x
    → All (IsConnected (length x)) us → s + length us * (3 * 2 ^ 63) ≤ 2 ^ 120 → Narrow a w s
    → Narrow (fold (with_part l) a (nonlinear_of us (whole_state x))) (w + current_counts us l)
    (s + length us * (3 * 2 ^ 63))
narrow_loads l a [] x w s parts h few n = wider a w (w + 0) s (s + 0 * (3 * 2 ^ 63)) (omega arith) (omega arith) n
narrow_loads l a (u ∷ us) x w s parts h few n =
    let one = narrow_load l a u x w s parts (All-head (IsConnected (length x)) u us h) (omega arith) n in
    let all = narrow_loads l (fold (with_part l) a (nonlinear_parts u (whole_state x))) us x (w + current_count l u)
    (s + 3 * 2 ^ 63) parts (All-tail (IsConnected (length x)) u us h) (omega arith) one in
    subst (λ b. Narrow b (w + (current_count l u + current_counts us l)) (s + suc (length us) * (3 * 2 ^ 63)))
    (sym (fold-append (with_part l) a (nonlinear_parts u (whole_state x)) (nonlinear_of us (whole_state x))))
    (wider _ (w + current_count l u + current_counts us l) (w + (current_count l u + current_counts us l))
    (s + 3 * 2 ^ 63 + length us * (3 * 2 ^ 63)) (s + suc (length us) * (3 * 2 ^ 63)) (omega arith) (omega arith) all)

-- ---- denominators

alone_positive : (l m : ℕ) (f : Fraction) → 0 < f.over → 0 < (seen l (alone m f)).over
alone_positive l m f h = by_test (eqb m l)
  where
    by_test : (b : Bool) → 0 < (cond b f nothing).over
    by_test true = h
    by_test false = nothing-pos

magnitude_positive : (l : ℕ) (u : LoadAt) (x : List ℤ) (place : Option ℕ) → 0 < nat_abs u.load.vn → HasParts l (magnitude_parts u (whole_state x) place)
magnitude_positive l u x None h = All-nil (λ q. 0 < (seen l q).over)
magnitude_positive l u x (Some k) h =
    let f = magnitude_row (nat_abs u.load.vn) (real_of x u) (imaginary_of x u) (part x k) 1 in
    All-cons (λ q. 0 < (seen l q).over) (alone k f) [] (alone_positive l k f (omega arith)) (All-nil (λ q. 0 < (seen l q).over))

load_positive : (l : ℕ) (u : LoadAt) (x : List ℤ) → IsLoadPhase u.load → HasParts l (nonlinear_parts u (whole_state x))
load_positive l u x h = by_model (is_linear u.load.model)
  where
    current : IsWhole (load_current u (whole_state x))
    current =
        let d = divisor-positive u.load (real_of x u) (imaginary_of x u) (magnitude_in x u) h in
        subst IsWhole (sym (current_is u x)) (record { re = d; im = d })

    back : IsWhole (negative (load_current u (whole_state x)))
    back = record { re = opposite-pos (load_current u (whole_state x)).re current.re; im = opposite-pos (load_current u (whole_state x)).im current.im }

    vn : 0 < nat_abs u.load.vn
    vn = omega (arith, ints, h.nominal_least)

    by_model : (b : Bool) → HasParts l (cond b [] (load_parts u (whole_state x)))
    by_model true = All-nil (λ q. 0 < (seen l q).over)
    by_model false =
        let c = load_current u (whole_state x) in
        All-cons (λ q. 0 < (seen l q).over) (both u.first c)
        (both u.second (negative c) ∷ magnitude_parts u (whole_state x) u.magnitude) (side-pos l u.first c current)
        (All-cons (λ q. 0 < (seen l q).over) (both u.second (negative c))
        (magnitude_parts u (whole_state x) u.magnitude) (side-pos l u.second (negative c) back)
        (magnitude_positive l u x u.magnitude vn))

pub loads_positive : (l : ℕ) (us : List LoadAt) (x : List ℤ) → All (IsConnected (length x)) us → HasParts l (nonlinear_of us (whole_state x))
loads_positive l [] x h = All-nil (λ q. 0 < (seen l q).over)
loads_positive l (u ∷ us) x h = All-append (λ q. 0 < (seen l q).over) (nonlinear_parts u (whole_state x)) (nonlinear_of us (whole_state x))
    (load_positive l u x (All-head (IsConnected (length x)) u us h).phase) (loads_positive l us x (All-tail (IsConnected (length x)) u us h))

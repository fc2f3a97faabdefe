-- No Line and no Transformer is taken twice: the order has at most as many numbers as there are elements.
use Rattle.std.proofs.Common.{◌≡◌, ℕ, zero, suc, ◌+◌, ◌≤◌, Bool, true, false, cond, [], ◌∷◌, List, length, length-append, ◌⊎◌, inl, inr, ap, subst, arith}
use Rattle.dss_layout.specs.dss_model.declared.element.Element.{Element}
use Rattle.dss_layout.specs.dss_model.declared.element.Element.TheVariants as the
use Rattle.dss_circuit.specs.Circuit.{Elements}
use Rattle.fd_ladder.specs.declared.section.Section.{Section}
use Rattle.fd_ladder.specs.Sections.{sections_at, sections_from, source_nodes}
use Rattle.fd_ladder.specs.Radial.{Reach, is_next, order_of, pass, passes, reach_all, reach_at, reach_of, taken, with_taken}
use Rattle.fd_ladder.proofs.Settled.{count_kept, done_count, done_most, first_time, is_done, one, one_kept, pass_keeps, taken_keeps}

-- one that is looked at gives the order at most one number
one_more : (s : Section) (r : Reach) → length (taken s r).order ≤ length r.order + 1
one_more s r = by (is_next r s)
  where
    by : (b : Bool) → length (cond b (with_taken r s) r).order ≤ length r.order + 1
    by true = omega (arith, length-append r.order (s.element ∷ []))
    by false = omega arith

-- the order gets no more numbers than there are sections that weren't taken and are
pass_adds : (sections : List Section) (r : Reach)
    → length (pass sections r).order + done_count sections r ≤ length r.order + done_count sections (pass sections r)
pass_adds [] r = omega arith
pass_adds (s ∷ sections) r = by (first_time s r) (pass_adds sections (taken s r))
  where
    u : Reach
    u = taken s r

    t : Reach
    t = pass sections u

    kept : one (is_done s r) ≤ one (is_done s t)
    kept = one_kept (is_done s r) (is_done s t) (λ h. pass_keeps sections u s.element (taken_keeps s r s.element h))

    by : (u ≡ r) ⊎ ((is_done s r ≡ false) × (is_done s u ≡ true))
        → length t.order + done_count sections u ≤ length u.order + done_count sections t
        → length t.order + (one (is_done s r) + done_count sections r) ≤ length r.order + (one (is_done s t) + done_count sections t)
    by (inl same) h =
        let rest : length t.order + done_count sections r ≤ length r.order + done_count sections t =
        subst (λ (x : Reach). length t.order + done_count sections x ≤ length x.order + done_count sections t) same h in
        omega (arith, rest, kept)
    by (inr f) h =
        let before : one (is_done s r) ≡ 0 = ap one f.0 in
        let after : one (is_done s t) ≡ 1 = ap one (pass_keeps sections u s.element f.1) in
        omega (arith, h, before, after, one_more s r, count_kept sections r u (taken_keeps s r))

passes_add : (n : ℕ) (sections : List Section) (r : Reach)
    → length (passes n sections r).order + done_count sections r ≤ length r.order + done_count sections (passes n sections r)
passes_add zero sections r = omega arith
passes_add (suc n) sections r = omega (arith, pass_adds sections r, passes_add n sections (pass sections r))

-- an element is at most one section
at_most_one : (number : ℕ) (e : Element) → length (sections_at number e) ≤ 1
at_most_one number (the.Vsource v) = omega arith
at_most_one number (the.Linecode l) = omega arith
at_most_one number (the.Line l) = omega arith
at_most_one number (the.Transformer t) = omega arith
at_most_one number (the.Capacitor c) = omega arith
at_most_one number (the.Load l) = omega arith
at_most_one number (the.RegControl c) = omega arith
at_most_one number (the.CapControl c) = omega arith
at_most_one number (the.Loadshape s) = omega arith

few_sections : (number : ℕ) (es : Elements) → length (sections_from number es) ≤ length es
few_sections number [] = omega arith
few_sections number (e ∷ es) =
    omega (arith, length-append (sections_at number e.1) (sections_from (suc number) es), at_most_one number e.1, few_sections (suc number) es)

pub few_taken : (es : Elements) → length (order_of es) ≤ length es
unfolding reach_of
few_taken es =
    let sections = sections_from 0 es in
    let start = reach_at (reach_all [] (source_nodes es)) [] in
    omega (arith, passes_add (length sections) sections start, done_most sections (passes (length sections) sections start), few_sections 0 es)

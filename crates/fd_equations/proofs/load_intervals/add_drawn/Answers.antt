use Rattle.std.proofs.Common.{◌∙◌, ◌<◌, nat_abs, cond, eqb, get_or, None, ap, sym, subst, arith}
use Rattle.fd_pattern.specs.fd_arith.Interval.{negation, outward, sum}
use Rattle.fd_pattern.specs.fd_load.Current.{divisor, excess, in_phase, quadrature}
use Rattle.fd_equations.specs.Enclosure.{with_current}
use Rattle.fd_equations.proofs.DrawnIntervals.{drawn_none, drawn_some}
use Rattle.fd_equations.proofs.Sizes.{kept_by}
use Rattle.fd_equations.proofs.load_intervals.add_drawn.Goals as goal

pub returns-in_default : goal.returns-in_default
returns-in_default c = λ l h.
    let u = c.args.load.now in
    let at = c.args.at in
    let v = c.requires.voltages in
    let p = kept_by at.re (omega (arith, v.re)) in
    let q = kept_by at.im (omega (arith, v.im)) in
    let m = kept_by at.magnitude (omega (arith, v.magnitude)) in
    let re = c.current-current.ensures.real ∙ (λ i. outward (in_phase u.load (p i) (q i)) (divisor u.load (p i) (q i) (m i))) in
    let im = c.current-current.ensures.imaginary ∙ (λ i. outward (quadrature u.load (p i) (q i)) (divisor u.load (p i) (q i) (m i))) in
    let first = c.add_current.ensures l h ∙ (λ i. with_current l (get_or c.args.rows.now l None) u.first (re i) (im i)) in
    let second = c.add_current-2.ensures l (subst (λ n. l < n) (sym c.add_current.auto.rows) h)
    ∙ (λ i. with_current l (first i) u.second ((c.neg.ensures.ends ∙ ap negation re) i)
    ((c.neg-2.ensures.ends ∙ ap negation im) i)) in
    second ∙ drawn_none l (get_or c.args.rows.now l None) u at.re at.im at.magnitude c.in_default.is

pub returns-in-Some : goal.returns-in-Some
returns-in-Some c = λ l h.
    let u = c.args.load.now in
    let at = c.args.at in
    let v = c.requires.voltages in
    let p = kept_by at.re (omega (arith, v.re)) in
    let q = kept_by at.im (omega (arith, v.im)) in
    let m = kept_by at.magnitude (omega (arith, v.magnitude)) in
    let re = c.current-current.ensures.real ∙ (λ i. outward (in_phase u.load (p i) (q i)) (divisor u.load (p i) (q i) (m i))) in
    let im = c.current-current.ensures.imaginary ∙ (λ i. outward (quadrature u.load (p i) (q i)) (divisor u.load (p i) (q i) (m i))) in
    let first = c.add_current.ensures l h ∙ (λ i. with_current l (get_or c.args.rows.now l None) u.first (re i) (im i)) in
    let second = c.add_current-2.ensures l (subst (λ n. l < n) (sym c.add_current.auto.rows) h)
    ∙ (λ i. with_current l (first i) u.second ((c.neg.ensures.ends ∙ ap negation re) i)
    ((c.neg-2.ensures.ends ∙ ap negation im) i)) in
    let row = c.magnitude_row-row.ensures.value ∙ (λ i. outward (excess (p i) (q i) (m i)) (nat_abs u.load.vn)) in
    c.add_interval.ensures l (subst (λ n. l < n) (sym (c.add_current-2.auto.rows ∙ c.add_current.auto.rows)) h)
    ∙ (λ i. cond (eqb c.in-Some.place l) (sum (second i) (row i)) (second i))
    ∙ drawn_some l (get_or c.args.rows.now l None) u at.re at.im at.magnitude c.in-Some.place c.in-Some.is

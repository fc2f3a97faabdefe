use Rattle.std.proofs.Common.{◌∙◌, ◌+ℤ◌, nat_abs, ap, sym, arith}
use Rattle.fd_mat.specs.fd_exact.Rounding.{near_div}
use Rattle.fd_mat.specs.fd_exact.States.{part}
use Rattle.fd_pattern.specs.fd_load.Current.{divisor, excess, in_phase, quadrature}
use Rattle.fd_pattern.specs.Terminals.{at_terminal}
use Rattle.fd_equations.proofs.AtTerminals.{added_none}
use Rattle.fd_equations.proofs.LoadSums.{row_linear, row_other}
use Rattle.fd_equations.proofs.Sizes.{kept_by}
use Rattle.fd_equations.proofs.load_rows.add_load.Goals as goal

pub returns-then-not-is_linear : goal.returns-then-not-is_linear
returns-then-not-is_linear c = λ l.
    let v = c.voltage_of.ensures in
    let d = c.draw-drawn.ensures in
    let u = c.args.load.now in
    let p = v.re in
    let q = v.im in
    let m = v.magnitude in
    let re = kept_by c.draw-drawn.result.re (omega (arith, d.re_small)) ∙ d.re
    ∙ (λ i. near_div (in_phase u.load (p i) (q i)) (divisor u.load (p i) (q i) (m i))) in
    let im = kept_by c.draw-drawn.result.im (omega (arith, d.im_small)) ∙ d.im
    ∙ (λ i. near_div (quadrature u.load (p i) (q i)) (divisor u.load (p i) (q i) (m i))) in
    let magnitude = kept_by c.draw-drawn.result.magnitude (omega (arith, d.magnitude_small)) ∙ d.magnitude
    ∙ (λ i. near_div (excess (p i) (q i) (m i)) (nat_abs u.load.vn)) in
    c.add_terminal.ensures l ∙ (λ i. part c.args.rows.now l +ℤ at_terminal l u (re i) (im i) (magnitude i))
    ∙ ap (λ z. part c.args.rows.now l +ℤ z) (sym (row_other c.args.x.now l u (sym c.is_linear.ensures ∙ c.if-not-is_linear.true)))

pub returns-else-not-is_linear : goal.returns-else-not-is_linear
returns-else-not-is_linear c = λ l. added_none (part c.args.rows.now l)
    ∙ ap (λ z. part c.args.rows.now l +ℤ z) (sym (row_linear c.args.x.now l c.args.load.now (sym c.is_linear.ensures ∙ c.if-not-is_linear.false)))

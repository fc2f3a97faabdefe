use Rattle.std.proofs.Common.{◌∙◌, sym, get_or, None}
use Rattle.fd_pattern.specs.fd_system.Residual.{whole_state}
use Rattle.fd_equations.specs.Enclosure.{with_drawn}
use Rattle.fd_equations.proofs.DrawnIntervals.{parts_are, parts_none}
use Rattle.fd_equations.proofs.load_intervals.add_load.Goals as goal

pub returns-then-not-is_linear : goal.returns-then-not-is_linear
returns-then-not-is_linear c = λ l h.
    let v = c.voltage_of.ensures in
    let u = c.args.load.now in
    let a = get_or c.args.rows.now l None in
    c.add_drawn.ensures l h ∙ (λ i. with_drawn l a u (v.re i) (v.im i) (v.magnitude i))
    ∙ parts_are l a u c.args.x.now (sym c.is_linear.ensures ∙ c.if-not-is_linear.true)

pub returns-else-not-is_linear : goal.returns-else-not-is_linear
returns-else-not-is_linear c = λ l h.
    parts_none l (get_or c.args.rows.now l None) c.args.load.now (whole_state c.args.x.now)
    (sym c.is_linear.ensures ∙ c.if-not-is_linear.false)

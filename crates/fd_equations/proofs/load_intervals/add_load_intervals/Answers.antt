use Rattle.std.proofs.Common.{◌∙◌, ◌<◌, get_or, None, ap, sym, subst}
use Rattle.std.specs.List.{fold}
use Rattle.fd_pattern.specs.fd_system.Loads.{nonlinear_parts}
use Rattle.fd_pattern.specs.fd_system.Residual.{whole_state, with_part}
use Rattle.fd_equations.proofs.DrawnIntervals.{parts_more}
use Rattle.fd_equations.proofs.LoadSums.{no_load}
use Rattle.fd_equations.proofs.load_intervals.add_load_intervals.Goals as goal

pub loop-load-preserved : goal.loop-load-preserved
loop-load-preserved c = λ row h.
    let us = c.args.loads.now in
    let k = c.loop-load.load-index in
    let s = whole_state c.args.x.now in
    c.add_load.ensures row (subst (λ n. row < n) (sym c.loop-load.auto.rows) h)
    ∙ ap (λ a. fold (with_part row) a (nonlinear_parts (get_or us k no_load) s)) (c.loop-load.invariant row h)
    ∙ sym (parts_more row (get_or c.args.rows.now row None) us k s c.loop-load-test.true)

use Rattle.std.proofs.Common.{length, refl, subst, sym}
use Rattle.fd_triangles.specs.Factors.{Running}
use Rattle.fd_triangles.proofs.Starting.{factors_done, running_start}
use Rattle.fd_triangles.proofs.elimination.factors_noted.Goals as goal

pub returns-in-Ok : goal.returns-in-Ok
returns-in-Ok c =
    let es = c.args.equations.now in
    let order = c.args.order.now in
    let columns = c.first_rows.new.columns in
    let work = c.in_ok-work.work.items in
    let start = subst (λ w. Running es order 0 w columns c.in_ok-done.done.items) (sym c.deref_mut.ensures.value)
    (subst (Running es order 0 work columns) (sym c.in_ok-done.ensures.items) (running_start es order work columns c.in_ok-work.ensures)) in
    factors_done es order c.eliminate_all.new.work c.eliminate_all.new.columns c.eliminate_all.new.done.items (length order) refl
    (c.in-Ok.ensures es start)

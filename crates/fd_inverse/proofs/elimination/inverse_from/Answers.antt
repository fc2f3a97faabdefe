use Rattle.std.proofs.Common.{◌≡◌, sym, subst, Err}
use Rattle.fd_arith.specs.fd_exact.States.{entry}
use Rattle.fd_inverse.specs.Elimination.{after_columns}
use Rattle.fd_inverse.specs.Faults.{IfNoInverse}
use Rattle.fd_inverse.specs.Running.{Running}
use Rattle.fd_inverse.proofs.InverseRows.{none_of, whole_at}
use Rattle.fd_inverse.proofs.elimination.inverse_from.Goals as goal

pub returns-in-Err : goal.returns-in-Err
returns-in-Err c = λ rows long start.
    none_of rows c.in-Err.fault (subst (λ n. IfNoInverse c.in-Err.fault (λ e. after_columns (entry rows) n n ≡ Err e)) (sym long)
    (c.in-Err.ensures.taken (entry rows) start))

pub returns-in-Ok : goal.returns-in-Ok
returns-in-Ok c = λ rows long start.
    let r = c.in-Ok.ensures.taken (entry rows) start in
    let e = whole_at rows c.args.n c.in-Ok.done.cells.items r.0 c.in-Ok.done.pivots.items (sym long)
    (subst (λ n. Running (entry rows) n n c.in-Ok.done.cells.items r.0 c.in-Ok.done.pivots.items) (sym long) r.1) in
    simp e c.make_inverse.ensures

use Rattle.fd_solving.proofs.step.after_apply.Goals as goal

pub returns-in-Solve-clause-left : goal.returns-in-Solve-clause-left
returns-in-Solve-clause-left c = rw c.in-Solve.is c.test.ensures

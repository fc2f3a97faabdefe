use Rattle.std.proofs.lemmas.Result.{IfOk-weaker}
use Rattle.fd_solving.proofs.faults.failure_of.Goals as goal

pub returns-in-Solver-clause-tells : goal.returns-in-Solver-clause-tells
returns-in-Solver-clause-tells c hour =
    rw c.in-Solver.is (IfOk-weaker c.uncomputed.result _ _ (λ x told n counted tried. told n tried)
    (c.uncomputed.ensures.tells c.args.circuit.now hour c.requires.layout))

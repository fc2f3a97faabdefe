use Rattle.dss_ready.proofs.Answering.{own_refusal}
use Rattle.dss_ready.proofs.answer.ready.Goals as goal

pub returns-in-Err : goal.returns-in-Err
returns-in-Err c = own_refusal c.args.circuit.now c.in-Err.fault c.in-Err.ensures

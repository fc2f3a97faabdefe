use Rattle.fd_outside.proofs.Turns.{piece_taken}
use Rattle.fd_outside.proofs.writer.StdSinkSink.write.Goals as goal

pub returns-then-is_err-clause-taken : goal.returns-then-is_err-clause-taken
returns-then-is_err-clause-taken g c = piece_taken _ _ _ _ c.write_whole-written.ensures.system

pub returns-else-is_err-clause-taken : goal.returns-else-is_err-clause-taken
returns-else-is_err-clause-taken g c = piece_taken _ _ _ _ c.write_whole-written.ensures.system

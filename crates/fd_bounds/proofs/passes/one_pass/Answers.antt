use Rattle.fd_substitution.specs.fd_derived.Rows.{number_at}
use Rattle.fd_bounds.proofs.Passing.{ended_high}
use Rattle.fd_bounds.proofs.passes.one_pass.Goals as goal

pub returns-in-Err : goal.returns-in-Err
returns-in-Err c = ended_high c.args.equations.now c.args.rows.now (number_at c.args.over.now) c.in-Err.fault c.in-Err.ensures

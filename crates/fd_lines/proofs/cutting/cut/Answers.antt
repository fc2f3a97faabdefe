use Rattle.fd_lines.proofs.Inked.{lacks_before, lacks_nowhere}
use Rattle.fd_lines.proofs.cutting.cut.Goals as goal

pub returns-in-None-clause-none : goal.returns-in-None-clause-none
returns-in-None-clause-none c = lacks_nowhere c.args.bytes.now c.args.at c.in-None.ensures

pub returns-in-Some-clause-before : goal.returns-in-Some-clause-before
returns-in-Some-clause-before c = lacks_before c.args.bytes.now c.in-Some.place c.args.at c.in-Some.ensures.0.before

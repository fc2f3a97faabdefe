use Rattle.fd_lines.proofs.Fields.{parted_at, parted_none}
use Rattle.fd_lines.proofs.field.parted.Goals as goal

pub returns-in-Some : goal.returns-in-Some
returns-in-Some c = parted_at c.args.text.now c.in-Some.field.now c.in-Some.more.now c.in-Some.ensures.before c.in-Some.ensures.whole

pub returns-in-None : goal.returns-in-None
returns-in-None c = parted_none c.args.text.now c.in-None.ensures.none

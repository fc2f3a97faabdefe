use Rattle.std.specs.Option.{option_map}
use Rattle.fd_lines.specs.Cuts.{texts_of}
use Rattle.fd_lines.proofs.Fields.{one_more}
use Rattle.fd_lines.proofs.field.one.Goals as goal

pub returns-in-Some-rest : goal.returns-in-Some-rest
returns-in-Some-rest c =
    one_more (texts_of (option_map (λ t. t.now) c.args.fields)) c.in-Some.a c.in-Some-rest.field-0.now (rw c.in-Some-rest.is at c.in-Some.ensures)

use Rattle.std.proofs.Common.{ap, sym, is_some, ◌∙◌}
use Rattle.std.specs.Option.{option_map}
use Rattle.fd_lines.specs.Cuts.{texts_of}
use Rattle.fd_lines.specs.Numbers.{numbers_of}
use Rattle.fd_lines.proofs.Fields.{first_fails}
use Rattle.fd_lines.proofs.field.are_numbers.Goals as goal

pub returns-in-None : goal.returns-in-None
returns-in-None c =
    sym (c.loop-rest.invariant ∙ ap (λ r. is_some (numbers_of (texts_of (option_map (λ t. t.now) r)))) c.in-Some.is
    ∙ first_fails c.in-Some.text.now c.in-None.ensures)

use Rattle.std.proofs.Common.{◌≡◌, ◌∙◌, [], ap, arith}
use Rattle.std.specs.Str.{chars}
use Rattle.std.proofs.lemmas.Str.{chars-nil}
use Rattle.fd_sweeping.proofs.Besides.{no_name_past}
use Rattle.fd_sweeping.proofs.beside.unknown_at.Goals as goal

pub returns : goal.returns
returns c =
    let name : c.new-2.result ≡ [] = c.new-2.ensures ∙ ap chars c.new.ensures.bytes ∙ chars-nil in
    let size = c.size.ensures in
    let past = c.if-place-size.false in
    name ∙ no_name_past c.args.layout.now c.args.place (omega (arith, size, past))

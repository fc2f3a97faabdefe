use Rattle.std.proofs.Common.{◌≡◌, ◌∙◌, [], ap, refl}
use Rattle.std.specs.Str.{chars}
use Rattle.std.proofs.lemmas.Str.{chars-nil}
use Rattle.fd_fault.proofs.line.nowhere.Goals as goal

pub returns : goal.returns
returns c =
    let name : c.new-2.result ≡ [] = c.new-2.ensures ∙ ap chars c.new.ensures.bytes ∙ chars-nil in
    rw name refl

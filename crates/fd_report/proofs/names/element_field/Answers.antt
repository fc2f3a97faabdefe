use Rattle.std.proofs.Common.{◌≡◌, ◌∙◌, ◌∷◌, ◌++◌, IfOk, ap, subst}
use Rattle.std.specs.Str.{chars}
use Rattle.dss_script.specs.dss_model.Names.{bytes}
use Rattle.fd_report.proofs.NameBytes.{bytes_of_element}
use Rattle.fd_report.proofs.names.element_field.Goals as goal

pub returns : goal.returns
returns c =
    let element = c.args.element.now in
    subst (λ text. IfOk c.with_dot.result (λ v. v.items ≡ text))
    (ap (λ name. c.word.result.now ++ 46 ∷ name) c.as_str.ensures.bytes
    ∙ bytes_of_element c.word.result.now element.name c.word.utf8
    ∙ ap (λ w. bytes (chars w ++ 46 ∷ element.name)) c.word.ensures)
    c.with_dot.ensures

use Rattle.std.proofs.Common.{◌≡◌, ◌∙◌, ◌<◌, ◌^◌, ◌∷◌, ◌++◌, IfOk, ap, rules, subst}
use Rattle.std.specs.Fmt.{decimal}
use Rattle.fd_report.proofs.NameBytes.{bytes_of_node}
use Rattle.fd_report.proofs.names.node_field.Goals as goal

pub returns : goal.returns
returns c =
    let node = c.args.node.now in
    let small : node.number < 2 ^ 64 = search rules in
    subst (λ bytes. IfOk c.with_dot.result (λ v. v.items ≡ bytes))
    ((λ i. c.as_str.ensures.bytes i ++ 46 ∷ (c.format.ensures.text ∙ ap decimal c.from.ensures) i)
    ∙ bytes_of_node node.bus node.number small)
    c.with_dot.ensures

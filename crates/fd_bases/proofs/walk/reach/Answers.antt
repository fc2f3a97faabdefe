use Rattle.std.proofs.Common.{◌∙◌, ap, sym}
use Rattle.indexmap.specs.IndexMap.{insert_entry}
use Rattle.dss_layout.specs.dss_lexer.Texts.{text_eq}
use Rattle.fd_bases.proofs.Walking.{reach_new}
use Rattle.fd_bases.proofs.walk.reach.Goals as goal

pub returns-in_ok-insert : goal.returns-in_ok-insert
returns-in_ok-insert c =
    let before = c.args.reached.now.entries in
    c.in_ok-insert.ensures.entries
    ∙ ap (λ key. insert_entry text_eq before key c.args.nominal) c.in_ok-clone.ensures.cases
    ∙ reach_new c.args.bus.now c.args.nominal before (sym c.contains_key.ensures ∙ c.if-not-contains_key.true)

use Rattle.std.proofs.Common.{◌≡◌, ◌∙◌, length, ap, sym, rules}
use Rattle.fd_inject.proofs.CallerLemmas.{residual_long}
use Rattle.fd_inject.proofs.CallerLemmas.fd_equations.{rewritten}
use Rattle.fd_search.specs.Moves.{changes}
use Rattle.fd_search.proofs.Changes.{update_is}
use Rattle.fd_search.proofs.steps.update_there.Goals as goal

pub update-requires-clause-long : goal.update-requires-clause-long
update-requires-clause-long c =
    residual_long c.args.net.now c.args.x.now c.deref_mut.result.now
    (c.deref_mut.ensures.value ∙ c.in_ok-change.ensures.rows) ∙ sym c.requires.long

pub returns-clause-is : goal.returns-clause-is
returns-clause-is c =
    let n : c.in_ok-change.change.len ≡ length c.update.new.right = search rules in
    rewritten c.in_ok-change.change.items c.update.new.right c.in_ok-change.change.len n
    ∙ update_is c.args.net.now c.args.order.now c.args.rows.now c.args.x.now c.update.new.right
    (c.in_ok-update.ensures.changes
    ∙ ap (changes c.args.rows.now c.args.order.now) (c.deref_mut.ensures.value ∙ c.in_ok-change.ensures.rows))

use Rattle.std.proofs.Common.{◌≡◌, ◌+◌, ◌++◌, List, drop, length, take, ap, sym, subst, ◌∙◌, arith}
use Rattle.fd_levels.specs.Grouping.{Adds, AreGroupsOf}
use Rattle.fd_levels.specs.Levels.{level_in}
use Rattle.fd_levels.specs.declared.group.Group.{Group}
use Rattle.fd_levels.proofs.Groups.{groups_more}
use Rattle.fd_levels.proofs.Placing.{written}
use Rattle.fd_levels.proofs.group.groups_in.Goals as goal

pub loop-feed-init : goal.loop-feed-init
loop-feed-init c = record { long = c.in_ok-groups.ensures.long; groups = c.in_ok-groups.ensures.none (level_in c.args.levels.now) }

pub loop-feed-preserved : goal.loop-feed-preserved
loop-feed-preserved c =
    let level = level_in c.args.levels.now in
    let feeds = c.args.feeds.now in
    let i = c.loop-feed.feed-index in
    let before = c.loop-feed.groups.items in
    let after = c.add.new.groups in
    let adds : Adds level before after c.feed-item.result = subst (λ (gs : List Group). Adds level gs after c.feed-item.result) c.deref_mut.ensures.value c.in_ok-add.ensures in
    let whole : take c.loop-feed.groups.len (after ++ drop (length after) before) ≡ after =
    written before after c.loop-feed.groups.len (omega (arith, c.loop-feed.groups.ok.0, adds.long)) in
    record {
      long = ap length whole ∙ adds.long ∙ c.loop-feed.invariant.long;
      groups = subst (AreGroupsOf level (take (i + 1) feeds)) (sym whole)
          (groups_more level feeds i c.feed-item.result before after c.loop-feed-test.true c.feed-item.is c.loop-feed.invariant.groups adds);
    }

use Rattle.std.proofs.Common.{◌≡◌, ◌+◌, ◌-◌, ◌<◌, length, arith}
use Rattle.fd_levels.specs.Levels.{level_in}
use Rattle.fd_levels.specs.Order.{level_pairs}
use Rattle.fd_levels.proofs.Groups.{group_pairs, level_next}
use Rattle.fd_levels.proofs.group.push_levels.Goals as goal

pub loop-level-preserved : goal.loop-level-preserved
loop-level-preserved c =
    let level = level_in c.args.levels.now in
    let feeds = c.args.feeds.now in
    let groups = c.in_ok-groups.groups.items in
    let n = c.loop-level.level - 1 in
    let next : c.loop-level.level ≡ n + 1 = omega (arith, c.loop-level-test.true) in
    let low : n < length groups = omega (arith, next, c.loop-level.invariant.inside, c.in_ok-groups.ensures.long) in
    record {
      inside = omega (arith, c.loop-level.invariant.inside);
      rest = level_next (level_pairs level feeds) c.loop-level.pairs.items c.push_group.new.pairs.items _ _ c.loop-level.level n next
          (group_pairs level feeds groups n c.index.result.now c.in_ok-groups.ensures.groups low c.index.ensures)
          c.in_ok-push_group.ensures c.loop-level.invariant.rest;
    }

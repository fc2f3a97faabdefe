use Rattle.std.proofs.Common.{◌+◌, [], length, sym, subst, ap, ◌∙◌}
use Rattle.std.proofs.lemmas.List.{length_push}
use Rattle.fd_levels.specs.Grouping.{AreGroupsOf}
use Rattle.fd_levels.proofs.Groups.{empty_more}
use Rattle.fd_levels.proofs.group.no_groups.Goals as goal

pub loop-level-preserved : goal.loop-level-preserved
loop-level-preserved c = record {
  long = ap length c.in_ok-push.ensures.items ∙ length_push c.loop-level.groups.items _ ∙ ap (λ n. n + 1) c.loop-level.invariant.long;
  none = λ level.
      subst (AreGroupsOf level []) (sym c.in_ok-push.ensures.items)
      (empty_more level c.loop-level.groups.items _ c.new.ensures.items c.new-in-loop-level.ensures.items (c.loop-level.invariant.none level));
}

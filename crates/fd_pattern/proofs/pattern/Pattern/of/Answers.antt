use Rattle.std.proofs.Common.{sym, subst}
use Rattle.fd_pattern.specs.Patterns.{AreStarts, IsKept, IsSorted}
use Rattle.fd_pattern.proofs.Order.{has_all, has_only, is_pattern, sorted_from, sorted_from_rising}
use Rattle.fd_pattern.proofs.pattern.Pattern.of.Goals as goal

pub without_repeats-requires : goal.without_repeats-requires
without_repeats-requires c = subst IsSorted (sym c.deref.ensures.value) (sorted_from c.sort.new.self.items c.in_ok-sort.ensures.sorted)

pub starts_of-requires-clause-sorted : goal.starts_of-requires-clause-sorted
starts_of-requires-clause-sorted c = subst IsSorted (sym c.deref-2.ensures.value) (sorted_from_rising c.in_ok-kept.kept.items c.in_ok-kept.ensures.rising)

pub invariant_of-result : goal.invariant_of-result
invariant_of-result c =
    let kept = subst (λ l. IsKept l c.in_ok-kept.kept.items) c.deref.ensures.value c.in_ok-kept.ensures in (
      is_pattern c.args.size c.args.places.items c.sort.new.self.items c.in_ok-kept.kept.items c.requires.small
          c.requires.inside c.in_ok-sort.ensures.permutation kept,
      subst (λ l. AreStarts c.args.size l c.in_ok-starts.starts.items) c.deref-2.ensures.value c.in_ok-starts.ensures,
    )

pub returns-clause-has_all : goal.returns-clause-has_all
returns-clause-has_all c =
    has_all c.args.places.items c.sort.new.self.items c.in_ok-kept.kept.items c.in_ok-sort.ensures.permutation
    (subst (λ l. IsKept l c.in_ok-kept.kept.items) c.deref.ensures.value c.in_ok-kept.ensures)

pub returns-clause-only : goal.returns-clause-only
returns-clause-only c =
    has_only c.args.places.items c.sort.new.self.items c.in_ok-kept.kept.items c.in_ok-sort.ensures.permutation
    (subst (λ l. IsKept l c.in_ok-kept.kept.items) c.deref.ensures.value c.in_ok-kept.ensures)

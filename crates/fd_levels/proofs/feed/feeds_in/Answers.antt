use Rattle.std.proofs.Common.{ap, sym, ◌∙◌, ◌++◌, slice_get}
use Rattle.std.specs.Option.{option_map}
use Rattle.std.specs.Map.Iter.{deref_pair}
use Rattle.fd_levels.specs.Feeds.{feed_at}
use Rattle.fd_levels.proofs.Placing.{feeds_next}
use Rattle.fd_levels.proofs.feed.feeds_in.Goals as goal

pub loop-number-preserved : goal.loop-number-preserved
loop-number-preserved c =
    let here = ap (λ es. slice_get es c.loop-number.number) (sym c.as_slice-entries.ensures.entries)
    ∙ sym c.get_index.ensures.entry
    ∙ ap (option_map deref_pair) c.unwrap.ensures in
    feeds_next c.args.layout.now c.args.turned.now c.args.elements.now.entries c.loop-number.number _ c.loop-number.feeds.items _ _ here
    (c.in_ok-push_feed.ensures
    ∙ ap (λ b. c.loop-number.feeds.items ++ feed_at c.args.layout.now b c.loop-number.number c.unwrap.result.1.now) c.is_turned_at-is_turned.ensures)
    c.loop-number.invariant

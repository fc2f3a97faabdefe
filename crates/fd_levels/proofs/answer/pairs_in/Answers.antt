use Rattle.std.proofs.Common.{◌+◌, ◌++◌, Bool, List, ℕ, Option, length, ap, ◌∙◌, arith}
use Rattle.std.specs.List.{flat_map}
use Rattle.fd_ladder.proofs.CallerLemmas.{length-sums_before}
use Rattle.fd_ladder.specs.dss_layout.Layout.{LayoutView}
use Rattle.fd_levels.specs.Feeds.{buses_of, feeds_from}
use Rattle.fd_levels.specs.Levels.{level_in, level_of}
use Rattle.fd_levels.specs.Order.{down_from, level_pairs, magnitude_pairs}
use Rattle.fd_levels.specs.declared.feed.Feed.{Feed}
use Rattle.fd_levels.proofs.Ordering.{pairs_made}
use Rattle.fd_levels.proofs.answer.pairs_in.Goals as goal

pub feeds_in-requires-clause-long : goal.feeds_in-requires-clause-long
feeds_in-requires-clause-long c =
    ap (λ (l : LayoutView). length l.branches_before) c.requires.layout ∙ length-sums_before _ _ c.args.elements.now.entries

pub levels_in-requires : goal.levels_in-requires
levels_in-requires c = omega (arith, c.len.ensures.small)

pub returns : goal.returns
returns c =
    let es = c.args.elements.now.entries in
    let layout = c.args.layout.now in
    let pairs = magnitude_pairs layout in
    pairs_made es layout c.in_ok-buses.buses.keys c.in_ok-turned.turned.items c.in_ok-feeds.feeds.items c.in_ok-levels.levels.items
    c.push_levels.new.pairs.items c.requires.layout
    (c.in_ok-buses.ensures ∙ ap buses_of c.nodes.ensures)
    c.in_ok-turned.ensures
    (c.in_ok-feeds.ensures ∙ ap (λ (t : List Bool). feeds_from layout t 0 es) c.deref.ensures.value)
    (λ b.
    c.in_ok-levels.ensures b
    ∙ ap (λ (fs : List Feed). level_of c.len.result fs b) c.deref-2.ensures.value
    ∙ ap (λ n. level_of n c.in_ok-feeds.feeds.items b) c.len.ensures.len)
    (c.in_ok-push_levels.ensures
    ∙ ap (λ ps. ps ++ flat_map (level_pairs (level_in c.deref-3.result.now) c.deref-4.result.now) (down_from (c.len-2.result + 1))) c.in_ok-pairs.ensures
    ∙ ap (λ (ls : List (Option ℕ)). pairs ++ flat_map (level_pairs (level_in ls) c.deref-4.result.now) (down_from (c.len-2.result + 1))) c.deref-3.ensures.value
    ∙ ap (λ (fs : List Feed). pairs ++ flat_map (level_pairs (level_in c.in_ok-levels.levels.items) fs) (down_from (c.len-2.result + 1))) c.deref-4.ensures.value
    ∙ ap (λ n. pairs ++ flat_map (level_pairs (level_in c.in_ok-levels.levels.items) c.in_ok-feeds.feeds.items) (down_from (n + 1))) c.len-2.ensures.len)

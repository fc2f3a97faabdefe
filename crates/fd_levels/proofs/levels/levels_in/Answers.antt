use Rattle.std.proofs.Common.{◌≡◌, ◌+◌, ◌++◌, [], drop, length, take, ap, sym, subst, ◌∙◌, arith}
use Rattle.fd_levels.specs.Levels.{starts}
use Rattle.fd_levels.specs.Marking.{marked_all, marked_behind, marking}
use Rattle.fd_levels.proofs.Placing.{written}
use Rattle.fd_levels.proofs.Rounds.{IsRound, only_none, round_first, round_next}
use Rattle.fd_levels.proofs.levels.levels_in.Goals as goal

pub loop-round-init : goal.loop-round-init
loop-round-init c =
    let count = c.args.count in
    let feeds = c.args.feeds.now in
    let levels = c.in_ok-levels.levels.items in
    let more = c.mark_starts.new.levels in
    let whole : take c.in_ok-levels.levels.len (more ++ drop (length more) levels) ≡ more =
    written levels more c.in_ok-levels.levels.len (omega (arith, c.in_ok-levels.levels.ok.0, ap length c.deref_mut.ensures.value, c.mark_starts.auto.levels)) in
    subst (λ ls. IsRound count feeds 0 ls c.in_ok-front.front.items) (sym whole)
    (round_first count feeds levels more c.in_ok-front.front.items (c.in_ok-levels.ensures.items_if_clones_equal (only_none _ (λ v h. h)))
    (ap (λ ls. marked_all 0 (starts count feeds) (marking ls [])) (sym c.deref_mut.ensures.value) ∙ c.in_ok-front.ensures))

pub loop-round-preserved : goal.loop-round-preserved
loop-round-preserved c =
    let count = c.args.count in
    let feeds = c.args.feeds.now in
    let levels = c.loop-round.levels.items in
    let more = c.mark_behind.new.levels in
    let whole : take c.loop-round.levels.len (more ++ drop (length more) levels) ≡ more =
    written levels more c.loop-round.levels.len (omega (arith, c.loop-round.levels.ok.0, ap length c.deref_mut-in-loop-round.ensures.value, c.mark_behind.auto.levels)) in
    subst (λ ls. IsRound count feeds (c.loop-round.round + 1) ls c.in_ok-front-2.front.items) (sym whole)
    (round_next count feeds c.loop-round.round c.in_ok-behind.behind.items levels more c.loop-round.front.items c.in_ok-front-2.front.items
    c.in_ok-behind.ensures c.loop-round.invariant
    (ap (λ bs. marked_behind (c.loop-round.round + 1) bs c.loop-round.front.items (marking levels [])) (sym c.deref.ensures.value)
    ∙ ap (λ front. marked_behind (c.loop-round.round + 1) c.deref.result.now front (marking levels [])) (sym c.deref-in-loop-round.ensures.value)
    ∙ ap (λ ls. marked_behind (c.loop-round.round + 1) c.deref.result.now c.deref-in-loop-round.result.now (marking ls [])) (sym c.deref_mut-in-loop-round.ensures.value)
    ∙ c.in_ok-front-2.ensures))

use Rattle.std.proofs.Common.{◌≡◌, ◌∙◌, ap, set, sym}
use Rattle.std.proofs.lemmas.List.Edits.{map_over_more}
use Rattle.fd_settle.specs.Acting.{rested}
use Rattle.fd_settle.proofs.controls.forget_moves.Goals as goal

pub loop-state-preserved : goal.loop-state-preserved
loop-state-preserved c =
    ap (set c.loop-state.states c.loop-state.state-index) (c.forget_move.ensures ∙ ap rested (sym c.state-item.is))
    ∙ map_over_more rested c.args.states.now c.loop-state.states c.loop-state.state-index c.state-item.result
    c.loop-state-test.true c.loop-state.invariant c.state-item.is

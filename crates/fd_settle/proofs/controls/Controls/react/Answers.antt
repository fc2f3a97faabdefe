use Rattle.std.proofs.Common.{◌≡◌, length, map, ap, arith, refl, sym, ◌∙◌}
use Rattle.std.proofs.lemmas.List.{with_items_is}
use Rattle.fd_sample.specs.fd_queue.Verdicts.{decision}
use Rattle.fd_sample.specs.Probes.{positions_in}
use Rattle.fd_settle.specs.Acting.{judged}
use Rattle.fd_settle.proofs.Reactions.{judged_length}
use Rattle.fd_settle.proofs.Shown.{reacted_shows}
use Rattle.fd_settle.proofs.controls.Controls.react.Goals as goal

pub returns : goal.returns
returns c =
    let ss = c.args.self.now.states.items in
    let vs = c.args.self.now.verdicts.items in
    let is : c.react_all.new.states ≡ judged ss (map decision vs) =
    c.react_all.ensures.states ∙ ap (λ xs. judged xs (map decision c.deref.result.now)) c.deref_mut.ensures.value
    ∙ ap (λ ws. judged ss (map decision ws)) c.deref.ensures.value in
    let each : length c.react_all.new.states ≡ c.args.self.now.states.len =
    ap length is ∙ judged_length ss (map decision vs) ∙ sym c.args.self.now.states.ok.0 in
    let items = with_items_is c.args.self.now.states c.react_all.new.states each in
    record {
      states = items ∙ is;
      machine = λ at.
          reacted_shows (positions_in at) c.args.self.now.made c.args.clock.now ss c.deref_mut.result.now _ vs
          c.deref.result.now c.args.self.now.queue c.react_all.new.queue c.deref_mut.ensures.value
          c.deref.ensures.value (items ∙ is) (c.react_all.ensures.reactions (positions_in at) c.args.self.now.made);
      openings = c.react_all.ensures.openings;
      numbers = omega (arith, c.react_all.ensures.numbers, ap length c.deref_mut.ensures.value);
      room = c.react_all.ensures.room;
      verdicts = refl;
      due = refl;
      made = refl;
      limit = refl;
      timing = refl;
    }

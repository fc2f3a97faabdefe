use Rattle.std.proofs.Common.{◌≡◌, length, map, ap, arith, refl, sym, ◌∙◌}
use Rattle.std.specs.List.{list_any}
use Rattle.fd_sample.specs.fd_queue.Machine.{rule_of}
use Rattle.fd_sample.specs.fd_queue.Verdicts.{decision}
use Rattle.fd_cert.specs.Claims.{claim_in}
use Rattle.fd_sample.specs.Probes.{positions_in}
use Rattle.fd_settle.specs.declared.controls.Controls.{Controls}
use Rattle.fd_settle.specs.Acting.{sampled_over}
use Rattle.fd_settle.specs.Controls.{probes_in}
use Rattle.fd_settle.specs.Sampling.{Decided, look_over}
use Rattle.fd_settle.proofs.Steps.{IsAfterReactions, acted_controls, acted_numbers, can_act_now, limits, moves_on, settles, after_reactions}
use Rattle.fd_settle.proofs.controls.Controls.step.Goals.{After-is_due}
use Rattle.fd_settle.proofs.controls.Controls.step.Goals as goal

sampled : (c : After-is_due)
    → sampled_over c.args.self.now.states.items (positions_in c.args.at.now) c.args.certified.now.ball.centre.items c.args.certified.now.ball.radius.items
    ≡ Decided (map decision c.sample_all-undecided.new.verdicts.items)
sampled c =
    let at = positions_in c.args.at.now in
    ap (λ xs. sampled_over xs at c.args.certified.now.ball.centre.items c.args.certified.now.ball.radius.items) (sym c.deref.ensures.value)
    ∙ ap (λ xs. sampled_over c.deref.result.now at xs c.args.certified.now.ball.radius.items) (sym c.deref-2.ensures.value)
    ∙ ap (λ xs. sampled_over c.deref.result.now at c.deref-2.result.now xs) (sym c.deref-3.ensures.value)
    ∙ c.in_default.ensures.sampled.0

looked : (c : After-is_due)
    → look_over (probes_in c.args.self.now) (positions_in c.args.at.now) (claim_in c.args.certified.now)
    ≡ Decided (map decision c.sample_all-undecided.new.verdicts.items)
looked c = sampled c

here_reacted : (c : After-is_due)
    → IsAfterReactions (length c.args.certified.now.ball.centre.items) c.args.at.now c.args.clock.now c.args.self.now c.react.new.self
    c.sample_all-undecided.new.verdicts.items
here_reacted c =
    let before = c.args.self.now in
    let after : Controls = record {
      states = before.states;
      verdicts = c.sample_all-undecided.new.verdicts;
      queue = before.queue;
      due = before.due;
      made = before.made;
      limit = before.limit;
      timing = before.timing;
    } in
    after_reactions c.queue_law.ensures c.own_law.ensures c.tap_law.ensures c.away_law.ensures
    (length c.args.certified.now.ball.centre.items) c.args.at.now c.args.clock.now before after c.react.new.self
    c.args.certified.now.ball.centre.items c.args.certified.now.ball.radius.items c.requires.controls
    refl refl refl refl refl refl
    (omega (arith, c.requires.controls.verdict_room, c.sample_all-undecided.ensures.capacity))
    (c.in_default.ensures.each refl ∙ ap length c.deref.ensures.value) (sampled c) c.react.ensures

-- whether an entry is due
some : (c : After-is_due)
    → list_any ((rule_of c.react.new.self.timing).is_due c.args.clock.now.now) c.react.new.self.queue.entries ≡ c.is_due.result
some c = sym c.is_due.ensures

-- ---- where no entry is due

pub returns-then-not-is_due-clause-probes : goal.returns-then-not-is_due-clause-probes
returns-then-not-is_due-clause-probes c = (here_reacted (goal.at.returns-then-not-is_due-clause-probes c).After-is_due).probes

pub returns-then-not-is_due-clause-round : goal.returns-then-not-is_due-clause-round
returns-then-not-is_due-clause-round c =
    let d = (goal.at.returns-then-not-is_due-clause-round c).After-is_due in
    settles _ _ _ _ _ _ _ (here_reacted d) (looked d) (some d ∙ c.if-not-is_due.true)

pub returns-then-not-is_due-clause-controls : goal.returns-then-not-is_due-clause-controls
returns-then-not-is_due-clause-controls c = (here_reacted (goal.at.returns-then-not-is_due-clause-controls c).After-is_due).controls

-- ---- where the acts are as many as are allowed

pub returns-then-self-clause-probes : goal.returns-then-self-clause-probes
returns-then-self-clause-probes c = (here_reacted (goal.at.returns-then-self-clause-probes c).After-is_due).probes

pub returns-then-self-clause-round : goal.returns-then-self-clause-round
returns-then-self-clause-round c =
    let d = (goal.at.returns-then-self-clause-round c).After-is_due in
    limits _ _ _ _ _ _ _ (here_reacted d) (looked d) (some d ∙ c.if-not-is_due.false) c.if-self.true

pub returns-then-self-clause-controls : goal.returns-then-self-clause-controls
returns-then-self-clause-controls c = (here_reacted (goal.at.returns-then-self-clause-controls c).After-is_due).controls

-- ---- where entries act

pub act-requires-clause-controls : goal.act-requires-clause-controls
act-requires-clause-controls c =
    let t = here_reacted (goal.at.act-requires-clause-controls c).After-is_due in
    can_act_now c.room_law.ensures _ _ _ _ t.controls t.can_act

pub act-requires-clause-room : goal.act-requires-clause-room
act-requires-clause-room c =
    let t = here_reacted (goal.at.act-requires-clause-room c).After-is_due in
    omega (
      arith,
      c.room_law.ensures (length c.react.new.self.states.items) c.react.new.self.queue.next
          c.react.new.self.queue.entries t.controls.queue,
      t.each,
      c.requires.room,
    )

pub returns-else-self-clause-probes : goal.returns-else-self-clause-probes
returns-else-self-clause-probes c = c.act.ensures.probes ∙ (here_reacted (goal.at.returns-else-self-clause-probes c).After-is_due).probes

pub returns-else-self-clause-round : goal.returns-else-self-clause-round
returns-else-self-clause-round c =
    let d = (goal.at.returns-else-self-clause-round c).After-is_due in
    moves_on _ _ _ _ _ _ _ _ _ _ _ (here_reacted d) (looked d) (some d ∙ c.if-not-is_due.false) c.if-self.false c.act.ensures

pub returns-else-self-clause-controls : goal.returns-else-self-clause-controls
returns-else-self-clause-controls c =
    acted_controls _ _ _ _ _ _ _ _ (here_reacted (goal.at.returns-else-self-clause-controls c).After-is_due).controls c.act.ensures c.if-self.false

pub returns-else-self-clause-numbers : goal.returns-else-self-clause-numbers
returns-else-self-clause-numbers c = λ first numbers.
    acted_numbers _ _ _ _ _ _ _ _ _ _ first (here_reacted (goal.at.returns-else-self-clause-numbers c).After-is_due) c.act.ensures numbers

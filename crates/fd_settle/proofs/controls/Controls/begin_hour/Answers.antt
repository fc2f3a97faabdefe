use Rattle.std.proofs.Common.{◌≡◌, ◌∙◌, ap, length, map, refl, sym}
use Rattle.std.proofs.lemmas.List.{length-map, with_items_is}
use Rattle.std.specs.Vec.{with_items}
use Rattle.fd_sample.specs.fd_queue.Machine.{hour_begun}
use Rattle.fd_sample.specs.fd_queue.declared.timing.Timing.{Timing}
use Rattle.fd_settle.specs.Acting.{rested}
use Rattle.fd_settle.specs.Controls.{machine_of}
use Rattle.fd_settle.specs.declared.controls.Controls.{Controls}
use Rattle.fd_settle.proofs.Starting.{IsRested, rested_machine, rested_work, resumed_work}
use Rattle.fd_settle.proofs.controls.Controls.begin_hour.Goals as goal

abbrev after : goal.After-self-in-Static-1 → Controls
after c = record {
  states = with_items c.args.self.now.states c.forget_moves.new.states;
  verdicts = c.args.self.now.verdicts;
  queue = c.clear.new.self;
  due = c.args.self.now.due;
  made = 0;
  limit = c.args.self.now.limit;
  timing = c.args.self.now.timing;
}

is_rested : (c : goal.After-self-in-Static-1) → IsRested c.args.self.now (after c)
is_rested c =
    let each = ap length c.forget_moves.ensures ∙ length-map c.deref_mut.result.now rested ∙ c.deref_mut.ensures.len in
    record {
      states = with_items_is c.args.self.now.states c.forget_moves.new.states each
          ∙ c.forget_moves.ensures ∙ ap (map rested) c.deref_mut.ensures.value;
      entries = c.clear.ensures.entries;
      next = c.clear.ensures.next;
      spare = c.clear.ensures.room;
      due = refl;
      verdicts = refl;
      made = refl;
      limit = refl;
      timing = refl;
    }

pub returns-in-Static-clause-machine : goal.returns-in-Static-clause-machine
returns-in-Static-clause-machine c = λ at.
    rested_machine c.args.self.now (after c) c.args.clock.now c.args.now at (is_rested c)
    ∙ ap (λ (t : Timing). hour_begun t c.args.now (machine_of at c.args.clock.now c.args.self.now)) (sym c.in-Static.is)

pub returns-in-Static-clause-work : goal.returns-in-Static-clause-work
returns-in-Static-clause-work c = λ circuit at h.
    rested_work circuit c.args.self.now (after c) c.args.clock.now c.args.now at (is_rested c) c.requires h

pub returns-in-Clock-clause-machine : goal.returns-in-Clock-clause-machine
returns-in-Clock-clause-machine c = λ at.
    ap (λ (t : Timing). hour_begun t c.args.now (machine_of at c.args.clock.now c.args.self.now)) (sym c.in-Clock.is)

pub returns-in-Clock-clause-work : goal.returns-in-Clock-clause-work
returns-in-Clock-clause-work c = λ circuit at h. resumed_work circuit c.args.self.now c.args.clock.now c.args.now at c.requires h

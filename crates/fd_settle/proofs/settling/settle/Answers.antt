use Rattle.std.proofs.Common.{arith, ◌≡◌, ◌++◌, ◌∷◌, [], length, Ok, Err, sym, ap, subst, ◌∙◌}
use Rattle.std.proofs.lemmas.Result.{err_from_is_err_and}
use Rattle.fd_cert.specs.Claims.{claim_in}
use Rattle.fd_cert.specs.declared.ball.Certified.{Certified}
use Rattle.fd_sample.specs.Balls.{IsBall}
use Rattle.fd_sample.specs.Probes.{positions_in}
use Rattle.fd_settle.specs.declared.progress.Progress.{Progress}
use Rattle.fd_settle.specs.declared.round.Round.{Round}
use Rattle.fd_settle.specs.Contract.{limits_of}
use Rattle.fd_settle.specs.Controls.{AreControls, HasNumbers, machine_of}
use Rattle.fd_settle.proofs.Underway.{IsStep, IsUnderway, kept_first, kept_more, ball_of, centre_long, end_by, few_numbers, fewer_left, goes_on, no_end, numbers_kept, over_memory, over_refused, over_solver, over_told, same_step, stepped_positions, underway_first, underway_more, updated}
use Rattle.fd_settle.proofs.settling.settle.Goals as goal

pub loop-certified-init : goal.loop-certified-init
loop-certified-init g c = record {
  journal = record {
    made = [];
    kept = kept_first g.K.Journal.holds c.args.rounds.now;
    underway = underway_first (λ v. g.V.Solver.gives v (limits_of c.args.circuit.now.options)) c.args.circuit.now
        c.args.powers.now.loads c.args.solver.now c.args.at.now c.args.clock.now c.args.controls.now
        c.requires.positions c.requires.clock c.requires.work;
  };
  network = c.requires.network;
  numbers = omega arith;
}

pub returns-in-Err : goal.returns-in-Err
returns-in-Err g c =
    let limits : c.limits_of-limits.result ≡ limits_of c.args.circuit.now.options = c.limits_of-limits.ensures.limits ∙ ap limits_of c.options.ensures.value in
    let gave = subst (λ k. g.V.Solver.gives c.loop-certified.solver k c.rows.result (Err c.in-Err.fault) c.solve.new.self) limits c.in-Err.ensures.gives in
    let j = c.loop-certified.invariant.journal in
    let o = over_solver (λ v. g.V.Solver.gives v (limits_of c.args.circuit.now.options)) c.args.circuit.now
    c.args.powers.now (machine_of c.args.at.now c.args.clock.now c.args.controls.now) c.args.solver.now j.made
    c.loop-certified.at c.loop-certified.clock c.loop-certified.controls
    c.loop-certified.net c.loop-certified.solver j.underway
    c.loop-certified.invariant.network c.rows.result c.in-Err.fault c.solve.new.self c.rows.ensures gave in
    record {
      settled = record { made = j.made; kept = j.kept; settled = o.settled };
      now = o.now;
      positions = o.positions;
      clock = o.clock;
      work = o.work;
      few = omega (
        arith,
        few_numbers _ c.args.controls.now.queue.next c.loop-certified.at c.loop-certified.clock c.loop-certified.controls
            c.loop-certified.invariant.journal.underway.work.keeps c.loop-certified.invariant.numbers,
      );
      built = c.loop-certified.invariant.network.built;
    }

pub returns-in_err-acts : goal.returns-in_err-acts
returns-in_err-acts g c =
    let limits : c.limits_of-limits.result ≡ limits_of c.args.circuit.now.options = c.limits_of-limits.ensures.limits ∙ ap limits_of c.options.ensures.value in
    let gave = subst (λ k.
    g.V.Solver.gives c.loop-certified.solver k c.rows.result (Ok (claim_in c.in-Ok.certified.value)) c.solve.new.self)
    limits c.in-Ok.ensures.gives in
    let j = c.loop-certified.invariant.journal in
    let p = err_from_is_err_and c.from_residual.result c.from_residual.ensures.1 in
    let o =
    over_memory (λ v. g.V.Solver.gives v (limits_of c.args.circuit.now.options)) c.args.circuit.now c.args.powers.now
    (machine_of c.args.at.now c.args.clock.now c.args.controls.now) c.args.solver.now j.made
    c.loop-certified.at c.loop-certified.clock c.loop-certified.controls c.loop-certified.net c.loop-certified.solver
    j.underway c.loop-certified.invariant.network c.rows.result (claim_in c.in-Ok.certified.value) c.solve.new.self
    c.from_residual.result c.rows.ensures gave (p.1 ∙ ap Err p.2) in
    record {
      settled = record {
        made = j.made;
        kept = λ before h. c.room_for_round.ensures.kept (before ++ j.made) (j.kept before h);
        settled = o.settled;
      };
      now = o.now;
      positions = o.positions;
      clock = o.clock;
      work = o.work;
      few = omega (
        arith,
        few_numbers _ c.args.controls.now.queue.next c.loop-certified.at c.loop-certified.clock c.loop-certified.controls
            c.loop-certified.invariant.journal.underway.work.keeps c.loop-certified.invariant.numbers,
      );
      built = c.loop-certified.invariant.network.built;
    }

pub step-progress-requires-clause-controls : goal.step-progress-requires-clause-controls
step-progress-requires-clause-controls g c =
    let long = centre_long c.args.circuit.now c.args.powers.now.loads (positions_in c.loop-certified.at) c.rows.result
    c.in-Ok.certified.value (c.rows.ensures ∙ c.loop-certified.invariant.network.rows) c.in-Ok.ensures.sound in
    subst (λ k. AreControls k c.loop-certified.at c.loop-certified.clock c.loop-certified.controls)
    (sym (ap (λ (m : Certified). length m.ball.centre.items) c.as_ref.ensures ∙ long)) c.loop-certified.invariant.journal.underway.work.keeps

pub step-progress-requires-clause-numbers : goal.step-progress-requires-clause-numbers
step-progress-requires-clause-numbers g c =
    let few = few_numbers _ c.args.controls.now.queue.next c.loop-certified.at c.loop-certified.clock c.loop-certified.controls
    c.loop-certified.invariant.journal.underway.work.keeps c.loop-certified.invariant.numbers in
    omega (arith, few, c.requires.numbers)

pub step-progress-requires-clause-ball : goal.step-progress-requires-clause-ball
step-progress-requires-clause-ball g c =
    subst (λ (m : Certified). IsBall m.ball.centre.items m.ball.radius.items) (sym c.as_ref.ensures)
    (ball_of c.rows.result c.in-Ok.certified.value c.in-Ok.ensures.sound)

pub returns-in-Some : goal.returns-in-Some
returns-in-Some g c =
    let limits : c.limits_of-limits.result ≡ limits_of c.args.circuit.now.options = c.limits_of-limits.ensures.limits ∙ ap limits_of c.options.ensures.value in
    let gave = subst (λ k.
    g.V.Solver.gives c.loop-certified.solver k c.rows.result (Ok (claim_in c.in-Ok.certified.value)) c.solve.new.self)
    limits c.in-Ok.ensures.gives in
    let j = c.loop-certified.invariant.journal in
    let step : IsStep c.loop-certified.at c.loop-certified.clock c.loop-certified.controls c.in-Ok.certified.value
    c.step-progress.result c.step-progress.new.acts.items c.step-progress.new.at c.step-progress.new.clock
    c.step-progress.new.self =
    same_step _ _ _ _ _ _ _ _ _ _ c.as_ref.ensures (record {
      probes = c.step-progress.ensures.probes;
      limit = c.step-progress.ensures.limit;
      timing = c.step-progress.ensures.timing;
      round = c.step-progress.ensures.round;
      acts = c.step-progress.ensures.acts;
      keeps = c.step-progress.ensures.controls;
      taps = c.step-progress.ensures.taps;
      closed = c.step-progress.ensures.closed;
      time = c.step-progress.ensures.time;
    }) in
    let round : Round = record { certified = c.in-Ok.certified; acts = c.step-progress.new.acts } in
    let after = underway_more (λ v. g.V.Solver.gives v (limits_of c.args.circuit.now.options)) c.args.circuit.now
    c.args.powers.now (machine_of c.args.at.now c.args.clock.now c.args.controls.now) c.args.solver.now j.made
    c.loop-certified.at c.loop-certified.clock c.loop-certified.controls c.loop-certified.net c.loop-certified.solver
    j.underway c.loop-certified.invariant.network c.size-size.ensures.valid.network c.rows.result round
    c.solve.new.self c.step-progress.result c.step-progress.new.at c.step-progress.new.clock
    c.step-progress.new.self c.rows.ensures gave c.in-Ok.ensures.sound step in
    let o = over_told (λ v. g.V.Solver.gives v (limits_of c.args.circuit.now.options)) c.args.circuit.now
    c.args.powers.now (machine_of c.args.at.now c.args.clock.now c.args.controls.now) c.args.solver.now (j.made ++ round ∷ [])
    c.step-progress.new.at c.step-progress.new.clock c.step-progress.new.self c.solve.new.self c.step-progress.result
    c.in-Some.end c.step-progress.new.acts.items after (sym c.in-Some.ensures) c.step-progress.ensures.acts in
    record {
      settled = record {
        made = j.made ++ round ∷ [];
        kept = kept_more g.K.Journal.holds c.args.rounds.now c.loop-certified.rounds c.room_for_round.new.rounds
            c.keep.new.self j.made round j.kept c.room_for_round.ensures.kept c.keep.ensures;
        settled = o.settled;
      };
      now = o.now;
      positions = o.positions;
      clock = o.clock;
      work = o.work;
      few = omega (
        arith,
        few_numbers _ c.args.controls.now.queue.next c.loop-certified.at c.loop-certified.clock c.loop-certified.controls
            c.loop-certified.invariant.journal.underway.work.keeps c.loop-certified.invariant.numbers,
        c.step-progress.ensures.few,
      );
      built = c.loop-certified.invariant.network.built;
    }

pub update-requires-clause-settings : goal.update-requires-clause-settings
update-requires-clause-settings g c =
    (stepped_positions c.args.circuit.now c.args.powers.now.loads (length c.as_ref.result.now.ball.centre.items)
    c.loop-certified.at c.step-progress.new.at c.step-progress.new.clock c.step-progress.new.self
    c.loop-certified.invariant.journal.underway.positions c.step-progress.ensures.controls c.step-progress.ensures.taps
    c.step-progress.ensures.closed).counts

pub update-requires-clause-within : goal.update-requires-clause-within
update-requires-clause-within g c = c.step-progress.ensures.controls.taps

pub update-requires-clause-built : goal.update-requires-clause-built
update-requires-clause-built g c = c.loop-certified.invariant.network.built

pub loop-certified-smaller : goal.loop-certified-smaller
loop-certified-smaller g c =
    let step : IsStep c.loop-certified.at c.loop-certified.clock c.loop-certified.controls c.in-Ok.certified.value
    c.step-progress.result c.step-progress.new.acts.items c.step-progress.new.at c.step-progress.new.clock
    c.step-progress.new.self =
    same_step _ _ _ _ _ _ _ _ _ _ c.as_ref.ensures (record {
      probes = c.step-progress.ensures.probes;
      limit = c.step-progress.ensures.limit;
      timing = c.step-progress.ensures.timing;
      round = c.step-progress.ensures.round;
      acts = c.step-progress.ensures.acts;
      keeps = c.step-progress.ensures.controls;
      taps = c.step-progress.ensures.taps;
      closed = c.step-progress.ensures.closed;
      time = c.step-progress.ensures.time;
    }) in
    let moved = goes_on {F = g.row.V-Fault.Denot} c.step-progress.result (no_end _ c.ended.result c.ended.ensures c.in_default.not-Some) in
    fewer_left c.count_law.ensures c.loop-certified.at c.step-progress.new.at c.loop-certified.clock
    c.step-progress.new.clock c.loop-certified.controls c.step-progress.new.self c.in-Ok.certified.value
    c.step-progress.result c.step-progress.new.acts.items c.args.circuit.now.options.maxcontroliter step moved
    c.loop-certified.invariant.journal.underway.work.limit

pub loop-certified-preserved : goal.loop-certified-preserved
loop-certified-preserved g c =
    let limits : c.limits_of-limits.result ≡ limits_of c.args.circuit.now.options = c.limits_of-limits.ensures.limits ∙ ap limits_of c.options.ensures.value in
    let gave = subst (λ k.
    g.V.Solver.gives c.loop-certified.solver k c.rows.result (Ok (claim_in c.in-Ok.certified.value)) c.solve.new.self)
    limits c.in-Ok.ensures.gives in
    let j = c.loop-certified.invariant.journal in
    let step : IsStep c.loop-certified.at c.loop-certified.clock c.loop-certified.controls c.in-Ok.certified.value
    c.step-progress.result c.step-progress.new.acts.items c.step-progress.new.at c.step-progress.new.clock
    c.step-progress.new.self =
    same_step _ _ _ _ _ _ _ _ _ _ c.as_ref.ensures (record {
      probes = c.step-progress.ensures.probes;
      limit = c.step-progress.ensures.limit;
      timing = c.step-progress.ensures.timing;
      round = c.step-progress.ensures.round;
      acts = c.step-progress.ensures.acts;
      keeps = c.step-progress.ensures.controls;
      taps = c.step-progress.ensures.taps;
      closed = c.step-progress.ensures.closed;
      time = c.step-progress.ensures.time;
    }) in
    let round : Round = record { certified = c.in-Ok.certified; acts = c.step-progress.new.acts } in
    let after = underway_more (λ v. g.V.Solver.gives v (limits_of c.args.circuit.now.options)) c.args.circuit.now
    c.args.powers.now (machine_of c.args.at.now c.args.clock.now c.args.controls.now) c.args.solver.now j.made
    c.loop-certified.at c.loop-certified.clock c.loop-certified.controls c.loop-certified.net c.loop-certified.solver
    j.underway c.loop-certified.invariant.network c.size-size.ensures.valid.network c.rows.result round
    c.solve.new.self c.step-progress.result c.step-progress.new.at c.step-progress.new.clock
    c.step-progress.new.self c.rows.ensures gave c.in-Ok.ensures.sound step in
    let moved = goes_on {F = g.row.V-Fault.Denot} c.step-progress.result (no_end _ c.ended.result c.ended.ensures c.in_default.not-Some) in
    let open' = subst (λ (q : Progress). IsUnderway (λ v. g.V.Solver.gives v (limits_of c.args.circuit.now.options))
    c.args.circuit.now c.args.powers.now.loads c.args.solver.now
    (machine_of c.args.at.now c.args.clock.now c.args.controls.now) (j.made ++ round ∷ [])
    (end_by q) c.step-progress.new.at c.step-progress.new.clock c.step-progress.new.self c.solve.new.self)
    moved after in
    record {
      journal = record {
        made = j.made ++ round ∷ [];
        kept = kept_more g.K.Journal.holds c.args.rounds.now c.loop-certified.rounds c.room_for_round.new.rounds
            c.keep.new.self j.made round j.kept c.room_for_round.ensures.kept c.keep.ensures;
        underway = open';
      };
      network =
          updated c.args.circuit.now c.args.powers.now c.step-progress.new.at c.update.new.self c.update.ensures.built
          c.in_ok-update.ensures.network c.in_ok-update.ensures.no_blame c.in_ok-update.ensures.agrees;
      numbers = numbers_kept c.step-progress.result (HasNumbers c.args.controls.now.queue.next c.step-progress.new.self) moved
          (c.step-progress.ensures.numbers c.args.controls.now.queue.next c.loop-certified.invariant.numbers);
    }

pub returns-in_err-update : goal.returns-in_err-update
returns-in_err-update g c =
    let limits : c.limits_of-limits.result ≡ limits_of c.args.circuit.now.options = c.limits_of-limits.ensures.limits ∙ ap limits_of c.options.ensures.value in
    let gave = subst (λ k.
    g.V.Solver.gives c.loop-certified.solver k c.rows.result (Ok (claim_in c.in-Ok.certified.value)) c.solve.new.self)
    limits c.in-Ok.ensures.gives in
    let j = c.loop-certified.invariant.journal in
    let step : IsStep c.loop-certified.at c.loop-certified.clock c.loop-certified.controls c.in-Ok.certified.value
    c.step-progress.result c.step-progress.new.acts.items c.step-progress.new.at c.step-progress.new.clock
    c.step-progress.new.self =
    same_step _ _ _ _ _ _ _ _ _ _ c.as_ref.ensures (record {
      probes = c.step-progress.ensures.probes;
      limit = c.step-progress.ensures.limit;
      timing = c.step-progress.ensures.timing;
      round = c.step-progress.ensures.round;
      acts = c.step-progress.ensures.acts;
      keeps = c.step-progress.ensures.controls;
      taps = c.step-progress.ensures.taps;
      closed = c.step-progress.ensures.closed;
      time = c.step-progress.ensures.time;
    }) in
    let round : Round = record { certified = c.in-Ok.certified; acts = c.step-progress.new.acts } in
    let after = underway_more (λ v. g.V.Solver.gives v (limits_of c.args.circuit.now.options)) c.args.circuit.now
    c.args.powers.now (machine_of c.args.at.now c.args.clock.now c.args.controls.now) c.args.solver.now j.made
    c.loop-certified.at c.loop-certified.clock c.loop-certified.controls c.loop-certified.net c.loop-certified.solver
    j.underway c.loop-certified.invariant.network c.size-size.ensures.valid.network c.rows.result round
    c.solve.new.self c.step-progress.result c.step-progress.new.at c.step-progress.new.clock
    c.step-progress.new.self c.rows.ensures gave c.in-Ok.ensures.sound step in
    let moved = goes_on {F = g.row.V-Fault.Denot} c.step-progress.result (no_end _ c.ended.result c.ended.ensures c.in_default.not-Some) in
    let open' = subst (λ (q : Progress). IsUnderway (λ v. g.V.Solver.gives v (limits_of c.args.circuit.now.options))
    c.args.circuit.now c.args.powers.now.loads c.args.solver.now
    (machine_of c.args.at.now c.args.clock.now c.args.controls.now) (j.made ++ round ∷ [])
    (end_by q) c.step-progress.new.at c.step-progress.new.clock c.step-progress.new.self c.solve.new.self)
    moved after in
    let p = err_from_is_err_and c.from_residual-in_err-update.result c.from_residual-in_err-update.ensures.1 in
    let o = over_refused (λ v. g.V.Solver.gives v (limits_of c.args.circuit.now.options)) c.args.circuit.now
    c.args.powers.now (machine_of c.args.at.now c.args.clock.now c.args.controls.now) c.args.solver.now (j.made ++ round ∷ [])
    c.step-progress.new.at c.step-progress.new.clock c.step-progress.new.self c.solve.new.self
    c.in_err-update.field-0.0 c.from_residual-in_err-update.result open' c.in_err-update.ensures.fault
    (p.1 ∙ ap Err p.2) in
    record {
      settled = record {
        made = j.made ++ round ∷ [];
        kept = kept_more g.K.Journal.holds c.args.rounds.now c.loop-certified.rounds c.room_for_round.new.rounds
            c.keep.new.self j.made round j.kept c.room_for_round.ensures.kept c.keep.ensures;
        settled = o.settled;
      };
      now = o.now;
      positions = o.positions;
      clock = o.clock;
      work = o.work;
      few = omega (
        arith,
        few_numbers _ c.args.controls.now.queue.next c.loop-certified.at c.loop-certified.clock c.loop-certified.controls
            c.loop-certified.invariant.journal.underway.work.keeps c.loop-certified.invariant.numbers,
        c.step-progress.ensures.few,
      );
      built = c.update.ensures.built;
    }

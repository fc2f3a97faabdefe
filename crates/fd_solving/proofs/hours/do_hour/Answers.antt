use Rattle.std.proofs.Common.{◌≡◌, ◌∙◌, ◌+◌, ◌∷◌, ℕ, None, Some, ap, inl, inr, length, refl, sym, subst, arith}
use Rattle.std.proofs.lemmas.List.{length-map}
use Rattle.fd_pages.specs.dss_layout.Layout.{LayoutView, complex_count}
use Rattle.fd_daily.specs.Day.{hour_in, hours_left}
use Rattle.fd_daily.specs.Underway.{machine_in}
use Rattle.fd_solving.specs.Solving.{begun_by}
use Rattle.fd_daily.specs.fd_sample.Probes.{positions_in}
use Rattle.fd_pages.specs.fd_outcome.Settles.{settled}
use Rattle.fd_pages.specs.Hours.{round_in, rounds_in, settle_made}
use Rattle.fd_solving.specs.Answered.{IsMadeHour, kept_in}
use Rattle.fd_solving.specs.Tallies.{with_rounds}
use Rattle.fd_solving.specs.Endings.{end_by}
use Rattle.fd_solving.specs.Printing.{EndsInHour, IsPrintedHour}
use Rattle.fd_solving.specs.declared.tally.Tally.{Tally}
use Rattle.fd_solving.proofs.Handed.{cut_never, never_read, never_usage}
use Rattle.fd_solving.proofs.Hourly.{made_as}
use Rattle.fd_solving.proofs.Settled.{fault_end}
use Rattle.fd_solving.proofs.Weaker.{if_some_weaker, none_goes}
use Rattle.fd_solving.proofs.hours.do_hour.Goals as goal

pub print_failed-requires-clause-printable : goal.print_failed-requires-clause-printable
print_failed-requires-clause-printable g c =
    let circuit = c.args.circuit.now in
    let day = c.args.underway.now.day in
    let h = c.hour-hour.result in
    let same = sym c.hour-hour.ensures in
    let before = kept_in (machine_in c.args.at.now c.args.underway.now) c.args.settled.now in
    let k = kept_in (machine_in c.solve_hour.new.at c.solve_hour.new.underway) (c.args.settled.now + 1) in
    let rounds = c.deref.result.now in
    let told : IsMadeHour circuit (hour_in day) before c.solve_hour.new.underway.rounds.items (Some c.in-Some.failure)
    k =
    rw c.in-Some.is at (c.in-Ok.ensures.made c.args.settled.now c.requires.settles) in
    let made = made_as circuit (hour_in day) h before c.solve_hour.new.underway.rounds.items rounds
    (Some c.in-Some.failure) k same c.deref.ensures.value told in
    made.printable

pub print_failed-requires-clause-tried : goal.print_failed-requires-clause-tried
print_failed-requires-clause-tried g c =
    let circuit = c.args.circuit.now in
    let day = c.args.underway.now.day in
    let h = c.hour-hour.result in
    let same = sym c.hour-hour.ensures in
    let before = kept_in (machine_in c.args.at.now c.args.underway.now) c.args.settled.now in
    let k = kept_in (machine_in c.solve_hour.new.at c.solve_hour.new.underway) (c.args.settled.now + 1) in
    let rounds = c.deref.result.now in
    let told : IsMadeHour circuit (hour_in day) before c.solve_hour.new.underway.rounds.items (Some c.in-Some.failure)
    k =
    rw c.in-Some.is at (c.in-Ok.ensures.made c.args.settled.now c.requires.settles) in
    let made = made_as circuit (hour_in day) h before c.solve_hour.new.underway.rounds.items rounds
    (Some c.in-Some.failure) k same c.deref.ensures.value told in
    made.tried

pub print_settled-printed-requires-clause-printable : goal.print_settled-printed-requires-clause-printable
print_settled-printed-requires-clause-printable g c =
    let circuit = c.args.circuit.now in
    let day = c.args.underway.now.day in
    let h = c.hour-hour.result in
    let same = sym c.hour-hour.ensures in
    let before = kept_in (machine_in c.args.at.now c.args.underway.now) c.args.settled.now in
    let k = kept_in (machine_in c.solve_hour.new.at c.solve_hour.new.underway) (c.args.settled.now + 1) in
    let rounds = c.deref.result.now in
    let told : IsMadeHour circuit (hour_in day) before c.solve_hour.new.underway.rounds.items None k =
    rw c.in-None.is at (c.in-Ok.ensures.made c.args.settled.now c.requires.settles) in
    let made =
    made_as circuit
    (hour_in day) h before c.solve_hour.new.underway.rounds.items rounds None k same c.deref.ensures.value told in
    made.printable

pub returns-in-Some-clause-ends : goal.returns-in-Some-clause-ends
returns-in-Some-clause-ends g c =
    let circuit = c.args.circuit.now in
    let day = c.args.underway.now.day in
    let h = c.hour-hour.result in
    let same = sym c.hour-hour.ensures in
    let before = kept_in (machine_in c.args.at.now c.args.underway.now) c.args.settled.now in
    let k = kept_in (machine_in c.solve_hour.new.at c.solve_hour.new.underway) (c.args.settled.now + 1) in
    let rounds = c.deref.result.now in
    let told : IsMadeHour circuit (hour_in day) before c.solve_hour.new.underway.rounds.items (Some c.in-Some.failure)
    k =
    rw c.in-Some.is at (c.in-Ok.ensures.made c.args.settled.now c.requires.settles) in
    let made = made_as circuit (hour_in day) h before c.solve_hour.new.underway.rounds.items rounds
    (Some c.in-Some.failure) k same c.deref.ensures.value told in
    let x = settle_made circuit h (begun_by circuit h before) rounds (end_by (Some c.in-Some.failure))
    (positions_in c.solve_hour.new.at) in
    subst (λ (n : ℕ).
    EndsInHour g.P.Page.style g.S.Sink.taken g.S.Sink.calls c.args.out.now c.print_failed.new.out c.args.begun.now
    circuit n before c.print_failed.result)
    (sym same) (inr (inr (record {
      made = x;
      kept = k;
      is = made.is;
      fault = c.in-Some.failure.fault;
      ill = fault_end c.in-Some.failure.fault c.in-Some.failure.tried;
      printed = c.print_failed.ensures.prints (begun_by circuit h before) refl;
    })))

pub returns-in-Some-clause-usage : goal.returns-in-Some-clause-usage
returns-in-Some-clause-usage g c =
    let circuit = c.args.circuit.now in
    let day = c.args.underway.now.day in
    let h = c.hour-hour.result in
    let same = sym c.hour-hour.ensures in
    let before = kept_in (machine_in c.args.at.now c.args.underway.now) c.args.settled.now in
    let k = kept_in (machine_in c.solve_hour.new.at c.solve_hour.new.underway) (c.args.settled.now + 1) in
    let rounds = c.deref.result.now in
    let told : IsMadeHour circuit (hour_in day) before c.solve_hour.new.underway.rounds.items (Some c.in-Some.failure)
    k =
    rw c.in-Some.is at (c.in-Ok.ensures.made c.args.settled.now c.requires.settles) in
    let made = made_as circuit (hour_in day) h before c.solve_hour.new.underway.rounds.items rounds
    (Some c.in-Some.failure) k same c.deref.ensures.value told in
    never_usage g.S.Sink.taken g.S.Sink.calls c.args.out.now c.print_failed.new.out _ c.in-Some.failure.fault
    c.print_failed.result made.command (c.print_failed.ensures.prints (begun_by circuit h before) refl)

pub returns-in-Some-clause-read : goal.returns-in-Some-clause-read
returns-in-Some-clause-read g c =
    let circuit = c.args.circuit.now in
    let day = c.args.underway.now.day in
    let h = c.hour-hour.result in
    let same = sym c.hour-hour.ensures in
    let before = kept_in (machine_in c.args.at.now c.args.underway.now) c.args.settled.now in
    let k = kept_in (machine_in c.solve_hour.new.at c.solve_hour.new.underway) (c.args.settled.now + 1) in
    let rounds = c.deref.result.now in
    let told : IsMadeHour circuit (hour_in day) before c.solve_hour.new.underway.rounds.items (Some c.in-Some.failure)
    k =
    rw c.in-Some.is at (c.in-Ok.ensures.made c.args.settled.now c.requires.settles) in
    let made = made_as circuit (hour_in day) h before c.solve_hour.new.underway.rounds.items rounds
    (Some c.in-Some.failure) k same c.deref.ensures.value told in
    never_read g.S.Sink.taken g.S.Sink.calls c.args.out.now c.print_failed.new.out _ c.in-Some.failure.fault
    c.print_failed.result made.command (c.print_failed.ensures.prints (begun_by circuit h before) refl)

pub returns-then-is_none-clause-goes : goal.returns-then-is_none-clause-goes
returns-then-is_none-clause-goes g c none =
    let circuit = c.args.circuit.now in
    let day = c.args.underway.now.day in
    let h = c.hour-hour.result in
    let same = sym c.hour-hour.ensures in
    let before = kept_in (machine_in c.args.at.now c.args.underway.now) c.args.settled.now in
    let k = kept_in (machine_in c.solve_hour.new.at c.solve_hour.new.underway) (c.args.settled.now + 1) in
    let rounds = c.deref.result.now in
    let told : IsMadeHour circuit (hour_in day) before c.solve_hour.new.underway.rounds.items None k =
    rw c.in-None.is at (c.in-Ok.ensures.made c.args.settled.now c.requires.settles) in
    let made =
    made_as circuit
    (hour_in day) h before c.solve_hour.new.underway.rounds.items rounds None k same c.deref.ensures.value told in
    let x = settle_made circuit h (begun_by circuit h before) rounds settled (positions_in c.solve_hour.new.at) in
    subst (λ (n : ℕ).
    IsPrintedHour g.P.Page.style g.S.Sink.taken g.S.Sink.calls c.args.out.now c.print_settled-printed.new.out
    c.args.begun.now circuit n before k c.print_settled-printed.new.begun c.args.tally.now c.add.new.self)
    (sym same) (record {
      made = x;
      is = made.is;
      well = refl;
      wrote = none_goes c.print_settled-printed.result _ none
          (c.print_settled-printed.ensures.goes (begun_by circuit h before) refl);
      begun_is = c.print_settled-printed.ensures.begun (begun_by circuit h before) refl none;
      added = c.add.ensures
          ∙ ap (λ (l : LayoutView). with_rounds c.args.tally.now (complex_count l) (rounds_in rounds))
          (c.layout.ensures ∙ c.in-Ok.ensures.built.layout);
    })

pub add-requires : goal.add-requires
add-requires g c =
    let circuit = c.args.circuit.now in
    let day = c.args.underway.now.day in
    let h = c.hour-hour.result in
    let same = sym c.hour-hour.ensures in
    let before = kept_in (machine_in c.args.at.now c.args.underway.now) c.args.settled.now in
    let k = kept_in (machine_in c.solve_hour.new.at c.solve_hour.new.underway) (c.args.settled.now + 1) in
    let rounds = c.deref.result.now in
    let told : IsMadeHour circuit (hour_in day) before c.solve_hour.new.underway.rounds.items None k =
    rw c.in-None.is at (c.in-Ok.ensures.made c.args.settled.now c.requires.settles) in
    let made =
    made_as circuit
    (hour_in day) h before c.solve_hour.new.underway.rounds.items rounds None k same c.deref.ensures.value told in
    omega (arith, made.printable.few, c.requires.room, c.requires.settles)

pub returns-then-is_none-clause-room : goal.returns-then-is_none-clause-room
returns-then-is_none-clause-room g c =
    let circuit = c.args.circuit.now in
    let day = c.args.underway.now.day in
    let h = c.hour-hour.result in
    let same = sym c.hour-hour.ensures in
    let before = kept_in (machine_in c.args.at.now c.args.underway.now) c.args.settled.now in
    let k = kept_in (machine_in c.solve_hour.new.at c.solve_hour.new.underway) (c.args.settled.now + 1) in
    let rounds = c.deref.result.now in
    let told : IsMadeHour circuit (hour_in day) before c.solve_hour.new.underway.rounds.items None k =
    rw c.in-None.is at (c.in-Ok.ensures.made c.args.settled.now c.requires.settles) in
    let made =
    made_as circuit
    (hour_in day) h before c.solve_hour.new.underway.rounds.items rounds None k same c.deref.ensures.value told in
    let count : c.add.new.self.solutions ≡ c.args.tally.now.solutions + length (rounds_in rounds) =
    ap (λ (t : Tally). t.solutions) c.add.ensures in
    let long = length-map rounds round_in in
    omega (arith, count, long, made.printable.few, c.requires.room)

pub returns-else-is_none-clause-ends : goal.returns-else-is_none-clause-ends
returns-else-is_none-clause-ends g c =
    let circuit = c.args.circuit.now in
    let day = c.args.underway.now.day in
    let h = c.hour-hour.result in
    let same = sym c.hour-hour.ensures in
    let before = kept_in (machine_in c.args.at.now c.args.underway.now) c.args.settled.now in
    let k = kept_in (machine_in c.solve_hour.new.at c.solve_hour.new.underway) (c.args.settled.now + 1) in
    let rounds = c.deref.result.now in
    let told : IsMadeHour circuit (hour_in day) before c.solve_hour.new.underway.rounds.items None k =
    rw c.in-None.is at (c.in-Ok.ensures.made c.args.settled.now c.requires.settles) in
    let made =
    made_as circuit
    (hour_in day) h before c.solve_hour.new.underway.rounds.items rounds None k same c.deref.ensures.value told in
    let x = settle_made circuit h (begun_by circuit h before) rounds settled (positions_in c.solve_hour.new.at) in
    if_some_weaker c.print_settled-printed.result _ _ (λ code cut.
    subst (λ (n : ℕ). EndsInHour g.P.Page.style g.S.Sink.taken g.S.Sink.calls c.args.out.now
    c.print_settled-printed.new.out c.args.begun.now circuit n before code)
    (sym same) (inr (inl (record { made = x; kept = k; is = made.is; well = refl; cut = cut }))))
    (c.print_settled-printed.ensures.ends (begun_by circuit h before) refl)

pub returns-else-is_none-clause-usage : goal.returns-else-is_none-clause-usage
returns-else-is_none-clause-usage g c =
    if_some_weaker c.print_settled-printed.result _ _ (λ code cut.
    cut_never g.S.Sink.taken g.S.Sink.calls 2 c.args.out.now c.print_settled-printed.new.out _ code
    (λ e. omega (arith, e)) (λ e. omega (arith, e)) cut)
    (c.print_settled-printed.ensures.ends
    (kept_in (machine_in c.args.at.now c.args.underway.now) c.args.settled.now) refl)

pub returns-else-is_none-clause-read : goal.returns-else-is_none-clause-read
returns-else-is_none-clause-read g c =
    if_some_weaker c.print_settled-printed.result _ _ (λ code cut.
    cut_never g.S.Sink.taken g.S.Sink.calls 4 c.args.out.now c.print_settled-printed.new.out _ code
    (λ e. omega (arith, e)) (λ e. omega (arith, e)) cut)
    (c.print_settled-printed.ensures.ends
    (kept_in (machine_in c.args.at.now c.args.underway.now) c.args.settled.now) refl)

pub returns-then-is_none-clause-left : goal.returns-then-is_none-clause-left
returns-then-is_none-clause-left g c none =
    let day = c.args.underway.now.day in
    let after = c.solve_hour.new.underway.day in
    let left : hours_left day ≡ hour_in day ∷ hours_left after = rw c.in-None.is at c.in-Ok.ensures.left in
    record {
      after_hour = record {
        positions = c.in-Ok.ensures.positions;
        loads = c.in-Ok.ensures.loads;
        probes = c.in-Ok.ensures.probes;
        day = c.in-Ok.ensures.day;
        built = c.in-Ok.ensures.built;
        work = c.in-Ok.ensures.work;
      };
      left = left;
      numbers = c.in-Ok.ensures.numbers c.in-None.is;
    }

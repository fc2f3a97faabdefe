use Rattle.std.specs.Prelude.{◌||◌, is_none, is_some, not}
use Rattle.std.proofs.Common.{◌≡◌, ◌∙◌, ℕ, Bool, true, false, Option, Some, None, List, [], ◌∷◌, length, refl, sym, ap}
use Rattle.std.proofs.Common.{subst, arith}
use Rattle.fd_daily.specs.Day.{DayView, hour_in, hours_left}
use Rattle.fd_pages.proofs.CallerLemmas.fd_outcome.{wrote_nothing}
use Rattle.fd_daily.specs.Underway.{machine_in}
use Rattle.fd_daily.specs.fd_queue.Machine.{Machine}
use Rattle.fd_daily.specs.fd_queue.declared.entry.Entry.{Entry}
use Rattle.fd_pages.specs.fd_outcome.Behind.{behind, has_text}
use Rattle.fd_pages.specs.fd_outcome.Calls.{body}
use Rattle.fd_pages.specs.fd_outcome.Events.{waits}
use Rattle.fd_pages.specs.fd_outcome.Parts.{IsCutIn, Wrote}
use Rattle.fd_pages.specs.fd_outcome.Way.{whole}
use Rattle.fd_solving.specs.Answered.{kept_in}
use Rattle.fd_solving.proofs.Handed.{cut_never}
use Rattle.fd_daily.proofs.CallerLemmas.{left_hours, next_first, none_left}
use Rattle.fd_solving.proofs.Hourly.{HourWay, way_done, way_done_cut, way_ended, way_printed, way_range, way_short}
use Rattle.fd_solving.proofs.Hourly.{way_start}
use Rattle.fd_solving.proofs.Weaker.{if_some_weaker, is_none_by, none_goes}
use Rattle.fd_solving.proofs.hours.run_hours.Goals as goal

none_told : (o : Option ℕ) (t : Bool) → is_some o ≡ not t → t ≡ true → is_none o ≡ true
none_told None t told is = refl
none_told (Some k) t told is = absurd (let no : true ≡ false = told ∙ ap not is in cc no)

pub loop-alloc-init : goal.loop-alloc-init
loop-alloc-init g c =
    let day = c.args.underway.now.day in
    let few = (left_hours day c.requires.underway.day).few in
    record {
      underway = c.requires.underway;
      settles = omega (arith, few);
      room = c.requires.room;
      later = omega arith;
      way =
          way_start g.P.Page.style c.args.circuit.now (hours_left day)
          (kept_in (machine_in c.args.at.now c.args.underway.now) c.args.settled.now)
          g.S.Sink.taken g.S.Sink.calls c.args.out.now c.args.begun.now c.args.tally.now;
    }

pub do_hour-ended-requires-clause-settles : goal.do_hour-ended-requires-clause-settles
do_hour-ended-requires-clause-settles g c =
    let there = c.loop-alloc.invariant.underway in
    let left = ap length (next_first c.loop-alloc.underway.day there.day there.hour) in
    let so_far = c.loop-alloc.invariant.settles in
    let few = c.requires.settles in
    omega (arith, left, so_far, few)

pub returns-then-is_some-clause-ends : goal.returns-then-is_some-clause-ends
returns-then-is_some-clause-ends g c =
    let circuit = c.args.circuit.now in
    let first = hours_left c.args.underway.now.day in
    let l = kept_in (machine_in c.args.at.now c.args.underway.now) c.args.settled.now in
    let day = c.loop-alloc.underway.day in
    let before = kept_in (machine_in c.loop-alloc.at c.loop-alloc.underway) c.loop-alloc.settled in
    let there = c.loop-alloc.invariant.underway in
    let W : List ℕ → Type 0 = λ hs.
    HourWay g.P.Page.style circuit first l g.S.Sink.taken g.S.Sink.calls c.args.out.now c.args.begun.now
    c.args.tally.now hs before c.loop-alloc.out c.loop-alloc.begun c.loop-alloc.tally in
    let at = subst W (next_first day there.day there.hour) c.loop-alloc.invariant.way in
    if_some_weaker c.do_hour-ended.result _ _ (λ code ends.
    way_ended g.P.Page.style circuit first l g.S.Sink.taken g.S.Sink.calls c.args.out.now c.args.begun.now
    c.args.tally.now (hour_in day) _ before c.loop-alloc.out c.loop-alloc.begun c.loop-alloc.tally
    at c.do_hour-ended.new.out code ends)
    c.do_hour-ended.ensures.ends

pub returns-then-is_some-clause-settles : goal.returns-then-is_some-clause-settles
returns-then-is_some-clause-settles g c =
    let there = c.loop-alloc.invariant.underway in
    let left = ap length (next_first c.loop-alloc.underway.day there.day there.hour) in
    let so_far = c.loop-alloc.invariant.settles in
    let one = c.do_hour-ended.ensures.settles in
    omega (arith, left, so_far, one)

pub returns-then-is_none-clause-goes : goal.returns-then-is_none-clause-goes
returns-then-is_none-clause-goes g c all =
    let circuit = c.args.circuit.now in
    let first = hours_left c.args.underway.now.day in
    let l = kept_in (machine_in c.args.at.now c.args.underway.now) c.args.settled.now in
    let day = c.loop-alloc.underway.day in
    let before = kept_in (machine_in c.loop-alloc.at c.loop-alloc.underway) c.loop-alloc.settled in
    let after = c.do_hour-ended.new.underway.day in
    let k = kept_in (machine_in c.do_hour-ended.new.at c.do_hour-ended.new.underway) c.do_hour-ended.new.settled in
    let none = is_none_by c.do_hour-ended.result (sym c.is_some.ensures ∙ c.if-is_some.false) in
    let W : List ℕ → Type 0 = λ hs.
    HourWay g.P.Page.style circuit first l g.S.Sink.taken g.S.Sink.calls c.args.out.now c.args.begun.now
    c.args.tally.now hs before c.loop-alloc.out c.loop-alloc.begun c.loop-alloc.tally in
    let at = subst W (c.do_hour-ended.ensures.left none).left c.loop-alloc.invariant.way in
    let next = way_printed g.P.Page.style circuit first l g.S.Sink.taken g.S.Sink.calls c.args.out.now
    c.args.begun.now c.args.tally.now (hour_in day) (hours_left after) before c.loop-alloc.out c.loop-alloc.begun
    c.loop-alloc.tally at k c.do_hour-ended.new.out c.do_hour-ended.new.begun c.do_hour-ended.new.tally
    (c.do_hour-ended.ensures.goes none) in
    let done = none_left after c.next_hour.result c.next_hour.ensures
    (none_told c.next_hour.result c.is_none.result c.is_none.ensures c.if-is_none.true) in
    let queue = c.pending.ensures c.do_hour-ended.new.at c.do_hour-ended.new.underway.clock in
    way_done g.P.Page.style circuit first l g.S.Sink.taken g.S.Sink.calls c.args.out.now c.args.begun.now
    c.args.tally.now (hours_left after) k c.do_hour-ended.new.out c.do_hour-ended.new.begun c.do_hour-ended.new.tally
    done next c.print_pending.new.out c.print_pending.new.begun
    (subst (λ (es : List Entry). Wrote g.S.Sink.taken g.S.Sink.calls c.do_hour-ended.new.out c.print_pending.new.out
    (whole (behind g.P.Page.style c.do_hour-ended.new.begun (waits circuit es ∷ [])))) queue
    (none_goes c.print_pending.result _ all c.print_pending.ensures.goes))
    (c.print_pending.ensures.begun all
    ∙ ap
    (λ (es : List Entry).
    (c.do_hour-ended.new.begun || has_text (body g.P.Page.style (waits circuit es ∷ [])))) queue)

pub returns-then-is_none-clause-ends : goal.returns-then-is_none-clause-ends
returns-then-is_none-clause-ends g c =
    let circuit = c.args.circuit.now in
    let first = hours_left c.args.underway.now.day in
    let l = kept_in (machine_in c.args.at.now c.args.underway.now) c.args.settled.now in
    let day = c.loop-alloc.underway.day in
    let before = kept_in (machine_in c.loop-alloc.at c.loop-alloc.underway) c.loop-alloc.settled in
    let after = c.do_hour-ended.new.underway.day in
    let k = kept_in (machine_in c.do_hour-ended.new.at c.do_hour-ended.new.underway) c.do_hour-ended.new.settled in
    let none = is_none_by c.do_hour-ended.result (sym c.is_some.ensures ∙ c.if-is_some.false) in
    let W : List ℕ → Type 0 = λ hs.
    HourWay g.P.Page.style circuit first l g.S.Sink.taken g.S.Sink.calls c.args.out.now c.args.begun.now
    c.args.tally.now hs before c.loop-alloc.out c.loop-alloc.begun c.loop-alloc.tally in
    let at = subst W (c.do_hour-ended.ensures.left none).left c.loop-alloc.invariant.way in
    let next = way_printed g.P.Page.style circuit first l g.S.Sink.taken g.S.Sink.calls c.args.out.now
    c.args.begun.now c.args.tally.now (hour_in day) (hours_left after) before c.loop-alloc.out c.loop-alloc.begun
    c.loop-alloc.tally at k c.do_hour-ended.new.out c.do_hour-ended.new.begun c.do_hour-ended.new.tally
    (c.do_hour-ended.ensures.goes none) in
    let done = none_left after c.next_hour.result c.next_hour.ensures
    (none_told c.next_hour.result c.is_none.result c.is_none.ensures c.if-is_none.true) in
    let queue = c.pending.ensures c.do_hour-ended.new.at c.do_hour-ended.new.underway.clock in
    if_some_weaker c.print_pending.result _ _ (λ code cut.
    way_done_cut g.P.Page.style circuit first l g.S.Sink.taken g.S.Sink.calls c.args.out.now c.args.begun.now
    c.args.tally.now (hours_left after) k c.do_hour-ended.new.out c.do_hour-ended.new.begun c.do_hour-ended.new.tally
    done next c.print_pending.new.out code
    (subst (λ (es : List Entry). IsCutIn g.S.Sink.taken g.S.Sink.calls c.do_hour-ended.new.out c.print_pending.new.out
    (behind g.P.Page.style c.do_hour-ended.new.begun (waits circuit es ∷ [])) code) queue cut))
    c.print_pending.ensures.ends

pub returns-then-is_none-clause-usage : goal.returns-then-is_none-clause-usage
returns-then-is_none-clause-usage g c =
    if_some_weaker c.print_pending.result _ _ (λ code cut.
    cut_never g.S.Sink.taken g.S.Sink.calls 2 c.do_hour-ended.new.out c.print_pending.new.out _ code
    (λ e. omega (arith, e)) (λ e. omega (arith, e)) cut)
    c.print_pending.ensures.ends

pub returns-then-is_none-clause-read : goal.returns-then-is_none-clause-read
returns-then-is_none-clause-read g c =
    if_some_weaker c.print_pending.result _ _ (λ code cut.
    cut_never g.S.Sink.taken g.S.Sink.calls 4 c.do_hour-ended.new.out c.print_pending.new.out _ code
    (λ e. omega (arith, e)) (λ e. omega (arith, e)) cut)
    c.print_pending.ensures.ends

pub loop-alloc-preserved : goal.loop-alloc-preserved
loop-alloc-preserved g c =
    let circuit = c.args.circuit.now in
    let first = hours_left c.args.underway.now.day in
    let l = kept_in (machine_in c.args.at.now c.args.underway.now) c.args.settled.now in
    let day = c.loop-alloc.underway.day in
    let before = kept_in (machine_in c.loop-alloc.at c.loop-alloc.underway) c.loop-alloc.settled in
    let after = c.do_hour-ended.new.underway.day in
    let k = kept_in (machine_in c.do_hour-ended.new.at c.do_hour-ended.new.underway) c.do_hour-ended.new.settled in
    let none = is_none_by c.do_hour-ended.result (sym c.is_some.ensures ∙ c.if-is_some.false) in
    let left = (c.do_hour-ended.ensures.left none).left in
    let W : List ℕ → Type 0 = λ hs.
    HourWay g.P.Page.style circuit first l g.S.Sink.taken g.S.Sink.calls c.args.out.now c.args.begun.now
    c.args.tally.now hs before c.loop-alloc.out c.loop-alloc.begun c.loop-alloc.tally in
    let at = subst W left c.loop-alloc.invariant.way in
    let next = way_printed g.P.Page.style circuit first l g.S.Sink.taken g.S.Sink.calls c.args.out.now
    c.args.begun.now c.args.tally.now (hour_in day) (hours_left after) before c.loop-alloc.out c.loop-alloc.begun
    c.loop-alloc.tally at k c.do_hour-ended.new.out c.do_hour-ended.new.begun c.do_hour-ended.new.tally
    (c.do_hour-ended.ensures.goes none) in
    let D : DayView → Machine → Type 0 = λ d m.
    HourWay g.P.Page.style circuit first l g.S.Sink.taken g.S.Sink.calls c.args.out.now c.args.begun.now
    c.args.tally.now (hours_left d) (kept_in m c.do_hour-ended.new.settled)
    c.do_hour-ended.new.out c.do_hour-ended.new.begun c.do_hour-ended.new.tally in
    let same = c.next_network.ensures.day in
    let hours = ap (λ (d : DayView). length (hours_left d)) same in
    let fewer = ap length left in
    let so_far = c.loop-alloc.invariant.settles in
    let one = c.do_hour-ended.ensures.settles in
    let sunk = c.do_hour-ended.ensures.later in
    let sunk_before = c.loop-alloc.invariant.later in
    record {
      underway = c.in-Ok.ensures.underway;
      settles = omega (arith, hours, fewer, so_far, one);
      room = c.do_hour-ended.ensures.room;
      later = omega (arith, sunk, sunk_before);
      way = subst (λ (d : DayView). D d (machine_in c.do_hour-ended.new.at c.next_network.new.self)) (sym same)
          (subst (D after) (sym c.next_network.ensures.machine) next);
    }

pub returns-in-Err-Range-clause-ends : goal.returns-in-Err-Range-clause-ends
returns-in-Err-Range-clause-ends g c =
    let circuit = c.args.circuit.now in
    let first = hours_left c.args.underway.now.day in
    let l = kept_in (machine_in c.args.at.now c.args.underway.now) c.args.settled.now in
    let day = c.loop-alloc.underway.day in
    let before = kept_in (machine_in c.loop-alloc.at c.loop-alloc.underway) c.loop-alloc.settled in
    let after = c.do_hour-ended.new.underway.day in
    let k = kept_in (machine_in c.do_hour-ended.new.at c.do_hour-ended.new.underway) c.do_hour-ended.new.settled in
    let none = is_none_by c.do_hour-ended.result (sym c.is_some.ensures ∙ c.if-is_some.false) in
    let behind = c.do_hour-ended.ensures.left none in
    let W : List ℕ → Type 0 = λ hs.
    HourWay g.P.Page.style circuit first l g.S.Sink.taken g.S.Sink.calls c.args.out.now c.args.begun.now
    c.args.tally.now hs before c.loop-alloc.out c.loop-alloc.begun c.loop-alloc.tally in
    let at = subst W behind.left c.loop-alloc.invariant.way in
    let next = way_printed g.P.Page.style circuit first l g.S.Sink.taken g.S.Sink.calls c.args.out.now
    c.args.begun.now c.args.tally.now (hour_in day) (hours_left after) before c.loop-alloc.out c.loop-alloc.begun
    c.loop-alloc.tally at k c.do_hour-ended.new.out c.do_hour-ended.new.begun c.do_hour-ended.new.tally
    (c.do_hour-ended.ensures.goes none) in
    let told = rw c.in-Err-Range.field-0-is at c.in-Err-Range.ensures.refused in
    way_range g.P.Page.style circuit first l g.S.Sink.taken g.S.Sink.calls c.args.out.now c.args.begun.now
    c.args.tally.now c.law.ensures.silent c.law.ensures.unshown (hours_left after) k c.do_hour-ended.new.out
    c.do_hour-ended.new.begun c.do_hour-ended.new.tally next c.in-Err-Range.blame told c.print_range.new.out
    c.print_range.result c.print_range.ensures.prints

pub returns-in-Err-NoMemory-clause-ends : goal.returns-in-Err-NoMemory-clause-ends
returns-in-Err-NoMemory-clause-ends g c =
    let circuit = c.args.circuit.now in
    let first = hours_left c.args.underway.now.day in
    let l = kept_in (machine_in c.args.at.now c.args.underway.now) c.args.settled.now in
    let day = c.loop-alloc.underway.day in
    let before = kept_in (machine_in c.loop-alloc.at c.loop-alloc.underway) c.loop-alloc.settled in
    let after = c.do_hour-ended.new.underway.day in
    let k = kept_in (machine_in c.do_hour-ended.new.at c.do_hour-ended.new.underway) c.do_hour-ended.new.settled in
    let none = is_none_by c.do_hour-ended.result (sym c.is_some.ensures ∙ c.if-is_some.false) in
    let W : List ℕ → Type 0 = λ hs.
    HourWay g.P.Page.style circuit first l g.S.Sink.taken g.S.Sink.calls c.args.out.now c.args.begun.now
    c.args.tally.now hs before c.loop-alloc.out c.loop-alloc.begun c.loop-alloc.tally in
    let at = subst W (c.do_hour-ended.ensures.left none).left c.loop-alloc.invariant.way in
    let next = way_printed g.P.Page.style circuit first l g.S.Sink.taken g.S.Sink.calls c.args.out.now
    c.args.begun.now c.args.tally.now (hour_in day) (hours_left after) before c.loop-alloc.out c.loop-alloc.begun
    c.loop-alloc.tally at k c.do_hour-ended.new.out c.do_hour-ended.new.begun c.do_hour-ended.new.tally
    (c.do_hour-ended.ensures.goes none) in
    way_short g.P.Page.style circuit first l g.S.Sink.taken g.S.Sink.calls c.args.out.now c.args.begun.now
    c.args.tally.now (hours_left after) k c.do_hour-ended.new.out c.do_hour-ended.new.begun c.do_hour-ended.new.tally
    next c.do_hour-ended.new.out 1 (wrote_nothing g.S.Sink.taken g.S.Sink.calls c.do_hour-ended.new.out) refl

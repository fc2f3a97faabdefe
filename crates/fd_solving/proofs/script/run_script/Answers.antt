use Rattle.std.proofs.Common.{Some, None, Ok, Err, refl, sym, subst, arith}
use Rattle.fd_pages.specs.fd_outside.Answers.{names_asked}
use Rattle.fd_pages.specs.fd_outside.Files.{held}
use Rattle.fd_pages.proofs.CallerLemmas.fd_outside.{agrees_before, agrees_behind, failed_behind, later_then}
use Rattle.dss_commands.specs.dss_model.Names.{bytes}
use Rattle.fd_pages.specs.dss_script.Said.{ScriptEnd, end_in, said_in}
use Rattle.fd_pages.specs.dss_script.Sessions.{remaining}
use Rattle.fd_pages.specs.dss_script.declared.fault.SessionFault.TheVariants as session
use Rattle.fd_pages.proofs.CallerLemmas.fd_outcome.{At, at_start, at_asked, at_command, ends_command, ends_finished}
use Rattle.fd_pages.proofs.CallerLemmas.fd_outcome.{ends_refused, ends_short, ends_unread, gives_next, command_answers}
use Rattle.fd_pages.proofs.CallerLemmas.fd_outcome.{shown_more, shown_nothing, untold_fault, untold_finished}
use Rattle.fd_pages.proofs.CallerLemmas.fd_outcome.{untold_read, untold_refused, untold_short}
use Rattle.fd_solving.proofs.script.run_script.Goals as goal

pub loop-command-init : goal.loop-command-init
loop-command-init g c = record {
  sink = omega arith;
  room = c.requires;
  shown = shown_nothing g.L.Library.answers g.L.Library.holds g.S.Sink.faults g.S.Sink.taken g.S.Sink.calls
      c.args.lib.now c.args.out.now;
  told = λ files told.
      at_start g.T.Line.is_step g.T.Line.last_name g.T.Line.is_last g.T.Line.style g.T.Line.tells
      (λ n. held files (bytes n)) g.L.Library.answers g.S.Sink.taken g.S.Sink.calls _ c.args.lib.now
      c.args.out.now (said_in (remaining files c.args.session.now)) (end_in (remaining files c.args.session.now))
      c.args.line.now refl;
}

pub take-requires : goal.take-requires
take-requires g c = let paid =
    rw c.in-Ok-Some.field-0-is at c.in-Ok-Some.ensures.room in omega (arith, c.loop-command.invariant.room, paid)

pub returns-in-Some-clause-run : goal.returns-in-Some-clause-run
returns-in-Some-clause-run g c files told =
    let kept = c.loop-command.invariant in
    let told_then = agrees_before g.L.Library.answers g.L.Library.holds files c.args.lib.now c.loop-command.lib
    c.next.new.lib c.next.ensures.later told in
    let told_now = agrees_behind g.L.Library.answers g.L.Library.holds files c.args.lib.now c.loop-command.lib
    c.next.new.lib kept.shown.later told in
    let gives = gives_next c.said_law.ensures files (remaining files c.loop-command.session) c.next.new.self
    (names_asked (g.L.Library.answers c.loop-command.lib))
    (names_asked (g.L.Library.answers c.next.new.lib)) (Ok (Some c.in-Ok-Some.command))
    (rw c.in-Ok-Some.field-0-is at (c.in-Ok-Some.ensures.told files told_now))
    (c.in-Ok-Some.ensures.asked files told_now) in
    let at = at_asked g.T.Line.is_step g.T.Line.last_name g.T.Line.is_last g.T.Line.style g.T.Line.tells
    (λ n. held files (bytes n)) g.L.Library.answers g.S.Sink.taken g.S.Sink.calls _ c.args.lib.now
    c.args.out.now c.law.ensures.one_step c.law.ensures.one_last c.law.ensures.fits c.law.ensures.told _ _ _ _ _ _ _ _
    (kept.told files told_then) gives.0 in
    ends_command g.T.Line.is_step g.T.Line.last_name g.T.Line.is_last g.T.Line.style g.T.Line.tells
    (λ n. held files (bytes n)) g.L.Library.answers g.S.Sink.taken g.S.Sink.calls _ c.args.lib.now
    c.args.out.now c.law.ensures.one_step c.law.ensures.one_last c.law.ensures.fits c.law.ensures.told
    _ _ _ _ _ _ _ _ _ at c.in-Some.ensures.ends

pub returns-in-Some-clause-untold : goal.returns-in-Some-clause-untold
returns-in-Some-clause-untold g c =
    let kept = c.loop-command.invariant in
    untold_fault g.L.Library.answers g.L.Library.holds g.S.Sink.faults g.S.Sink.taken g.S.Sink.calls c.args.lib.now
    c.loop-command.lib c.next.new.lib c.args.out.now c.loop-command.out c.take.new.out c.in-Some.status kept.shown
    c.next.ensures.later (command_answers g.S.Sink.taken g.S.Sink.calls g.T.Line.style _
    c.loop-command.out c.take.new.out _ c.in-Some.status c.in-Some.ensures.ends)
    c.in-Some.ensures.usage c.in-Some.ensures.read (λ five.
    let rose = c.in-Some.ensures.write five in omega (arith, rose, kept.sink))

pub loop-command-preserved : goal.loop-command-preserved
loop-command-preserved g c =
    let kept = c.loop-command.invariant in
    record {
      sink = omega (arith, kept.sink, c.take.ensures.later);
      room = (let paid = rw c.in-Ok-Some.field-0-is at c.in-Ok-Some.ensures.room in
          let took = c.in_default.ensures.room refl in
          omega (arith, kept.room, paid, took));
      shown = shown_more g.L.Library.answers g.L.Library.holds g.S.Sink.faults g.S.Sink.taken g.S.Sink.calls
          c.args.lib.now c.loop-command.lib c.next.new.lib c.args.out.now c.loop-command.out c.take.new.out _
          kept.shown c.next.ensures.later (c.in_default.ensures.goes refl).wrote;
      told = λ files told.
          let told_then = agrees_before g.L.Library.answers g.L.Library.holds files c.args.lib.now c.loop-command.lib
          c.next.new.lib c.next.ensures.later told in
          let told_now = agrees_behind g.L.Library.answers g.L.Library.holds files c.args.lib.now c.loop-command.lib
          c.next.new.lib kept.shown.later told in
          let gives = gives_next c.said_law.ensures files (remaining files c.loop-command.session) c.next.new.self
          (names_asked (g.L.Library.answers c.loop-command.lib))
          (names_asked (g.L.Library.answers c.next.new.lib)) (Ok (Some c.in-Ok-Some.command))
          (rw c.in-Ok-Some.field-0-is at (c.in-Ok-Some.ensures.told files told_now))
          (c.in-Ok-Some.ensures.asked files told_now) in
          let at = at_asked g.T.Line.is_step g.T.Line.last_name g.T.Line.is_last g.T.Line.style g.T.Line.tells
          (λ n. held files (bytes n)) g.L.Library.answers g.S.Sink.taken g.S.Sink.calls _
          c.args.lib.now c.args.out.now c.law.ensures.one_step c.law.ensures.one_last c.law.ensures.fits
          c.law.ensures.told
          _ _ _ _ _ _ _ _ (kept.told files told_then) gives.0 in
          let then = at_command g.T.Line.is_step g.T.Line.last_name g.T.Line.is_last g.T.Line.style g.T.Line.tells
          (λ n. held files (bytes n)) g.L.Library.answers g.S.Sink.taken g.S.Sink.calls _
          c.args.lib.now c.args.out.now c.law.ensures.one_step c.law.ensures.one_last c.law.ensures.fits
          c.law.ensures.told
          _ _ _ _ _ _ _ _ _ _ at (c.in_default.ensures.goes refl) in
          let P : ScriptEnd → Type 0 = λ e.
          At g.T.Line.is_step g.T.Line.last_name g.T.Line.is_last g.T.Line.style g.T.Line.tells
          (λ n. held files (bytes n)) g.L.Library.answers g.S.Sink.taken g.S.Sink.calls (record {
            left = said_in (remaining files c.args.session.now);
            end = end_in (remaining files c.args.session.now);
            state = c.args.line.now;
          }) c.args.lib.now c.args.out.now c.take.new.begun (said_in (remaining files c.next.new.self)) e
          c.take.new.self c.next.new.lib c.take.new.out in
          subst P (sym gives.1) then;
    }

pub returns-in-Ok-None-clause-run : goal.returns-in-Ok-None-clause-run
returns-in-Ok-None-clause-run g c files told =
    let kept = c.loop-command.invariant in
    let later = later_then g.L.Library.answers g.L.Library.holds c.args.lib.now c.loop-command.lib c.next.new.lib
    kept.shown.later c.next.ensures.later in
    let told_mid = agrees_before g.L.Library.answers g.L.Library.holds files c.args.lib.now c.next.new.lib
    c.finish.new.lib c.finish.ensures.untold.later told in
    let told_then = agrees_before g.L.Library.answers g.L.Library.holds files c.args.lib.now c.loop-command.lib
    c.next.new.lib c.next.ensures.later told_mid in
    let told_now = agrees_behind g.L.Library.answers g.L.Library.holds files c.args.lib.now c.loop-command.lib
    c.next.new.lib kept.shown.later told_mid in
    let gives = gives_next c.said_law.ensures files (remaining files c.loop-command.session) c.next.new.self
    (names_asked (g.L.Library.answers c.loop-command.lib)) (names_asked (g.L.Library.answers c.next.new.lib)) (Ok None)
    (rw c.in-Ok-None.field-0-is at (c.in-Ok-None.ensures.told files told_now))
    (c.in-Ok-None.ensures.asked files told_now) in
    ends_finished g.T.Line.is_step g.T.Line.last_name g.T.Line.is_last g.T.Line.style g.T.Line.tells
    (λ n. held files (bytes n)) g.L.Library.answers g.S.Sink.taken g.S.Sink.calls _ c.args.lib.now
    c.args.out.now c.law.ensures.one_step c.law.ensures.one_last c.law.ensures.fits c.law.ensures.told _ _ _ _ _ _ _
    later.since _ _ _
    (kept.told files told_then) gives later.told
    (c.finish.ensures.told files (agrees_behind g.L.Library.answers g.L.Library.holds files c.args.lib.now
    c.next.new.lib c.finish.new.lib later told))

pub returns-in-Ok-None-clause-untold : goal.returns-in-Ok-None-clause-untold
returns-in-Ok-None-clause-untold g c =
    let kept = c.loop-command.invariant in
    untold_finished g.L.Library.answers g.L.Library.holds g.S.Sink.faults g.S.Sink.taken g.S.Sink.calls c.args.lib.now
    c.loop-command.lib c.next.new.lib c.finish.new.lib c.args.out.now c.loop-command.out c.finish.new.out
    c.finish.result kept.shown c.next.ensures.later kept.sink
    c.finish.ensures.untold

pub returns-in-Err-Script-clause-run : goal.returns-in-Err-Script-clause-run
returns-in-Err-Script-clause-run g c files told =
    let kept = c.loop-command.invariant in
    let told_then = agrees_before g.L.Library.answers g.L.Library.holds files c.args.lib.now c.loop-command.lib
    c.next.new.lib c.next.ensures.later told in
    let told_now = agrees_behind g.L.Library.answers g.L.Library.holds files c.args.lib.now c.loop-command.lib
    c.next.new.lib kept.shown.later told in
    let gives = gives_next c.said_law.ensures files (remaining files c.loop-command.session) c.next.new.self
    (names_asked (g.L.Library.answers c.loop-command.lib))
    (names_asked (g.L.Library.answers c.next.new.lib))
    (Err (session.Script c.in-Err-Script.place c.in-Err-Script.cause))
    (rw c.in-Err-Script.field-0-is at (c.in-Err-Script.ensures.told files told_now))
    (rw c.in-Err-Script.field-0-is at (c.in-Err-Script.ensures.asked files told_now)) in
    ends_refused g.T.Line.is_step g.T.Line.last_name g.T.Line.is_last g.T.Line.style g.T.Line.tells
    (λ n. held files (bytes n)) g.L.Library.answers g.S.Sink.taken g.S.Sink.calls _ c.args.lib.now
    c.args.out.now c.law.ensures.one_step c.law.ensures.one_last c.law.ensures.fits c.law.ensures.told _ _ _ _ _ _ _
    _ _ _ _
    (kept.told files told_then) gives c.print_fault.ensures.prints

pub returns-in-Err-Script-clause-untold : goal.returns-in-Err-Script-clause-untold
returns-in-Err-Script-clause-untold g c =
    let kept = c.loop-command.invariant in
    untold_refused g.L.Library.answers g.L.Library.holds g.S.Sink.faults g.S.Sink.taken g.S.Sink.calls c.args.lib.now
    c.loop-command.lib c.next.new.lib c.args.out.now c.loop-command.out c.print_fault.new.out c.in-Err-Script.place
    c.in-Err-Script.cause c.print_fault.result kept.shown c.next.ensures.later c.print_fault.ensures.prints
    (λ five. let rose = c.print_fault.ensures.write five in omega (arith, rose, kept.sink))

pub returns-in-Err-Read-clause-run : goal.returns-in-Err-Read-clause-run
returns-in-Err-Read-clause-run g c files told =
    let kept = c.loop-command.invariant in
    let told_then = agrees_before g.L.Library.answers g.L.Library.holds files c.args.lib.now c.loop-command.lib
    c.next.new.lib c.next.ensures.later told in
    let told_now = agrees_behind g.L.Library.answers g.L.Library.holds files c.args.lib.now c.loop-command.lib
    c.next.new.lib kept.shown.later told in
    let last = rw c.in-Err-Read.field-0-is at c.in-Err-Read.ensures.last in
    let gives = gives_next c.said_law.ensures files (remaining files c.loop-command.session) c.next.new.self
    (names_asked (g.L.Library.answers c.loop-command.lib))
    (names_asked (g.L.Library.answers c.next.new.lib)) (Err (session.Read c.in-Err-Read.name))
    tt (rw c.in-Err-Read.field-0-is at (c.in-Err-Read.ensures.asked files told_now)) in
    ends_unread g.T.Line.is_step g.T.Line.last_name g.T.Line.is_last g.T.Line.style g.T.Line.tells
    (λ n. held files (bytes n)) g.L.Library.answers g.S.Sink.taken g.S.Sink.calls _ c.args.lib.now
    c.args.out.now c.law.ensures.one_step c.law.ensures.one_last c.law.ensures.fits c.law.ensures.told _ _ _ _ _ _ _
    _ _ _
    (kept.told files told_then) gives c.print_fault-in-Err-Read.ensures.prints
    (failed_behind (g.L.Library.answers c.args.lib.now) (g.L.Library.answers c.loop-command.lib)
    (g.L.Library.answers c.next.new.lib) kept.shown.later.since kept.shown.later.told (bytes c.in-Err-Read.name, last))

pub returns-in-Err-Read-clause-untold : goal.returns-in-Err-Read-clause-untold
returns-in-Err-Read-clause-untold g c =
    let kept = c.loop-command.invariant in
    let last = rw c.in-Err-Read.field-0-is at c.in-Err-Read.ensures.last in
    untold_read g.L.Library.answers g.L.Library.holds g.S.Sink.faults g.S.Sink.taken g.S.Sink.calls c.args.lib.now
    c.loop-command.lib c.next.new.lib c.args.out.now c.loop-command.out c.print_fault-in-Err-Read.new.out
    c.in-Err-Read.name c.print_fault-in-Err-Read.result kept.shown c.next.ensures.later last
    c.print_fault-in-Err-Read.ensures.prints (λ five.
    let up = c.print_fault-in-Err-Read.ensures.write five in omega (arith, up, kept.sink))

pub returns-in-Err-Ended-clause-run : goal.returns-in-Err-Ended-clause-run
returns-in-Err-Ended-clause-run g c files told =
    let kept = c.loop-command.invariant in
    let told_then = agrees_before g.L.Library.answers g.L.Library.holds files c.args.lib.now c.loop-command.lib
    c.next.new.lib c.next.ensures.later told in
    let told_now = agrees_behind g.L.Library.answers g.L.Library.holds files c.args.lib.now c.loop-command.lib
    c.next.new.lib kept.shown.later told in
    let gives = gives_next c.said_law.ensures files (remaining files c.loop-command.session) c.next.new.self
    (names_asked (g.L.Library.answers c.loop-command.lib))
    (names_asked (g.L.Library.answers c.next.new.lib)) (Err session.Ended) tt
    (rw c.in-Err-Ended.field-0-is at (c.in-Err-Ended.ensures.asked files told_now)) in
    ends_short g.T.Line.is_step g.T.Line.last_name g.T.Line.is_last g.T.Line.style g.T.Line.tells
    (λ n. held files (bytes n)) g.L.Library.answers g.S.Sink.taken g.S.Sink.calls _ c.args.lib.now
    c.args.out.now c.law.ensures.one_step c.law.ensures.one_last c.law.ensures.fits c.law.ensures.told _ _ _ _ _ _ _
    (kept.told files told_then) gives

pub returns-in-Err-Ended-clause-untold : goal.returns-in-Err-Ended-clause-untold
returns-in-Err-Ended-clause-untold g c =
    let kept = c.loop-command.invariant in
    untold_short g.L.Library.answers g.L.Library.holds g.S.Sink.faults g.S.Sink.taken g.S.Sink.calls c.args.lib.now
    c.loop-command.lib c.next.new.lib c.args.out.now c.loop-command.out kept.shown c.next.ensures.later

pub returns-in-Err-NoMemory-clause-run : goal.returns-in-Err-NoMemory-clause-run
returns-in-Err-NoMemory-clause-run g c files told =
    let kept = c.loop-command.invariant in
    let told_then = agrees_before g.L.Library.answers g.L.Library.holds files c.args.lib.now c.loop-command.lib
    c.next.new.lib c.next.ensures.later told in
    let told_now = agrees_behind g.L.Library.answers g.L.Library.holds files c.args.lib.now c.loop-command.lib
    c.next.new.lib kept.shown.later told in
    let gives = gives_next c.said_law.ensures files (remaining files c.loop-command.session) c.next.new.self
    (names_asked (g.L.Library.answers c.loop-command.lib))
    (names_asked (g.L.Library.answers c.next.new.lib)) (Err session.NoMemory) tt
    (rw c.in-Err-NoMemory.field-0-is at (c.in-Err-NoMemory.ensures.asked files told_now)) in
    ends_short g.T.Line.is_step g.T.Line.last_name g.T.Line.is_last g.T.Line.style g.T.Line.tells
    (λ n. held files (bytes n)) g.L.Library.answers g.S.Sink.taken g.S.Sink.calls _ c.args.lib.now
    c.args.out.now c.law.ensures.one_step c.law.ensures.one_last c.law.ensures.fits c.law.ensures.told _ _ _ _ _ _ _
    (kept.told files told_then) gives

pub returns-in-Err-NoMemory-clause-untold : goal.returns-in-Err-NoMemory-clause-untold
returns-in-Err-NoMemory-clause-untold g c =
    let kept = c.loop-command.invariant in
    untold_short g.L.Library.answers g.L.Library.holds g.S.Sink.faults g.S.Sink.taken g.S.Sink.calls c.args.lib.now
    c.loop-command.lib c.next.new.lib c.args.out.now c.loop-command.out kept.shown c.next.ensures.later

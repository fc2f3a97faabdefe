use Rattle.std.proofs.Common.{None, false}
use Rattle.fd_solving.specs.fd_outcome.Calls.{report}
use Rattle.fd_shorting.specs.Shorting.{IsShorted}
use Rattle.fd_solving.proofs.CallerLemmas.fd_outcome.{finishes_as, untold_first}
use Rattle.fd_shorting.proofs.Only.{one_shorted}
use Rattle.fd_shorting.proofs.Solved.{finishes_fault, finishes_short_of_memory, untold_by, untold_end}
use Rattle.fd_shorting.proofs.shorting.ShortingLine.finish.Goals as goal

pub returns-in-Ok-Ok-clause-told : goal.returns-in-Ok-Ok-clause-told
returns-in-Ok-Ok-clause-told g c files agrees =
    let placed = rw c.in-Ok-Ok.field-0-is at c.in-Ok-Ok.ensures in
    let made = c.solve_once.ensures.prints in
    finishes_as g.L.Library.answers g.L.Library.holds g.S.Sink.faults g.S.Sink.taken g.S.Sink.calls report false
    c.args._lib.now c.args.out.now c.solve_once.new.out c.args.begun c.solve_once.result
    (λ h. IsShorted c.args.self.now None h)
    made.history (placed.1 made.history made.right) made.prints

pub returns-in-Ok-Ok-clause-untold : goal.returns-in-Ok-Ok-clause-untold
returns-in-Ok-Ok-clause-untold g c =
    untold_by g.L.Library.answers g.L.Library.holds g.S.Sink.faults g.S.Sink.taken g.S.Sink.calls c.args._lib.now
    c.args.out.now c.solve_once.new.out c.solve_once.result c.solve_once.ensures.answers c.solve_once.ensures.usage
    c.solve_once.ensures.read c.solve_once.ensures.write

pub returns-in-Ok-Err-clause-told : goal.returns-in-Ok-Err-clause-told
returns-in-Ok-Err-clause-told g c files agrees =
    let end = rw c.in-Ok-Err.field-0-is at c.in-Ok-Err.ensures in
    finishes_fault g.L.Library.answers g.L.Library.holds g.S.Sink.faults g.S.Sink.taken g.S.Sink.calls c.args._lib.now
    c.args.out.now c.print_fault.new.out (λ h. IsShorted c.args.self.now None h) c.args.begun c.print_fault.result
    c.in-Ok-Err.fault end.right c.print_fault.ensures.prints

pub returns-in-Ok-Err-clause-untold : goal.returns-in-Ok-Err-clause-untold
returns-in-Ok-Err-clause-untold g c =
    let end = rw c.in-Ok-Err.field-0-is at c.in-Ok-Err.ensures in
    untold_end g.L.Library.answers g.L.Library.holds g.S.Sink.faults g.S.Sink.taken g.S.Sink.calls c.args._lib.now
    c.args.out.now c.print_fault.new.out c.in-Ok-Err.fault c.print_fault.result end.of_command
    c.print_fault.ensures.prints
    c.print_fault.ensures.write

pub returns-in-Err-clause-told : goal.returns-in-Err-clause-told
returns-in-Err-clause-told g c files agrees =
    finishes_short_of_memory g.L.Library.answers g.L.Library.holds g.S.Sink.faults g.S.Sink.taken g.S.Sink.calls
    c.args._lib.now c.args.out.now (λ h. IsShorted c.args.self.now None h) c.args.begun
    (one_shorted c.args.self.now None)

pub returns-in-Err-clause-untold : goal.returns-in-Err-clause-untold
returns-in-Err-clause-untold g c =
    untold_first g.L.Library.answers g.L.Library.holds g.S.Sink.faults g.S.Sink.taken g.S.Sink.calls c.args._lib.now
    c.args.out.now

use Rattle.std.proofs.Common.{false, arith}
use Rattle.std.specs.Str.{chars}
use Rattle.fd_fault.specs.dss_model.Names.{lower}
use Rattle.fd_fault.specs.dss_circuit.Circuit.{empty_circuit}
use Rattle.fd_solving.specs.fd_outcome.Calls.{report}
use Rattle.fd_solving.specs.dss_script.Sessions.{remaining}
use Rattle.fd_solving.proofs.CallerLemmas.{not_begun, of_script, report_asks}
use Rattle.fd_solving.proofs.CallerLemmas.fd_outcome.{untold_first}
use Rattle.fd_shorting.specs.Shorting.{IsShorted, IsShortingStep, no_shorting_name, shorting}
use Rattle.fd_shorting.proofs.Only.{one_short_step, one_shorted, short_tells}
use Rattle.fd_shorting.proofs.shorting.fault.Goals as goal

pub returns-in_default-clause-run : goal.returns-in_default-clause-run
returns-in_default-clause-run g c files agrees =
    not_begun IsShortingStep no_shorting_name IsShorted report false g.L.Library.answers g.S.Sink.taken
    g.S.Sink.calls files
    (chars c.args.master.now)
    (shorting empty_circuit (chars c.args.master.now) (lower (chars c.args.bus.now)) c.args.kind)
    one_short_step one_shorted report_asks (λ s found h told is none e. short_tells told) c.args.lib.now c.args.out.now

pub returns-in_default-clause-untold : goal.returns-in_default-clause-untold
returns-in_default-clause-untold g c =
    untold_first g.L.Library.answers g.L.Library.holds g.S.Sink.faults g.S.Sink.taken g.S.Sink.calls c.args.lib.now
    c.args.out.now

pub returns-in_default-new-clause-run : goal.returns-in_default-new-clause-run
returns-in_default-new-clause-run g c files agrees =
    not_begun IsShortingStep no_shorting_name IsShorted report false g.L.Library.answers g.S.Sink.taken
    g.S.Sink.calls files
    (chars c.args.master.now)
    (shorting empty_circuit (chars c.args.master.now) (lower (chars c.args.bus.now)) c.args.kind)
    one_short_step one_shorted report_asks (λ s found h told is none e. short_tells told) c.args.lib.now c.args.out.now

pub returns-in_default-new-clause-untold : goal.returns-in_default-new-clause-untold
returns-in_default-new-clause-untold g c =
    untold_first g.L.Library.answers g.L.Library.holds g.S.Sink.faults g.S.Sink.taken g.S.Sink.calls c.args.lib.now
    c.args.out.now

pub run_script-requires : goal.run_script-requires
run_script-requires g c = rw (c.in-Ok-new.ensures, c.in-Ok.ensures.start) omega arith

pub returns-clause-run : goal.returns-clause-run
returns-clause-run g c files agrees =
    of_script IsShortingStep no_shorting_name IsShorted report false g.L.Library.answers g.S.Sink.taken
    g.S.Sink.calls files
    (chars c.args.master.now)
    (shorting empty_circuit (chars c.args.master.now) (lower (chars c.args.bus.now)) c.args.kind)
    c.said_law.ensures (remaining files c.in-Ok.session) c.in-Ok-new.shorting c.args.lib.now c.run_script.new.lib
    c.args.out.now c.run_script.new.out c.run_script.result (c.in-Ok.ensures.script files) c.in-Ok-new.ensures
    (c.run_script.ensures.run files agrees)

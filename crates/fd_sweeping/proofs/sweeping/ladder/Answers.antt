use Rattle.std.proofs.Common.{false, arith}
use Rattle.std.specs.Str.{chars}
use Rattle.fd_solving.specs.fd_outcome.Calls.{report}
use Rattle.fd_solving.specs.dss_circuit.Circuit.{empty_circuit}
use Rattle.fd_solving.specs.dss_script.Sessions.{remaining}
use Rattle.fd_solving.specs.Scripts.{IsDoneThere, no_name}
use Rattle.fd_solving.proofs.CallerLemmas.{not_begun, of_script, report_asks}
use Rattle.fd_solving.proofs.CallerLemmas.fd_outcome.{untold_first}
use Rattle.fd_sweeping.specs.Sweeping.{IsSweepingStep, sweeping}
use Rattle.fd_sweeping.proofs.Only.{one_done, one_sweeping}
use Rattle.fd_sweeping.proofs.sweeping.ladder.Goals as goal

pub returns-in_default-clause-run : goal.returns-in_default-clause-run
returns-in_default-clause-run g c files agrees =
    not_begun IsSweepingStep no_name IsDoneThere report false g.L.Library.answers g.S.Sink.taken g.S.Sink.calls files
    (chars c.args.master.now) (sweeping empty_circuit 0) one_sweeping one_done report_asks
    (λ s found h told is none e. cc told)
    c.args.lib.now c.args.out.now

pub returns-in_default-clause-untold : goal.returns-in_default-clause-untold
returns-in_default-clause-untold g c =
    untold_first g.L.Library.answers g.L.Library.holds g.S.Sink.faults g.S.Sink.taken g.S.Sink.calls c.args.lib.now
    c.args.out.now

pub run_script-requires : goal.run_script-requires
run_script-requires g c = rw (c.new-sweeping.ensures, c.in-Ok.ensures.start) omega arith

pub returns-clause-run : goal.returns-clause-run
returns-clause-run g c files agrees =
    of_script IsSweepingStep no_name IsDoneThere report false g.L.Library.answers g.S.Sink.taken g.S.Sink.calls files
    (chars c.args.master.now) (sweeping empty_circuit 0) c.said_law.ensures (remaining files c.in-Ok.session)
    c.new-sweeping.result c.args.lib.now c.run_script.new.lib c.args.out.now c.run_script.new.out c.run_script.result
    (c.in-Ok.ensures.script files) c.new-sweeping.ensures (c.run_script.ensures.run files agrees)

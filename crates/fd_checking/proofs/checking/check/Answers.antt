use Rattle.std.proofs.Common.{true}
use Rattle.std.specs.Str.{chars}
use Rattle.fd_solving.specs.dss_script.Sessions.{remaining}
use Rattle.fd_solving.specs.fd_outcome.Calls.{report}
use Rattle.fd_solving.proofs.CallerLemmas.fd_outcome.{untold_first}
use Rattle.fd_checking.specs.Checks.{IsCheckStep, IsJudged, certificate_name, first_gathered}
use Rattle.fd_solving.proofs.CallerLemmas.{not_begun, of_script, report_asks}
use Rattle.fd_checking.proofs.Gathering.{one_check_step, one_judged}
use Rattle.fd_checking.proofs.Judging.{judged_tells}
use Rattle.fd_checking.proofs.checking.check.Goals as goal

pub returns-in_default-clause-run : goal.returns-in_default-clause-run
returns-in_default-clause-run g c files agrees =
    not_begun IsCheckStep certificate_name IsJudged report true g.L.Library.answers
    g.S.Sink.taken g.S.Sink.calls files (chars c.args.script.now) (first_gathered (chars c.args.certificate.now))
    one_check_step one_judged report_asks judged_tells c.args.lib.now c.args.out.now

pub returns-in_default-clause-untold : goal.returns-in_default-clause-untold
returns-in_default-clause-untold g c =
    untold_first g.L.Library.answers g.L.Library.holds g.S.Sink.faults g.S.Sink.taken g.S.Sink.calls c.args.lib.now
    c.args.out.now

pub returns-in_default-new-clause-run : goal.returns-in_default-new-clause-run
returns-in_default-new-clause-run g c files agrees =
    not_begun IsCheckStep certificate_name IsJudged report true g.L.Library.answers
    g.S.Sink.taken g.S.Sink.calls files (chars c.args.script.now) (first_gathered (chars c.args.certificate.now))
    one_check_step one_judged report_asks judged_tells c.args.lib.now c.args.out.now

pub returns-in_default-new-clause-untold : goal.returns-in_default-new-clause-untold
returns-in_default-new-clause-untold g c =
    untold_first g.L.Library.answers g.L.Library.holds g.S.Sink.faults g.S.Sink.taken g.S.Sink.calls c.args.lib.now
    c.args.out.now

pub returns-clause-run : goal.returns-clause-run
returns-clause-run g c files agrees =
    of_script IsCheckStep certificate_name IsJudged report true g.L.Library.answers
    g.S.Sink.taken g.S.Sink.calls files (chars c.args.script.now) (first_gathered (chars c.args.certificate.now))
    c.said_law.ensures (remaining files c.in-Ok.session) c.in-Ok-new.gathered c.args.lib.now c.run_script.new.lib
    c.args.out.now c.run_script.new.out c.run_script.result (c.in-Ok.ensures.script files) c.in-Ok-new.ensures
    (c.run_script.ensures.run files agrees)

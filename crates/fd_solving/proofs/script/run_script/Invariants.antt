use Rattle.std.proofs.Common.{◌≤◌, ◌+◌}
use Rattle.fd_pages.specs.fd_outside.Answers.{AgreesSince}
use Rattle.fd_pages.specs.fd_outside.Files.{Files, held}
use Rattle.dss_commands.specs.dss_model.Names.{bytes}
use Rattle.fd_pages.specs.dss_script.Said.{end_in, said_in}
use Rattle.fd_pages.specs.dss_script.Sessions.{remaining, room}
use Rattle.fd_pages.proofs.CallerLemmas.fd_outcome.{At, Shown}
use Rattle.fd_solving.proofs.script.run_script.Given as goal

abbrev pub invariant-loop-command : goal.invariant-loop-command
invariant-loop-command g l = record {
  sink : g.S.Sink.faults l.initial.out ≤ g.S.Sink.faults l.out;
  room : g.T.Line.weight l.line + room l.session ≤ 1_048_578;
  shown : Shown g.L.Library.answers g.L.Library.holds g.S.Sink.taken g.S.Sink.calls l.initial.lib l.lib l.initial.out
      l.out;
  told : (files : Files) → AgreesSince files (g.L.Library.answers l.initial.lib) (g.L.Library.answers l.lib)
      → At g.T.Line.is_step g.T.Line.last_name g.T.Line.is_last g.T.Line.style g.T.Line.tells
      (λ n. held files (bytes n)) g.L.Library.answers g.S.Sink.taken g.S.Sink.calls (record {
        left = said_in (remaining files l.initial.session);
        end = end_in (remaining files l.initial.session);
        state = l.initial.line;
      }) l.initial.lib l.initial.out l.begun (said_in (remaining files l.session))
      (end_in (remaining files l.session)) l.line l.lib l.out;
}

abbrev pub decreases-loop-command : goal.decreases-loop-command
decreases-loop-command g l = room l.session

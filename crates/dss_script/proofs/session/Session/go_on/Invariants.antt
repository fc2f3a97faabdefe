use Rattle.std.proofs.Common.{◌≤◌}
use Rattle.fd_outside.specs.Answers.{AgreesSince, IsLater, names_asked}
use Rattle.fd_outside.specs.Files.{Files}
use Rattle.dss_script.specs.Sessions.{Reached, remaining, room, left}
use Rattle.dss_script.proofs.session.Session.go_on.Given as goal

abbrev pub invariant-loop-place : goal.invariant-loop-place
invariant-loop-place g l = record {
  later : IsLater g.L.Library.answers g.L.Library.holds l.initial.lib l.lib;
  reached : (files : Files) → AgreesSince files (g.L.Library.answers l.initial.lib) (g.L.Library.answers l.lib)
      → Reached (remaining files l.initial.self) (remaining files l.self)
      (names_asked (g.L.Library.answers l.initial.lib)) (names_asked (g.L.Library.answers l.lib));
  room : room l.self ≤ room l.initial.self;
}

abbrev pub decreases-loop-place : goal.decreases-loop-place
decreases-loop-place g l = left l.self

-- Every settle of a script is solved.
use Rattle.std.specs.Prelude.{ℕ, ◌+◌, ◌<◌, ◌^◌, List, All}
use Rattle.dss_commands.specs.dss_circuit.Circuit.{CircuitView}
use Rattle.dss_commands.specs.dss_circuit.InRange.{IsWithinLimits}
use Rattle.fd_daily.specs.dss_ready.Ready.{HasPassed}
use Rattle.fd_daily.specs.fd_xfmr.Leakage.{AreTaps}
use Rattle.fd_daily.specs.fd_queue.Controls.{Positions}
use Rattle.fd_pages.specs.fd_outside.Files.{Files}
use Rattle.fd_pages.specs.dss_script.Said.{said_of}
use Rattle.fd_pages.specs.fd_outcome.Events.{AllSettles, History}
use Rattle.fd_pages.specs.fd_outcome.Parts.{events_in}
use Rattle.fd_pages.specs.fd_outcome.Work.{Step}
use Rattle.fd_solving.specs.Headline.{IsSolved}
use Rattle.fd_solving.specs.Scripts.{IsScriptHistory}
use Rattle.fd_solving.specs.Solving.{IsSolutionStep}
use Rattle.fd_solving.specs.Steps.{StandingView, standing}

-- those of a history of `solve` or `cert`, whatever the files hold
abbrev pub SolvedLaw : Type 0
SolvedLaw =
    (files : Files) (name : List ℕ) (h : History) → IsScriptHistory files (said_of files name) h
    → AllSettles IsSolved h.events

-- those of one Solve of a circuit that has passed the tests, where so many settles came before it
abbrev pub SolutionLaw : Type 0
SolutionLaw =
    (c : CircuitView) (at : Positions) (n : ℕ) (step : Step StandingView) → HasPassed c
    → IsWithinLimits c.elements c.options
    → All AreTaps at.taps → n + 8761 < 2 ^ 32 → IsSolutionStep (standing c at n) step
    → AllSettles IsSolved (events_in step)

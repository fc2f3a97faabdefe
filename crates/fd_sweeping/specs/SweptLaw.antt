-- What is true of the events of every history of `ladder`.
use Rattle.std.specs.Prelude.{ℕ, List}
use Rattle.fd_solving.specs.dss_script.Said.{said_of}
use Rattle.fd_solving.specs.fd_outside.Files.{Files}
use Rattle.fd_solving.specs.fd_outcome.Events.{AllSettles, History}
use Rattle.fd_solving.specs.Headline.{IsSolved}
use Rattle.fd_sweeping.specs.Agreements.{HaveSweeps}
use Rattle.fd_sweeping.specs.Sweeping.{IsLadderHistory}

-- each settle is solved, and its sweep stands behind it
abbrev pub SweptLaw : Type 0
SweptLaw =
    (files : Files) (name : List ℕ) (h : History) → IsLadderHistory files (said_of files name) h
    → AllSettles IsSolved h.events × HaveSweeps h.events

-- Every settle of a short circuit is a study of it.
use Rattle.std.specs.Prelude.{ℕ, List}
use Rattle.fd_solving.specs.dss_script.Said.{said_of}
use Rattle.fd_fault.specs.declared.kind.Kind.{Kind}
use Rattle.fd_solving.specs.fd_outside.Files.{Files}
use Rattle.fd_solving.specs.fd_outcome.Events.{AllSettles, History}
use Rattle.fd_shorting.specs.Shorting.{IsFaultHistory}
use Rattle.fd_shorting.specs.Studies.{IsStudy}

abbrev pub StudiedLaw : Type 0
StudiedLaw =
    (files : Files) (master bus : List ℕ) (kind : Kind) (h : History)
    → IsFaultHistory files (said_of files master) master bus kind h → AllSettles IsStudy h.events

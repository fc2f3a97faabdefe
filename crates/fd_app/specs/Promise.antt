-- The promise of the program: what its top call does for the words of a command line.
use Rattle.std.specs.Prelude.{◌≡◌, ℕ, List, Option, Some}
use Rattle.std.specs.Str.{chars}
use Rattle.fd_checking.specs.dss_script.Said.{Part, said_of}
use Rattle.fd_bench.specs.fd_outside.Answers.{Answer}
use Rattle.fd_bench.specs.fd_outside.Files.{Files}
use Rattle.fd_bench.specs.Bench.{feeder_files, feeder_name}
use Rattle.fd_words.specs.Words.{Form, Solve, Cert, Check, Bench, Upgrade, Fault, Ladder}
use Rattle.fd_checking.specs.fd_outcome.Events.{Event, History}
use Rattle.fd_checking.specs.fd_solving.Headline.{EnclosesOthers, EnclosesSizes}
use Rattle.fd_checking.specs.fd_solving.Scripts.{IsScriptHistory}
use Rattle.fd_app.specs.Printing.{IsPrinted, Outside, outside_of}
use Rattle.fd_app.specs.Rounds.{EachRound, EnclosesLinear, IsExact, MeetsEquations}
use Rattle.fd_app.specs.Run.{AgreesIf, IsFormHistory, manner_of}
use Rattle.fd_app.specs.Sentences.{AreStudied, AreSwept, IsAccepted, IsCertificate, IsUpgraded}
use Rattle.fd_app.specs.Steady.{AreSteadyThroughout}

-- The headline, of the events of a script: each printed state meets its circuit's equations within the printed
-- mismatches; every state in the printed box that meets them as closely lies within the printed radii, with sizes from
-- low to high, and where the equations are linear every state outside the box too; each act and each entry that waits
-- is that of the queue over any such states, through all hours of all Solves; and the numbers are no others than
-- stated.
pub record AreTrue (p : Part) (events : List Event) : Type 0 where
  pub equations : EachRound MeetsEquations events
  pub enclosed : EachRound EnclosesOthers events
  pub sizes : EachRound EnclosesSizes events
  pub linear : EachRound EnclosesLinear events
  pub acts : AreSteadyThroughout p events
  pub exact : EachRound IsExact events

-- What is true of a command line's history, by its form.
abbrev pub IsTrue : Files → Option Form → History → Type 0
IsTrue files (Some (Solve file)) h = AreTrue (said_of files (chars file)) h.events
IsTrue files (Some (Cert file)) h = AreTrue (said_of files (chars file)) h.events × IsAccepted files (chars file) h
IsTrue files (Some (Check script name)) h = IsCertificate files (chars script) (chars name) h
IsTrue files (Some (Bench number sections)) h = (solving : History)
    → IsScriptHistory (feeder_files number sections)
    (said_of (feeder_files number sections) (chars feeder_name)) solving
    → AreTrue (said_of (feeder_files number sections) (chars feeder_name)) solving.events
IsTrue files (Some (Upgrade name)) h = IsUpgraded files (chars name) h
IsTrue files (Some (Fault master bus kind)) h = AreStudied h.events
IsTrue files (Some (Ladder master)) h = AreSwept h.events
IsTrue files other h = Unit {0}

-- The words have one history over the files: the names that are asked for, what is done, and its end with its status.
-- It is printed, no other name is asked and no other byte is written, and what it says is true.
pub record IsPromised (o : Outside) (files : Files) (form : Option Form) (code : ℕ) : Type 0 where
  pub history : History
  pub right : IsFormHistory files form history
  pub printed : IsPrinted o (manner_of form) history code
  pub is_true : IsTrue files form history

-- so over all files that agree with what the library answered in the call
module _ {L S : Type 0} (answers : L → List Answer) (taken : S → List ℕ) (calls : S → ℕ) where
  abbrev pub Promised : Option Form → L → L → S → S → ℕ → Type 0
  Promised form lib_old lib_new old new code =
      (files : Files) → AgreesIf (manner_of form).asks (answers lib_old) (answers lib_new) files
      → IsPromised (outside_of answers taken calls lib_old lib_new old new) files form code

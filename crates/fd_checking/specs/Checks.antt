-- What the command line `check SCRIPT CERTIFICATE` comes to: a script's commands are gathered, and behind the last of
-- them the certificate is judged.
use Rattle.std.specs.Prelude.{◌≡◌, ℕ, List, [], ◌∷◌, ◌++◌, Option, Some, None, Result, Ok, Err}
use Rattle.fd_check.specs.fd_outside.Files.{Files, held}
use Rattle.fd_check.specs.dss_model.Names.{bytes}
use Rattle.fd_solving.specs.dss_script.Said.{Part, ended_by}
use Rattle.fd_check.specs.dss_model.declared.command.Blame.{Blame}
use Rattle.fd_check.specs.dss_model.declared.command.Command.{Command}
use Rattle.fd_check.specs.dss_circuit.Circuit.{CircuitView, empty_circuit}
use Rattle.fd_check.specs.fd_daily.Underway.{no_positions}
use Rattle.fd_check.specs.fd_certfile.declared.version.Version.{Version}
use Rattle.fd_check.specs.fd_certfile.Certificates.{Certificate, Reads, behind_first, version_in}
use Rattle.fd_check.specs.fd_certfile.Lines.{lines_of}
use Rattle.fd_check.specs.fd_certfile.Verdict.{Answer, IsAnswer, accepted, refused, stopped}
use Rattle.fd_check.specs.Checking.{after, due, open_solves}
use Rattle.fd_check.specs.Laws.{AreOfRounds}
use Rattle.fd_solving.specs.fd_report.Accepted.{accepted_fields}
use Rattle.fd_solving.specs.fd_report.declared.faults.Cause.TheVariants as cause
use Rattle.fd_solving.specs.fd_report.declared.faults.Fault.TheVariants as fault
use Rattle.fd_solving.specs.fd_outcome.Events.{History, ended, finishes, row}
use Rattle.fd_solving.specs.fd_outcome.History.{IsHistory}
use Rattle.fd_solving.specs.fd_outcome.Work.{Step, ends, goes}
use Rattle.fd_solving.specs.Commands.{Applied, IsTested, bases_left, nothing_left, refused_at, solve_left, tried}

-- between two commands: the circuit, the circuits of the Solves so far, each as it was then, and the name of the
-- certificate
pub record GatheredView : Type 0 where
  pub circuit : CircuitView
  pub solved : List CircuitView
  pub certificate : List ℕ

abbrev pub gathered : CircuitView → List CircuitView → List ℕ → GatheredView
gathered c solved name = record { circuit = c; solved = solved; certificate = name }

abbrev pub first_gathered : List ℕ → GatheredView
first_gathered name = gathered empty_circuit [] name

-- ---- a command

-- by the tests of Solve: nothing is solved
abbrev pub IsGatheredBy : CircuitView → List CircuitView → List ℕ → Result Unit Blame → Step GatheredView → Type 0
IsGatheredBy c solved name (Err blame) step = step ≡ ends [] (fault.Script blame.place (cause.Model blame.cause))
IsGatheredBy c solved name (Ok done) step = step ≡ goes [] (gathered c (solved ++ c ∷ []) name)

pub record IsSolveGathered (c : CircuitView) (solved : List CircuitView) (name : List ℕ)
    (step : Step GatheredView) : Type 0 where
  pub answer : Result Unit Blame
  pub right : IsTested c answer
  pub step_is : IsGatheredBy c solved name answer step

-- nothing is printed
abbrev pub IsGatheredOf : List CircuitView → List ℕ → Applied → Step GatheredView → Type 0
IsGatheredOf solved name (nothing_left c) step = step ≡ goes [] (gathered c solved name)
IsGatheredOf solved name (bases_left c) step = step ≡ goes [] (gathered c solved name)
IsGatheredOf solved name (refused_at place x) step = step ≡ ends [] (fault.Script place x)
IsGatheredOf solved name (solve_left c) step = IsSolveGathered c solved name step

-- what a command comes to
abbrev pub IsCheckStep : Command → GatheredView → Step GatheredView → Type 0
IsCheckStep command g step = IsGatheredOf g.solved g.certificate (tried command g.circuit) step

-- ---- behind the last command

-- the certificate is asked for
abbrev pub certificate_name : GatheredView → Option (List ℕ)
certificate_name g = Some g.certificate

-- the record of an accepted certificate, or the fault of a refused one
abbrev pub judged_as : Answer Blame → History
judged_as (accepted count) = finishes (row (accepted_fields count) ∷ [])
judged_as (refused line rule) = ended [] (fault.Certificate line rule)
judged_as (stopped blame) = ended [] (fault.Script blame.place (cause.Model blame.cause))

-- what is held under its name is judged on the networks of the Solves
pub record IsJudged (g : GatheredView) (found : Option (List ℕ)) (h : History) : Type 0 where
  pub answer : Answer Blame
  pub right : IsAnswer due after found (open_solves g.solved no_positions 0) answer
  pub h_is : h ≡ judged_as answer

-- ---- the history

-- the history of the commands of a script for `check`, with the certificate of this name behind them
abbrev pub IsCheckHistory : Files → Part → List ℕ → History → Type 0
IsCheckHistory files p name h = IsHistory IsCheckStep certificate_name IsJudged (λ n. held files (bytes n)) p.said (ended_by p.left) (first_gathered name) h

-- ---- what it says of a certificate that it is accepted

-- its blocks are those of the rounds of these Solves, one for each: what a block claims is sound in the network of its
-- round, and its acts are those that the queue machine makes of the samples of its ball
pub record IsOfSolves (solved : List CircuitView) (bytes : List ℕ) : Type 0 where
  pub version : Version
  pub certificate : Certificate
  pub version_is : version_in (lines_of bytes) ≡ Some version
  pub reads : Reads version (behind_first (lines_of bytes)) certificate
  pub of_rounds : AreOfRounds certificate (open_solves solved no_positions 0)

abbrev pub IsFoundOf : List CircuitView → Option (List ℕ) → Type 0
IsFoundOf solved None = ⊥
IsFoundOf solved (Some bytes) = IsOfSolves solved bytes

-- where `check` ends without a fault, the certificate that is held is one of the Solves
abbrev pub CheckedLaw : Type 0
CheckedLaw = (g : GatheredView) (found : Option (List ℕ)) (h : History) → IsJudged g found h → h.end ≡ None → IsFoundOf g.solved found

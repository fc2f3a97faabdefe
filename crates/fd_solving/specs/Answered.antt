-- What a command and an hour come to, as the code says it.
use Rattle.std.specs.Prelude.{◌≡◌, ℕ, List, [], Option, Some, None}
use Rattle.fd_pages.specs.dss_layout.Layout.{layout_of, size_of}
use Rattle.dss_commands.specs.dss_model.declared.command.Blame.{Blame}
use Rattle.dss_commands.specs.dss_model.declared.command.Verb.{Verb}
use Rattle.dss_commands.specs.dss_model.declared.command.Verb.TheVariants as verb
use Rattle.dss_commands.specs.dss_circuit.Circuit.{CircuitView}
use Rattle.fd_daily.specs.dss_ready.Ready.{HasPassed, IsToBlame}
use Rattle.fd_daily.specs.fd_queue.Controls.{Positions}
use Rattle.fd_daily.specs.fd_queue.Machine.{Machine}
use Rattle.fd_pages.specs.fd_report.declared.faults.Cause.TheVariants as cause
use Rattle.fd_pages.specs.fd_report.declared.faults.Fault.{Fault}
use Rattle.fd_pages.specs.fd_report.declared.faults.Fault.TheVariants as fault
use Rattle.fd_daily.specs.fd_settle.declared.round.Round.{Round as Made}
use Rattle.fd_pages.specs.fd_outcome.Work.{Step, ends, goes}
use Rattle.fd_pages.specs.Bases.{base_events}
use Rattle.fd_pages.specs.Hours.{IsPrintable, IsTriedOf, Kept, settle_made}
use Rattle.fd_solving.specs.Commands.{Applied, IsStepOf, bases_left, nothing_left, refused_at, solve_left}
use Rattle.fd_solving.specs.Endings.{end_by}
use Rattle.fd_solving.specs.Solving.{IsHour, IsSolutionStep, begun_by}
use Rattle.fd_solving.specs.Steps.{StandingView, changes, standing}
use Rattle.fd_solving.specs.declared.answer.Answer.{Answer}
use Rattle.fd_solving.specs.declared.faults.Failure.{Failure}
use Rattle.fd_solving.specs.declared.answer.Answer.TheVariants as answer

-- ---- a command

-- a fault of a command
abbrev pub IsOfCommand : Fault → Type 0
IsOfCommand fault.Usage = ⊥
IsOfCommand (fault.Read name) = ⊥
IsOfCommand other = Unit {0}

-- a circuit that doesn't pass the tests of Solve, as a fault
pub record IsBlamed (c : CircuitView) (f : Fault) : Type 0 where
  pub blame : Blame
  pub right : IsToBlame c blame
  pub fault_is : f ≡ fault.Script blame.place (cause.Model blame.cause)

-- why a command is refused, by what is left of it
abbrev pub IsRefusal : Applied → Fault → Type 0
IsRefusal (nothing_left c) f = ⊥
IsRefusal (bases_left c) f = ⊥
IsRefusal (refused_at place x) f = f ≡ fault.Script place x
IsRefusal (solve_left c) f = IsBlamed c f

-- What is left of a command with the circuit as it is now: nothing; or the voltage bases of buses; or it is a Solve
-- that passed the tests; or it is refused.
abbrev pub IsAnswered : Applied → CircuitView → Answer → Type 0
IsAnswered left c answer.Done = left ≡ nothing_left c
IsAnswered left c answer.Bases = left ≡ bases_left c
IsAnswered left c answer.Solves = (left ≡ solve_left c) × HasPassed c
IsAnswered left c (answer.Refuses f) = IsRefusal left f

-- What is left of a command comes to this for `solve`: it is done; or it ends the run with a fault; or it asks for
-- voltage bases; or it is a Solve that passed the tests, and comes to what the hours of the Solve come to.
abbrev pub IsAnswerOf : Positions → ℕ → Applied → CircuitView → Answer → Type 0
IsAnswerOf at settled left c answer.Done = IsStepOf at settled left (changes (standing c at settled))
IsAnswerOf at settled left c answer.Bases = IsStepOf at settled left (goes (base_events c) (standing c at settled))
IsAnswerOf at settled left c (answer.Refuses f) = IsStepOf at settled left (ends [] f) × IsOfCommand f
IsAnswerOf at settled left c answer.Solves =
    HasPassed c
    × ((step : Step StandingView) → IsSolutionStep (standing c at settled) step → IsStepOf at settled left step)

-- how many Solves a command counts, and an answer to it
abbrev pub solve_count : Verb → ℕ
solve_count (verb.Solve pairs) = 1
solve_count other = 0

abbrev pub solves_of : Answer → ℕ
solves_of answer.Solves = 1
solves_of other = 0

-- ---- an hour

-- what is kept from hour to hour
abbrev pub kept_in : Machine → ℕ → Kept
kept_in m settled = record { machine = m; settled = settled }

abbrev pub IsFailureOfCommand : Option Failure → Type 0
IsFailureOfCommand None = Unit {0}
IsFailureOfCommand (Some x) = IsOfCommand x.fault

abbrev pub IsFailureOf : ℕ → Option Failure → Type 0
IsFailureOf size None = Unit {0}
IsFailureOf size (Some x) = IsTriedOf size x.tried

-- An hour was made: its settle is the hour's, its rounds can be printed, and a failure is one of a command.
pub record IsMadeHour (c : CircuitView) (hour : ℕ) (l : Kept) (rounds : List Made) (x : Option Failure)
    (k : Kept) : Type 0 where
  pub is : IsHour c hour l (settle_made c hour (begun_by c hour l) rounds (end_by x) k.machine.at) k
  pub printable : IsPrintable c hour rounds k.machine.at
  pub tried : IsFailureOf (size_of (layout_of c.elements)) x
  pub command : IsFailureOfCommand x

-- What is left of a command, for `ladder`.
use Rattle.std.proofs.Common.{◌≡◌, ◌≤◌, ◌+◌, ℕ, [], Ok, Err, inl, inr, refl, sym, ap, subst}
use Rattle.fd_solving.specs.dss_model.declared.command.Command.{Command}
use Rattle.fd_solving.specs.dss_circuit.Circuit.{CircuitView}
use Rattle.fd_solving.specs.dss_script.Sessions.{cost}
use Rattle.fd_solving.specs.dss_ready.Ready.{HasPassed}
use Rattle.fd_solving.specs.fd_daily.Underway.{no_positions}
use Rattle.fd_solving.specs.fd_outcome.Work.{Step, ends, goes}
use Rattle.fd_solving.specs.fd_pages.Bases.{base_events}
use Rattle.fd_solving.specs.fd_report.declared.faults.Fault.{Fault}
use Rattle.fd_solving.specs.Answered.{IsAnswered, IsOfCommand}
use Rattle.fd_solving.specs.Commands.{Applied, bases_left, nothing_left, refused_at, solve_left, tried}
use Rattle.fd_solving.specs.Steps.{StandingView, changes}
use Rattle.fd_solving.specs.Weights.{weight}
use Rattle.fd_solving.specs.declared.answer.Answer.{Answer}
use Rattle.fd_solving.specs.declared.answer.Answer.TheVariants as answer
use Rattle.fd_solving.proofs.CallerLemmas.{answer_of, reached_takes}
use Rattle.fd_sweep.specs.fd_ladder.Radial.{first_offending}
use Rattle.fd_sweeping.specs.Sweeping.{IsByOrder, IsSweepingStepOf, sweeping}

-- what an answer to a command comes to, where there were so many settles
abbrev pub IsAnswerOf : ℕ → Applied → CircuitView → Answer → Type 0
IsAnswerOf n left c answer.Done = IsSweepingStepOf n left (changes (sweeping c n))
IsAnswerOf n left c answer.Bases = IsSweepingStepOf n left (goes (base_events c) (sweeping c n))
IsAnswerOf n left c (answer.Refuses f) = IsSweepingStepOf n left (ends [] f) × IsOfCommand f
IsAnswerOf n left c answer.Solves =
    HasPassed c
    × ((step : Step StandingView) → IsByOrder c n (first_offending c.elements) step → IsSweepingStepOf n left step)

refused_step : (n : ℕ) (left : Applied) (c : CircuitView) (f : Fault) → IsAnswered left c (answer.Refuses f)
    → IsSweepingStepOf n left (ends [] f)
refused_step n (nothing_left x) c f h = absurd h
refused_step n (bases_left x) c f h = absurd h
refused_step n (refused_at place x) c f h = ap (λ (g : Fault). ends [] g) h
refused_step n (solve_left x) c f h =
    record { answer = Err h.blame; right = h.right; step_is = ap (λ (g : Fault). ends [] g) h.fault_is }

pub swept_answer : (n : ℕ) (left : Applied) (c : CircuitView) (a : Answer) → IsAnswered left c a → IsAnswerOf n left c a
swept_answer n left c answer.Done h =
    subst (λ (l : Applied). IsSweepingStepOf n l (changes (sweeping c n))) (sym h) refl
swept_answer n left c answer.Bases h =
    subst (λ (l : Applied). IsSweepingStepOf n l (goes (base_events c) (sweeping c n))) (sym h) refl
swept_answer n left c (answer.Refuses f) h =
    (refused_step n left c f h, (answer_of left c (answer.Refuses f) h no_positions n).1)
swept_answer n left c answer.Solves h = (
  h.1,
  λ step is.
      subst (λ (l : Applied). IsSweepingStepOf n l step) (sym h.0)
      (record { answer = Ok tt; right = h.1; step_is = is }),
)

-- ---- a circuit that is left has room

pub swept_room : (command : Command) (old c : CircuitView) (a : Answer) → IsAnswered (tried command old) c a
    → ((f : Fault) → a ≡ answer.Refuses f → ⊥) → weight c ≤ weight old + cost command.verb
swept_room command old c answer.Done h goes_on = reached_takes command old c (inl h)
swept_room command old c answer.Bases h goes_on = reached_takes command old c (inr (inr h))
swept_room command old c answer.Solves h goes_on = reached_takes command old c (inr (inl h.0))
swept_room command old c (answer.Refuses f) h goes_on = absurd (goes_on f refl)

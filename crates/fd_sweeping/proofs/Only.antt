-- A command and a script of `ladder` come to exactly one thing.
use Rattle.std.proofs.Common.{◌≡◌, ◌∙◌, ℕ, List, [], Option, Some, None, Result, Ok, Err, refl, ap, subst}
use Rattle.fd_solving.specs.dss_model.Names.{bytes}
use Rattle.fd_solving.specs.dss_model.declared.command.Blame.{Blame}
use Rattle.fd_solving.specs.dss_model.declared.command.Command.{Command}
use Rattle.fd_solving.specs.dss_circuit.Circuit.{CircuitView, empty_circuit}
use Rattle.fd_solving.specs.dss_script.Said.{ended_by, said_of}
use Rattle.fd_sweep.specs.fd_ladder.Radial.{first_offending}
use Rattle.fd_solving.specs.fd_outside.Files.{Files, held}
use Rattle.fd_solving.specs.fd_report.declared.faults.Cause.TheVariants as cause
use Rattle.fd_solving.specs.fd_outcome.Events.{finishes}
use Rattle.fd_solving.specs.fd_outcome.Work.{ExactlyOne, ends, goes}
use Rattle.fd_solving.specs.fd_pages.Bases.{base_events}
use Rattle.fd_solving.specs.Commands.{Applied, bases_left, nothing_left, refused_at, solve_left, tried}
use Rattle.fd_solving.specs.Scripts.{IsDoneThere, no_name}
use Rattle.fd_solving.specs.Steps.{StandingView, changes, refuses}
use Rattle.fd_solving.proofs.CallerLemmas.{one_with, test_once, tests_answer}
use Rattle.fd_solving.proofs.CallerLemmas.fd_outcome.{exactly_one_history, exactly_this}
use Rattle.fd_sweeping.specs.Pages.{its_sweep}
use Rattle.fd_sweeping.specs.Sweeping.{IsByOrder, IsByTests, IsLadderHistory, IsSweepingStep, IsSweepingStepOf}
use Rattle.fd_sweeping.specs.Sweeping.{IsSweptSolve, as_before, not_radial, snapshot, sweeping}

pub one_swept : (c : CircuitView) (n : ℕ) → ExactlyOne (IsSweptSolve c n)
one_swept c n = one_with its_sweep (as_before c) (sweeping (snapshot c) n)

pub one_by_order : (c : CircuitView) (n : ℕ) (first : Option ℕ) → ExactlyOne (IsByOrder c n first)
one_by_order c n None = one_swept c n
one_by_order c n (Some number) = exactly_this (ends [] (not_radial c.elements number))

one_by_tests : (c : CircuitView) (n : ℕ) (answer : Result Unit Blame) → ExactlyOne (IsByTests c n answer)
one_by_tests c n (Ok done) = one_by_order c n (first_offending c.elements)
one_by_tests c n (Err blame) = exactly_this (refuses blame.place (cause.Model blame.cause))

one_of : (n : ℕ) (left : Applied) → ExactlyOne (IsSweepingStepOf n left)
one_of n (nothing_left c) = exactly_this (changes (sweeping c n))
one_of n (refused_at place x) = exactly_this (refuses place x)
one_of n (bases_left c) = exactly_this (goes (base_events c) (sweeping c n))
one_of n (solve_left c) =
    let tests = tests_answer c in
    let one = one_by_tests c n tests.answer in
    record {
      some = one.some;
      is = record { answer = tests.answer; right = tests.right; step_is = one.is };
      only = λ step is.
          one.only step (subst (λ (a : Result Unit Blame). IsByTests c n a step)
          (test_once c is.answer tests.answer is.right tests.right) is.step_is);
    }

pub one_sweeping : (command : Command) (s : StandingView) → ExactlyOne (IsSweepingStep command s)
one_sweeping command s = one_of s.settled (tried command s.circuit)

pub one_done : (s : StandingView) (found : Option (List ℕ)) → ExactlyOne (IsDoneThere s found)
one_done s found = exactly_this (finishes [])

pub one_ladder : (files : Files) (name : List ℕ) → ExactlyOne (λ h. IsLadderHistory files (said_of files name) h)
one_ladder files name =
    let p = said_of files name in
    exactly_one_history IsSweepingStep no_name IsDoneThere one_sweeping one_done (λ n. held files (bytes n)) p.said
    (ended_by p.left) (sweeping empty_circuit 0)

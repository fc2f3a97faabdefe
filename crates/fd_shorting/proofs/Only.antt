-- The history of a short circuit: there is exactly one.
use Rattle.std.proofs.Common.{◌≡◌, ◌∙◌, ℕ, Bool, true, false, List, [], Option, Some, None, Result, Ok, Err, refl, sym}
use Rattle.std.proofs.Common.{ap, subst}
use Rattle.fd_fault.specs.dss_model.Names.{bytes, lower}
use Rattle.fd_fault.specs.dss_model.declared.command.Blame.{Blame}
use Rattle.fd_fault.specs.dss_model.declared.command.Command.{Command}
use Rattle.fd_fault.specs.dss_model.declared.command.Verb.{Verb}
use Rattle.fd_fault.specs.dss_model.declared.command.Verb.TheVariants as verb
use Rattle.fd_fault.specs.dss_model.declared.fault.ModelFault.{ModelFault}
use Rattle.fd_fault.specs.dss_model.declared.fault.ModelFault.TheVariants as model
use Rattle.fd_fault.specs.dss_circuit.Circuit.{CircuitView, empty_circuit, has_circuit}
use Rattle.fd_fault.specs.dss_layout.Layout.{first_too_many}
use Rattle.fd_fault.specs.declared.kind.Kind.{Kind}
use Rattle.fd_fault.specs.FaultCircuit.{fault_circuit_of, fault_elements, first_missing}
use Rattle.fd_fault.specs.ShortNames.{first_free}
use Rattle.fd_solving.specs.dss_commands.Commands.{applied}
use Rattle.fd_solving.specs.dss_script.Said.{ended_by, said_of}
use Rattle.fd_solving.specs.fd_daily.Underway.{no_positions}
use Rattle.fd_solving.specs.fd_outside.Files.{Files, held}
use Rattle.fd_solving.specs.fd_report.declared.faults.Cause.TheVariants as cause
use Rattle.fd_solving.specs.fd_report.declared.faults.Fault.TheVariants as fault
use Rattle.fd_solving.specs.fd_outcome.Events.{History, before, ended, finishes}
use Rattle.fd_solving.specs.fd_outcome.Work.{AfterStep, ExactlyOne, Step, ends, goes}
use Rattle.fd_solving.specs.Commands.{Applied, bases_left, left_of, nothing_left, refused_at, solve_left, tried}
use Rattle.fd_solving.specs.Steps.{StandingView, standing}
use Rattle.fd_solving.proofs.CallerLemmas.{one_with, test_once, tests_answer}
use Rattle.fd_solving.proofs.CallerLemmas.fd_outcome.{exactly_one_history, exactly_this}
use Rattle.fd_shorting.specs.Pages.{its_phases}
use Rattle.fd_shorting.specs.Shorting.{IsAsked, IsByCircuit, IsByTests, IsFaultHistory, IsPlaced, IsShorted}
use Rattle.fd_shorting.specs.Shorting.{IsShortingStep, IsSolvedOnce, IsTakenOf, IsTestedOnce, IsWithin, ShortingView}
use Rattle.fd_shorting.specs.Shorting.{at_master, no_shorting_name, shorting, snapshot, too_many}

-- ---- a command

one_taken : (s : ShortingView) (left : Applied) → ExactlyOne (IsTakenOf s left)
one_taken s (nothing_left c) = exactly_this (goes [] (record s { circuit = c }))
one_taken s (bases_left c) = exactly_this (goes [] (record s { circuit = c }))
one_taken s (solve_left c) = exactly_this (goes [] (record s { circuit = c }))
one_taken s (refused_at place x) = exactly_this (ends [] (fault.Script place x))

pub one_short_step : (command : Command) (s : ShortingView) → ExactlyOne (IsShortingStep command s)
one_short_step command s = one_taken s (tried command s.circuit)

-- what the circuit has taken, or refused
pub taken_step : (command : Command) (s : ShortingView) (d : CircuitView) → applied command s.circuit ≡ Ok d
    → IsShortingStep command s (goes [] (record s { circuit = d }))
taken_step command s d e =
    subst
    (λ (r : Result CircuitView ModelFault). IsTakenOf s (left_of command.place command.verb r)
    (goes [] (record s { circuit = d })))
    (sym e) (by command.verb)
  where
    by : (v : Verb) → IsTakenOf s (left_of command.place v (Ok d)) (goes [] (record s { circuit = d }))
    by (verb.New kind name pairs) = refl
    by (verb.Edit kind name pairs) = refl
    by (verb.Set pairs) = refl
    by (verb.Solve pairs) = refl
    by verb.Clear = refl
    by verb.Bases = refl

pub refused_step : (command : Command) (s : ShortingView) (why : ModelFault) → applied command s.circuit ≡ Err why
    → IsShortingStep command s (ends [] (fault.Script command.place (cause.Model why)))
refused_step command s why e =
    subst
    (λ (r : Result CircuitView ModelFault). IsTakenOf s (left_of command.place command.verb r)
    (ends [] (fault.Script command.place (cause.Model why))))
    (sym e) (by command.verb)
  where
    by : (v : Verb)
        → IsTakenOf s (left_of command.place v (Err why)) (ends [] (fault.Script command.place (cause.Model why)))
    by (verb.New kind name pairs) = refl
    by (verb.Edit kind name pairs) = refl
    by (verb.Set pairs) = refl
    by (verb.Solve pairs) = refl
    by verb.Clear = refl
    by verb.Bases = refl

-- ---- a circuit that is solved once

history_of : Step StandingView → History
history_of (goes events s) = before events (finishes [])
history_of (ends events f) = ended events f

abbrev Goes : Step StandingView → History → Type 0
Goes step h = AfterStep step (λ s more. more ≡ finishes []) h

goes_there : (step : Step StandingView) → Goes step (history_of step)
unfolding history_of
goes_there (goes events s) = record { more = finishes []; right = refl; h_is = refl }
goes_there (ends events f) = refl

goes_only : (step : Step StandingView) (h : History) → Goes step h → h ≡ history_of step
unfolding history_of
goes_only (goes events s) h is = is.h_is ∙ ap (before events) is.right
goes_only (ends events f) h is = is

pub one_solved : (c : CircuitView) → ExactlyOne (IsSolvedOnce c)
one_solved c =
    let one = one_with its_phases (λ s. s) (standing c no_positions 0) in
    record {
      some = history_of one.some;
      is = record { step = one.some; right = one.is; goes_on = goes_there one.some };
      only = λ h is. goes_only is.step h is.goes_on ∙ ap history_of (one.only is.step is.right);
    }

-- ---- behind the last command

module _ (s : ShortingView) where
  one_within : (k : ℕ) (past : Option ℕ) → ExactlyOne (IsWithin s k past)
  one_within k None = one_solved (snapshot (fault_circuit_of s.circuit s.bus s.kind k))
  one_within k (Some place) = exactly_this (ended [] (too_many s))

  one_placed : (number : Option ℕ) → ExactlyOne (IsPlaced s number)
  one_placed None = exactly_this (ended [] (too_many s))
  one_placed (Some k) = one_within k (first_too_many (fault_elements s.circuit.elements s.bus s.kind k))

  one_asked : (missing : Option ℕ) → ExactlyOne (IsAsked s missing)
  one_asked (Some number) = exactly_this (ended [] (fault.NoSuchNode (record { bus = s.bus; number = number })))
  one_asked None = one_placed (first_free s.circuit.elements)

  one_by_tests : (answer : Result Unit Blame) → ExactlyOne (IsByTests s answer)
  one_by_tests (Err blame) = exactly_this (ended [] (fault.Script blame.place (cause.Model blame.cause)))
  one_by_tests (Ok done) = one_asked (first_missing s.circuit.elements s.bus s.kind)

  one_tested : ExactlyOne (IsTestedOnce s)
  one_tested =
      let tests = tests_answer s.circuit in
      let one = one_by_tests tests.answer in
      record {
        some = one.some;
        is = record { answer = tests.answer; right = tests.right; then_is = one.is };
        only = λ h is.
            one.only h (subst (λ (a : Result Unit Blame). IsByTests s a h)
            (test_once s.circuit is.answer tests.answer is.right tests.right) is.then_is);
      }

  one_by_circuit : (b : Bool) → ExactlyOne (IsByCircuit s b)
  one_by_circuit false = exactly_this (ended [] (fault.Script (at_master s) (cause.Model model.NoCircuit)))
  one_by_circuit true = one_tested

pub one_shorted : (s : ShortingView) (found : Option (List ℕ)) → ExactlyOne (IsShorted s found)
one_shorted s found = one_by_circuit s (has_circuit s.circuit.elements)

-- ---- the end

-- no text is promised to tell an end without a fault
pub short_tells : {P : Type 0} → false ≡ true → P
short_tells told = absurd (cc told)

-- ---- the history

pub one_fault : (files : Files) (name master bus : List ℕ) (kind : Kind)
    → ExactlyOne (λ h. IsFaultHistory files (said_of files name) master bus kind h)
one_fault files name master bus kind =
    let p = said_of files name in
    exactly_one_history IsShortingStep no_shorting_name IsShorted one_short_step one_shorted
    (λ n. held files (bytes n)) p.said
    (ended_by p.left) (shorting empty_circuit master (lower bus) kind)

-- What `check` gathers and answers: exactly one thing, and what its code makes of a command and of the certificate.
use Rattle.std.proofs.Common.{◌≡◌, ◌∙◌, ◌+◌, ◌≤◌, ℕ, List, [], ◌∷◌, ◌++◌, length, Option, Some, None, Result, Ok, Err, refl, sym, ap, subst, arith}
use Rattle.std.specs.Str.{chars}
use Rattle.std.proofs.lemmas.List.{append-nil, append_assoc, length-append}
use Rattle.fd_check.specs.fd_outside.Files.{Files, held}
use Rattle.fd_check.specs.dss_model.Names.{bytes}
use Rattle.fd_check.specs.dss_circuit.Circuit.{CircuitView, empty_circuit}
use Rattle.fd_check.specs.dss_commands.Commands.{applied}
use Rattle.fd_check.specs.dss_model.declared.command.Blame.{Blame}
use Rattle.fd_check.specs.dss_model.declared.command.Command.{Command}
use Rattle.fd_check.specs.dss_model.declared.command.Place.{Place}
use Rattle.fd_check.specs.dss_model.declared.command.Verb.{Verb}
use Rattle.fd_check.specs.dss_model.declared.command.Verb.TheVariants as verb
use Rattle.fd_check.specs.dss_ready.Ready.{HasPassed}
use Rattle.fd_check.specs.dss_model.declared.fault.ModelFault.{ModelFault}
use Rattle.fd_solving.specs.dss_script.Said.{ended_by, said_of}
use Rattle.fd_solving.specs.dss_script.Sessions.{cost}
use Rattle.fd_check.specs.fd_daily.Underway.{no_positions}
use Rattle.fd_check.proofs.CallerLemmas.fd_certfile.{answers_law}
use Rattle.fd_check.specs.Checking.{after, due, open_solves}
use Rattle.fd_check.specs.Commands.{AreAccepted, HasRoom, IsAcceptedBy, behind_all, behind_one, circuit_by, solve_by, solve_in, solves_in}
use Rattle.fd_solving.specs.fd_report.declared.faults.Cause.TheVariants as cause
use Rattle.fd_solving.specs.fd_report.declared.faults.Fault.{Fault}
use Rattle.fd_solving.specs.fd_report.declared.faults.Fault.TheVariants as fault
use Rattle.fd_solving.specs.fd_outcome.Work.{ExactlyOne, ends, goes}
use Rattle.fd_solving.proofs.CallerLemmas.fd_outcome.{exactly_one_history, exactly_this}
use Rattle.fd_solving.specs.Answered.{IsAnswered, IsOfCommand, IsRefusal, solve_count}
use Rattle.fd_solving.specs.Commands.{Applied, bases_left, left_of, nothing_left, refused_at, solve_left, tried}
use Rattle.fd_solving.specs.Weights.{weight}
use Rattle.fd_solving.specs.declared.answer.Answer.{Answer as Answers}
use Rattle.fd_solving.specs.declared.answer.Answer.TheVariants as answer
use Rattle.fd_checking.specs.Checks.{GatheredView, IsCheckHistory, IsCheckStep, IsGatheredBy, IsGatheredOf, IsJudged, certificate_name, first_gathered, gathered, judged_as}
use Rattle.fd_checking.specs.Gathered.{IsFollowed, IsGathered, IsKeptWith, solved_by}
use Rattle.fd_solving.proofs.CallerLemmas.{test_once, tests_answer, Takes, verb_takes}

-- ---- exactly one

one_by_answer : (c : CircuitView) (solved : List CircuitView) (name : List ℕ) (a : Result Unit Blame)
    → ExactlyOne (IsGatheredBy c solved name a)
one_by_answer c solved name (Ok done) = exactly_this (goes [] (gathered c (solved ++ c ∷ []) name))
one_by_answer c solved name (Err blame) = exactly_this (ends [] (fault.Script blame.place (cause.Model blame.cause)))

one_gathered : (solved : List CircuitView) (name : List ℕ) (left : Applied) → ExactlyOne (IsGatheredOf solved name left)
one_gathered solved name (nothing_left c) = exactly_this (goes [] (gathered c solved name))
one_gathered solved name (bases_left c) = exactly_this (goes [] (gathered c solved name))
one_gathered solved name (refused_at place x) = exactly_this (ends [] (fault.Script place x))
one_gathered solved name (solve_left c) =
    let tests = tests_answer c in
    let one = one_by_answer c solved name tests.answer in
    record {
      some = one.some;
      is = record { answer = tests.answer; right = tests.right; step_is = one.is };
      only = λ step is. one.only step (subst (λ a. IsGatheredBy c solved name a step) (test_once c is.answer tests.answer is.right tests.right) is.step_is);
    }

pub one_check_step : (command : Command) (g : GatheredView) → ExactlyOne (IsCheckStep command g)
one_check_step command g = one_gathered g.solved g.certificate (tried command g.circuit)

-- a certificate comes to exactly one answer
pub one_judged : (g : GatheredView) (found : Option (List ℕ)) → ExactlyOne (IsJudged g found)
one_judged g found =
    let law = answers_law due after in
    let s = open_solves g.solved no_positions 0 in
    let some = law.some found s in
    record {
      some = judged_as some.0;
      is = record { answer = some.0; right = some.1; h_is = refl };
      only = λ h is. is.h_is ∙ ap judged_as (law.one found s is.answer some.0 is.right some.1);
    }

-- a script has exactly one history
pub one_check : (files : Files) (script certificate : List ℕ)
    → ExactlyOne (λ h. IsCheckHistory files (said_of files (chars script)) (chars certificate) h)
one_check files script certificate =
    let p = said_of files (chars script) in
    exactly_one_history IsCheckStep certificate_name IsJudged one_check_step one_judged
    (λ n. held files (bytes n)) p.said (ended_by p.left) (first_gathered (chars certificate))

-- ---- a command more

behind_more : (c : CircuitView) (commands : List Command) (x : Command)
    → behind_all c (commands ++ x ∷ []) ≡ behind_one x (behind_all c commands)
behind_more c [] x = refl
behind_more c (y ∷ commands) x = behind_more (behind_one y c) commands x

solves_more : (c : CircuitView) (commands : List Command) (x : Command)
    → solves_in c (commands ++ x ∷ []) ≡ solves_in c commands ++ solve_in x (behind_all c commands)
solves_more c [] x = append-nil (solve_in x c)
solves_more c (y ∷ commands) x =
    ap (λ (l : List CircuitView). solve_in y c ++ l) (solves_more (behind_one y c) commands x)
    ∙ sym (append_assoc (solve_in y c) (solves_in (behind_one y c) commands) (solve_in x (behind_all (behind_one y c) commands)))

accepted_more : (c : CircuitView) (commands : List Command) (x : Command) → AreAccepted c commands
    → HasRoom (behind_all c commands) → IsAcceptedBy x.verb (applied x (behind_all c commands))
    → AreAccepted c (commands ++ x ∷ [])
accepted_more c [] x all room is = (room, is, tt)
accepted_more c (y ∷ commands) x all room is = (all.0, all.1, accepted_more (behind_one y c) commands x all.2 room is)

-- ---- what the answer to a command says

-- what is left of an accepted command: the circuit, and its Solve
record IsLeft (v : Verb) (r : Result CircuitView ModelFault) (c : CircuitView)
    (solves : List CircuitView) : Type 0 where
  taken : r ≡ Ok c
  accepted : IsAcceptedBy v r
  solves_are : solve_by v c ≡ solves

nothing_is : (place : Place) (v : Verb) (r : Result CircuitView ModelFault) (c : CircuitView)
    → left_of place v r ≡ nothing_left c → IsLeft v r c []
nothing_is place v (Err f) c h = absurd (let no : ⊥ = cc in no)
nothing_is place verb.Bases (Ok x) c h = absurd (let no : ⊥ = cc in no)
nothing_is place (verb.Solve pairs) (Ok x) c h = absurd (let no : ⊥ = cc in no)
nothing_is place (verb.New class name pairs) (Ok x) c h = record { taken = cc; accepted = tt; solves_are = refl }
nothing_is place (verb.Edit class name pairs) (Ok x) c h = record { taken = cc; accepted = tt; solves_are = refl }
nothing_is place (verb.Set pairs) (Ok x) c h = record { taken = cc; accepted = tt; solves_are = refl }
nothing_is place verb.Clear (Ok x) c h = record { taken = cc; accepted = tt; solves_are = refl }

bases_is : (place : Place) (v : Verb) (r : Result CircuitView ModelFault) (c : CircuitView)
    → left_of place v r ≡ bases_left c → IsLeft v r c []
bases_is place v (Err f) c h = absurd (let no : ⊥ = cc in no)
bases_is place verb.Bases (Ok x) c h = record { taken = cc; accepted = tt; solves_are = refl }
bases_is place (verb.Solve pairs) (Ok x) c h = absurd (let no : ⊥ = cc in no)
bases_is place (verb.New class name pairs) (Ok x) c h = absurd (let no : ⊥ = cc in no)
bases_is place (verb.Edit class name pairs) (Ok x) c h = absurd (let no : ⊥ = cc in no)
bases_is place (verb.Set pairs) (Ok x) c h = absurd (let no : ⊥ = cc in no)
bases_is place verb.Clear (Ok x) c h = absurd (let no : ⊥ = cc in no)

same_solve : (x c : CircuitView) → solve_left x ≡ solve_left c → x ≡ c
same_solve x c h = cc h

solve_is : (place : Place) (v : Verb) (r : Result CircuitView ModelFault) (c : CircuitView)
    → left_of place v r ≡ solve_left c → HasPassed c → IsLeft v r c (c ∷ [])
solve_is place v (Err f) c h passed = absurd (let no : ⊥ = cc in no)
solve_is place verb.Bases (Ok x) c h passed = absurd (let no : ⊥ = cc in no)
solve_is place (verb.Solve pairs) (Ok x) c h passed = record {
  taken = ap Ok (same_solve x c h);
  accepted = subst HasPassed (sym (same_solve x c h)) passed;
  solves_are = refl;
}
solve_is place (verb.New class name pairs) (Ok x) c h passed = absurd (let no : ⊥ = cc in no)
solve_is place (verb.Edit class name pairs) (Ok x) c h passed = absurd (let no : ⊥ = cc in no)
solve_is place (verb.Set pairs) (Ok x) c h passed = absurd (let no : ⊥ = cc in no)
solve_is place verb.Clear (Ok x) c h passed = absurd (let no : ⊥ = cc in no)

-- an answer with which the run goes on
abbrev pub GoesOn : Answers → Type 0
GoesOn answer.Done = Unit {0}
GoesOn answer.Bases = Unit {0}
GoesOn answer.Solves = Unit {0}
GoesOn (answer.Refuses f) = ⊥

module _ (command : Command) (old new : CircuitView) where
  abbrev IsKept : List CircuitView → Type 0
  IsKept solves = IsLeft command.verb (applied command old) new solves

  -- the circuit behind it, and its Solve
  behind_is : (solves : List CircuitView) → IsKept solves → behind_one command old ≡ new
  behind_is solves k = ap (λ (r : Result CircuitView ModelFault). circuit_by r old) k.taken

  solve_is_in : (solves : List CircuitView) → IsKept solves → solve_in command old ≡ solves
  solve_is_in solves k = ap (λ (c : CircuitView). solve_by command.verb c) (behind_is solves k) ∙ k.solves_are

  -- ---- the step

  abbrev StepTo : List CircuitView → List ℕ → List CircuitView → Type 0
  StepTo solved name after = IsCheckStep command (gathered old solved name) (goes [] (gathered new after name))

  with_solve : (solved : List CircuitView) (name : List ℕ) (solves : List CircuitView) → IsKept solves
      → StepTo solved name (solved ++ solves) → StepTo solved name (solved ++ solve_in command old)
  with_solve solved name solves k h = subst (λ (l : List CircuitView). StepTo solved name (solved ++ l)) (sym (solve_is_in solves k)) h

  pub kept_step : (solved : List CircuitView) (name : List ℕ) (a : Answers) → IsAnswered (tried command old) new a
      → GoesOn a → StepTo solved name (solved ++ solve_in command old)
  kept_step solved name answer.Done h on =
      with_solve solved name [] (nothing_is command.place command.verb (applied command old) new h)
      (subst (λ (l : Applied). IsGatheredOf solved name l (goes [] (gathered new (solved ++ []) name))) (sym h)
      (ap (λ (l : List CircuitView). goes [] (gathered new l name)) (append-nil solved)))
  kept_step solved name answer.Bases h on =
      with_solve solved name [] (bases_is command.place command.verb (applied command old) new h)
      (subst (λ (l : Applied). IsGatheredOf solved name l (goes [] (gathered new (solved ++ []) name))) (sym h)
      (ap (λ (l : List CircuitView). goes [] (gathered new l name)) (append-nil solved)))
  kept_step solved name answer.Solves h on =
      with_solve solved name (new ∷ []) (solve_is command.place command.verb (applied command old) new h.0 h.1)
      (subst (λ (l : Applied). IsGatheredOf solved name l (goes [] (gathered new (solved ++ new ∷ []) name)))
      (sym h.0) (record { answer = Ok tt; right = h.1; step_is = refl }))
  kept_step solved name (answer.Refuses f) h on = absurd on

  -- the run ends with this fault
  refused_by : (left : Applied) (f : Fault) → IsRefusal left f → (solved : List CircuitView) (name : List ℕ)
      → IsGatheredOf solved name left (ends [] f) × IsOfCommand f
  refused_by (nothing_left c) f h solved name = absurd h
  refused_by (bases_left c) f h solved name = absurd h
  refused_by (refused_at place x) f h solved name = (ap (λ (g : Fault). ends [] g) h, subst IsOfCommand (sym h) tt)
  refused_by (solve_left c) f h solved name = (
    record { answer = Err h.blame; right = h.right; step_is = ap (λ (g : Fault). ends [] g) h.fault_is },
    subst IsOfCommand (sym h.fault_is) tt,
  )

  pub refused_step : (f : Fault) → IsAnswered (tried command old) new (answer.Refuses f)
      → (solved : List CircuitView) (name : List ℕ)
      → IsCheckStep command (gathered old solved name) (ends [] f) × IsOfCommand f
  refused_step f h solved name = refused_by (tried command old) f h solved name

  -- ---- what is gathered

  -- an accepted command has a circuit behind it
  pub record IsTaken : Type 0 where
    pub taken : applied command old ≡ Ok new
    pub accepted : IsAcceptedBy command.verb (applied command old)

  is_taken : (solves : List CircuitView) → IsKept solves → IsTaken
  is_taken solves k = record { taken = k.taken; accepted = k.accepted }

  pub taken_by : (a : Answers) → IsAnswered (tried command old) new a → GoesOn a → IsTaken
  taken_by answer.Done h on = is_taken [] (nothing_is command.place command.verb (applied command old) new h)
  taken_by answer.Bases h on = is_taken [] (bases_is command.place command.verb (applied command old) new h)
  taken_by answer.Solves h on = is_taken (new ∷ []) (solve_is command.place command.verb (applied command old) new h.0 h.1)
  taken_by (answer.Refuses f) h on = absurd on

  few_solves : (v : Verb) (c : CircuitView) → length (solve_by v c) ≡ solve_count v
  few_solves (verb.New class name pairs) c = refl
  few_solves (verb.Edit class name pairs) c = refl
  few_solves (verb.Set pairs) c = refl
  few_solves (verb.Solve pairs) c = refl
  few_solves verb.Bases c = refl
  few_solves verb.Clear c = refl

  room_of : weight old + cost command.verb ≤ 1048578 → HasRoom old
  room_of h = record { solves = omega (arith, h); elements = omega (arith, h) }

  module _ (commands : List Command) (g : IsGathered old commands) (room : weight old + cost command.verb ≤ 1048578)
      (t : IsTaken) where
    takes : Takes command.verb old new
    takes = verb_takes command.place command.verb old new t.taken

    pub room_more : weight new ≤ weight old + cost command.verb
    room_more = takes.room

    -- what its code holds with it
    pub gathered_more : IsGathered new (commands ++ command ∷ [])
    gathered_more = record {
      circuit_is =
          sym (ap (λ (r : Result CircuitView ModelFault). circuit_by r old) t.taken)
          ∙ ap (behind_one command) g.circuit_is
          ∙ sym (behind_more empty_circuit commands command);
      accepted = accepted_more empty_circuit commands command g.accepted (subst HasRoom g.circuit_is (room_of room))
          (subst (λ (c : CircuitView). IsAcceptedBy command.verb (applied command c)) g.circuit_is t.accepted);
      solves = let more : length (solved_by (commands ++ command ∷ []))
          ≡ length (solved_by commands) + length (solve_in command (behind_all empty_circuit commands)) =
          ap length (solves_more empty_circuit commands command)
          ∙ length-append (solved_by commands) (solve_in command (behind_all empty_circuit commands)) in
          let one = few_solves command.verb (behind_one command (behind_all empty_circuit commands)) in
          omega (arith, more, one, g.solves, takes.count);
      room = omega (arith, room, takes.room);
    }

    pub solved_more : solved_by (commands ++ command ∷ []) ≡ solved_by commands ++ solve_in command old
    solved_more = solves_more empty_circuit commands command ∙ ap (λ (c : CircuitView). solved_by commands ++ solve_in command c) (sym g.circuit_is)

    -- it is kept
    pub kept_follows : (a : Answers) → IsAnswered (tried command old) new a → GoesOn a
        → (after : List Command) (f : Option Fault) → IsKeptWith command commands after f
        → IsFollowed command old new commands after f
    kept_follows a answered on after f k = kept_as after f k.none k.kept
      where
        kept_at : IsFollowed command old new commands (commands ++ command ∷ []) None
        kept_at = record {
          step = λ name.
              subst (λ (l : List CircuitView). StepTo (solved_by commands) name l) (sym solved_more)
              (kept_step (solved_by commands) name a answered on);
          of_command = tt;
          gathered_so = λ none. gathered_more;
          room = λ none. room_more;
        }

        kept_as : (after : List Command) (f : Option Fault) → f ≡ None → after ≡ commands ++ command ∷ []
            → IsFollowed command old new commands after f
        kept_as after f none kept =
            subst (λ (g : Option Fault). IsFollowed command old new commands after g) (sym none)
            (subst (λ (l : List Command). IsFollowed command old new commands l None) (sym kept) kept_at)

  -- the run ends with its fault
  pub refused_follows : (f : Fault) → IsAnswered (tried command old) new (answer.Refuses f) → (commands : List Command)
      → IsFollowed command old new commands commands (Some f)
  refused_follows f answered commands = record {
    step = λ name. (refused_step f answered (solved_by commands) name).0;
    of_command = (refused_step f answered (solved_by commands) []).1;
    gathered_so = λ none. absurd (let no : ⊥ = cc none in no);
    room = λ none. absurd (let no : ⊥ = cc none in no);
  }

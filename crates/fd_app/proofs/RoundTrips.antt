-- What `check` comes to over a script whose history for `cert` ended without a fault, and a certificate that is
-- accepted.
use Rattle.std.proofs.Common.{◌≡◌, ◌∙◌, ℕ, List, [], ◌∷◌, ◌++◌, map, Option, Some, None, Result, Ok, Err, refl, sym, ap}
use Rattle.std.proofs.Common.{subst}
use Rattle.std.specs.Str.{chars}
use Rattle.std.proofs.lemmas.List.{append_assoc, append-nil}
use Rattle.fd_checking.specs.dss_model.Names.{bytes}
use Rattle.fd_checking.specs.dss_model.declared.command.Blame.{Blame}
use Rattle.fd_checking.specs.dss_model.declared.command.Command.{Command}
use Rattle.fd_checking.specs.dss_circuit.Circuit.{CircuitView, empty_circuit}
use Rattle.fd_checking.specs.dss_ready.Passed.{PassedLaw}
use Rattle.fd_checking.specs.dss_script.Said.{Part, Said, name, command, ScriptEnd, at_its_end, refused_at, ended_by}
use Rattle.fd_checking.specs.dss_script.Said.{said_of}
use Rattle.fd_bench.specs.fd_outside.Files.{Files, held}
use Rattle.fd_checking.specs.fd_daily.Underway.{no_positions}
use Rattle.fd_checking.specs.fd_certfile.Verdict.{IsAnswer, accepted}
use Rattle.fd_checking.specs.fd_check.Checking.{after, due, open_solves}
use Rattle.fd_checking.specs.fd_queue.Controls.{Positions}
use Rattle.fd_checking.specs.fd_report.Accepted.{accepted_fields}
use Rattle.fd_checking.specs.fd_outcome.Events.{Event, History, asked, finishes, row}
use Rattle.fd_checking.specs.fd_outcome.History.{IsHistory}
use Rattle.fd_checking.specs.fd_outcome.Work as work
use Rattle.fd_checking.specs.fd_outcome.Work.{AfterStep, Step, goes}
use Rattle.fd_checking.specs.fd_solving.Commands.{Applied, nothing_left, solve_left, bases_left, IsByTests, IsStep}
use Rattle.fd_checking.specs.fd_solving.Commands.{IsStepOf, IsTested, tried}
use Rattle.fd_checking.specs.fd_solving.Commands as commands
use Rattle.fd_checking.specs.fd_solving.Scripts.{IsDoneThere, IsScriptHistory, first_standing, no_name}
use Rattle.fd_checking.specs.fd_solving.Steps.{StandingView, standing}
use Rattle.fd_checking.specs.Checks.{GatheredView, IsCheckStep, IsGatheredOf, IsJudged, certificate_name, gathered}
use Rattle.fd_checking.specs.Checks.{IsCheckHistory}
use Rattle.fd_app.specs.Run.{FormsLaw, IsFormHistory}
use Rattle.fd_words.specs.Words.{Check}
use Rattle.fd_app.specs.Accepted.{AreAccepted, HasAccepted}
use Rattle.fd_app.specs.Solves.{behind_command, solves_from, solves_of}
use Rattle.fd_app.proofs.Scripts.{solve_circuit}

-- names are asked, and then comes the record
abbrev accepting : ℕ → List (List ℕ) → History
accepting count names = finishes (map asked names ++ row (accepted_fields count) ∷ [])

module _ (files there : Files) (certificate text : List ℕ) (count : ℕ)
    (held_is : held there (bytes certificate) ≡ Some text) where
  abbrev IsCertHistory : List Said → ScriptEnd → StandingView → History → Type 0
  IsCertHistory said end s h = IsHistory IsStep no_name IsDoneThere (λ n. held files (bytes n)) said end s h

  abbrev IsCheckHistoryFrom : List Said → ScriptEnd → GatheredView → History → Type 0
  IsCheckHistoryFrom said end g h =
      IsHistory IsCheckStep certificate_name IsJudged (λ n. held there (bytes n)) said end g h

  -- what `check` comes to from there
  record Accepts (said : List Said) (end : ScriptEnd) (g : GatheredView) : Type 0 where
    pub names : List (List ℕ)
    pub is : IsCheckHistoryFrom said end g (accepting count names)

  accepts_at_end : (end : ScriptEnd) (s : StandingView) (h : History) → IsCertHistory [] end s h → h.end ≡ None
      → (solved : List CircuitView)
      → AreAccepted text solved count → Accepts [] end (gathered s.circuit solved certificate)
  accepts_at_end at_its_end s h is none solved answer = record {
    names = certificate ∷ [];
    is = record {
      more = finishes (row (accepted_fields count) ∷ []);
      right = record {
        answer = accepted count;
        right = subst
            (λ (found : Option (List ℕ)). IsAnswer due after found (open_solves solved no_positions 0)
            (accepted count)) (sym held_is) answer;
        h_is = refl;
      };
      h_is = refl;
    };
  }
  accepts_at_end (refused_at place c) s h is none solved answer =
      absurd (let some = ap (λ (x : History). x.end) is in let no : ⊥ = cc in no)

  -- behind a name that is asked
  behind_name : (n : List ℕ) (more : List Said) (end : ScriptEnd) (g : GatheredView) → Accepts more end g
      → Accepts (name n ∷ more) end g
  behind_name n more end g rest =
      record { names = n ∷ rest.names; is = record { more = accepting count rest.names; right = rest.is; h_is = refl } }

  -- behind a command that `check` takes
  behind_taken : (c : Command) (more : List Said) (end : ScriptEnd) (g t : GatheredView) → IsCheckStep c g (goes [] t)
      → Accepts more end t → Accepts (command c ∷ more) end g
  behind_taken c more end g t step rest = record {
    names = rest.names;
    is = record {
      step = goes [] t;
      right = step;
      goes_on = record { more = accepting count rest.names; right = rest.is; h_is = refl };
    };
  }

  -- what is to come behind a command: `check` goes on with the circuit and the Solves so far
  abbrev GoesOnFrom : List Said → ScriptEnd → StandingView → Type 0
  GoesOnFrom more end t =
      (now : List CircuitView) → AreAccepted text (now ++ solves_from more t.circuit) count
      → Accepts more end (gathered t.circuit now certificate)

  -- with the circuit that a command left, and these Solves
  behind_left : (c : Command) (more : List Said) (end : ScriptEnd) (circuit d : CircuitView)
      (solved now : List CircuitView) (t : StandingView)
      → t.circuit ≡ d
      → IsGatheredOf solved certificate (tried c circuit) (goes [] (gathered d now certificate))
      → AreAccepted text (now ++ solves_from more d) count → GoesOnFrom more end t
      → Accepts (command c ∷ more) end (gathered circuit solved certificate)
  behind_left c more end circuit d solved now t same step answer go =
      behind_taken c more end (gathered circuit solved certificate) (gathered d now certificate) step
      (subst (λ (x : CircuitView). Accepts more end (gathered x now certificate)) same
      (go now (subst (λ (x : CircuitView). AreAccepted text (now ++ solves_from more x) count) (sym same) answer)))

  module _ (passed : PassedLaw) where
    by_left : (c : Command) (more : List Said) (end : ScriptEnd) (circuit : CircuitView) (at : Positions)
        (settled : ℕ) (solved : List CircuitView) (left : Applied)
        → tried c circuit ≡ left → (events : List Event) (t : StandingView) → IsStepOf at settled left (goes events t)
        → AreAccepted text (solved ++ behind_command left (λ next. solves_from more next)) count
        → GoesOnFrom more end t → Accepts (command c ∷ more) end (gathered circuit solved certificate)
    by_left c more end circuit at settled solved (nothing_left d) of events t is answer go =
        let stands : t ≡ standing d at settled = cc in
        behind_left c more end circuit d solved solved t (ap (λ (u : StandingView). u.circuit) stands)
        (subst (λ (l : Applied). IsGatheredOf solved certificate l (goes [] (gathered d solved certificate)))
        (sym of) refl) answer go
    by_left c more end circuit at settled solved (bases_left d) of events t is answer go =
        let stands : t ≡ standing d at settled = cc in
        behind_left c more end circuit d solved solved t (ap (λ (u : StandingView). u.circuit) stands)
        (subst (λ (l : Applied). IsGatheredOf solved certificate l (goes [] (gathered d solved certificate)))
        (sym of) refl) answer go
    by_left c more end circuit at settled solved (commands.refused_at place x) of events t is answer go =
        absurd (let no : ⊥ = cc in no)
    by_left c more end circuit at settled solved (solve_left d) of events t is answer go =
        by is.answer is.right is.step_is
      where
        by : (tests : Result Unit Blame) → IsTested d tests → IsByTests (standing d at settled) tests (goes events t)
            → Accepts (command c ∷ more) end (gathered circuit solved certificate)
        by (Ok done) ready step =
            behind_left c more end circuit d solved (solved ++ d ∷ []) t
            (solve_circuit passed d at settled (goes events t) ready step events t refl)
            (subst
            (λ (l : Applied). IsGatheredOf solved certificate l
            (goes [] (gathered d (solved ++ d ∷ []) certificate))) (sym of)
            (record { answer = Ok done; right = ready; step_is = refl }))
            (subst (λ (cs : List CircuitView). AreAccepted text cs count)
            (sym (append_assoc solved (d ∷ []) (solves_from more d))) answer) go
        by (Err blame) right step = absurd (let no : ⊥ = cc in no)

    -- behind a step of `cert`
    by_step : (c : Command) (more : List Said) (end : ScriptEnd) (s : StandingView) (h : History)
        (solved : List CircuitView)
        → AreAccepted text (solved ++ solves_from (command c ∷ more) s.circuit) count → (step : Step StandingView)
        → IsStep c s step
        → AfterStep step (λ t x. IsCertHistory more end t x) h → h.end ≡ None
        → ((t : StandingView) (x : History) → IsCertHistory more end t x → x.end ≡ None → GoesOnFrom more end t)
        → Accepts (command c ∷ more) end (gathered s.circuit solved certificate)
    by_step c more end s h solved answer (goes events t) right goes_on none again =
        by_left c more end s.circuit s.at s.settled solved (tried c s.circuit) refl events t right answer
        (again t goes_on.more goes_on.right (sym (ap (λ (y : History). y.end) goes_on.h_is) ∙ none))
    by_step c more end s h solved answer (work.ends events f) right goes_on none again =
        absurd (let some = ap (λ (x : History). x.end) goes_on in let no : ⊥ = cc in no)

    accepts : (said : List Said) (end : ScriptEnd) (s : StandingView) (h : History) → IsCertHistory said end s h
        → h.end ≡ None → (solved : List CircuitView)
        → AreAccepted text (solved ++ solves_from said s.circuit) count
        → Accepts said end (gathered s.circuit solved certificate)
    accepts [] end s h is none solved answer =
        accepts_at_end end s h is none solved
        (subst (λ (cs : List CircuitView). AreAccepted text cs count) (append-nil solved) answer)
    accepts (name n ∷ more) end s h is none solved answer =
        behind_name n more end (gathered s.circuit solved certificate)
        (accepts more end s is.more is.right (sym (ap (λ (y : History). y.end) is.h_is) ∙ none) solved answer)
    accepts (command c ∷ more) end s h is none solved answer =
        by_step c more end s h solved answer is.step is.right is.goes_on none
        (λ t x later k now a. accepts more end t x later k now a)

    -- over a script, whose history for `check` is the only one
    pub script_accepted : FormsLaw → (script file : List ℕ) → certificate ≡ chars file → (h : History)
        → IsScriptHistory files (said_of files (chars script)) h → h.end ≡ None
        → AreAccepted text (solves_of (said_of files (chars script))) count
        → said_of there (chars script) ≡ said_of files (chars script)
        → (g : History) → IsFormHistory there (Some (Check script file)) g → HasAccepted count g
    script_accepted forms script file named h is none answer same g checks =
        let p : Part = said_of files (chars script) in
        let all : Accepts p.said (ended_by p.left) (gathered empty_circuit [] certificate) =
        accepts p.said (ended_by p.left) first_standing h is none [] answer in
        let found : IsCheckHistory there p certificate (accepting count all.names) = all.is in
        let form : IsFormHistory there (Some (Check script file)) (accepting count all.names) =
        subst (λ (q : Part). IsCheckHistory there q (chars file) (accepting count all.names)) (sym same)
        (subst (λ (n : List ℕ). IsCheckHistory there p n (accepting count all.names)) named found) in
        let one = forms there (Some (Check script file)) in
        record { names = all.names; h_is = one.only g checks ∙ sym (one.only (accepting count all.names) form) }

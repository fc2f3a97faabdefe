-- Every settle of a script is solved: what stands between two commands stays within limits, and so each Solve's settles
-- are.
use Rattle.std.proofs.Common.{◌≡◌, ℕ, ◌+◌, ◌*◌, ◌≤◌, List, [], ◌∷◌, map, Option, Result, Ok, Err, refl, sym, ap, subst}
use Rattle.std.proofs.Common.{arith}
use Rattle.std.specs.Prelude.{All}
use Rattle.std.proofs.lemmas.List.Elements.{All-append, All-cons, All-nil}
use Rattle.fd_pages.specs.fd_outside.Files.{held}
use Rattle.dss_commands.specs.dss_model.Names.{bytes}
use Rattle.dss_commands.specs.dss_model.declared.command.Blame.{Blame}
use Rattle.dss_commands.specs.dss_model.declared.command.Command.{Command}
use Rattle.dss_commands.specs.dss_model.declared.command.Place.{Place}
use Rattle.dss_commands.specs.dss_model.declared.command.Verb.{Verb}
use Rattle.dss_commands.specs.dss_model.declared.command.Verb.TheVariants as verb
use Rattle.dss_commands.specs.dss_model.declared.fault.ModelFault.{ModelFault}
use Rattle.dss_commands.specs.dss_circuit.Circuit.{CircuitView}
use Rattle.dss_commands.specs.dss_circuit.InRange.{IsWithinLimits}
use Rattle.dss_commands.specs.Commands.{applied}
use Rattle.dss_commands.proofs.CallerLemmas.{none_within}
use Rattle.fd_pages.specs.dss_script.Said.{Said, ScriptEnd, at_its_end, command, name, refused_at, said_of, ended_by}
use Rattle.fd_pages.specs.dss_script.SaidRoom.{SaidRoomLaw, room_of}
use Rattle.fd_pages.specs.dss_script.Sessions.{cost}
use Rattle.fd_daily.specs.fd_xfmr.Leakage.{AreTaps}
use Rattle.fd_daily.specs.fd_queue.Controls.{Positions}
use Rattle.fd_pages.specs.fd_outcome.Events.{AllSettles, Event, History, IfSettle, asked, row}
use Rattle.fd_pages.specs.fd_outcome.History.{IsHistory}
use Rattle.fd_pages.specs.fd_outcome.Parts.{events_in}
use Rattle.fd_pages.specs.fd_outcome.Work.{AfterStep, Step, ends, goes}
use Rattle.fd_pages.specs.fd_bases.Bases.{bases_of}
use Rattle.fd_pages.specs.fd_bases.declared.bus_base.BusBase.{BusBase}
use Rattle.fd_pages.specs.fd_report.Bases.{base_fields}
use Rattle.fd_solving.specs.Answered.{solve_count}
use Rattle.fd_solving.specs.Commands.{IsByTests, IsStep, IsStepOf, IsTested, left_of}
use Rattle.fd_solving.specs.Headline.{IsSolved}
use Rattle.fd_solving.specs.Scripts.{IsDoneThere, first_standing, no_name}
use Rattle.fd_solving.specs.SolvedLaw.{SolvedLaw}
use Rattle.fd_solving.specs.Steps.{StandingView, standing}
use Rattle.fd_solving.specs.Weights.{weight}
use Rattle.fd_solving.proofs.SolvedHours.{Laws, LeavesTaps, solution_solved}
use Rattle.fd_solving.proofs.Weights.{Takes, verb_takes}

-- ---- what stands between two commands

-- a circuit within limits, taps in their range, and no more settles than its Solves have hours
record IsGood (s : StandingView) : Type 0 where
  circuit : IsWithinLimits s.circuit.elements s.circuit.options
  taps : All AreTaps s.at.taps
  few : s.settled ≤ 8761 * s.circuit.solves

-- where a run goes on the rest of the script has room for so much
abbrev GoesWell : ℕ → Step StandingView → Type 0
GoesWell rest (goes events t) = IsGood t × (weight t.circuit + rest ≤ 1_048_578)
GoesWell rest (ends events f) = Unit {0}

record IsGoodStep (rest : ℕ) (step : Step StandingView) : Type 0 where
  solved : AllSettles IsSolved (events_in step)
  left : GoesWell rest step

good_by : (rest : ℕ) (step other : Step StandingView) → step ≡ other → IsGoodStep rest other → IsGoodStep rest step
good_by rest step other is h = subst (IsGoodStep rest) (sym is) h

-- rows are no settles
bases_solved : (bases : List BusBase) → AllSettles IsSolved (map (λ b. row (base_fields b.bus b.kv)) bases)
bases_solved [] = All-nil (IfSettle IsSolved)
bases_solved (b ∷ bases) =
    All-cons (IfSettle IsSolved) (row (base_fields b.bus b.kv)) (map (λ x. row (base_fields x.bus x.kv)) bases) tt
    (bases_solved bases)

-- ---- a command

module _ (laws : Laws) where
  solve_good : (d : CircuitView) (at : Positions) (n rest : ℕ) (step : Step StandingView)
      → IsWithinLimits d.elements d.options → All AreTaps at.taps → n + 8761 ≤ 8761 * d.solves
      → weight d + rest ≤ 1_048_578 → (answer : Result Unit Blame) → IsTested d answer
      → IsByTests (standing d at n) answer step → IsGoodStep rest step
  solve_good d at n rest step circuit taps few room (Err blame) right is =
      good_by rest step _ is (record { solved = All-nil (IfSettle IsSolved); left = tt })
  solve_good d at n rest step circuit taps few room (Ok done) ready is =
      let h = solution_solved laws d ready circuit at n step taps (omega (arith, few, room)) is in
      record { solved = h.solved; left = left_well step h.left }
    where
      left_well : (step : Step StandingView) → LeavesTaps d (n + 8761) step → GoesWell rest step
      left_well (ends events f) h = tt
      left_well (goes events t) h =
          let same : d ≡ t.circuit = sym h.0 in (
            record {
              circuit = subst (λ (x : CircuitView). IsWithinLimits x.elements x.options) same circuit;
              taps = h.1.0;
              few = omega (arith, h.1.1, few, ap (λ (x : CircuitView). x.solves) same);
            },
            subst (λ (x : CircuitView). weight x + rest ≤ 1_048_578) same room,
          )

  -- the circuit alone changes
  stays_good : (s : StandingView) (d : CircuitView) → IsGood s → IsWithinLimits d.elements d.options
      → s.circuit.solves ≤ d.solves → IsGood (standing d s.at s.settled)
  stays_good s d h circuit count = record { circuit = circuit; taps = h.taps; few = omega (arith, h.few, count) }

  change_good : (s : StandingView) (rest : ℕ) (d : CircuitView) (events : List Event) (step : Step StandingView)
      → IsGood s
      → IsWithinLimits d.elements d.options → s.circuit.solves ≤ d.solves → weight d + rest ≤ 1_048_578
      → AllSettles IsSolved events → step ≡ goes events (standing d s.at s.settled) → IsGoodStep rest step
  change_good s rest d events step h circuit count room solved is =
      good_by rest step (goes events (standing d s.at s.settled)) is
      (record { solved = solved; left = (stays_good s d h circuit count, room) })

  -- what a command leaves to do
  left_good : (place : Place) (v : Verb) (s : StandingView) (rest : ℕ) (d : CircuitView) (step : Step StandingView)
      → IsGood s → IsWithinLimits d.elements d.options → s.circuit.solves + solve_count v ≤ d.solves
      → weight d + rest ≤ 1_048_578 → IsStepOf s.at s.settled (left_of place v (Ok d)) step → IsGoodStep rest step
  left_good place (verb.Solve pairs) s rest d step h circuit count room is =
      let one_more : s.circuit.solves + 1 ≤ d.solves = count in
      solve_good d s.at s.settled rest step circuit h.taps
      (omega (arith, h.few, one_more)) room is.answer is.right is.step_is
  left_good place verb.Bases s rest d step h circuit count room is =
      change_good s rest d _ step h circuit (omega (arith, count)) room (bases_solved (bases_of d)) is
  left_good place (verb.New kind text pairs) s rest d step h circuit count room is =
      change_good s rest d [] step h circuit (omega (arith, count)) room (All-nil (IfSettle IsSolved)) is
  left_good place (verb.Edit kind text pairs) s rest d step h circuit count room is =
      change_good s rest d [] step h circuit (omega (arith, count)) room (All-nil (IfSettle IsSolved)) is
  left_good place (verb.Set pairs) s rest d step h circuit count room is =
      change_good s rest d [] step h circuit (omega (arith, count)) room (All-nil (IfSettle IsSolved)) is
  left_good place verb.Clear s rest d step h circuit count room is =
      change_good s rest d [] step h circuit (omega (arith, count)) room (All-nil (IfSettle IsSolved)) is

  command_good : (c : Command) (s : StandingView) (rest : ℕ) (step : Step StandingView) → IsGood s
      → weight s.circuit + (cost c.verb + rest) ≤ 1_048_578 → IsStep c s step → IsGoodStep rest step
  command_good c s rest step h room is = by (applied c s.circuit) refl is
    where
      by : (r : Result CircuitView ModelFault) → applied c s.circuit ≡ r
          → IsStepOf s.at s.settled (left_of c.place c.verb r) step → IsGoodStep rest step
      by (Err f) e is = good_by rest step _ is (record { solved = All-nil (IfSettle IsSolved); left = tt })
      by (Ok d) e is =
          let takes : Takes c.verb s.circuit d = verb_takes c.place c.verb s.circuit d e in
          let kept = laws.limits c s.circuit d e (omega (arith, room)) h.circuit in
          left_good c.place c.verb s rest d step h kept.within takes.count (omega (arith, takes.room, room)) is

  -- ---- a history

  module _ (held_as : List ℕ → Option (List ℕ)) where
    abbrev IsHistoryFrom : List Said → ScriptEnd → StandingView → History → Type 0
    IsHistoryFrom said end s h = IsHistory IsStep no_name IsDoneThere held_as said end s h

    end_solved : (end : ScriptEnd) (s : StandingView) (h : History) → IsHistoryFrom [] end s h
        → AllSettles IsSolved h.events
    end_solved at_its_end s h is =
        subst (λ (x : History). AllSettles IsSolved x.events) (sym is) (All-nil (IfSettle IsSolved))
    end_solved (refused_at place c) s h is =
        subst (λ (x : History). AllSettles IsSolved x.events) (sym is) (All-nil (IfSettle IsSolved))

    after_step : (rest : ℕ) (step : Step StandingView) (P : StandingView → History → Type 0) (h : History)
        → IsGoodStep rest step → AfterStep step P h
        → ((t : StandingView) (x : History) → IsGood t → weight t.circuit + rest ≤ 1_048_578 → P t x
        → AllSettles IsSolved x.events)
        → AllSettles IsSolved h.events
    after_step rest (goes events t) P h good is go =
        subst (λ (x : History). AllSettles IsSolved x.events) (sym is.h_is)
        (All-append (IfSettle IsSolved) events is.more.events good.solved
        (go t is.more good.left.0 good.left.1 is.right))
    after_step rest (ends events f) P h good is go =
        subst (λ (x : History). AllSettles IsSolved x.events) (sym is) good.solved

    history_solved : (said : List Said) (end : ScriptEnd) (s : StandingView) (h : History) → IsGood s
        → weight s.circuit + room_of said ≤ 1_048_578 → IsHistoryFrom said end s h → AllSettles IsSolved h.events
    history_solved [] end s h good room is = end_solved end s h is
    history_solved (name n ∷ more) end s h good room is =
        subst (λ (x : History). AllSettles IsSolved x.events) (sym is.h_is)
        (All-cons (IfSettle IsSolved) (asked n) is.more.events tt
        (history_solved more end s is.more good room is.right))
    history_solved (command c ∷ more) end s h good room is =
        after_step (room_of more) is.step (λ t x. IsHistoryFrom more end t x) h
        (command_good c s (room_of more) is.step good room is.right) is.goes_on
        (λ t x k left later. history_solved more end t x k left later)

-- ---- a script

first_good : IsGood first_standing
first_good = record { circuit = none_within; taps = All-nil AreTaps; few = omega arith }

pub all_solved : Laws → SaidRoomLaw → SolvedLaw
all_solved laws law files script h is =
    let p = said_of files script in
    let few = law files script in
    history_solved laws (λ n. held files (bytes n)) p.said (ended_by p.left) first_standing h first_good
    (omega (arith, few)) is

-- A script's history: the blocks of all its settles hold, from its first Solve to behind its last.
use Rattle.std.proofs.Common.{◌≡◌, ◌∙◌, ℕ, ◌+◌, ◌<◌, ◌^◌, List, [], ◌∷◌, length, map, Option, Some, None, Result, Ok}
use Rattle.std.proofs.Common.{Err, refl, sym, ap, subst, arith, zero-add}
use Rattle.std.specs.List.{AllByRecursion}
use Rattle.std.proofs.lemmas.List.Elements.{recursion_from_All}
use Rattle.fd_checking.specs.dss_model.declared.command.Blame.{Blame}
use Rattle.fd_checking.specs.dss_model.declared.command.Command.{Command}
use Rattle.fd_checking.specs.dss_circuit.Circuit.{CircuitView}
use Rattle.fd_checking.specs.dss_layout.Layout.{layout_of, size_of}
use Rattle.fd_checking.specs.dss_ready.Passed.{PassedLaw}
use Rattle.fd_checking.specs.dss_ready.Ready.{HasPassed}
use Rattle.fd_checking.specs.dss_script.Said.{Part, Said, said_of, name, command, ScriptEnd, at_its_end, refused_at}
use Rattle.fd_checking.specs.dss_script.Said.{ended_by}
use Rattle.fd_bench.specs.fd_outside.Files.{Files, held}
use Rattle.fd_checking.specs.dss_model.Names.{bytes}
use Rattle.fd_checking.specs.fd_bases.declared.bus_base.BusBase.{BusBase}
use Rattle.fd_checking.specs.fd_bases.Bases.{bases_of}
use Rattle.fd_checking.specs.fd_report.Bases.{base_fields}
use Rattle.fd_checking.specs.fd_daily.Hours.{hours_of}
use Rattle.fd_checking.specs.fd_daily.Underway.{no_positions}
use Rattle.fd_checking.specs.fd_queue.Controls.{Positions}
use Rattle.fd_checking.specs.fd_cert.declared.rule.Rule.TheVariants.{Count}
use Rattle.fd_checking.specs.fd_certfile.Blocks.{Block}
use Rattle.fd_checking.specs.fd_certfile.declared.version.Version.TheVariants.{Sparse}
use Rattle.fd_checking.specs.fd_certfile.Certificates.{Certificate, ends, trails, refuses, gives, IsWhole, blocks_of}
use Rattle.fd_checking.specs.fd_certfile.Certificates.{certificate_bytes, certificate_lines, lines_count, version_in}
use Rattle.fd_checking.specs.fd_certfile.Laws.{CertificateLaw}
use Rattle.fd_checking.specs.fd_certfile.Lines.{Line}
use Rattle.fd_checking.specs.fd_certfile.RuleLaws.{RuleLaw}
use Rattle.fd_checking.specs.fd_certfile.Rules.{Broken, first_broken}
use Rattle.fd_checking.specs.fd_certfile.Verdict.{AllHold, Answer, Due, IsAnswer, IsAnswerBy, accepted, by_due, refused}
use Rattle.fd_checking.specs.fd_certfile.Verdict.{unless_broken, verdict}
use Rattle.fd_checking.specs.fd_check.Checking.{Checking, after, due, open_solves}
use Rattle.fd_checking.specs.fd_outcome.Events as event
use Rattle.fd_checking.specs.fd_outcome.Events.{Event, History, IfSettle, asked, settle, swept, waits, row}
use Rattle.fd_checking.specs.fd_outcome.History.{IsHistory}
use Rattle.fd_checking.specs.fd_outcome.Work as work
use Rattle.fd_checking.specs.fd_outcome.Work.{AfterStep, Step, goes}
use Rattle.fd_checking.specs.fd_pages.Bases.{base_events}
use Rattle.fd_checking.specs.fd_solving.Commands.{Applied, nothing_left, solve_left, bases_left, IsByTests, IsStep}
use Rattle.fd_checking.specs.fd_solving.Commands.{IsStepOf, IsTested, tried}
use Rattle.fd_checking.specs.fd_solving.Commands as commands
use Rattle.fd_checking.specs.fd_solving.Headline.{HasModestNumbers, IsSolved}
use Rattle.fd_checking.specs.fd_solving.SolvedLaw.{SolvedLaw}
use Rattle.fd_checking.specs.fd_solving.Scripts.{IsDoneThere, first_standing, no_name}
use Rattle.fd_checking.specs.fd_solving.Solving.{IsSolutionStep, kept_first}
use Rattle.fd_checking.specs.fd_solving.Steps.{StandingView, standing}
use Rattle.fd_app.specs.Accepted.{CertLaw}
use Rattle.fd_app.specs.Printed.{all_rounds}
use Rattle.fd_app.specs.Solves.{behind_command, solves_from, solves_of}
use Rattle.fd_app.proofs.Settles.{before}
use Rattle.fd_app.proofs.Solves.{HoursHold, IsFit, IsPrinted, before_both, both_printed, hours_step, none_printed}
use Rattle.fd_app.proofs.Texts.{all_blocks, blocks_in, bytes_are}

-- ---- a command

module _ (passed : PassedLaw) where
  few_unknowns : (c : CircuitView) → HasPassed c → size_of (layout_of c.elements) < 2 ^ 127
  few_unknowns c h = let p = passed c h in omega (arith, p.complex, p.magnitudes)

  -- what stands after a command's events, where these Solves come behind it
  pub record CommandHolds (left : Applied) (at : Positions) (settled : ℕ) (more : CircuitView → List CircuitView)
      (events : List Event)
      (t : StandingView) : Type 0 where
    pub printed : IsPrinted events
    pub hold : (last : Certificate) → AllHold due after last (open_solves (more t.circuit) t.at t.settled)
        → AllHold due after (before (blocks_in events) last) (open_solves (behind_command left more) at settled)

  bases_printed : (bases : List BusBase)
      → IsPrinted (map (λ b. row (base_fields b.bus b.kv)) bases)
      × (blocks_in (map (λ b. row (base_fields b.bus b.kv)) bases) ≡ [])
  bases_printed [] = (none_printed, refl)
  bases_printed (b ∷ bases) =
      let rest = bases_printed bases in
      (record { no_lines = (tt, rest.0.no_lines); fit = λ h. rest.0.fit h.1; counted = rest.0.counted }, rest.1)

  solve_holds : (d : CircuitView) (at : Positions) (settled : ℕ) (more : CircuitView → List CircuitView)
      (step : Step StandingView)
      → HasPassed d → IsSolutionStep (standing d at settled) step
      → (events : List Event) (t : StandingView) → step ≡ goes events t
      → CommandHolds (solve_left d) at settled more events t
  unfolding IsSolutionStep
  solve_holds d at settled more step ready h events t e =
      let size = few_unknowns d ready in
      let first : HoursHold d (more d) size (hours_of d.options) (kept_first (standing d at settled)) events t =
      hours_step d (more d) size (hours_of d.options) (kept_first (standing d at settled)) step h events t e in
      record {
        printed = first.printed;
        hold = λ last k. first.hold last
            (subst (λ (c : CircuitView). AllHold due after last (open_solves (more c) t.at t.settled)) first.circuit k);
      }

  -- a Solve leaves its circuit as it is
  pub solve_circuit : (d : CircuitView) (at : Positions) (settled : ℕ) (step : Step StandingView) → HasPassed d
      → IsSolutionStep (standing d at settled) step
      → (events : List Event) (t : StandingView) → step ≡ goes events t → t.circuit ≡ d
  unfolding IsSolutionStep
  solve_circuit d at settled step ready h events t e =
      (hours_step d [] (few_unknowns d ready) (hours_of d.options)
      (kept_first (standing d at settled)) step h events t e).circuit

  command_holds : (left : Applied) (at : Positions) (settled : ℕ) (more : CircuitView → List CircuitView)
      (step : Step StandingView)
      → IsStepOf at settled left step
      → (events : List Event) (t : StandingView) → step ≡ goes events t → CommandHolds left at settled more events t
  command_holds (nothing_left d) at settled more step h events t e =
      let es : [] ≡ events = cc in
      let ts : standing d at settled ≡ t = cc in
      subst (λ (u : StandingView). CommandHolds (nothing_left d) at settled more events u) ts
      (subst (λ (q : List Event). CommandHolds (nothing_left d) at settled more q (standing d at settled)) es
      (record { printed = none_printed; hold = λ last k. k }))
  command_holds (bases_left d) at settled more step h events t e =
      let es : base_events d ≡ events = cc in
      let ts : standing d at settled ≡ t = cc in
      let rows = bases_printed (bases_of d) in
      subst (λ (u : StandingView). CommandHolds (bases_left d) at settled more events u) ts
      (subst (λ (q : List Event). CommandHolds (bases_left d) at settled more q (standing d at settled)) es (record {
        printed = rows.0;
        hold = λ last k. subst
            (λ (bs : List Block). AllHold due after (before bs last) (open_solves (more d) at settled)) (sym rows.1) k;
      }))
  command_holds (commands.refused_at place c) at settled more step h events t e = absurd (let no : ⊥ = cc in no)
  command_holds (solve_left d) at settled more step h events t e = by h.answer h.right h.step_is
    where
      by : (answer : Result Unit Blame) → IsTested d answer → IsByTests (standing d at settled) answer step
          → CommandHolds (solve_left d) at settled more events t
      by (Ok done) ready is = solve_holds d at settled more step ready is events t e
      by (Err blame) right is = absurd (let no : ⊥ = cc in no)

  -- ---- a history

  pub record ScriptHolds (said : List Said) (s : StandingView) (h : History) : Type 0 where
    pub printed : IsPrinted h.events
    pub hold : AllHold due after (before (blocks_in h.events) ends)
        (open_solves (solves_from said s.circuit) s.at s.settled)

  module _ (files : Files) where
    abbrev IsHistoryFrom : List Said → ScriptEnd → StandingView → History → Type 0
    IsHistoryFrom said end s h = IsHistory IsStep no_name IsDoneThere (λ n. held files (bytes n)) said end s h

    at_end : (end : ScriptEnd) (s : StandingView) (h : History) → IsHistoryFrom [] end s h → h.end ≡ None
        → ScriptHolds [] s h
    at_end at_its_end s h is none = subst (ScriptHolds [] s) (sym is) (record { printed = none_printed; hold = refl })
    at_end (refused_at place c) s h is none =
        absurd (let some = ap (λ (x : History). x.end) is in let no : ⊥ = cc in no)

    -- behind a step that goes on
    behind_step : (c : Command) (more : List Said) (end : ScriptEnd) (s : StandingView) (h : History)
        (step : Step StandingView)
        → IsStep c s step → AfterStep step (λ t x. IsHistoryFrom more end t x) h → h.end ≡ None
        → ((t : StandingView) (x : History) → IsHistoryFrom more end t x → x.end ≡ None → ScriptHolds more t x)
        → ScriptHolds (command c ∷ more) s h
    behind_step c more end s h (goes events t) right goes_on none again =
        let x : History = goes_on.more in
        let rest : ScriptHolds more t x =
        again t x goes_on.right (sym (ap (λ (y : History). y.end) goes_on.h_is) ∙ none) in
        let here : CommandHolds (tried c s.circuit) s.at s.settled (λ next. solves_from more next) events t =
        command_holds (tried c s.circuit) s.at s.settled (λ next. solves_from more next)
        (goes events t) right events t refl in
        subst (ScriptHolds (command c ∷ more) s) (sym goes_on.h_is) (record {
          printed = both_printed events x.events here.printed rest.printed;
          hold = subst
              (λ (k : Certificate). AllHold due after k
              (open_solves (solves_from (command c ∷ more) s.circuit) s.at s.settled))
              (sym (ap (λ (bs : List Block). before bs ends) (all_blocks events x.events)
              ∙ before_both (blocks_in events) (blocks_in x.events) ends))
              (here.hold (before (blocks_in x.events) ends) rest.hold);
        })
    behind_step c more end s h (work.ends events f) right goes_on none again =
        absurd (let some = ap (λ (x : History). x.end) goes_on in let no : ⊥ = cc in no)

    script_holds : (said : List Said) (end : ScriptEnd) (s : StandingView) (h : History) → IsHistoryFrom said end s h
        → h.end ≡ None → ScriptHolds said s h
    script_holds [] end s h is none = at_end end s h is none
    script_holds (name n ∷ more) end s h is none =
        let rest : ScriptHolds more s is.more =
        script_holds more end s is.more is.right (sym (ap (λ (y : History). y.end) is.h_is) ∙ none) in
        subst (ScriptHolds (name n ∷ more) s) (sym is.h_is) (record {
          printed = record {
            no_lines = (tt, rest.printed.no_lines);
            fit = λ h. rest.printed.fit h.1;
            counted = rest.printed.counted;
          };
          hold = rest.hold;
        })
    script_holds (command c ∷ more) end s h is none =
        behind_step c more end s h is.step is.right is.goes_on none (λ t x later k. script_holds more end t x later k)

-- ---- the answer

whole_blocks : (bs : List Block) → blocks_of (before bs ends) ≡ bs
whole_blocks [] = refl
whole_blocks (b ∷ bs) = ap (λ (q : List Block). b ∷ q) (whole_blocks bs)

is_whole : (bs : List Block) → AllByRecursion IsFit bs → IsWhole (before bs ends)
is_whole [] h = tt
is_whole (b ∷ bs) h = (h.0.0, h.0.1, is_whole bs h.1)

-- the numbers of solved settles
have_numbers : (events : List Event) → AllByRecursion (IfSettle IsSolved) events
    → AllByRecursion (IfSettle HasModestNumbers) events
have_numbers [] h = tt
have_numbers (settle s ∷ events) h = (h.0.numbers, have_numbers events h.1)
have_numbers (asked n ∷ events) h = (tt, have_numbers events h.1)
have_numbers (row fields ∷ events) h = (tt, have_numbers events h.1)
have_numbers (waits c es ∷ events) h = (tt, have_numbers events h.1)
have_numbers (swept c m l ∷ events) h = (tt, have_numbers events h.1)
have_numbers (event.line t ∷ events) h = (tt, have_numbers events h.1)

module _ (rules : RuleLaw) where
  accepts : (c : Certificate) (s : Checking) (line count : ℕ) → AllHold due after c s
      → verdict due after line count c s ≡ accepted (count + length (blocks_of c))
  accepts (gives b more) s line count h =
      let next : Answer Blame = verdict due after (line + lines_count b) (count + 1) more (after s b) in
      ap (λ (d : Due Blame). by_due d (refused line Count)
      (λ judge. unless_broken line b (first_broken judge b) next)) h.1
      ∙ ap (λ (o : Option Broken). unless_broken line b o next) ((rules.none h.0 b).1 h.2)
      ∙ accepts more (after s b) (line + lines_count b) (count + 1) h.3
      ∙ ap accepted (omega arith)
  accepts ends s line count h =
      ap (λ (d : Due Blame). by_due d (accepted count) (λ judge. refused line Count)) h ∙ ap accepted (omega arith)
  accepts trails s line count h = absurd h
  accepts (refuses k) s line count h = absurd h

  -- bytes of blocks that hold are accepted
  bytes_accepted : CertificateLaw → (bs : List Block) (s : Checking) → AllByRecursion IsFit bs
      → AllHold due after (before bs ends) s
      → IsAnswer due after (Some (certificate_bytes Sparse bs)) s (accepted (length bs))
  bytes_accepted law bs s fit h =
      let c : Certificate = before bs ends in
      let again = law.again Sparse c (is_whole bs fit) in
      let there : IsAnswerBy due after (version_in (certificate_lines Sparse (blocks_of c)))
      (certificate_lines Sparse (blocks_of c)) s
      (accepted (length (blocks_of c))) =
      record {
        certificate = c;
        reads = again.1;
        answer_is = sym
            (accepts c s 2 0 h ∙ ap accepted (zero-add (length (blocks_of c))));
      } in
      let read : IsAnswer due after (Some (certificate_bytes Sparse (blocks_of c))) s
      (accepted (length (blocks_of c))) =
      subst (λ (ls : List Line). IsAnswerBy due after (version_in ls) ls s (accepted (length (blocks_of c))))
      (sym again.0) there in
      subst (λ (q : List Block). IsAnswer due after (Some (certificate_bytes Sparse q)) s (accepted (length q)))
      (whole_blocks bs) read

  pub cert_is_accepted : PassedLaw → CertificateLaw → SolvedLaw → CertLaw
  cert_is_accepted passed law solved files file h is none =
      let p : Part = said_of files file in
      let s : Checking = open_solves (solves_of p) no_positions 0 in
      let numbers = have_numbers h.events (recursion_from_All (IfSettle IsSolved) h.events (solved files file h is)) in
      let holds : ScriptHolds passed p.said first_standing h =
      script_holds passed files p.said (ended_by p.left) first_standing h is none in
      let read : IsAnswer due after (Some (certificate_bytes Sparse (blocks_in h.events))) s
      (accepted (length (blocks_in h.events))) =
      bytes_accepted law (blocks_in h.events) s (holds.printed.fit numbers) holds.hold in
      let counted =
      subst
      (λ (n : ℕ). IsAnswer due after (Some (certificate_bytes Sparse (blocks_in h.events))) s
      (accepted n)) holds.printed.counted read in
      subst (λ (bs : List ℕ). IsAnswer due after (Some bs) s (accepted (length (all_rounds h.events))))
      (sym (bytes_are h none holds.printed.no_lines)) counted

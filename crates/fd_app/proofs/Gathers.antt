-- The history of `check` gathers circuits that can be solved, and judges the certificate on them.
use Rattle.std.proofs.Common.{◌≡◌, ◌∙◌, ℕ, ◌+◌, ◌*◌, ◌≤◌, List, [], ◌∷◌, ◌++◌, length, Option, Some, None, Result, Ok}
use Rattle.std.proofs.Common.{Err, All, arith, refl, sym, ap, subst}
use Rattle.std.specs.Str.{chars}
use Rattle.std.proofs.lemmas.List.{append_assoc, append-nil}
use Rattle.std.proofs.lemmas.List.Elements.{All-append, All-cons, All-nil}
use Rattle.fd_checking.specs.dss_model.Names.{bytes}
use Rattle.fd_checking.specs.dss_model.declared.command.Blame.{Blame}
use Rattle.fd_checking.specs.dss_model.declared.command.Command.{Command}
use Rattle.fd_checking.specs.dss_model.declared.command.Place.{Place}
use Rattle.fd_checking.specs.dss_model.declared.command.Verb.{Verb}
use Rattle.fd_checking.specs.dss_model.declared.command.Verb.TheVariants as verb
use Rattle.fd_checking.specs.dss_model.declared.fault.ModelFault.{ModelFault}
use Rattle.fd_checking.specs.dss_circuit.Circuit.{CircuitView, empty_circuit}
use Rattle.fd_checking.specs.dss_circuit.InRange.{IsWithinLimits}
use Rattle.fd_checking.specs.dss_commands.Commands.{applied}
use Rattle.fd_checking.specs.dss_commands.Laws.{LimitsLaw}
use Rattle.fd_checking.proofs.CallerLemmas.dss_commands.{none_within}
use Rattle.fd_checking.specs.dss_script.Said.{Said, ScriptEnd, at_its_end, command, ended_by, name, refused_at, said_of}
use Rattle.fd_checking.specs.dss_script.SaidRoom.{SaidRoomLaw, room_of}
use Rattle.fd_checking.specs.dss_script.Sessions.{cost}
use Rattle.fd_checking.specs.fd_enclosure.Encloses.{EnclosureLaw}
use Rattle.fd_checking.specs.fd_settings.Hours.{HoursLaw}
use Rattle.fd_checking.specs.fd_settings.Modest.{ModestLaw}
use Rattle.fd_checking.specs.fd_settings.Positions.{NextLaw}
use Rattle.fd_checking.specs.fd_settle.Kept.{KeptLaw, SoundAtLaw}
use Rattle.fd_bench.specs.fd_outside.Files.{held}
use Rattle.fd_checking.specs.fd_outcome.Events.{Event, History}
use Rattle.fd_checking.specs.fd_outcome.History.{IsHistory}
use Rattle.fd_checking.specs.fd_outcome.Work as work
use Rattle.fd_checking.specs.fd_outcome.Work.{AfterStep, Step, goes}
use Rattle.fd_checking.specs.fd_solving.Commands.{Applied, IsTested, bases_left, left_of, nothing_left, solve_left}
use Rattle.fd_checking.specs.fd_solving.Commands.{tried}
use Rattle.fd_checking.specs.fd_solving.Commands as commands
use Rattle.fd_checking.specs.fd_solving.Weights.{weight}
use Rattle.fd_checking.proofs.CallerLemmas.fd_solving.{verb_takes}
use Rattle.fd_checking.specs.Checks.{CheckedLaw, GatheredView, IsCheckStep, IsFoundOf, IsGatheredBy, IsGatheredOf}
use Rattle.fd_checking.specs.Checks.{IsJudged, certificate_name, gathered}
use Rattle.fd_app.specs.Meaning.{IsCertificateOf, MeaningLaw}
use Rattle.fd_app.specs.Solves.{behind_command, solves_from}
use Rattle.fd_app.proofs.Certified.{CanBeSolved, solves_certified}

-- ---- what a command leaves

-- the circuit that an accepted command leaves
abbrev Leaves : Applied → CircuitView → Type 0
Leaves (nothing_left d) new = d ≡ new
Leaves (solve_left d) new = d ≡ new
Leaves (bases_left d) new = d ≡ new
Leaves (commands.refused_at place c) new = ⊥

left_by : (place : Place) (v : Verb) (r : Result CircuitView ModelFault) (new : CircuitView)
    → Leaves (left_of place v r) new
    → r ≡ Ok new
left_by place v (Err f) new h = absurd h
left_by place verb.Bases (Ok d) new h = ap Ok h
left_by place (verb.Solve pairs) (Ok d) new h = ap Ok h
left_by place (verb.New kind word pairs) (Ok d) new h = ap Ok h
left_by place (verb.Edit kind word pairs) (Ok d) new h = ap Ok h
left_by place (verb.Set pairs) (Ok d) new h = ap Ok h
left_by place verb.Clear (Ok d) new h = ap Ok h

-- a circuit with room for the commands that come
record HasRoom (c : CircuitView) (said : List Said) : Type 0 where
  room : weight c + room_of said ≤ 1_048_577
  within : IsWithinLimits c.elements c.options

module _ (limits : LimitsLaw) where
  room_left : (c : Command) (more : List Said) (old new : CircuitView) → HasRoom old (command c ∷ more)
      → applied c old ≡ Ok new → HasRoom new more
  room_left c more old new h is =
      let takes = verb_takes c.place c.verb old new is in
      let before : 11 * length old.elements + 6 * old.solves + (cost c.verb + room_of more) ≤ 1_048_577 = h.room in
      record {
        room = omega (arith, takes.room, before);
        within = (limits c old new is (omega (arith, before)) h.within).within;
      }

  -- ---- the commands of a script

  module _ (there : List ℕ → Option (List ℕ)) (certificate : List ℕ) where
    abbrev IsHistoryFrom : List Said → ScriptEnd → GatheredView → History → Type 0
    IsHistoryFrom said end g h = IsHistory IsCheckStep certificate_name IsJudged there said end g h

    -- the certificate is judged on these Solves, which can be solved, and no fault comes of it
    record IsJudgedOn (solved : List CircuitView) : Type 0 where
      circuit : CircuitView
      more : History
      judged : IsJudged (gathered circuit solved certificate) (there certificate) more
      well : more.end ≡ None
      all : All CanBeSolved solved

    at_end : (end : ScriptEnd) (c : CircuitView) (solved : List CircuitView) (h : History)
        → IsHistoryFrom [] end (gathered c solved certificate) h → h.end ≡ None → All CanBeSolved solved
        → IsJudgedOn solved
    at_end at_its_end c solved h is none all = record {
      circuit = c;
      more = is.more;
      judged = is.right;
      well = sym (ap (λ (x : History). x.end) is.h_is) ∙ none;
      all = all;
    }
    at_end (refused_at place x) c solved h is none all =
        absurd (let some = ap (λ (x : History). x.end) is in let no : ⊥ = cc in no)

    -- what is to come behind a command
    abbrev GoesOn : List Said → ScriptEnd → GatheredView → Type 0
    GoesOn more end t = (d : CircuitView) (now : List CircuitView) → t ≡ gathered d now certificate → HasRoom d more
        → All CanBeSolved now → IsJudgedOn (now ++ solves_from more d)

    by_left : (c : Command) (more : List Said) (end : ScriptEnd) (circuit : CircuitView) (solved : List CircuitView)
        (left : Applied) → tried c circuit ≡ left → HasRoom circuit (command c ∷ more) → All CanBeSolved solved
        → (events : List Event) (t : GatheredView) → IsGatheredOf solved certificate left (goes events t)
        → GoesOn more end t → IsJudgedOn (solved ++ behind_command left (λ next. solves_from more next))
    by_left c more end circuit solved (nothing_left d) of room all events t is go =
        let stands : t ≡ gathered d solved certificate = cc is in
        let left = left_by c.place c.verb (applied c circuit) d (subst (λ l. Leaves l d) (sym of) refl) in
        go d solved stands (room_left c more circuit d room left) all
    by_left c more end circuit solved (bases_left d) of room all events t is go =
        let stands : t ≡ gathered d solved certificate = cc is in
        let left = left_by c.place c.verb (applied c circuit) d (subst (λ l. Leaves l d) (sym of) refl) in
        go d solved stands (room_left c more circuit d room left) all
    by_left c more end circuit solved (commands.refused_at place x) of room all events t is go =
        absurd (let no : ⊥ = cc is in no)
    by_left c more end circuit solved (solve_left d) of room all events t is go = by is.answer is.right is.step_is
      where
        left : HasRoom d more
        left = room_left c more circuit d room
            (left_by c.place c.verb (applied c circuit) d (subst (λ l. Leaves l d) (sym of) refl))

        by : (tests : Result Unit Blame) → IsTested d tests → IsGatheredBy d solved certificate tests (goes events t)
            → IsJudgedOn (solved ++ d ∷ solves_from more d)
        by (Ok done) passed step =
            let stands : t ≡ gathered d (solved ++ d ∷ []) certificate = cc step in
            let one = All-cons CanBeSolved d [] (record { passed = passed; within = left.within })
            (All-nil CanBeSolved) in
            subst IsJudgedOn (append_assoc solved (d ∷ []) (solves_from more d))
            (go d (solved ++ d ∷ []) stands left (All-append CanBeSolved solved (d ∷ []) all one))
        by (Err blame) right step = absurd (let no : ⊥ = cc step in no)

    by_step : (c : Command) (more : List Said) (end : ScriptEnd) (circuit : CircuitView) (solved : List CircuitView)
        (h : History) → HasRoom circuit (command c ∷ more) → All CanBeSolved solved → (step : Step GatheredView)
        → IsCheckStep c (gathered circuit solved certificate) step
        → AfterStep step (λ t x. IsHistoryFrom more end t x) h → h.end ≡ None
        → ((t : GatheredView) (x : History) → IsHistoryFrom more end t x → x.end ≡ None → GoesOn more end t)
        → IsJudgedOn (solved ++ solves_from (command c ∷ more) circuit)
    by_step c more end circuit solved h room all (goes events t) right goes_on none again =
        by_left c more end circuit solved (tried c circuit) refl room all events t right
        (again t goes_on.more goes_on.right (sym (ap (λ (y : History). y.end) goes_on.h_is) ∙ none))
    by_step c more end circuit solved h room all (work.ends events f) right goes_on none again =
        absurd (let some = ap (λ (x : History). x.end) goes_on in let no : ⊥ = cc in no)

    judged_on : (said : List Said) (end : ScriptEnd) (c : CircuitView) (solved : List CircuitView) (h : History)
        → IsHistoryFrom said end (gathered c solved certificate) h → h.end ≡ None → HasRoom c said
        → All CanBeSolved solved → IsJudgedOn (solved ++ solves_from said c)
    judged_on [] end c solved h is none room all =
        subst IsJudgedOn (sym (append-nil solved)) (at_end end c solved h is none all)
    judged_on (name n ∷ more) end c solved h is none room all =
        judged_on more end c solved is.more is.right (sym (ap (λ (y : History). y.end) is.h_is) ∙ none)
        (record { room = room.room; within = room.within }) all
    judged_on (command x ∷ more) end c solved h is none room all =
        by_step x more end c solved h room all is.step is.right is.goes_on none
        (λ t y later k d now same left found. judged_on more end d now y
        (subst (λ (g : GatheredView). IsHistoryFrom more end g y) same later) k left found)

-- ---- what is held is a certificate of the Solves

module _ (checked : CheckedLaw) (limits : LimitsLaw) (rooms : SaidRoomLaw) (law : EnclosureLaw) (sound_law : SoundAtLaw)
    (kept_law : KeptLaw) (modest_law : ModestLaw) (hours_law : HoursLaw) (next_law : NextLaw) where
  of_found : (solved : List CircuitView) (found : Option (List ℕ)) → All CanBeSolved solved → IsFoundOf solved found
      → IsCertificateOf solved found
  of_found solved None all h = absurd h
  of_found solved (Some text) all h = record {
    version = h.version;
    certificate = h.certificate;
    version_is = h.version_is;
    reads = h.reads;
    certified = solves_certified law sound_law kept_law modest_law hours_law next_law h.certificate solved all
        h.of_rounds;
  }

  pub accepted : MeaningLaw
  accepted files script file h is none =
      let p = said_of files (chars script) in
      let room : HasRoom empty_circuit p.said =
      record { room = omega (arith, rooms files (chars script)); within = none_within } in
      let on = judged_on limits (λ n. held files (bytes n)) (chars file) p.said
      (ended_by p.left) empty_circuit [] h is none
      room (All-nil CanBeSolved) in
      of_found _ _ on.all (checked _ _ on.more on.judged on.well)

-- What an hour comes to, by its rounds and by how its settle ended.
use Rattle.std.proofs.Common.{◌≡◌, ◌∙◌, ℕ, suc, zero, ◌+◌, ◌-◌, List, Option, Some, None, Result, Ok, Err, refl, sym, ap, subst, arith, drop, length, map}
use Rattle.std.specs.Prelude.{take}
use Rattle.std.proofs.lemmas.List.{length-append, length-map, take-map}
use Rattle.std.proofs.lemmas.Simd.{map-map}
use Rattle.std.proofs.Math.Seq.{drop-append_seam}
use Rattle.dss_commands.specs.dss_model.declared.command.Blame.{Blame}
use Rattle.fd_daily.specs.fd_cert.Claims.{claim_in}
use Rattle.fd_daily.specs.fd_cert.declared.rule.Rule.{Rule}
use Rattle.fd_daily.specs.fd_cert.declared.rule.Rule.TheVariants as rule
use Rattle.fd_daily.specs.fd_queue.Machine.{Act, Machine}
use Rattle.fd_daily.specs.fd_settle.Calls.{AreCalls}
use Rattle.fd_daily.specs.fd_settle.Contract.{CallsAs, EndsAs}
use Rattle.fd_daily.specs.fd_settle.Rounds.{acts_in, claims_in, seen}
use Rattle.fd_daily.specs.fd_settle.Settle.{End, Open, Settled, Limited, Undecidable, Settle}
use Rattle.fd_daily.specs.fd_settle.declared.fault.SettleFault.{SettleFault}
use Rattle.fd_daily.specs.fd_settle.declared.fault.SettleFault.TheVariants as settle
use Rattle.fd_daily.specs.fd_settle.declared.round.Round.{Round}
use Rattle.fd_certfile.specs.Blocks as blocks
use Rattle.fd_certfile.specs.Certificates.{Certificate, ends, trails, refuses, gives}
use Rattle.fd_certfile.specs.Judging.{judge_of}
use Rattle.fd_certfile.specs.Laws.{CertificateLaw}
use Rattle.fd_certfile.specs.Reader.{GivenBlock, ReaderView}
use Rattle.fd_certfile.specs.Rules.{Ball, Sampled}
use Rattle.fd_certfile.specs.Solving.{judge_in, solved_of}
use Rattle.fd_certfile.specs.SolvingLaws.{GivenLaw, SolvingLaw}
use Rattle.fd_certfile.specs.Verdict.{Answer, Due, asks, by_due, refused, stopped, stops, verdict}
use Rattle.fd_certfile.specs.declared.fault.CertFileFault.{CertFileFault}
use Rattle.fd_certfile.specs.declared.fault.CertFileFault.TheVariants as file
use Rattle.fd_check.specs.Checking.{Checking, Settling, act_due, after, due, due_in, open_hours, open_solves, outcome_in, sampled_by, under_way}
use Rattle.fd_check.specs.Comes.{Comes, Leads, Tells}
use Rattle.fd_check.specs.Comparing.{acts_made, before_last, first_unlike, hour_told, last_line, unless_unlike, with_acts}
use Rattle.fd_check.specs.declared.fault.CheckFault.{CheckFault}
use Rattle.fd_check.specs.declared.fault.CheckFault.TheVariants as fault
use Rattle.fd_check.proofs.Walks.{ByActs, ByEnd, Walk, acts_due_in, decided, gives_solved, plant_in, settle_from, walk}

-- ---- acts

-- what is made is what is due
pub made_due : (rounds : List Round) → map acts_made rounds ≡ acts_due_in (acts_in rounds)
made_due rounds =
    let each : (r : Round) → acts_made r ≡ map act_due (map seen r.acts.items) = λ r. sym (map-map act_due seen r.acts.items) in
    ap (λ (f : Round → List blocks.Act). map f rounds) (λ i r. each r i)
    ∙ sym (map-map (λ (acts : List Act). map act_due acts) (λ (r : Round). map seen r.acts.items) rounds)

pub before_last_map : {X Y : Type 0} (f : X → Y) (xs : List X) → map f (before_last xs) ≡ before_last (map f xs)
before_last_map f xs = sym (take-map f (length xs - 1) xs) ∙ ap (λ (n : ℕ). take (n - 1) (map f xs)) (sym (length-map xs f))

-- ---- a fault of the script

stopped_by : (blame : Blame) (d : Due Blame) → d ≡ stops blame → (otherwise : Answer Blame) (more : _ → Answer Blame)
    → by_due d otherwise more ≡ stopped blame
stopped_by blame d h otherwise more = ap (λ (k : Due Blame). by_due k otherwise more) h

stopped_verdict : (blame : Blame) (s : Checking) → due s ≡ stops blame → (line count : ℕ) (c : Certificate)
    → verdict due after line count c s ≡ stopped blame
stopped_verdict blame s h line count (gives b c) = stopped_by blame (due s) h _ _
stopped_verdict blame s h line count ends = stopped_by blame (due s) h _ _
stopped_verdict blame s h line count trails = stopped_by blame (due s) h _ _
stopped_verdict blame s h line count (refuses zero) = stopped_by blame (due s) h _ _
stopped_verdict blame s h line count (refuses (suc k)) = stopped_by blame (due s) h _ _

pub stopped_there : CertificateLaw → (r : ReaderView) (s : Checking) (blame : Blame) → due s ≡ stops blame
    → Comes r s (stopped blame)
stopped_there law r s blame h =
    let some = law.some r.version r.lines in
    record { certificate = some.0; reads = some.1; answer_is = sym (stopped_verdict blame s h r.line (length r.given) some.0) }

-- ---- a refusal of the reader

module _ (law : CertificateLaw) (solving : SolvingLaw due after) (s : Settling) (r : ReaderView)
    (number : r.number ≡ s.number) (hour : r.hour ≡ s.hour) (round : r.round ≡ s.round)
    (in_range : (plant_in s).blame s.machine.at ≡ None) where
  samples_in : Ball → Sampled
  samples_in ball = sampled_by (outcome_in s.circuit s.machine ball)

  asked : due (under_way s) ≡ asks (judge_in ((plant_in s).network s.machine.at) r samples_in)
  unfolding samples_in
  asked =
      ap (due_in s) in_range
      ∙ (λ i.
      asks (judge_of ((plant_in s).network s.machine.at) (sym number i) (sym hour i) (sym round i) (λ ball.
      sampled_by (outcome_in s.circuit s.machine ball))))

  refused_there : (line : ℕ) (k : Rule) → solved_of ((plant_in s).network s.machine.at) r ≡ Err (line, k)
      → Comes r (under_way s) (refused line k)
  refused_there line k h =
      let some = law.some r.version r.lines in
      record {
        certificate = some.0;
        reads = some.1;
        answer_is = sym (solving.refused_so ((plant_in s).network s.machine.at) r line k some.0 samples_in
            (under_way s) (length r.given) h some.1 asked);
      }

-- ---- an hour

-- what an hour comes to that left a reader and a machine
abbrev pub HourSays : Settling → ReaderView → ReaderView → Machine → Result (Unit {0}) CheckFault → Type 0
HourSays s r w m (Ok t) = Leads r (under_way s) w (open_hours s.circuit s.more s.hours m s.number (λ left count. open_solves s.more left count))
HourSays s r w m (Err e) = Tells e (λ answer. Comes r (under_way s) answer)

says : (s : Settling) (r w : ReaderView) (m : Machine) (end : End) (otherwise : Result (Unit {0}) CheckFault)
    → (ByEnd s r w m end → HourSays s r w m otherwise) → (o : Option ℕ) → ByActs s r w m end o
    → HourSays s r w m (unless_unlike o otherwise)
says s r w m end otherwise f None h = f h
says s r w m end otherwise f (Some line) h = h

module _ (law : CertificateLaw) (given_law : GivenLaw) (solving : SolvingLaw due after) (s : Settling)
    (r : ReaderView) (number : r.number ≡ s.number) (hour : r.hour ≡ s.hour) (round : r.round ≡ s.round)
    (rounds : List Round) (acts : acts_in rounds ≡ (settle_from s (claims_in rounds) s.machine).rounds) where
  abbrev made : Settle
  made = settle_from s (claims_in rounds) s.machine

  abbrev Calls : ReaderView → Type 0
  Calls w = AreCalls gives_solved (plant_in s) r s.machine (claims_in rounds) w

  long : length made.rounds ≡ length (claims_in rounds)
  long = ap length (sym acts) ∙ length-map rounds (λ (q : Round). map seen q.acts.items) ∙ sym (length-map rounds _)

  way : (w : ReaderView) → Calls w → Walk s r w (length (claims_in rounds)) made
  way w calls = walk law given_law solving (claims_in rounds) s r w number hour round calls long

  pub given_count : (w : ReaderView) → Calls w → length w.given ≡ length r.given + length rounds
  given_count w calls =
      let k = way w calls in
      omega (arith, ap length k.grown, length-append r.given k.blocks, k.long, length-map rounds (λ (q : Round). claim_in q.certified.value))

  all_due : map acts_made rounds ≡ acts_due_in made.rounds
  all_due = made_due rounds ∙ ap acts_due_in acts

  abbrev Found : {T : Type 0} → ReaderView → Result T (SettleFault CertFileFault) → Option ℕ
  Found w ended = first_unlike (map acts_made (with_acts ended rounds)) (drop (length r.given) w.given)

  blocks_left : (w : ReaderView) (calls : Calls w) → drop (length r.given) w.given ≡ (way w calls).blocks
  blocks_left w calls = ap (drop (length r.given)) (way w calls).grown ∙ drop-append_seam r.given (way w calls).blocks

  -- a settle that ended so
  module _ (w : ReaderView) (calls : Calls w) where
    comes : (end : End) → made.end ≡ end
        → ByActs s r w made.machine end (first_unlike (acts_due_in (decided end made.rounds)) (drop (length r.given) w.given))
    comes end e =
        subst (λ (l : List GivenBlock). ByActs s r w made.machine end (first_unlike (acts_due_in (decided end made.rounds)) l)) (sym (blocks_left w calls))
        (subst (λ (k : End). ByActs s r w made.machine k (first_unlike (acts_due_in (decided k made.rounds)) (way w calls).blocks)) e (way w calls).comes)

    told_all : (end : End) (otherwise : Result (Unit {0}) CheckFault) → decided end made.rounds ≡ made.rounds
        → made.end ≡ end → (ByEnd s r w made.machine end → HourSays s r w made.machine otherwise)
        → HourSays s r w made.machine (unless_unlike (first_unlike (map acts_made rounds) (drop (length r.given) w.given)) otherwise)
    told_all end otherwise all e f =
        let same : acts_due_in (decided end made.rounds) ≡ map acts_made rounds = ap acts_due_in all ∙ sym all_due in
        says s r w made.machine end otherwise f _
        (subst (λ (l : List (List blocks.Act)).
        ByActs s r w made.machine end (first_unlike l (drop (length r.given) w.given)))
        same (comes end e))

    told_undecided : (k : ℕ) (u : _) → made.end ≡ Undecidable k u
        → HourSays s r w made.machine
        (unless_unlike (first_unlike (map acts_made (before_last rounds)) (drop (length r.given) w.given))
        (Err (fault.Refused (last_line w) rule.Undecided)))
    told_undecided k u e =
        let same : acts_due_in (before_last made.rounds) ≡ map acts_made (before_last rounds) =
        before_last_map (λ (q : List Act). map act_due q) made.rounds ∙ ap before_last (sym all_due) ∙ sym (before_last_map acts_made rounds) in
        says s r w made.machine (Undecidable k u) (Err (fault.Refused (last_line w) rule.Undecided)) (λ h. h) _
        (subst (λ (l : List (List blocks.Act)).
        ByActs s r w made.machine (Undecidable k u) (first_unlike l (drop (length r.given) w.given)))
        same (comes (Undecidable k u) e))

    -- the settle goes on, and the network of the next round is out of range
    range_there : (blame : Blame) → (plant_in s).blame made.machine.at ≡ Some blame → ByEnd s r w made.machine Open
        → HourSays s r w made.machine (Err (fault.Range blame))
    range_there blame h leads =
        leads (stopped blame) (stopped_there law w (under_way (record s { round = w.round; machine = made.machine }))
        blame (ap (due_in (record s { round = w.round; machine = made.machine })) h))

    -- or the reader refuses its block
    solver_there : (line : ℕ) (k : Rule) → (plant_in s).blame made.machine.at ≡ None
        → solved_of ((plant_in s).network made.machine.at) w ≡ Err (line, k) → ByEnd s r w made.machine Open
        → HourSays s r w made.machine (Err (fault.Refused line k))
    solver_there line k in_range h leads = leads (refused line k) (refused_there law solving (record s {
      round = w.round;
      machine = made.machine;
    }) w (way w calls).number (way w calls).hour refl in_range line k h)

  pub hour_says : (ended : Result (Unit {0}) (SettleFault CertFileFault)) (w : ReaderView)
      → CallsAs gives_solved (plant_in s) r s.machine rounds ended w → EndsAs (plant_in s) ended made.end made.machine
      → HourSays s r w made.machine (hour_told w ended (Found w ended))
  hour_says (Ok t) w calls end = told_all w calls Settled (Ok t) refl end (λ h. h)
  hour_says (Err (settle.Undecided control low high edge)) w calls end = told_undecided w calls control (record { low = low; high = high; edge = edge }) end
  hour_says (Err (settle.ControlLimit n)) w calls end = told_all w calls Limited (Err (fault.Refused (last_line w) rule.ControlLimit)) refl end.0 (λ h. h)
  hour_says (Err (settle.Range blame)) w calls end = told_all w calls Open (Err (fault.Range blame)) refl end.0 (range_there w calls blame end.1)
  hour_says (Err (settle.Solver (file.Refused line k))) w last end =
      let calls : Calls w = subst Calls (sym last.last.1) last.calls in
      told_all w calls Open (Err (fault.Refused line k)) refl end (solver_there w calls line k last.in_range
      (subst (λ (x : ReaderView). solved_of ((plant_in s).network made.machine.at) x ≡ Err (line, k))
      (sym last.last.1) last.last.0))
  hour_says (Err (settle.Solver file.NoMemory)) w calls end = tt
  hour_says (Err settle.NoMemory) w calls end = tt

-- The blocks of an hour, and what they lead to.
use Rattle.std.proofs.Common.{◌≡◌, ◌∙◌, ℕ, suc, ◌+◌, ◌-◌, Bool, true, false, List, [], ◌∷◌, ◌++◌, Option, Some, None, Result, refl, sym, ap, subst, arith, length, map}
use Rattle.std.specs.Prelude.{get_or, take, if◌then◌else◌}
use Rattle.std.specs.Cmp.Lexicographic.{pointwise}
use Rattle.std.proofs.lemmas.List.{append_assoc, append-nil, length-append}
use Rattle.std.proofs.Math.Seq.{get_or-append_seam}
use Rattle.fd_daily.specs.fd_cert.declared.rule.Rule.TheVariants as rule
use Rattle.fd_daily.specs.fd_pattern.Views.{NetworkView}
use Rattle.fd_daily.specs.fd_enclosure.Sound.{Claim}
use Rattle.fd_daily.specs.fd_queue.Machine.{Act, Machine, Quiet, AtLimit, Acts, Setup, Step, step_of}
use Rattle.fd_daily.specs.fd_settle.Calls.{AreCalls}
use Rattle.fd_daily.specs.fd_settle.Plant.{Plant}
use Rattle.fd_daily.specs.fd_settle.Rounds.{left_by}
use Rattle.fd_daily.specs.fd_settle.Sampling.{Decided, Sampling, Unclear}
use Rattle.fd_daily.specs.fd_settle.Settle.{End, Open, Settled, Limited, Undecidable, Outcome, Ends, Moves, Settle, before_rest, outcome_after, outcome_of, settle_of}
use Rattle.fd_certfile.specs.Blocks.{Block}
use Rattle.fd_certfile.specs.Blocks as blocks
use Rattle.fd_certfile.specs.Laws.{CertificateLaw}
use Rattle.fd_certfile.specs.Reader.{GivenBlock, ReaderView, no_block}
use Rattle.fd_certfile.specs.Rules.{ball_of, same_act}
use Rattle.fd_certfile.specs.Solving.{GivesSolved, IsSolved}
use Rattle.fd_certfile.specs.SolvingLaws.{GivenLaw, IsGiven, SolvingLaw}
use Rattle.fd_certfile.specs.Verdict.{refused}
use Rattle.fd_certfile.specs.declared.fault.CertFileFault.{CertFileFault}
use Rattle.fd_daily.specs.fd_queue.Controls.{Positions}
use Rattle.fd_daily.specs.Underway.{plant_at}
use Rattle.fd_check.specs.Checking.{Settling, act_due, after, due, open_hours, open_solves, outcome_in, under_way}
use Rattle.fd_check.specs.Comes.{Comes, Leads}
use Rattle.fd_check.specs.Comparing.{before_last, first_unlike, last_line}
use Rattle.fd_check.proofs.Blocks.{given_so, grown, is, limited_alike, limited_unlike, moved_alike, moved_unlike, same_outcome, settled_alike, settled_unlike, undecided_there}

-- ---- rounds

-- the acts of a settle's rounds, as blocks are to claim them
abbrev pub acts_due_in : List (List Act) → List (List blocks.Act)
acts_due_in rounds = map (λ (acts : List Act). map act_due acts) rounds

-- those that decided samples gave
abbrev pub decided : {X : Type 0} → End → List X → List X
decided Open xs = xs
decided Settled xs = xs
decided Limited xs = xs
decided (Undecidable k u) xs = before_last xs

before_more : {X : Type 0} (x y : X) (ys : List X) → before_last (x ∷ y ∷ ys) ≡ x ∷ before_last (y ∷ ys)
before_more x y ys =
    let one : length (x ∷ y ∷ ys) - 1 ≡ suc (length (y ∷ ys) - 1) = omega arith in
    ap (λ (n : ℕ). take n (x ∷ y ∷ ys)) one

-- ---- no round leaves a settle open

open_after : (step : Step) (m : Machine) → outcome_after step ≡ Ends Open m → ⊥
open_after (Quiet n) m h = cc
open_after (AtLimit n) m h = cc
open_after (Acts n acts) m h = cc

never_open : (s : Setup) (n : Machine) (w : Sampling) (m : Machine) → outcome_of s n w ≡ Ends Open m → ⊥
never_open s n (Decided ds) m h = open_after (step_of s ds n) m h
never_open s n (Unclear k u) m h = cc

-- ---- one round more

decided_end : (acts made : List Act) (rounds : List (List Act)) (end : End)
    → decided end (acts ∷ made ∷ rounds) ≡ acts ∷ decided end (made ∷ rounds)
decided_end acts made rounds Open = refl
decided_end acts made rounds Settled = refl
decided_end acts made rounds Limited = refl
decided_end acts made rounds (Undecidable k u) = before_more acts made rounds

decided_by : (acts : List Act) (o : Outcome) (rest : Machine → Settle)
    → decided (before_rest o rest).end (acts ∷ (before_rest o rest).rounds) ≡ acts ∷ decided (before_rest o rest).end (before_rest o rest).rounds
decided_by acts (Ends end m) rest = decided_end acts [] [] end
decided_by acts (Moves made m) rest = decided_end acts made (rest m).rounds (rest m).end

decided_more : (s : Setup) (look : Positions → Claim → Sampling) (m : Machine) (xs : List Claim) (acts : List Act)
    → decided (settle_of s look m xs).end (acts ∷ (settle_of s look m xs).rounds) ≡ acts ∷ decided (settle_of s look m xs).end (settle_of s look m xs).rounds
decided_more s look m [] acts = refl
decided_more s look m (x ∷ xs) acts = decided_by acts (outcome_of s m (look m.at x)) (λ n. settle_of s look n xs)

-- ---- what an hour comes to

-- by how its settle ended, which left a reader and a machine
abbrev pub ByEnd : Settling → ReaderView → ReaderView → Machine → End → Type 0
ByEnd s r w m Open = Leads r (under_way s) w (under_way (record s { round = w.round; machine = m }))
ByEnd s r w m Settled = Leads r (under_way s) w (open_hours s.circuit s.more s.hours m s.number (λ left count. open_solves s.more left count))
ByEnd s r w m Limited = Comes r (under_way s) (refused (last_line w) rule.ControlLimit)
ByEnd s r w m (Undecidable k u) = Comes r (under_way s) (refused (last_line w) rule.Undecided)

-- and by the line of a block that claims other acts
abbrev pub ByActs : Settling → ReaderView → ReaderView → Machine → End → Option ℕ → Type 0
ByActs s r w m end None = ByEnd s r w m end
ByActs s r w m end (Some line) = Comes r (under_way s) (refused line rule.Acts)

carry : (s : Settling) (r u : ReaderView) (n : ℕ) (k : Machine)
    → Leads r (under_way s) u (under_way (record s { round = n; machine = k }))
    → (w : ReaderView) (m : Machine) (end : End) (o : Option ℕ)
    → ByActs (record s { round = n; machine = k }) u w m end o → ByActs s r w m end o
carry s r u n k leads w m end (Some line) h = leads (refused line rule.Acts) h
carry s r u n k leads w m Open None h = λ answer x. leads answer (h answer x)
carry s r u n k leads w m Settled None h = λ answer x. leads answer (h answer x)
carry s r u n k leads w m Limited None h = leads (refused (last_line w) rule.ControlLimit) h
carry s r u n k leads w m (Undecidable i o) None h = leads (refused (last_line w) rule.Undecided) h

-- the blocks that a reader gave for the rounds of an hour from one round on, and what they come to
pub record Walk (s : Settling) (r w : ReaderView) (count : ℕ) (x : Settle) : Type 0 where
  pub blocks : List GivenBlock
  pub grown : w.given ≡ r.given ++ blocks
  pub long : length blocks ≡ count
  pub number : w.number ≡ s.number
  pub hour : w.hour ≡ s.hour
  pub comes : ByActs s r w x.machine x.end (first_unlike (acts_due_in (decided x.end x.rounds)) blocks)

last_given : (r w : ReaderView) (g : GivenBlock) → w.given ≡ r.given ++ g ∷ [] → last_line w ≡ g.rule_line
last_given r w g h =
    let place : length w.given - 1 ≡ length r.given = omega (arith, ap length h, length-append r.given (g ∷ [])) in
    ap (λ (k : GivenBlock). k.rule_line) (ap (λ (n : ℕ). get_or w.given n no_block) place
    ∙ ap (λ (l : List GivenBlock). get_or l (length r.given) no_block) h
    ∙ get_or-append_seam r.given g [] no_block)

abbrev pub plant_in : Settling → Plant
plant_in s = plant_at s.circuit s.hour

-- the settle over these claims from a machine on
abbrev pub settle_from : Settling → List Claim → Machine → Settle
settle_from s xs n = settle_of (plant_in s).setup (plant_in s).look n xs

-- a reader as a solver, whatever the limits
abbrev pub gives_solved : ReaderView → NetworkView → Result Claim CertFileFault → ReaderView → Type 0
gives_solved before v answer left = GivesSolved v before answer left

module _ (law : CertificateLaw) (given_law : GivenLaw) (solving : SolvingLaw due after) where
  module _ (s : Settling) (r u w : ReaderView) (x : Claim) (xs : List Claim) (number : r.number ≡ s.number) (hour : r.hour ≡ s.hour) (round : r.round ≡ s.round)
      (in_range : (plant_at s.circuit s.hour).blame s.machine.at ≡ None) (one : IsSolved ((plant_at s.circuit s.hour).network s.machine.at) r x u) where
    abbrev p : Plant
    p = plant_at s.circuit s.hour

    abbrev b : Block
    b = one.block

    abbrev rest : Machine → Settle
    rest n = settle_of p.setup p.look n xs

    abbrev g : GivenBlock
    g = given_so law given_law solving s r b u number hour round in_range one.solved

    here : (o : Outcome) → outcome_of p.setup s.machine (p.look s.machine.at x) ≡ o
        → outcome_in s.circuit s.machine (ball_of b) ≡ o
    here o e =
        sym (same_outcome s.circuit (p.network s.machine.at) s.machine b)
        ∙ ap (λ (k : Claim). outcome_of p.setup s.machine (p.look s.machine.at k)) (sym one.claim)
        ∙ e

    found : IsGiven (p.network s.machine.at) r b u
    found = is law given_law solving s r b u number hour round in_range one.solved

    pub number_there : u.number ≡ s.number
    number_there = ap (λ (k : ReaderView). k.number) found.reader ∙ number

    pub hour_there : u.hour ≡ s.hour
    hour_there = ap (λ (k : ReaderView). k.hour) found.reader ∙ hour

    pub round_there : u.round ≡ s.round + 1
    round_there = ap (λ (k : ReaderView). k.round) found.reader ∙ ap (λ (n : ℕ). n + 1) round

    grown_there : u.given ≡ r.given ++ g ∷ []
    grown_there = grown law given_law solving s r b u number hour round in_range one.solved

    module _ (acts : List Act) (n : Machine) (e : outcome_of p.setup s.machine (p.look s.machine.at x) ≡ Moves acts n)
        (more : Walk (record s { round = s.round + 1; machine = n }) u w (length xs) (rest n)) where
      moved_by : (t : Bool) → pointwise same_act (map act_due acts) b.acts ≡ t
          → ByActs s r w (rest n).machine (rest n).end (first_unlike (acts_due_in (decided (rest n).end (acts ∷ (rest n).rounds))) (g ∷ more.blocks))
      moved_by t h =
          let first : first_unlike (acts_due_in (decided (rest n).end (acts ∷ (rest n).rounds))) (g ∷ more.blocks)
          ≡ (if t then first_unlike (acts_due_in (decided (rest n).end (rest n).rounds)) more.blocks
          else Some g.rule_line) =
          ap (λ (l : List (List Act)). first_unlike (acts_due_in l) (g ∷ more.blocks))
          (decided_more p.setup p.look n xs acts)
          ∙ ap (λ (y : Bool). if y then first_unlike (acts_due_in (decided (rest n).end (rest n).rounds)) more.blocks
          else Some g.rule_line) h in
          subst (ByActs s r w (rest n).machine (rest n).end) (sym first) (by t h)
        where
          by : (t : Bool) → pointwise same_act (map act_due acts) b.acts ≡ t
              → ByActs s r w (rest n).machine (rest n).end
              (if t then first_unlike (acts_due_in (decided (rest n).end (rest n).rounds)) more.blocks
              else Some g.rule_line)
          by true alike =
              carry s r u (s.round + 1) n (moved_alike law given_law solving s r b u number hour round in_range
              one.solved acts n (here (Moves acts n) e) alike)
              w (rest n).machine (rest n).end
              (first_unlike (acts_due_in (decided (rest n).end (rest n).rounds)) more.blocks) more.comes
          by false unlike = moved_unlike law given_law solving s r b u number hour round in_range one.solved acts n (here (Moves acts n) e) unlike

      moved_walk : Walk s r w (length (x ∷ xs)) (before_rest (Moves acts n) rest)
      moved_walk = record {
        blocks = g ∷ more.blocks;
        grown = more.grown ∙ ap (λ (l : List GivenBlock). l ++ more.blocks) grown_there ∙ append_assoc r.given (g ∷ []) more.blocks;
        long = omega (arith, more.long);
        number = more.number;
        hour = more.hour;
        comes = moved_by (pointwise same_act (map act_due acts) b.acts) refl;
      }

    module _ (end : End) (n : Machine) (none : w ≡ u) where
      grown_last : w.given ≡ r.given ++ g ∷ []
      grown_last = ap (λ (k : ReaderView). k.given) none ∙ grown_there

      last_is : last_line w ≡ g.rule_line
      last_is = last_given r w g grown_last

      ended_walk : 1 ≡ length (x ∷ xs)
          → ByActs s r w n end (first_unlike (acts_due_in (decided end ([] ∷ []))) (g ∷ []))
          → Walk s r w (length (x ∷ xs)) (before_rest (Ends end n) rest)
      ended_walk long comes = record {
        blocks = g ∷ [];
        grown = grown_last;
        long = long;
        number = ap (λ (k : ReaderView). k.number) none ∙ number_there;
        hour = ap (λ (k : ReaderView). k.hour) none ∙ hour_there;
        comes = comes;
      }

    ended_by : (end : End) (n : Machine) → w ≡ u → outcome_of p.setup s.machine (p.look s.machine.at x) ≡ Ends end n
        → ByActs s r w n end (first_unlike (acts_due_in (decided end ([] ∷ []))) (g ∷ []))
    ended_by Open n none e = absurd (never_open p.setup s.machine (p.look s.machine.at x) n e)
    ended_by Settled n none e = by (pointwise same_act [] b.acts) refl
      where
        by : (t : Bool) → pointwise same_act [] b.acts ≡ t
            → ByActs s r w n Settled (if t then None else Some g.rule_line)
        by true alike =
            subst (λ (k : ReaderView).
            Leads r (under_way s) k (open_hours s.circuit s.more s.hours n s.number (λ left count.
            open_solves s.more left count)))
            (sym none) (settled_alike law given_law solving s r b u number hour round in_range one.solved n
            (here (Ends Settled n) e) alike)
        by false unlike = settled_unlike law given_law solving s r b u number hour round in_range one.solved n (here (Ends Settled n) e) unlike
    ended_by Limited n none e = by (pointwise same_act [] b.acts) refl
      where
        by : (t : Bool) → pointwise same_act [] b.acts ≡ t
            → ByActs s r w n Limited (if t then None else Some g.rule_line)
        by true alike =
            subst (λ (line : ℕ). Comes r (under_way s) (refused line rule.ControlLimit))
            (sym (last_is Limited n none)) (limited_alike law given_law solving s r b u number hour round in_range
            one.solved n (here (Ends Limited n) e) alike)
        by false unlike = limited_unlike law given_law solving s r b u number hour round in_range one.solved n (here (Ends Limited n) e) unlike
    ended_by (Undecidable k i) n none e =
        subst (λ (line : ℕ). Comes r (under_way s) (refused line rule.Undecided))
        (sym (last_is (Undecidable k i) n none)) (undecided_there law given_law solving s r b u number hour round
        in_range one.solved k i n (here (Ends (Undecidable k i) n) e))

  -- no call comes behind the round with which a settle ends
  end_calls : (plant : Plant) (u w : ReaderView) (n : Machine) (x : Claim) (xs : List Claim) → 1 ≡ length (x ∷ xs)
      → AreCalls gives_solved plant u n xs w → w ≡ u
  end_calls plant u w n x [] long calls = calls
  end_calls plant u w n x (y ∷ ys) long calls = absurd (omega (arith, long))

  walk_nothing : (s : Settling) (r w : ReaderView) → r.number ≡ s.number → r.hour ≡ s.hour → r.round ≡ s.round → w ≡ r
      → Walk s r w 0 (record { rounds = []; end = Open; machine = s.machine })
  walk_nothing s r w number hour round none = record {
    blocks = [];
    grown = ap (λ (k : ReaderView). k.given) none ∙ sym (append-nil r.given);
    long = refl;
    number = ap (λ (k : ReaderView). k.number) none ∙ number;
    hour = ap (λ (k : ReaderView). k.hour) none ∙ hour;
    comes = subst (λ (k : ReaderView). Leads r (under_way s) k (under_way (record s { round = k.round }))) (sym none)
        (subst (λ (n : ℕ). Leads r (under_way s) r (under_way (record s { round = n }))) (sym round) (λ answer h. h));
  }

  pub walk : (xs : List Claim) (s : Settling) (r w : ReaderView) → r.number ≡ s.number → r.hour ≡ s.hour
      → r.round ≡ s.round → AreCalls gives_solved (plant_in s) r s.machine xs w
      → length (settle_from s xs s.machine).rounds ≡ length xs
      → Walk s r w (length xs) (settle_from s xs s.machine)
  walk [] s r w number hour round calls long = walk_nothing s r w number hour round calls
  walk (x ∷ xs) s r w number hour round calls long =
      by (outcome_of (plant_in s).setup s.machine ((plant_in s).look s.machine.at x)) refl calls.1.1.1 long
      (λ t v a b c d e. walk xs t v w a b c d e)
    where
      by : (o : Outcome) → outcome_of (plant_in s).setup s.machine ((plant_in s).look s.machine.at x) ≡ o
          → AreCalls gives_solved (plant_in s) calls.0 (left_by o) xs w
          → length (before_rest o (λ n. settle_from s xs n)).rounds ≡ length (x ∷ xs)
          → ((t : Settling) (v : ReaderView) → v.number ≡ t.number → v.hour ≡ t.hour → v.round ≡ t.round
          → AreCalls gives_solved (plant_in t) v t.machine xs w
          → length (settle_from t xs t.machine).rounds ≡ length xs
          → Walk t v w (length xs) (settle_from t xs t.machine))
          → Walk s r w (length (x ∷ xs)) (before_rest o (λ n. settle_from s xs n))
      by (Ends end n) e more long_so again =
          let none = end_calls (plant_in s) calls.0 w n x xs long_so more in
          ended_walk s r calls.0 w x xs number hour round calls.1.0 calls.1.1.0 end n none long_so
          (ended_by s r calls.0 w x xs number hour round calls.1.0 calls.1.1.0 end n none e)
      by (Moves acts n) e more long_so again =
          moved_walk s r calls.0 w x xs number hour round calls.1.0 calls.1.1.0 acts n e (again (record s {
            round = s.round + 1;
            machine = n;
          }) calls.0 (number_there s r calls.0 w x xs number hour round calls.1.0 calls.1.1.0)
          (hour_there s r calls.0 w x xs number hour round calls.1.0 calls.1.1.0)
          (round_there s r calls.0 w x xs number hour round calls.1.0 calls.1.1.0) more (omega (arith, long_so)))

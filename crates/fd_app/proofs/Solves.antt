-- The hours of a Solve: the blocks of their settles hold, and lead to what comes behind the Solve.
use Rattle.std.proofs.Common.{◌≡◌, ◌∙◌, ℕ, suc, ◌+◌, ◌<◌, ◌^◌, List, [], ◌∷◌, ◌++◌, length, map, refl, sym, ap, subst}
use Rattle.std.proofs.Common.{arith}
use Rattle.std.specs.List.{AllByRecursion}
use Rattle.std.proofs.lemmas.List.{append_assoc, append-nil, length-append}
use Rattle.fd_checking.specs.dss_circuit.Circuit.{CircuitView}
use Rattle.fd_checking.specs.dss_layout.Layout.{layout_of, size_of}
use Rattle.fd_checking.specs.fd_enclosure.Sound.{Claim, loose, uncertain}
use Rattle.fd_checking.specs.fd_inject.declared.fault.SolveFault.TheVariants as solving
use Rattle.fd_checking.specs.fd_queue.Machine.{Act, Machine}
use Rattle.fd_checking.specs.fd_settle.Compute.{computed_of, procedure, uncertified}
use Rattle.fd_checking.specs.fd_settle.Computed.{Ending, IsComputedFrom, ended, range, stopped}
use Rattle.fd_checking.specs.fd_settle.Contract.{limits_of}
use Rattle.fd_checking.specs.fd_settle.Settle.{Open, Settled, Limited, Undecidable}
use Rattle.fd_checking.specs.fd_certfile.Blocks.{Block, IsSized, IsWritable}
use Rattle.fd_checking.specs.fd_certfile.Certificates.{Certificate, gives}
use Rattle.fd_checking.specs.fd_certfile.Verdict.{AllHold}
use Rattle.fd_checking.specs.fd_check.Checking.{Checking, after, due, open_hours, open_solves}
use Rattle.fd_checking.specs.fd_outcome.Certificates.{blocks_from, blocks_of}
use Rattle.fd_checking.specs.fd_outcome.Events.{Event, IfSettle, settle, waits}
use Rattle.fd_checking.specs.fd_outcome.Settles.{Round, Settle, SettleEnd, settled, failed, without_certificate}
use Rattle.fd_checking.specs.fd_outcome.Work.{Step, goes, ends}
use Rattle.fd_checking.specs.fd_daily.Underway.{plant_at}
use Rattle.fd_checking.specs.fd_pages.Hours.{Kept, hour_settle}
use Rattle.fd_checking.specs.fd_solving.Solving.{IsBehind, IsEndBy, IsHour, IsHoursStep, begun_by, kept_by, rounds_of}
use Rattle.fd_checking.specs.fd_solving.Steps.{StandingView, behind_events, standing}
use Rattle.fd_checking.specs.fd_solving.Headline.{HasModestNumbers}
use Rattle.fd_app.specs.Printed.{all_rounds, rounds_in}
use Rattle.fd_app.proofs.Settles.{before, rounds_fit, rounds_hold}
use Rattle.fd_app.proofs.Texts.{IsNoLine, all_blocks, blocks_in}

-- ---- lists

pub before_both : (a b : List Block) (last : Certificate) → before (a ++ b) last ≡ before a (before b last)
before_both [] b last = refl
before_both (x ∷ a) b last = ap (gives x) (before_both a b last)

pub both_all : {X : Type 0} (P : X → Type 0) (xs ys : List X) → AllByRecursion P xs → AllByRecursion P ys
    → AllByRecursion P (xs ++ ys)
both_all P [] ys a b = b
both_all P (x ∷ xs) ys a b = (a.0, both_all P xs ys a.1 b)

pub left_all : {X : Type 0} (P : X → Type 0) (xs ys : List X) → AllByRecursion P (xs ++ ys) → AllByRecursion P xs
left_all P [] ys a = tt
left_all P (x ∷ xs) ys a = (a.0, left_all P xs ys a.1)

pub right_all : {X : Type 0} (P : X → Type 0) (xs ys : List X) → AllByRecursion P (xs ++ ys) → AllByRecursion P ys
right_all P [] ys a = a
right_all P (x ∷ xs) ys a = right_all P xs ys a.1

many_from : (s : Settle) (k : ℕ) (rounds : List Round) → length (blocks_from s k rounds) ≡ length rounds
many_from s k [] = refl
many_from s k (r ∷ rounds) = ap suc (many_from s (k + 1) rounds)

-- ---- events

abbrev pub IsFit : Block → Type 0
IsFit b = IsSized b × IsWritable b

abbrev pub count_rounds : List Event → ℕ
count_rounds events = length (all_rounds events)

-- events that are printed as blocks alone, one for each round
pub record IsPrinted (events : List Event) : Type 0 where
  pub no_lines : AllByRecursion IsNoLine events
  pub fit : AllByRecursion (IfSettle HasModestNumbers) events → AllByRecursion IsFit (blocks_in events)
  pub counted : length (blocks_in events) ≡ count_rounds events

pub none_printed : IsPrinted []
none_printed = record { no_lines = tt; fit = λ h. tt; counted = refl }

all_rounds_both : (a b : List Event) → all_rounds (a ++ b) ≡ all_rounds a ++ all_rounds b
all_rounds_both [] b = refl
all_rounds_both (e ∷ a) b =
    ap (λ (rs : List Round). rounds_in e ++ rs) (all_rounds_both a b)
    ∙ sym (append_assoc (rounds_in e) (all_rounds a) (all_rounds b))

pub count_both : (a b : List Event) → count_rounds (a ++ b) ≡ count_rounds a + count_rounds b
count_both a b = ap length (all_rounds_both a b) ∙ length-append (all_rounds a) (all_rounds b)

pub both_printed : (a b : List Event) → IsPrinted a → IsPrinted b → IsPrinted (a ++ b)
both_printed a b p q = record {
  no_lines = both_all IsNoLine a b p.no_lines q.no_lines;
  fit = λ h. subst (AllByRecursion IsFit) (sym (all_blocks a b)) (both_all IsFit (blocks_in a) (blocks_in b)
      (p.fit (left_all (IfSettle HasModestNumbers) a b h)) (q.fit (right_all (IfSettle HasModestNumbers) a b h)));
  counted = ap length (all_blocks a b) ∙ length-append (blocks_in a) (blocks_in b) ∙ added p.counted q.counted
      ∙ sym (count_both a b);
}
  where
    added : {m n k l : ℕ} → m ≡ n → k ≡ l → m + k ≡ n + l
    added e f = λ i. e i + f i

-- ---- an hour

module _ (c : CircuitView) where
  -- a settle that ended well was computed to its end
  pub ended_well : (hour : ℕ) (ending : Ending) (n : Machine) (end : SettleEnd) → IsEndBy c hour ending n end
      → end ≡ settled → ending ≡ ended Settled
  ended_well hour (ended Open) n end h e = absurd h
  ended_well hour (ended Settled) n end h e = refl
  ended_well hour (ended Limited) n end h e = absurd (let no : ⊥ = cc in no)
  ended_well hour (ended (Undecidable k u)) n end h e = absurd (let no : ⊥ = cc in no)
  ended_well hour (range blame) n end h e = absurd (let no : ⊥ = cc in no)
  ended_well hour (stopped (procedure (solving.NoInverse column stop))) n end h e = absurd (let no : ⊥ = cc in no)
  ended_well hour (stopped (procedure (solving.OutOfRange place step))) n end h e = absurd (let no : ⊥ = cc in no)
  ended_well hour (stopped (procedure (solving.NotConverged place steps update))) n end h e =
      absurd (let no : ⊥ = cc in no)
  ended_well hour (stopped (procedure solving.NoMemory)) n end h e = absurd h
  ended_well hour (stopped (uncertified (loose at mismatch))) n end h e = absurd (let no : ⊥ = cc in no)
  ended_well hour (stopped (uncertified (uncertain place bound))) n end h e = absurd (let no : ⊥ = cc in no)

  module _ (more : List CircuitView) (size : size_of (layout_of c.elements) < 2 ^ 127) where
    -- where the hours that are left open, from what was kept
    abbrev pub opens : List ℕ → Kept → Checking
    opens hours l = open_hours c more hours l.machine l.settled (λ left count. open_solves more left count)

    -- the hours that are left came to these events, and what stands then
    pub record HoursHold (hours : List ℕ) (l : Kept) (events : List Event) (t : StandingView) : Type 0 where
      pub circuit : t.circuit ≡ c
      pub printed : IsPrinted events
      pub hold : (last : Certificate) → AllHold due after last (open_solves more t.at t.settled)
          → AllHold due after (before (blocks_in events) last) (opens hours l)

    -- an hour before those
    module _ (hour : ℕ) (hours : List ℕ) (l : Kept) (rounds : List (Claim × List Act)) (n : Machine)
        (computed : IsComputedFrom (computed_of (limits_of c.options)) (plant_at c hour) (begun_by c hour l).machine rounds
        (ended Settled) n)
        (events : List Event) (t : StandingView) (rest : HoursHold hours (kept_by l n) events t) where
      abbrev x : Settle
      x = hour_settle c hour (begun_by c hour l) (rounds_of rounds) settled n.at

      many_rounds : (rs : List (Claim × List Act)) → length (rounds_of rs) ≡ length rs
      many_rounds [] = refl
      many_rounds (r ∷ rs) = ap suc (many_rounds rs)

      one_fit : HasModestNumbers x → AllByRecursion IsFit (blocks_of x)
      one_fit modest =
          rounds_fit x hours more (limits_of c.options) n (ended Settled) (omega (arith, modest.number))
          (omega (arith, modest.hour)) size rounds 0
          (begun_by c hour l).machine computed (omega (arith, modest.few, many_rounds rounds)) modest.acts

      hour_printed : IsPrinted (settle x ∷ events)
      hour_printed = both_printed (settle x ∷ []) events (record {
        no_lines = (tt, tt);
        fit = λ h. both_all IsFit (blocks_of x) [] (one_fit h.0) tt;
        counted = ap length (append-nil (blocks_of x)) ∙ many_from x 0 (rounds_of rounds)
            ∙ ap length (sym (append-nil (rounds_of rounds)));
      }) rest.printed

      hour_before : HoursHold (hour ∷ hours) l (settle x ∷ events) t
      hour_before = record {
        circuit = rest.circuit;
        printed = hour_printed;
        hold = λ last h. subst (λ (k : Certificate). AllHold due after k (opens (hour ∷ hours) l))
            (sym (before_both (blocks_of x) (blocks_in events) last))
            (rounds_hold x hours more (limits_of c.options) n (before (blocks_in events) last)
            (rest.hold last h) rounds 0 (begun_by c hour l).machine computed);
      }

    hour_goes : (hour : ℕ) (hours : List ℕ) (l : Kept) (made : Settle) (kept : Kept) → IsHour c hour l made kept
        → made.end ≡ settled
        → (events : List Event) (t : StandingView) → HoursHold hours kept events t
        → HoursHold (hour ∷ hours) l (settle made ∷ events) t
    hour_goes hour hours l made kept is well events t rest =
        let end_is : is.end ≡ settled = sym (ap (λ (s : Settle). s.end) is.settle_is) ∙ well in
        let ending : is.ending ≡ ended Settled = ended_well hour is.ending is.machine is.end is.end_is end_is in
        let computed = subst (λ (e : Ending). IsComputedFrom (computed_of (limits_of c.options)) (plant_at c hour)
        (begun_by c hour l).machine is.rounds e is.machine) ending is.computed in
        let made_is : hour_settle c hour (begun_by c hour l) (rounds_of is.rounds) settled is.machine.at ≡ made =
        ap (λ (e : SettleEnd). hour_settle c hour (begun_by c hour l) (rounds_of is.rounds) e is.machine.at)
        (sym end_is) ∙ sym is.settle_is in
        subst (λ (s : Settle). HoursHold (hour ∷ hours) l (settle s ∷ events) t) made_is
        (hour_before hour hours l is.rounds is.machine computed events t
        (subst (λ (k : Kept). HoursHold hours k events t) is.kept rest))

    -- ---- the hours

    -- the entries that still wait are no blocks
    no_hours : (l : Kept) → HoursHold [] l (waits c l.machine.queue ∷ []) (standing c l.machine.at l.settled)
    no_hours l = record {
      circuit = refl;
      printed = record { no_lines = (tt, tt); fit = λ h. tt; counted = refl };
      hold = λ last h. h;
    }

    abbrev Again : List ℕ → Kept → Type 0
    Again hours kept =
        (rest : Step StandingView) → IsHoursStep c hours kept rest → (es : List Event) (u : StandingView)
        → rest ≡ goes es u
        → HoursHold hours kept es u

    pub hours_step : (hours : List ℕ) (l : Kept) (step : Step StandingView) → IsHoursStep c hours l step
        → (events : List Event) (t : StandingView) → step ≡ goes events t → HoursHold hours l events t
    hours_step [] l step h events t e =
        let es : waits c l.machine.queue ∷ [] ≡ events = cc in
        let ts : standing c l.machine.at l.settled ≡ t = cc in
        subst (λ (u : StandingView). HoursHold [] l events u) ts
        (subst (λ (q : List Event). HoursHold [] l q (standing c l.machine.at l.settled)) es (no_hours l))
    hours_step (hour ∷ hours) l step h events t e =
        by h.made.end refl h.goes_on (λ rest right es u same. hours_step hours h.kept rest right es u same)
      where
        behind : h.made.end ≡ settled → (rest : Step StandingView) → IsHoursStep c hours h.kept rest
            → step ≡ behind_events (settle h.made ∷ []) rest → Again hours h.kept → HoursHold (hour ∷ hours) l events t
        behind well (goes es u) right is again =
            let same : settle h.made ∷ es ≡ events = cc in
            let stands : u ≡ t = cc in
            subst (λ (w : StandingView). HoursHold (hour ∷ hours) l events w) stands
            (subst (λ (q : List Event). HoursHold (hour ∷ hours) l q u) same
            (hour_goes hour hours l h.made h.kept h.is well es u (again (goes es u) right es u refl)))
        behind well (ends es f) right is again = absurd (let no : ⊥ = cc in no)

        by : (end : SettleEnd) → h.made.end ≡ end → IsBehind h.made end (λ s. IsHoursStep c hours h.kept s) step
            → Again hours h.kept
            → HoursHold (hour ∷ hours) l events t
        by settled well goes_on again = behind well goes_on.more goes_on.right goes_on.step_is again
        by (failed f) well goes_on again = absurd (let no : ⊥ = cc in no)
        by (without_certificate r f) well goes_on again = absurd (let no : ⊥ = cc in no)

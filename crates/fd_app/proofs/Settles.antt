-- The blocks of a settle's rounds hold, one after the other.
use Rattle.std.proofs.Common.{◌≡◌, ◌∙◌, ℕ, ◌+◌, ◌<◌, ◌^◌, nat_abs, List, [], ◌∷◌, length, map, refl, sym, ap, subst}
use Rattle.std.proofs.Common.{arith}
use Rattle.std.specs.List.{AllByRecursion}
use Rattle.fd_checking.specs.dss_circuit.Circuit.{CircuitView}
use Rattle.fd_checking.specs.dss_layout.Layout.{layout_of, size_of}
use Rattle.fd_checking.specs.fd_settings.Hours.{hour_powers}
use Rattle.fd_checking.specs.fd_pattern.Views.{NetworkView}
use Rattle.fd_checking.specs.fd_enclosure.Sound.{Claim, inverse_in}
use Rattle.fd_checking.specs.fd_inject.declared.limits.Limits.{Limits}
use Rattle.fd_checking.specs.fd_queue.Controls.{Positions}
use Rattle.fd_checking.specs.fd_queue.Machine.{Act, Machine}
use Rattle.fd_checking.specs.fd_sample.Decided.{sample_over}
use Rattle.fd_checking.specs.fd_settle.Compute.{IsCertificate, IsComputed, computed_of}
use Rattle.fd_checking.specs.fd_settle.Computed.{Ending, Follows, IsComputedFrom, ended}
use Rattle.fd_checking.specs.fd_settle.Numbers.{AreActNumbers}
use Rattle.fd_checking.specs.fd_settle.Plant.{controls_in, network_at, setup_of}
use Rattle.fd_checking.specs.fd_settle.Sampling.{look_over, sampling_of}
use Rattle.fd_checking.specs.fd_settle.Settle.{Open, Settled, Limited, Undecidable, Outcome, Ends, Moves, outcome_of}
use Rattle.fd_checking.specs.fd_certfile.Blocks.{Block, IsSized, IsWritable}
use Rattle.fd_checking.specs.fd_certfile.Blocks as blocks
use Rattle.fd_checking.specs.fd_certfile.Certificates.{Certificate, gives}
use Rattle.fd_checking.specs.fd_certfile.Judging.{judge_of}
use Rattle.fd_checking.specs.fd_certfile.fd_lines.Numbers.{IsNumber}
use Rattle.fd_checking.specs.fd_certfile.Rules.{Holds, Judge, ball_of, moves}
use Rattle.fd_checking.specs.fd_certfile.Verdict.{AllHold}
use Rattle.fd_checking.specs.fd_daily.Underway.{plant_at}
use Rattle.fd_checking.specs.fd_check.Checking.{Checking, Settling, after, behind_round, due, due_in, open_hours}
use Rattle.fd_checking.specs.fd_check.Checking.{open_solves, outcome_in, sampled_by, under_way}
use Rattle.fd_checking.specs.fd_outcome.Certificates.{act_in, block_in, blocks_from}
use Rattle.fd_checking.specs.fd_outcome.Settles.{Round, Settle, round_of}
use Rattle.fd_checking.specs.fd_solving.Solving.{rounds_of}
use Rattle.fd_app.proofs.Claims as claims
use Rattle.fd_checking.proofs.CallerLemmas.fd_solving.{IsSolutionPoint, its_certificate, solution_point}

-- blocks, and then a certificate
abbrev pub before : List Block → Certificate → Certificate
before [] rest = rest
before (b ∷ blocks) rest = gives b (before blocks rest)

-- the numbers of an act are those of its types
abbrev pub HasActNumbers : Act → Type 0
HasActNumbers a = AreActNumbers a.time a.control a.steps

abbrev pub network_in : CircuitView → ℕ → Positions → NetworkView
network_in c hour at = network_at c (hour_powers c.elements hour) at

size_in : (c : CircuitView) (hour : ℕ) (at : Positions) → (network_in c hour at).size ≡ size_of (layout_of c.elements)
unfolding network_at
size_in c hour at = refl

-- ---- one round

module _ (x : Settle) (limits : Limits) (at : Positions) (m : Claim)
    (computed : IsComputed limits (network_in x.circuit x.hour at) m) where
  abbrev v : NetworkView
  v = network_in x.circuit x.hour at

  parts : IsCertificate limits v m
  parts = its_certificate limits v m computed

  there : IsSolutionPoint v m.centre (inverse_in m.support)
  there = solution_point v limits m.centre (inverse_in m.support) parts.point

  module _ (k : ℕ) (acts : List Act) where
    abbrev by_network : Block
    by_network = claims.block_for v m there parts.certificate x.number x.hour k (map act_in acts)

    -- the block of a round, by the size of its network
    block_is : by_network ≡ block_in x k (round_of m acts)
    unfolding network_at
    block_is = refl

    outcome_is : (machine : Machine) → machine.at ≡ at
        → outcome_in x.circuit machine (ball_of by_network) ≡ outcome_of (setup_of x.circuit) machine
        (look_over (controls_in x.circuit) machine.at m)
    outcome_is machine there_at =
        let look : List _ → List ℕ → Outcome =
        λ centre radii. outcome_of (setup_of x.circuit) machine
        (sampling_of 0 (map (λ p. sample_over p machine.at centre radii) (controls_in x.circuit))) in
        ap (λ c. look c (map nat_abs (ball_of by_network).radii)) (claims.centres_are v m there parts.certificate)
        ∙ ap (look m.centre) (claims.radii_back v m there parts.certificate)

    pub round_sized : IsSized (block_in x k (round_of m acts))
    round_sized =
        subst IsSized block_is (claims.sized v m there parts.certificate x.number x.hour k (map act_in acts))

    all_within : (made : List Act) → AllByRecursion HasActNumbers made
        → AllByRecursion (λ (a : blocks.Act). AllByRecursion IsNumber (a.time ∷ a.control ∷ a.steps ∷ []))
        (map act_in made)
    all_within [] h = tt
    all_within (a ∷ rest) h =
        ((omega (arith, h.0.time), (omega (arith, h.0.control), (omega (arith, h.0.steps), tt))), all_within rest h.1)

    pub round_writable : x.number < 2 ^ 127 → x.hour < 2 ^ 127 → k < 2 ^ 127
        → size_of (layout_of x.circuit.elements) < 2 ^ 127
        → AllByRecursion HasActNumbers acts → IsWritable (block_in x k (round_of m acts))
    round_writable n h r s each =
        subst IsWritable block_is
        (claims.writable v m there parts.certificate x.number x.hour k (map act_in acts) n h r
        (subst (λ (z : ℕ). z < 2 ^ 127) (sym (size_in x.circuit x.hour at)) s) (all_within acts each))

    pub round_holds : (machine : Machine) → machine.at ≡ at
        → sampled_by (outcome_of (setup_of x.circuit) machine (look_over (controls_in x.circuit) machine.at m))
        ≡ moves (map act_in acts)
        → Holds (judge_of v x.number x.hour k (λ ball. sampled_by (outcome_in x.circuit machine ball)))
        (block_in x k (round_of m acts))
    round_holds machine there_at acts_are =
        subst (Holds (judge_of v x.number x.hour k (λ ball. sampled_by (outcome_in x.circuit machine ball)))) block_is
        (claims.holds v m there parts.certificate x.number x.hour k (map act_in acts)
        (λ ball. sampled_by (outcome_in x.circuit machine ball))
        (ap sampled_by (outcome_is machine there_at) ∙ acts_are))

    pub round_outcome : (machine : Machine) → machine.at ≡ at
        → outcome_in x.circuit machine (ball_of (block_in x k (round_of m acts)))
        ≡ outcome_of (setup_of x.circuit) machine
        (look_over (controls_in x.circuit) machine.at m)
    round_outcome machine there_at =
        ap (λ (b : Block). outcome_in x.circuit machine (ball_of b)) (sym block_is) ∙ outcome_is machine there_at

-- ---- the rounds of a settle that ends well

module _ (x : Settle) (hours : List ℕ) (more : List CircuitView) where
  abbrev pub at_round : ℕ → Machine → Settling
  at_round k machine = record {
    circuit = x.circuit;
    hour = x.hour;
    hours = hours;
    more = more;
    number = x.number;
    round = k;
    machine = machine;
  }

  -- what comes behind it, with what it left
  abbrev pub behind_it : Machine → Checking
  behind_it n = open_hours x.circuit more hours n x.number (λ left count. open_solves more left count)

  module _ (limits : Limits) (n : Machine) (last : Certificate)
      (last_holds : AllHold due after last (behind_it n)) where
    abbrev Computed : Machine → List (Claim × List Act) → Type 0
    Computed machine rounds = IsComputedFrom (computed_of limits) (plant_at x.circuit x.hour) machine rounds (ended Settled) n

    abbrev HoldFrom : ℕ → Machine → List (Claim × List Act) → Type 0
    HoldFrom k machine rounds =
        AllHold due after (before (blocks_from x k (rounds_of rounds)) last) (under_way (at_round k machine))

    -- a round by what it comes to
    by_outcome : (k : ℕ) (machine : Machine) (r : Claim × List Act) (rest : List (Claim × List Act)) (o : Outcome)
        → outcome_of (setup_of x.circuit) machine (look_over (controls_in x.circuit) machine.at r.0) ≡ o
        → Follows o r.1 rest (ended Settled) n (λ j. Computed j rest)
        → ((j : Machine) → Computed j rest → HoldFrom (k + 1) j rest)
        → (sampled_by o ≡ moves (map act_in r.1))
        × AllHold due after (before (blocks_from x (k + 1) (rounds_of rest)) last)
        (behind_round (at_round k machine) o)
    by_outcome k machine r rest (Ends Settled j) e f go = (
      ap (λ (q : List Act). moves (map act_in q)) (sym f.0),
      subst
          (λ (q : Machine). AllHold due after (before (blocks_from x (k + 1) (rounds_of rest)) last)
          (behind_it q)) f.1.1.1
          (subst
          (λ (q : List (Claim × List Act)). AllHold due after (before (blocks_from x (k + 1) (rounds_of q)) last)
          (behind_it n)) (sym f.1.0) last_holds),
    )
    by_outcome k machine r rest (Ends Open j) e f go = absurd (let same = f.1.1.0 in let no : ⊥ = cc in no)
    by_outcome k machine r rest (Ends Limited j) e f go = absurd (let same = f.1.1.0 in let no : ⊥ = cc in no)
    by_outcome k machine r rest (Ends (Undecidable i u) j) e f go = absurd (let same = f.1.1.0 in let no : ⊥ = cc in no)
    by_outcome k machine r rest (Moves made j) e f go =
        (ap (λ (q : List Act). moves (map act_in q)) (sym f.0), go j f.1)

    pub rounds_hold : (rounds : List (Claim × List Act)) (k : ℕ) (machine : Machine) → Computed machine rounds
        → HoldFrom k machine rounds
    rounds_hold [] k machine h = absurd h
    rounds_hold (r ∷ rest) k machine h =
        let s : Settling = at_round k machine in
        let o : Outcome = outcome_of (setup_of x.circuit) machine (look_over (controls_in x.circuit) machine.at r.0) in
        let by = by_outcome k machine r rest o refl h.1.1 (λ j later. rounds_hold rest (k + 1) j later) in
        let judge : Judge =
        judge_of (network_in x.circuit x.hour machine.at) x.number x.hour k
        (λ ball. sampled_by (outcome_in x.circuit machine ball)) in (
          judge,
          ap (due_in s) h.0,
          round_holds x limits machine.at r.0 h.1.0 k r.1 machine refl by.0,
          subst
              (λ (q : Outcome). AllHold due after (before (blocks_from x (k + 1) (rounds_of rest)) last)
              (behind_round s q))
              (sym (round_outcome x limits machine.at r.0 h.1.0 k r.1 machine refl)) by.1,
        )

  -- ---- and can be written

  abbrev IsFit : Block → Type 0
  IsFit b = IsSized b × IsWritable b

  module _ (limits : Limits) (n : Machine) (ending : Ending) (number : x.number < 2 ^ 127) (hour : x.hour < 2 ^ 127)
      (size : size_of (layout_of x.circuit.elements) < 2 ^ 127) where
    fit_behind : (o : Outcome) (r : Claim × List Act) (rest : List (Claim × List Act)) (k : ℕ)
        → Follows o r.1 rest ending n (λ j. IsComputedFrom (computed_of limits) (plant_at x.circuit x.hour) j rest ending n)
        → ((j : Machine) → IsComputedFrom (computed_of limits) (plant_at x.circuit x.hour) j rest ending n
        → AllByRecursion IsFit (blocks_from x (k + 1) (rounds_of rest)))
        → AllByRecursion IsFit (blocks_from x (k + 1) (rounds_of rest))
    fit_behind (Ends end j) r rest k f go =
        subst (λ (q : List (Claim × List Act)). AllByRecursion IsFit (blocks_from x (k + 1) (rounds_of q)))
        (sym f.1.0) tt
    fit_behind (Moves made j) r rest k f go = go j f.1

    pub rounds_fit : (rounds : List (Claim × List Act)) (k : ℕ) (machine : Machine)
        → IsComputedFrom (computed_of limits) (plant_at x.circuit x.hour) machine rounds ending n
        → k + length rounds < 2 ^ 127
        → AllByRecursion (λ (r : Round). AllByRecursion HasActNumbers r.acts) (rounds_of rounds)
        → AllByRecursion IsFit (blocks_from x k (rounds_of rounds))
    rounds_fit [] k machine h few acts = tt
    rounds_fit (r ∷ rest) k machine h few acts = (
      (
        round_sized x limits machine.at r.0 h.1.0 k r.1,
        round_writable x limits machine.at r.0 h.1.0 k r.1 number
            hour (omega (arith, few)) size acts.0,
      ),
      fit_behind
          (outcome_of (setup_of x.circuit) machine (look_over (controls_in x.circuit) machine.at r.0)) r rest k h.1.1
          (λ j later. rounds_fit rest (k + 1) j later (omega (arith, few)) acts.1),
    )

-- A block of a settle's round, and what it leads to.
use Rattle.std.proofs.Common.{◌≡◌, ◌∙◌, ℕ, ◌+◌, Bool, true, false, List, [], ◌∷◌, ◌++◌, Option, Some, None, Ok, refl, sym, ap, subst, length, map}
use Rattle.std.specs.Prelude.{nat_abs, not}
use Rattle.std.specs.Cmp.Lexicographic.{pointwise}
use Rattle.std.proofs.lemmas.List.{length-append}
use Rattle.std.proofs.lemmas.Simd.{map-map}
use Rattle.dss_commands.specs.dss_model.declared.command.Blame.{Blame}
use Rattle.dss_commands.specs.dss_circuit.Circuit.{CircuitView}
use Rattle.fd_daily.specs.fd_cert.declared.rule.Rule.{Rule}
use Rattle.fd_daily.specs.fd_cert.declared.rule.Rule.TheVariants as rule
use Rattle.fd_daily.specs.fd_pattern.Views.{NetworkView}
use Rattle.fd_daily.specs.fd_queue.Machine.{Act, Machine}
use Rattle.fd_daily.specs.fd_sample.Decided.{Undecided, sample_over}
use Rattle.fd_daily.specs.fd_settle.Plant.{controls_in, setup_of}
use Rattle.fd_daily.specs.fd_settle.Sampling.{look_over, sampling_of}
use Rattle.fd_daily.specs.fd_settle.Settle.{Settled, Limited, Undecidable, Outcome, Ends, Moves, outcome_of}
use Rattle.fd_certfile.specs.Blocks.{Block}
use Rattle.fd_certfile.specs.Blocks as blocks
use Rattle.fd_certfile.specs.Certificates.{Certificate, Reads, gives}
use Rattle.fd_certfile.specs.Judging.{claim_on, judge_of}
use Rattle.fd_certfile.specs.Laws.{CertificateLaw}
use Rattle.fd_certfile.specs.Reader.{GivenBlock, ReaderView}
use Rattle.fd_certfile.specs.Rules.{Ball, Broken, Sampled, acts_due, at_limit, ball_of, behind_rows, first_some, is_limit, is_undecided, line_at, moves, same_act, unless}
use Rattle.fd_certfile.specs.Solving.{judge_in, solved_of}
use Rattle.fd_certfile.specs.SolvingLaws.{ComesAfter, GivenLaw, IsGiven, SolvingLaw}
use Rattle.fd_certfile.specs.Verdict.{Answer, asks, refused, unless_broken, verdict}
use Rattle.fd_daily.specs.Underway.{plant_at}
use Rattle.fd_check.specs.Checking.{Checking, Settling, act_due, after, behind_round, due, due_in, open_hours, open_solves, outcome_in, sampled_by, under_way}
use Rattle.fd_check.specs.Comes.{Comes, Leads}

-- a certificate's samples are those of a settle over its claims
pub same_outcome : (c : CircuitView) (v : NetworkView) (m : Machine) (b : Block)
    → outcome_of (setup_of c) m (look_over (controls_in c) m.at (claim_on v b)) ≡ outcome_in c m (ball_of b)
same_outcome c v m b =
    let radii : map (λ (p : blocks.Part). nat_abs p.radius) b.parts ≡ map nat_abs (ball_of b).radii =
    sym (map-map nat_abs (λ (p : blocks.Part). p.radius) b.parts) in
    ap (λ (rs : List ℕ). outcome_of (setup_of c) m (sampling_of 0 (map (λ p. sample_over p m.at (ball_of b).centre rs) (controls_in c)))) radii

-- ---- the rules on a block's acts, by its samples

abbrev broken_by : Sampled → List blocks.Act → Option Broken
broken_by sampled acts =
    first_some (unless rule.Undecided behind_rows (not (is_undecided sampled))
    ∷ unless rule.Acts behind_rows (pointwise same_act (acts_due sampled) acts)
    ∷ unless rule.ControlLimit behind_rows (not (is_limit sampled)) ∷ [])

abbrev broken : Rule → Option Broken
broken r = Some (record { rule = r; place = behind_rows })

moves_alike : (due_acts acts : List blocks.Act) → pointwise same_act due_acts acts ≡ true
    → broken_by (moves due_acts) acts ≡ None
moves_alike due_acts acts h = ap (λ (t : Bool). first_some (None ∷ unless rule.Acts behind_rows t ∷ None ∷ [])) h

moves_unlike : (due_acts acts : List blocks.Act) → pointwise same_act due_acts acts ≡ false
    → broken_by (moves due_acts) acts ≡ broken rule.Acts
moves_unlike due_acts acts h = ap (λ (t : Bool). first_some (None ∷ unless rule.Acts behind_rows t ∷ None ∷ [])) h

limit_alike : (acts : List blocks.Act) → pointwise same_act [] acts ≡ true
    → broken_by at_limit acts ≡ broken rule.ControlLimit
limit_alike acts h = ap (λ (t : Bool). first_some (None ∷ unless rule.Acts behind_rows t ∷ unless rule.ControlLimit behind_rows false ∷ [])) h

limit_unlike : (acts : List blocks.Act) → pointwise same_act [] acts ≡ false
    → broken_by at_limit acts ≡ broken rule.Acts
limit_unlike acts h = ap (λ (t : Bool). first_some (None ∷ unless rule.Acts behind_rows t ∷ unless rule.ControlLimit behind_rows false ∷ [])) h

-- ---- a certificate that begins with the block

-- what stands behind the first block
behind_block : Certificate → Certificate → Certificate
behind_block (gives b more) other = more
behind_block c other = other

same_rest : (b d : Block) (c e : Certificate) → gives b c ≡ gives d e → c ≡ e
unfolding behind_block
same_rest b d c e h = ap (λ (x : Certificate). behind_block x c) h

-- any lines come to some answer
pub record SomeAnswer (r : ReaderView) (s : Checking) : Type 0 where
  pub answer : Answer Blame
  pub comes : Comes r s answer

pub some_answer : CertificateLaw → (r : ReaderView) (s : Checking) → SomeAnswer r s
some_answer law r s =
    let some = law.some r.version r.lines in
    record { answer = verdict due after r.line (length r.given) some.0 s; comes = record { certificate = some.0; reads = some.1; answer_is = refl } }

module _ (law : CertificateLaw) (given_law : GivenLaw) (solving : SolvingLaw due after) (s : Settling) (r : ReaderView)
    (b : Block) (w : ReaderView) (number : r.number ≡ s.number) (hour : r.hour ≡ s.hour) (round : r.round ≡ s.round)
    (in_range : (plant_at s.circuit s.hour).blame s.machine.at ≡ None)
    (solved : solved_of ((plant_at s.circuit s.hour).network s.machine.at) r ≡ Ok (b, w)) where
  abbrev net : NetworkView
  net = (plant_at s.circuit s.hour).network s.machine.at

  abbrev samples : Ball → Sampled
  samples ball = sampled_by (outcome_in s.circuit s.machine ball)

  pub is : IsGiven net r b w
  is = given_law net r b w solved

  pub asked : due (under_way s) ≡ asks (judge_in net r samples)
  asked = ap (due_in s) in_range ∙ (λ i. asks (judge_of net (sym number i) (sym hour i) (sym round i) samples))

  abbrev pub given_so : GivenBlock
  given_so = record { acts = b.acts; rule_line = line_at r.line b behind_rows }

  pub grown : w.given ≡ r.given ++ given_so ∷ []
  grown = ap (λ (u : ReaderView). u.given) is.reader

  longer : length w.given ≡ length r.given + 1
  longer = ap length grown ∙ length-append r.given (given_so ∷ [])

  abbrev next : Checking
  next = behind_round s (outcome_in s.circuit s.machine (ball_of b))

  -- what follows the block comes to this, unless a rule on its acts is broken
  comes_by : (answer : Answer Blame) → Comes w next answer
      → Comes r (under_way s) (unless_broken r.line b (broken_by (samples (ball_of b)) b.acts) answer)
  comes_by answer h =
      let c : Certificate = gives b h.certificate in
      let reads : Reads r.version r.lines c = (is.rest, is.block, subst (λ (u : ReaderView). Reads u.version u.lines h.certificate) is.reader h.reads) in
      let from : ComesAfter due after net r b w c samples (under_way s) (length r.given) =
      solving.solved net r b w c samples (under_way s) (length r.given) solved reads asked in
      let rest : h.certificate ≡ from.rest = same_rest b b h.certificate from.rest from.gives_is in
      let there : answer ≡ verdict due after w.line (length r.given + 1) from.rest next =
      h.answer_is ∙ ap (λ (n : ℕ). verdict due after w.line n h.certificate next) longer
      ∙ ap (λ (x : Certificate). verdict due after w.line (length r.given + 1) x next) rest in
      record {
        certificate = c;
        reads = reads;
        answer_is = ap (unless_broken r.line b (broken_by (samples (ball_of b)) b.acts)) there ∙ sym from.comes;
      }

  -- the rules on its acts hold
  leads_by : broken_by (samples (ball_of b)) b.acts ≡ None → Leads r (under_way s) w next
  leads_by none answer h = subst (λ (o : Option Broken). Comes r (under_way s) (unless_broken r.line b o answer)) none (comes_by answer h)

  -- one of them is broken
  refused_by : (k : Rule) → broken_by (samples (ball_of b)) b.acts ≡ broken k
      → Comes r (under_way s) (refused given_so.rule_line k)
  refused_by k some =
      let any = some_answer law w next in
      subst (λ (o : Option Broken). Comes r (under_way s) (unless_broken r.line b o any.answer)) some (comes_by any.answer any.comes)

  -- ---- by what the round comes to

  pub moved_alike : (acts : List Act) (m : Machine) → outcome_in s.circuit s.machine (ball_of b) ≡ Moves acts m
      → pointwise same_act (map act_due acts) b.acts ≡ true
      → Leads r (under_way s) w (under_way (record s { round = s.round + 1; machine = m }))
  moved_alike acts m is_so alike =
      subst (λ (o : Outcome). Leads r (under_way s) w (behind_round s o)) is_so
      (leads_by (ap (λ (o : Outcome). broken_by (sampled_by o) b.acts) is_so ∙ moves_alike (map act_due acts) b.acts alike))

  pub moved_unlike : (acts : List Act) (m : Machine) → outcome_in s.circuit s.machine (ball_of b) ≡ Moves acts m
      → pointwise same_act (map act_due acts) b.acts ≡ false
      → Comes r (under_way s) (refused given_so.rule_line rule.Acts)
  moved_unlike acts m is_so unlike =
      refused_by rule.Acts
      (ap (λ (o : Outcome). broken_by (sampled_by o) b.acts) is_so ∙ moves_unlike (map act_due acts) b.acts unlike)

  pub settled_alike : (m : Machine) → outcome_in s.circuit s.machine (ball_of b) ≡ Ends Settled m
      → pointwise same_act [] b.acts ≡ true
      → Leads r (under_way s) w (open_hours s.circuit s.more s.hours m s.number (λ left count. open_solves s.more left count))
  settled_alike m is_so alike =
      subst (λ (o : Outcome). Leads r (under_way s) w (behind_round s o)) is_so
      (leads_by (ap (λ (o : Outcome). broken_by (sampled_by o) b.acts) is_so ∙ moves_alike [] b.acts alike))

  pub settled_unlike : (m : Machine) → outcome_in s.circuit s.machine (ball_of b) ≡ Ends Settled m
      → pointwise same_act [] b.acts ≡ false → Comes r (under_way s) (refused given_so.rule_line rule.Acts)
  settled_unlike m is_so unlike = refused_by rule.Acts (ap (λ (o : Outcome). broken_by (sampled_by o) b.acts) is_so ∙ moves_unlike [] b.acts unlike)

  pub limited_alike : (m : Machine) → outcome_in s.circuit s.machine (ball_of b) ≡ Ends Limited m
      → pointwise same_act [] b.acts ≡ true → Comes r (under_way s) (refused given_so.rule_line rule.ControlLimit)
  limited_alike m is_so alike = refused_by rule.ControlLimit (ap (λ (o : Outcome). broken_by (sampled_by o) b.acts) is_so ∙ limit_alike b.acts alike)

  pub limited_unlike : (m : Machine) → outcome_in s.circuit s.machine (ball_of b) ≡ Ends Limited m
      → pointwise same_act [] b.acts ≡ false → Comes r (under_way s) (refused given_so.rule_line rule.Acts)
  limited_unlike m is_so unlike = refused_by rule.Acts (ap (λ (o : Outcome). broken_by (sampled_by o) b.acts) is_so ∙ limit_unlike b.acts unlike)

  pub undecided_there : (k : ℕ) (u : Undecided) (m : Machine)
      → outcome_in s.circuit s.machine (ball_of b) ≡ Ends (Undecidable k u) m
      → Comes r (under_way s) (refused given_so.rule_line rule.Undecided)
  undecided_there k u m is_so = refused_by rule.Undecided (ap (λ (o : Outcome). broken_by (sampled_by o) b.acts) is_so)

-- A settle of a circuit: where it is after each round, and what is told of how it ends.
use Rattle.std.proofs.Common.{append-nil, append_assoc, mul-le-mul, ◌≡◌, ℕ, ◌+◌, ◌*◌, ◌-◌, ◌<◌, ◌≤◌, ◌^◌, inl, inr, None, Some, Option, List, [], ◌∷◌, ◌++◌, length, map, Result, Ok, Err, refl, sym, ap, ◌∙◌, subst, arith}
use Rattle.std.proofs.lemmas.List.Elements.{All-from_get_or}
use Rattle.fd_sample.specs.dss_model.declared.command.Blame.{Blame}
use Rattle.fd_sample.specs.dss_layout.Layout.{layout_of, size_of}
use Rattle.fd_sample.specs.dss_circuit.Circuit.{CircuitView}
use Rattle.fd_sample.specs.fd_elements.declared.powers.LoadPower.{LoadPower}
use Rattle.fd_inject.specs.fd_pattern.Conditions.{IsNetwork}
use Rattle.fd_inject.specs.fd_pattern.Views.{NetworkView}
use Rattle.fd_sample.specs.fd_devices.Devices.{AgreesWith}
use Rattle.fd_sample.specs.fd_devices.Scripted.{circuit_network, circuit_parts, devices_of}
use Rattle.fd_sample.specs.fd_devices.Settings.{settings_of}
use Rattle.fd_sample.specs.fd_devices.declared.fault.BuildFault.{BuildFault}
use Rattle.fd_sample.specs.fd_devices.declared.fault.BuildFault.TheVariants as build_fault
use Rattle.fd_sample.specs.fd_devices.declared.settings.Positions.{Positions as CodePositions}
use Rattle.fd_sample.specs.fd_devices.declared.settings.Powers.{Powers}
use Rattle.fd_sample.specs.fd_network.Built.{BuiltView, IsBuiltOf}
use Rattle.fd_sample.specs.fd_network.Faults.{IsFaultOf, range_blame}
use Rattle.fd_cert.specs.fd_enclosure.Sound.{Claim, IsSound}
use Rattle.fd_cert.specs.Claims.{claim_in}
use Rattle.fd_cert.specs.declared.ball.Certified.{Certified}
use Rattle.fd_sample.specs.fd_queue.Controls.{Positions}
use Rattle.fd_sample.specs.fd_queue.Machine.{Act, Machine, rule_of}
use Rattle.fd_sample.specs.fd_queue.MachineLaws.{CountLaw}
use Rattle.fd_sample.specs.fd_queue.declared.timing.Timing.{Timing}
use Rattle.fd_sample.specs.Balls.{IsBall}
use Rattle.fd_sample.specs.Probes.{control_of, positions_in}
use Rattle.fd_sample.specs.declared.probe.Probe.{Probe}
use Rattle.fd_settle.specs.declared.clock.Clock.{Clock}
use Rattle.fd_settle.specs.declared.controls.Controls.{Controls}
use Rattle.fd_settle.specs.declared.fault.SettleFault.{SettleFault}
use Rattle.fd_settle.specs.declared.fault.SettleFault.TheVariants as fault
use Rattle.fd_settle.specs.declared.progress.Progress.{Progress}
use Rattle.fd_settle.specs.declared.progress.Progress.TheVariants as progress
use Rattle.fd_settle.specs.declared.round.Act.{Act as Made}
use Rattle.fd_settle.specs.declared.round.Round.{Round}
use Rattle.fd_settle.specs.Sampling.{look_over}
use Rattle.fd_settle.specs.Settle.{End, Open, Settled, Limited, Undecidable, Outcome, Moves, Settle, outcome_of}
use Rattle.fd_settle.specs.Plant.{Plant, blame_at, controls_in, network_at, plant_of, setup_of, timing_of}
use Rattle.fd_settle.specs.Rounds.{AtEach, acts_in, claims_in, left_by, seen, settled}
use Rattle.fd_settle.specs.Calls.{AreCalls, IsLast}
use Rattle.fd_settle.specs.Contract.{CallsAs, EndsAs, IsSettled}
use Rattle.fd_settle.specs.Refused.{refused}
use Rattle.fd_settle.specs.Start.{ArePositions, IsClock, IsNetworkAt, IsSoundAt}
use Rattle.fd_settle.specs.Controls.{AreAtWork, AreControls, HasNumbers, IfMoved, TellsActs, end_told, machine_of, probes_in, setup_in, shown}
use Rattle.fd_settle.proofs.Going.{IsStanding, acts_of, end_of, last_by, round_counts, round_more}

-- ---- the network at positions

pub network_is : (c : CircuitView) (powers : Powers) (at : CodePositions)
    → network_at c powers.loads (positions_in at) ≡ circuit_network c (settings_of at powers)
unfolding network_at
network_is c powers at = refl

pub blame_is : (c : CircuitView) (powers : Powers) (at : CodePositions)
    → blame_at c powers.loads (positions_in at) ≡ range_blame c.elements (devices_of c (settings_of at powers))
unfolding blame_at
blame_is c powers at = refl

network_size : (c : CircuitView) (powers : List LoadPower) (at : Positions)
    → (network_at c powers at).size ≡ size_of (layout_of c.elements)
unfolding network_at
network_size c powers at = refl

-- what an update of the network gives
pub updated : (c : CircuitView) (powers : Powers) (at : CodePositions) (net : BuiltView) → IsBuiltOf net c
    → net.rows ≡ circuit_network c (settings_of at powers)
    → range_blame c.elements (devices_of c (settings_of at powers)) ≡ None →
    AgreesWith net.rows.stamp (circuit_parts c (settings_of at powers)) → IsNetworkAt c powers.loads (positions_in at) net
updated c powers at net built rows in_range agrees =
    let is : net.rows ≡ network_at c powers.loads (positions_in at) = rows ∙ sym (network_is c powers at) in
    record {
      built = built;
      rows = is;
      in_range = blame_is c powers at ∙ in_range;
      agrees = subst (λ (v : NetworkView). AgreesWith v.stamp (circuit_parts c (settings_of at powers))) is agrees;
    }

-- ---- the ball of a sound claim

pub centre_long : (c : CircuitView) (powers : List LoadPower) (at : Positions) (v : NetworkView) (m : Certified)
    → v ≡ network_at c powers at → IsSound v (claim_in m) → length m.ball.centre.items ≡ size_of (layout_of c.elements)
centre_long c powers at v m is s = s.centre.long ∙ ap (λ (w : NetworkView). w.size) is ∙ network_size c powers at

pub ball_of : (v : NetworkView) (m : Certified) → IsSound v (claim_in m)
    → IsBall m.ball.centre.items m.ball.radius.items
ball_of v m s =
    let long : length m.ball.radius.items ≡ v.size = s.radii_long in
    record {
      long = long ∙ sym s.centre.long;
      centre = s.centre.parts;
      radii = All-from_get_or (λ n. n ≤ 2 ^ 40) m.ball.radius.items 0 (λ i h. s.radii_most i (subst (λ n. i < n) long h));
    }

-- ---- what a settle leaves

-- The rounds are those of a settle that is open or ends so, and positions, clock, controls and solver are what it leaves.
pub record IsUnderway {V F : Type 0} (gives : V → NetworkView → Result Claim F → V → Type 0) (c : CircuitView)
    (powers : List LoadPower) (v : V) (m : Machine) (made : List Round) (end : End) (at : CodePositions)
    (clock : Clock) (controls : Controls) (w : V) : Type 0 where
  pub stands : IsStanding gives (IsSoundAt c powers) (plant_of c powers) v m made end (machine_of at clock controls) w
  pub now : clock.now ≡ m.now
  pub positions : ArePositions c powers (positions_in at)
  pub clock' : IsClock c clock
  pub work : AreAtWork c at clock controls

-- before the first round
pub underway_first : {V F : Type 0} (gives : V → NetworkView → Result Claim F → V → Type 0) (c : CircuitView)
    (powers : List LoadPower) (v : V) (at : CodePositions) (clock : Clock) (controls : Controls)
    → ArePositions c powers (positions_in at) → IsClock c clock → AreAtWork c at clock controls
    → IsUnderway gives c powers v (machine_of at clock controls) [] Open at clock controls v
underway_first gives c powers v at clock controls positions times work = record {
  stands = record { is_settle = refl; calls = refl; each = tt };
  now = refl;
  positions = positions;
  clock' = times;
  work = work;
}

-- The rounds that were made are held behind those that were held before, and the settle goes on.
pub record IsKept {V F K : Type 0} (gives : V → NetworkView → Result Claim F → V → Type 0) (holds : K → List Round → Type 0)
    (c : CircuitView) (powers : List LoadPower) (v : V) (m : Machine) (old new : K) (at : CodePositions)
    (clock : Clock) (controls : Controls) (w : V) : Type 0 where
  pub made : List Round
  pub kept : (before : List Round) → holds old before → holds new (before ++ made)
  pub underway : IsUnderway gives c powers v m made Open at clock controls w

-- none is held yet
pub kept_first : {K : Type 0} (holds : K → List Round → Type 0) (j : K) (before : List Round)
    → holds j before → holds j (before ++ [])
kept_first holds j before h = subst (holds j) (sym (append-nil before)) h

-- one more is held
pub kept_more : {K : Type 0} (holds : K → List Round → Type 0) (old mid room new : K) (made : List Round) (r : Round)
    → ((before : List Round) → holds old before → holds mid (before ++ made))
    → ((rounds : List Round) → holds mid rounds → holds room rounds)
    → ((rounds : List Round) → holds room rounds → holds new (rounds ++ r ∷ []))
    → (before : List Round) → holds old before → holds new (before ++ (made ++ r ∷ []))
kept_more holds old mid room new made r kept made_room added before h =
    subst (holds new) (append_assoc before made (r ∷ [])) (added (before ++ made) (made_room (before ++ made) (kept before h)))

-- ---- a round

abbrev pub end_by : Progress → End
end_by progress.Moved = Open
end_by progress.Settled = Settled
end_by (progress.Limited made) = Limited
end_by (progress.Undecided control low high edge) = Undecidable control (record { low = low; high = high; edge = edge })

end_shown : (q : Progress) (acts : List Act) (m : Machine) → end_of (shown q acts m) ≡ end_by q
end_shown progress.Moved acts m = refl
end_shown progress.Settled acts m = refl
end_shown (progress.Limited made) acts m = refl
end_shown (progress.Undecided control low high edge) acts m = refl

left_shown : (q : Progress) (acts : List Act) (m : Machine) → left_by (shown q acts m) ≡ m
left_shown progress.Moved acts m = refl
left_shown progress.Settled acts m = refl
left_shown (progress.Limited made) acts m = refl
left_shown (progress.Undecided control low high edge) acts m = refl

acts_shown : (q : Progress) (acts : List Made) (m : Machine) → TellsActs q acts m
    → map seen acts ≡ acts_of (shown q (map seen acts) m)
acts_shown progress.Moved acts m h = refl
acts_shown progress.Settled acts m h = ap (map seen) h
acts_shown (progress.Limited made) acts m h = ap (map seen) h.0
acts_shown (progress.Undecided control low high edge) acts m h = ap (map seen) h

-- the controls' own setup and samples are the circuit's
same_round : (c : CircuitView) (timing : Timing) (ps : List Probe) (limit : ℕ) (n : Machine) (x : Claim) (o : Outcome)
    → timing ≡ timing_of c.options.controlmode → ps ≡ controls_in c → limit ≡ c.options.maxcontroliter
    → outcome_of (record { rule = rule_of timing; controls = map control_of ps; limit = limit }) n (look_over ps n.at x)
    ≡ o
    → outcome_of (setup_of c) n (look_over (controls_in c) n.at x) ≡ o
same_round c timing ps limit n x o times probes most h = subst (λ (t : Timing). outcome_of (record {
  rule = rule_of t;
  controls = map control_of (controls_in c);
  limit = c.options.maxcontroliter;
}) n (look_over (controls_in c) n.at x) ≡ o) times (subst (λ (k : ℕ). outcome_of (record {
  rule = rule_of timing;
  controls = map control_of (controls_in c);
  limit = k;
}) n (look_over (controls_in c) n.at x) ≡ o) most (subst (λ (qs : List Probe). outcome_of (record {
  rule = rule_of timing;
  controls = map control_of qs;
  limit = limit;
}) n (look_over qs n.at x) ≡ o) probes h))

-- What a step of the controls says, in the words of its contract.
pub record IsStep (at : CodePositions) (clock : Clock) (controls : Controls) (m : Certified) (q : Progress)
    (made : List Made) (to : CodePositions) (then' : Clock) (after : Controls) : Type 0 where
  pub probes : probes_in after ≡ probes_in controls
  pub limit : after.limit ≡ controls.limit
  pub timing : after.timing ≡ controls.timing
  pub round : outcome_of (setup_in controls) (machine_of at clock controls)
      (look_over (probes_in controls) (positions_in at) (claim_in m))
      ≡ shown q (map seen made) (machine_of to then' after)
  pub acts : TellsActs q made (machine_of to then' after)
  pub keeps : AreControls (length m.ball.centre.items) to then' after
  pub taps : length to.taps ≡ length at.taps
  pub closed : length to.closed ≡ length at.closed
  pub time : then'.now ≡ clock.now

-- the same of a certified state that is the same
pub same_step : (at : CodePositions) (clock : Clock) (controls : Controls) (m n : Certified) (q : Progress) (made : List Made)
    (to : CodePositions) (then' : Clock) (after : Controls) → m ≡ n → IsStep at clock controls m q made to then' after
    → IsStep at clock controls n q made to then' after
same_step at clock controls m n q made to then' after e s =
    subst (λ (x : Certified). IsStep at clock controls x q made to then' after) e s

pub stepped_positions : (c : CircuitView) (powers : List LoadPower) (n : ℕ) (at to : CodePositions) (clock : Clock) (controls : Controls)
    → ArePositions c powers (positions_in at) → AreControls n to clock controls → length to.taps ≡ length at.taps
    → length to.closed ≡ length at.closed →
    ArePositions c powers (positions_in to)
stepped_positions c powers n at to clock controls h k taps closed = record {
  counts = record { taps = taps ∙ h.counts.taps; closed = closed ∙ h.counts.closed; powers = h.counts.powers };
  taps = k.taps;
}

stepped_clock : (c : CircuitView) (powers : List LoadPower) (n : ℕ) (at : CodePositions) (clock : Clock) (controls : Controls)
    → ArePositions c powers (positions_in at) → AreControls n at clock controls → IsClock c clock
stepped_clock c powers n at clock controls h k = record { now = k.now; each = k.opened_each ∙ h.counts.closed; early = k.early }

-- ---- the acts that are left

-- fall with each round that goes on
pub fewer_left : CountLaw
    → (at to : CodePositions) (clock then' : Clock) (controls after : Controls) (m : Certified) (q : Progress)
    (acts : List Made) (limit : ℕ)
    → IsStep at clock controls m q acts to then' after → q ≡ progress.Moved → controls.limit ≡ limit →
    limit - after.made < limit - controls.made
fewer_left law at to clock then' controls after m q acts limit s moved is =
    let n = machine_of at clock controls in
    let next = machine_of to then' after in
    let e : outcome_of (setup_in controls) n (look_over (probes_in controls) (positions_in at) (claim_in m))
    ≡ Moves (map seen acts) next =
    subst (λ (p : Progress).
    outcome_of (setup_in controls) n (look_over (probes_in controls) (positions_in at) (claim_in m))
    ≡ shown p (map seen acts) next)
    moved s.round in
    let h = round_counts law (setup_in controls) n (look_over (probes_in controls) (positions_in at) (claim_in m)) (map seen acts) next e in
    let more : after.made ≡ controls.made + 1 = h.one_more in
    let allowed : controls.made < controls.limit = h.allowed in
    omega arith

-- ---- the end

moved_by : (q : Progress) {F : Type 0} → end_told {F = F} q ≡ None → q ≡ progress.Moved
moved_by progress.Moved e = refl
moved_by progress.Settled e = absurd (cc)
moved_by (progress.Limited made) e = absurd (cc)
moved_by (progress.Undecided control low high edge) e = absurd (cc)

pub goes_on : {F : Type 0} (q : Progress) → end_told {F = F} q ≡ None → q ≡ progress.Moved
goes_on {F} q e = moved_by q {F = F} e

-- where no end was told there is none
pub no_end : {E : Type 0} (x told : Option E) → told ≡ x → ((e : E) → told ≡ Some e → ⊥) → x ≡ None
no_end None told e h = refl
no_end (Some x) told e h = absurd (h x e)

pub numbers_kept : (q : Progress) (P : Type 0) → q ≡ progress.Moved → IfMoved q P → P
numbers_kept progress.Moved P e h = h
numbers_kept progress.Settled P e h = absurd (cc)
numbers_kept (progress.Limited made) P e h = absurd (cc)
numbers_kept (progress.Undecided control low high edge) P e h = absurd (cc)

pub ends_told : {F : Type 0} (p : Plant) (q : Progress) (r : Result Unit (SettleFault F)) (acts : List Made) (n : Machine)
    → end_told q ≡ Some r → TellsActs q acts n → EndsAs p r (end_by q) n
ends_told p progress.Moved r acts n e h = absurd (cc)
ends_told {F} p progress.Settled r acts n e h = let is : Ok tt ≡ r = cc in subst (λ (x : Result Unit (SettleFault F)). EndsAs p x Settled n) is refl
ends_told {F} p (progress.Limited made) r acts n e h =
    let is : Err (fault.ControlLimit made) ≡ r = cc in
    subst (λ (x : Result Unit (SettleFault F)). EndsAs p x Limited n) is (refl, h.1)
ends_told {F} p (progress.Undecided control low high edge) r acts n e h =
    let is : Err (fault.Undecided control low high edge) ≡ r = cc in
    subst (λ (x : Result Unit (SettleFault F)). EndsAs p x (Undecidable control (record { low = low; high = high; edge = edge })) n) is refl

pub calls_told : {V F : Type 0} (gives : V → NetworkView → Result Claim F → V → Type 0) (p : Plant) (v : V)
    (m : Machine) (rs : List Round) (q : Progress) (r : Result Unit (SettleFault F)) (w : V)
    → end_told q ≡ Some r → AreCalls gives p v m (claims_in rs) w → CallsAs gives p v m rs r w
calls_told gives p v m rs progress.Moved r w e h = absurd (cc)
calls_told {V} {F} gives p v m rs progress.Settled r w e h =
    let is : Ok tt ≡ r = cc in subst (λ (x : Result Unit (SettleFault F)). CallsAs gives p v m rs x w) is h
calls_told {V} {F} gives p v m rs (progress.Limited made) r w e h =
    let is : Err (fault.ControlLimit made) ≡ r = cc in
    subst (λ (x : Result Unit (SettleFault F)). CallsAs gives p v m rs x w) is h
calls_told {V} {F} gives p v m rs (progress.Undecided control low high edge) r w e h =
    let is : Err (fault.Undecided control low high edge) ≡ r = cc in subst (λ (x : Result Unit (SettleFault F)). CallsAs gives p v m rs x w) is h

-- the network is refused
pub ends_refused : (T F : Type 0) (p : Plant) (f : BuildFault) (n : Machine) → IsFaultOf (p.blame n.at) f
    → EndsAs {T = T} {F = F} p (Err (refused f)) Open n
ends_refused T F p (build_fault.Range blame) n h = (refl, h)
ends_refused T F p build_fault.NoMemory n h = refl

pub calls_refused : (T : Type 0) {V F : Type 0} (gives : V → NetworkView → Result Claim F → V → Type 0) (p : Plant)
    (v : V) (m : Machine) (rs : List Round) (f : BuildFault) (w : V)
    → AreCalls gives p v m (claims_in rs) w → CallsAs {V = V} {T = T} {F = F} gives p v m rs (Err (refused f)) w
calls_refused T gives p v m rs (build_fault.Range blame) w h = h
calls_refused T gives p v m rs build_fault.NoMemory w h = inl h

-- ---- what `settle` says

-- its clauses, in their order, of the rounds that were made
pub record IsOver {V T F : Type 0} (gives : V → NetworkView → Result Claim F → V → Type 0) (c : CircuitView)
    (powers : Powers) (m : Machine) (v : V) (made : List Round) (there : CodePositions)
    (times : Clock) (controls : Controls) (result : Result T (SettleFault F)) (w : V) : Type 0 where
  pub settled : IsSettled gives c powers.loads v w m (machine_of there times controls) result made
  pub now : times.now ≡ m.now
  pub positions : ArePositions c powers.loads (positions_in there)
  pub clock : IsClock c times
  pub work : AreAtWork c there times controls

pub over : {V T F : Type 0} (gives : V → NetworkView → Result Claim F → V → Type 0) (c : CircuitView)
    (powers : Powers) (m : Machine) (v : V) (made : List Round) (end : End)
    (at : CodePositions) (clock : Clock) (controls : Controls) (result : Result T (SettleFault F)) (u w : V)
    → IsUnderway gives c powers.loads v m made end at clock controls u
    → EndsAs (plant_of c powers.loads) result end (machine_of at clock controls)
    → CallsAs gives (plant_of c powers.loads) v m made result w
    → IsOver gives c powers m v made at clock controls result w
over gives c powers m v made end at clock controls result u w h e k =
    let is : settled (plant_of c powers.loads) m made
    ≡ record { rounds = acts_in made; end = end; machine = machine_of at clock controls } =
    h.stands.is_settle in
    record {
      settled = record {
        acts = sym (ap (λ (s : Settle). s.rounds) is);
        machine = sym (ap (λ (s : Settle). s.machine) is);
        ends = subst (λ (s : Settle). EndsAs (plant_of c powers.loads) result s.end s.machine) (sym is) e;
        calls = k;
        sound = h.stands.each;
      };
      now = h.now;
      positions = h.positions;
      clock = h.clock';
      work = h.work;
    }

-- ---- the loop

module _ {V F : Type 0} (gives : V → NetworkView → Result Claim F → V → Type 0) (c : CircuitView) (powers : Powers)
    (m : Machine) (v : V) (made : List Round) (at : CodePositions) (clock : Clock)
    (controls : Controls) (net : BuiltView) (w : V)
    (h : IsUnderway gives c powers.loads v m made Open at clock controls w)
    (here : IsNetworkAt c powers.loads (positions_in at) net) where
  -- a round more
  pub underway_more : IsNetwork net.rows
      → (view : NetworkView) (r : Round) (u : V) (q : Progress) (to : CodePositions)
      (then' : Clock) (after : Controls)
      → view ≡ net.rows → gives w view (Ok (claim_in r.certified.value)) u → IsSound view (claim_in r.certified.value)
      → IsStep at clock controls r.certified.value q r.acts.items to then' after
      → IsUnderway gives c powers.loads v m (made ++ r ∷ []) (end_by q) to then' after u
  underway_more valid view r u q to then' after is gave sound s =
      let n = machine_of at clock controls in
      let next = machine_of to then' after in
      let same : view ≡ network_at c powers.loads (positions_in at) = is ∙ here.rows in
      let own : IsSound (network_at c powers.loads (positions_in at)) (claim_in r.certified.value) =
      subst (λ (x : NetworkView). IsSound x (claim_in r.certified.value)) same sound in
      let outcome : outcome_of (setup_of c) n (look_over (controls_in c) n.at (claim_in r.certified.value)) ≡ shown q (map seen r.acts.items) next =
      same_round c controls.timing (probes_in controls) controls.limit n (claim_in r.certified.value) (shown q (map seen r.acts.items) next) h.work.timing h.work.probes h.work.limit s.round in
      let stands = round_more gives (IsSoundAt c powers.loads) (plant_of c powers.loads) v m
      made n w r (shown q (map seen r.acts.items) next) u h.stands here.in_range
      (subst (λ (x : NetworkView). gives w x (Ok (claim_in r.certified.value)) u) same gave) (record {
        positions = h.positions;
        agrees = here.agrees;
        network = subst IsNetwork here.rows valid;
        sound = own;
      }) outcome (acts_shown q r.acts.items next s.acts) in
      let long = centre_long c powers.loads (positions_in at) view r.certified.value same sound in
      let keeps = subst (λ k. AreControls k to then' after) long s.keeps in
      let positions = stepped_positions c powers.loads (size_of (layout_of c.elements)) at to then' after h.positions keeps s.taps s.closed in
      record {
        stands = subst (λ (e : End).
            IsStanding gives (IsSoundAt c powers.loads) (plant_of c powers.loads) v m
            (made ++ r ∷ []) e next u) (end_shown q (map seen r.acts.items) next)
            (subst (λ (k : Machine). IsStanding gives (IsSoundAt c powers.loads) (plant_of c powers.loads) v
            m (made ++ r ∷ []) (end_of (shown q (map seen r.acts.items) next)) k u)
            (left_shown q (map seen r.acts.items) next) stands);
        now = s.time ∙ h.now;
        positions = positions;
        clock' = stepped_clock c powers.loads (size_of (layout_of c.elements)) to then' after positions keeps;
        work = record {
          probes = s.probes ∙ h.work.probes;
          limit = s.limit ∙ h.work.limit;
          timing = s.timing ∙ h.work.timing;
          keeps = keeps;
        };
      }

  -- the call whose state was not kept
  pub last_call : (view : NetworkView) (answer : Result Claim F) (u : V) → view ≡ net.rows → gives w view answer u
      → IsLast gives (plant_of c powers.loads) v m made answer u
  last_call view answer u is gave =
      last_by gives (IsSoundAt c powers.loads) (plant_of c powers.loads) v m
      made Open (machine_of at clock controls) w answer u h.stands here.in_range
      (subst (λ (x : NetworkView). gives w x answer u) (is ∙ here.rows) gave)

  -- the solver answers a fault
  pub over_solver : (view : NetworkView) (f : F) (u : V) → view ≡ net.rows → gives w view (Err f) u
      → IsOver {T = Unit} gives c powers m v made at clock controls (Err (fault.Solver f)) u
  over_solver view f u is gave =
      over {T = Unit} gives c powers m v made Open at clock controls
      (Err (fault.Solver f)) w u h refl (last_call view (Err f) u is gave)

  -- there is no room for the round
  pub over_memory : (view : NetworkView) (claim : Claim) (u : V) (result : Result Unit (SettleFault F)) → view ≡ net.rows
      → gives w view (Ok claim) u → result ≡ Err fault.NoMemory
      → IsOver gives c powers m v made at clock controls result u
  over_memory view claim u result is gave same =
      over gives c powers m v made Open at clock controls result w u h
      (subst (λ (x : Result Unit (SettleFault F)).
      EndsAs (plant_of c powers.loads) x Open (machine_of at clock controls)) (sym same) refl)
      (subst (λ (x : Result Unit (SettleFault F)).
      CallsAs gives (plant_of c powers.loads) v m made x u)
      (sym same) (inr (record { missing = claim; call = last_call view (Ok claim) u is gave })))

module _ {V F : Type 0} (gives : V → NetworkView → Result Claim F → V → Type 0) (c : CircuitView) (powers : Powers)
    (m : Machine) (v : V) (made : List Round) (at : CodePositions) (clock : Clock)
    (controls : Controls) (w : V) where
  -- a round ends the settle
  pub over_told : (q : Progress) (result : Result Unit (SettleFault F)) (acts : List Made)
      → IsUnderway gives c powers.loads v m made (end_by q) at clock controls w
      → end_told q ≡ Some result → TellsActs q acts (machine_of at clock controls) →
      IsOver gives c powers m v made at clock controls result w
  over_told q result acts h e t =
      over gives c powers m v made (end_by q) at clock controls result w w h
      (ends_told (plant_of c powers.loads) q result acts (machine_of at clock controls) e t)
      (calls_told gives (plant_of c powers.loads) v m made q result w e h.stands.calls)

  -- the network at the positions behind a round is refused
  pub over_refused : (f : BuildFault) (result : Result Unit (SettleFault F))
      → IsUnderway gives c powers.loads v m made Open at clock controls w
      → IsFaultOf (range_blame c.elements (devices_of c (settings_of at powers))) f → result ≡ Err (refused f) →
      IsOver gives c powers m v made at clock controls result w
  over_refused f result h k same =
      let fault_of = subst (λ (b : Option Blame). IsFaultOf b f) (sym (blame_is c powers at)) k in
      over gives c powers m v made Open at clock controls result w w h
      (subst (λ (x : Result Unit (SettleFault F)).
      EndsAs (plant_of c powers.loads) x Open (machine_of at clock controls))
      (sym same) (ends_refused Unit F (plant_of c powers.loads) f (machine_of at clock controls) fault_of))
      (subst (λ (x : Result Unit (SettleFault F)).
      CallsAs gives (plant_of c powers.loads) v m made x w)
      (sym same) (calls_refused Unit gives (plant_of c powers.loads) v m made f w
      h.stands.calls))

-- ---- sequence numbers

most_numbers : (made n : ℕ) → made ≤ 100 → n < 2 ^ 18 → made * n ≤ 100 * 2 ^ 18
most_numbers made n h k = mul-le-mul h (let l : n ≤ 2 ^ 18 = omega (arith, k) in l)

-- the number of a settle's last entry
pub few_numbers : (n first : ℕ) (at : CodePositions) (clock : Clock) (controls : Controls) → AreControls n at clock controls
    → HasNumbers first controls → controls.queue.next + length controls.states.items ≤ first + 2 ^ 25
few_numbers n first at clock controls h k =
    let most = most_numbers controls.made (length controls.states.items) (omega (arith, h.made, h.limit)) h.few in
    omega (arith, k, most, h.few)

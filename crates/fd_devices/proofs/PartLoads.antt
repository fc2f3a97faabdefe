-- The part loads of a load's phases: how many there are, where they stand, and that few contributions are theirs.
use Rattle.std.proofs.Common.{◌≡◌, IsTrue, ◌∙◌, ℕ, zero, suc, ◌+◌, ◌*◌, ◌-◌, ◌<◌, ◌≤◌, ◌^◌, inl, inr, List, [], ◌∷◌, ◌++◌, length, length-append, map, arith, ap, refl, sym}
use Rattle.std.specs.List.{All, flat_map}
use Rattle.std.proofs.Math.Nat.{mul-le-mul}
use Rattle.std.proofs.lemmas.Grind.{flat_map-append}
use Rattle.std.proofs.lemmas.List.{append-nil}
use Rattle.std.proofs.lemmas.List.Elements.{All-nil, All-cons, All-append, All-weaker}
use Rattle.dss_layout.specs.fd_arith.declared.terms.NodeAt.{NodeAt}
use Rattle.dss_layout.specs.fd_arith.declared.terms.NodeAt.TheVariants.{Ground, Node}
use Rattle.dss_layout.specs.fd_arith.declared.terms.LoadModel.{LoadModel}
use Rattle.dss_layout.specs.fd_arith.declared.terms.LoadModel.TheVariants.{ConstantPower, ConstantImpedance, ConstantCurrent}
use Rattle.dss_layout.specs.fd_arith.LoadModels.{has_magnitude}
use Rattle.fd_xfmr.specs.fd_system.declared.loads.LoadPhase.{LoadPhase}
use Rattle.fd_xfmr.specs.fd_system.declared.loads.LoadAt.{LoadAt}
use Rattle.fd_xfmr.specs.fd_system.Contributions.{IsSmall, concat_below}
use Rattle.fd_xfmr.specs.fd_system.Loads.{impedance_list, linear_list}
use Rattle.fd_xfmr.specs.fd_system.Terminals.{pairs_of}
use Rattle.dss_layout.specs.dss_model.Ranges.{IsOneOf}
use Rattle.dss_layout.specs.dss_model.declared.load.Load.{Load}
use Rattle.dss_layout.specs.dss_model.declared.load.LoadKind.{LoadKind}
use Rattle.dss_layout.specs.dss_model.declared.load.LoadKind.TheVariants as kind
use Rattle.dss_layout.specs.dss_model.LoadKinds.{has_magnitude as kind_has_magnitude}
use Rattle.fd_elements.specs.declared.powers.LoadPower.{LoadPower}
use Rattle.fd_elements.specs.Connections.{conn_of}
use Rattle.fd_elements.specs.Loads.{load_phase_of, parts_by, sole_model, zip_phase_of}
use Rattle.fd_elements.specs.fd_load.Zip.{zip_part}
use Rattle.fd_pattern.specs.Conditions.{HasMagnitude, IsAmong}
use Rattle.fd_pattern.specs.PatternPlaces.{load_places}
use Rattle.fd_devices.specs.Kept.{parts_of}
use Rattle.fd_devices.specs.Scripted.{magnitude_place, part_at, phase_loads, phases_of, power_at}
use Rattle.fd_devices.specs.Sound.{HasMagnitudes}
use Rattle.fd_devices.proofs.Bounded.{StandsInside}
use Rattle.fd_devices.proofs.Counting.{impedance_inside}
use Rattle.fd_devices.proofs.Transformers.{pair_below}

-- ---- lists by number

-- what holds of each list holds of all
pub all_concat : {X : Type 0} (P : X → Type 0) (n : ℕ) (f : ℕ → List X) → ((k : ℕ) → k < n → All P (f k))
    → All P (concat_below f n)
all_concat P zero f h = All-nil P
all_concat P (suc n) f h = All-append P (concat_below f n) (f n) (all_concat P n f (λ k p. h k (omega arith))) (h n (omega arith))

pub length-concat : {X : Type 0} (m n : ℕ) (f : ℕ → List X) → ((k : ℕ) → length (f k) ≤ m) → length (concat_below f n) ≤ m * n
length-concat m zero f h = omega arith
length-concat m (suc n) f h =
    let rest = length-concat m n f h in
    let last = h n in
    omega (arith, length-append (concat_below f n) (f n), rest, last)

module _ {B : Type 0} (g : LoadAt → List B) where
  flat_next : (f : ℕ → List LoadAt) (n : ℕ) → flat_map g (concat_below f (suc n)) ≡ flat_map g (concat_below f n) ++ flat_map g (f n)
  flat_next f n = flat_map-append g (concat_below f n) (f n)

  flat_few : (m n : ℕ) (f : ℕ → List LoadAt) → ((k : ℕ) → length (flat_map g (f k)) ≤ m)
      → length (flat_map g (concat_below f n)) ≤ m * n
  flat_few m zero f h = omega arith
  flat_few m (suc n) f h =
      let rest = flat_few m n f h in
      let last = h n in
      let all = ap length (flat_next f n) ∙ length-append (flat_map g (concat_below f n)) (flat_map g (f n)) in
      omega (arith, all, rest, last)

  flat_same : (f h : ℕ → List LoadAt) → ((k : ℕ) → flat_map g (f k) ≡ flat_map g (h k)) → (n : ℕ)
      → flat_map g (concat_below f n) ≡ flat_map g (concat_below h n)
  flat_same f h e zero = refl
  flat_same f h e (suc n) = flat_next f n ∙ (λ i. flat_same f h e n i ++ e n i) ∙ sym (flat_next h n)

-- ---- the part loads of one phase

pub few_phases : (phases : ℕ) → IsOneOf (1 ∷ 3 ∷ []) phases → phases ≤ 3
few_phases phases (inl h) = omega arith
few_phases phases (inr h) = omega arith

few_parts : (kind : LoadKind) → parts_of kind ≤ 3
few_parts kind.ConstantPower = omega arith
few_parts kind.ConstantImpedance = omega arith
few_parts kind.ConstantCurrent = omega arith
few_parts kind.Zip = omega arith

-- at most nine part loads
pub nine_parts : (kind : LoadKind) (phases : ℕ) → IsOneOf (1 ∷ 3 ∷ []) phases → parts_of kind * phases ≤ 9
nine_parts kind phases h = mul-le-mul (few_parts kind) (few_phases phases h)

-- the magnitude of phase k
magnitude_inside : (n size phases first k : ℕ) (model : LoadModel)
    → (IsTrue (has_magnitude model) → HasMagnitudes n size phases first) → k < phases
    → HasMagnitude n size model (magnitude_place model first k)
magnitude_inside n size phases first k ConstantPower h p = refl
magnitude_inside n size phases first k ConstantImpedance h p = refl
magnitude_inside n size phases first k ConstantCurrent h p =
    let m = h refl in
    let behind = m.behind in
    let below = m.below in
    let least : 2 * n ≤ first + k = omega arith in
    let most : first + k < size = omega arith in
    (refl, (least, most))

module _ (load : Load) (ns : List NodeAt) (magnitude : ℕ) where
  -- those of a load of a kind
  abbrev PartsOf : LoadKind → ℕ → LoadPower → List LoadAt
  PartsOf kind k power = map (part_at load ns magnitude k) (parts_by (sole_model kind) load power)

  counted : (kind : LoadKind) (k : ℕ) (power : LoadPower) → length (PartsOf kind k power) ≡ parts_of kind
  counted kind.ConstantPower k power = refl
  counted kind.ConstantImpedance k power = refl
  counted kind.ConstantCurrent k power = refl
  counted kind.Zip k power = refl

  -- they reach the same places at all powers
  same_parts : (kind : LoadKind) (k : ℕ) (power other : LoadPower)
      → flat_map load_places (PartsOf kind k power) ≡ flat_map load_places (PartsOf kind k other)
  same_parts kind.ConstantPower k power other = refl
  same_parts kind.ConstantImpedance k power other = refl
  same_parts kind.ConstantCurrent k power other = refl
  same_parts kind.Zip k power other = refl

  module _ (m : ℕ) (among : All (IsAmong m) ns) where
    impedance_few : (k : ℕ) (part : LoadPhase) → length (impedance_list (part_at load ns magnitude k part)) ≤ 16
    impedance_few k part =
        let below = pair_below m (pairs_of load.phases (conn_of load.conn)) ns k among in
        (impedance_inside m (part_at load ns magnitude k part) (record { first = below.first; second = below.second })).few

    alone : (k : ℕ) (part : LoadPhase) → length (impedance_list (part_at load ns magnitude k part) ++ []) ≤ 16
    alone k part =
        let few = impedance_few k part in
        omega (arith, few, length-append (impedance_list (part_at load ns magnitude k part)) [])

    -- just one of them, if any, has contributions
    few_terms : (kind : LoadKind) (k : ℕ) (power : LoadPower) → length (flat_map linear_list (PartsOf kind k power)) ≤ 16
    few_terms kind.ConstantPower k power = omega arith
    few_terms kind.ConstantImpedance k power = alone k (load_phase_of load ConstantImpedance power)
    few_terms kind.ConstantCurrent k power = omega arith
    few_terms kind.Zip k power =
        let z = zip_phase_of load power in
        alone k (zip_part z ConstantImpedance z.impedance)

    module _ (n size k : ℕ) (k_in : k < load.phases) where
      inside_by : (part : LoadPhase) → (IsTrue (has_magnitude part.model) → HasMagnitudes n size load.phases magnitude)
          → StandsInside m n size (part_at load ns magnitude k part)
      inside_by part places =
          let below = pair_below m (pairs_of load.phases (conn_of load.conn)) ns k among in
          record {
            nodes = record { first = below.first; second = below.second };
            magnitude = magnitude_inside n size load.phases magnitude k part.model places k_in;
          }

      inside : (kind : LoadKind) (power : LoadPower)
          → (IsTrue (kind_has_magnitude kind) → HasMagnitudes n size load.phases magnitude)
          → All (StandsInside m n size) (PartsOf kind k power)
      inside kind.ConstantPower power h = All-cons (StandsInside m n size) _ [] (inside_by _ h) (All-nil (StandsInside m n size))
      inside kind.ConstantImpedance power h = All-cons (StandsInside m n size) _ [] (inside_by _ h) (All-nil (StandsInside m n size))
      inside kind.ConstantCurrent power h = All-cons (StandsInside m n size) _ [] (inside_by _ h) (All-nil (StandsInside m n size))
      inside kind.Zip power h =
          let z = zip_phase_of load power in
          let impedance = zip_part z ConstantImpedance z.impedance in
          let current = zip_part z ConstantCurrent z.current in
          let rest = zip_part z ConstantPower z.power in
          let at = part_at load ns magnitude k in
          All-cons (StandsInside m n size) (at impedance) (at current ∷ at rest ∷ []) (inside_by impedance (λ has. h refl))
          (All-cons (StandsInside m n size) (at current) (at rest ∷ []) (inside_by current (λ has. h refl))
          (All-cons (StandsInside m n size) (at rest) [] (inside_by rest (λ has. h refl)) (All-nil (StandsInside m n size))))

-- ---- of all phases

module _ (load : Load) (ns : List NodeAt) (magnitude : ℕ) (powers : List LoadPower) where
  pub count_parts : length (phases_of load ns magnitude powers) ≤ parts_of load.model * load.phases
  count_parts = length-concat (parts_of load.model) load.phases (phase_loads load ns magnitude powers) one
    where
      one : (k : ℕ) → length (phase_loads load ns magnitude powers k) ≤ parts_of load.model
      one k = omega (arith, counted load ns magnitude load.model k (power_at powers k))

  pub parts_few : (m : ℕ) → All (IsAmong m) ns
      → length (flat_map linear_list (phases_of load ns magnitude powers)) ≤ 16 * load.phases
  parts_few m among =
      flat_few linear_list 16 load.phases (phase_loads load ns magnitude powers)
      (λ k. few_terms load ns magnitude m among load.model k (power_at powers k))

  pub parts_inside : (m n size : ℕ) → All (IsAmong m) ns
      → (IsTrue (kind_has_magnitude load.model) → HasMagnitudes n size load.phases magnitude)
      → All (StandsInside m n size) (phases_of load ns magnitude powers)
  parts_inside m n size among places =
      all_concat (StandsInside m n size) load.phases (phase_loads load ns magnitude powers)
      (λ k k_in. inside load ns magnitude m among n size k k_in load.model (power_at powers k) places)

  pub same_reach : (other : List LoadPower)
      → flat_map load_places (phases_of load ns magnitude powers) ≡ flat_map load_places (phases_of load ns magnitude other)
  same_reach other =
      flat_same load_places (phase_loads load ns magnitude powers) (phase_loads load ns magnitude other)
      (λ k. same_parts load ns magnitude load.model k (power_at powers k) (power_at other k)) load.phases

-- small nodes are among so many
small_among : (node : NodeAt) → IsSmall node → IsAmong (2 ^ 31) node
small_among Ground h = tt
small_among (Node k) h = omega arith

pub all_among : (ns : List NodeAt) → All IsSmall ns → All (IsAmong (2 ^ 31)) ns
all_among ns h = All-weaker IsSmall (IsAmong (2 ^ 31)) small_among ns h

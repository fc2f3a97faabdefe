-- The circuit of a short circuit has passed the tests of Solve.
use Rattle.std.proofs.Common.{◌≡◌, ◌∙◌, ℕ, Bool, true, false, ◌&&◌, ◌||◌, cond, not, if◌then◌else◌, List, [], ◌∷◌, ◌++◌, All, Contains, None, Some, Option, Result, Ok, refl, sym, ap, subst}
use Rattle.std.specs.List.{flat_map, list_any}
use Rattle.std.proofs.lemmas.Bool.{or_parts}
use Rattle.std.proofs.lemmas.Grind.{flat_map-append}
use Rattle.std.proofs.lemmas.List.Elements.{All-nil, All-cons, All-head, All-tail, All-filter, All-weaker, Contains-append_left}
use Rattle.dss_ready.specs.dss_model.declared.command.Blame.{Blame}
use Rattle.dss_ready.specs.dss_model.declared.element.Element.{Element}
use Rattle.dss_ready.specs.dss_model.declared.element.Element.TheVariants as the
use Rattle.dss_ready.specs.dss_model.declared.fault.ModelFault.{ModelFault}
use Rattle.dss_ready.specs.dss_model.declared.names.ElementName.{ElementName}
use Rattle.dss_ready.specs.dss_model.declared.command.Place.{Place}
use Rattle.dss_ready.specs.dss_model.Element.{place_of}
use Rattle.dss_ready.specs.dss_circuit.Circuit.{Elements}
use Rattle.dss_ready.specs.dss_layout.declared.nodes.NodeName.{NodeName}
use Rattle.dss_ready.specs.dss_layout.Layout.{nodes_of as circuit_nodes}
use Rattle.dss_ready.specs.dss_layout.Nodes.{same_node}
use Rattle.dss_ready.specs.dss_layout.Terminals.{mentions, terminal_numbers, tested}
use Rattle.dss_ready.specs.Counts.{is_count_fault, is_shape_short}
use Rattle.dss_ready.specs.Feeding.{Fed, by_source, by_tie, FirstIsolated, IsFed, source_nodes, tied_nodes}
use Rattle.dss_ready.specs.Mentions.{is_shape_followed, is_winding_controlled}
use Rattle.dss_ready.specs.Ranges.{is_outside_by, is_step_outside, is_tap_outside, is_winding_outside}
use Rattle.dss_ready.specs.Support.{are_powers_unequal, differs_from, frequency_of, is_support_fault}
use Rattle.dss_ready.specs.Walk.{blamed_or, cause_of, first_blame, first_cause}
use Rattle.fd_fault.specs.declared.kind.Kind.{Kind}
use Rattle.fd_fault.specs.declared.kind.Kind.TheVariants as kind
use Rattle.fd_fault.specs.FaultCircuit.{fault_elements, fault_entry, first_missing, is_missing, missing_in, stays, stripped}
use Rattle.fd_fault.specs.FaultLaws.{PassedLaw}
use Rattle.fd_fault.proofs.Standing.{joined, of_among, of_nodes}

-- ---- no control and no load is among the elements

no_control : (name : List ℕ) (winding : ℕ) (es : Elements) (bus : List ℕ) (kind : Kind) (k : ℕ)
    → is_winding_controlled (fault_elements es bus kind k) name winding ≡ false
no_control name winding [] bus kind k = refl
no_control name winding ((n, the.Vsource x) ∷ es) bus kind k = no_control name winding es bus kind k
no_control name winding ((n, the.Linecode x) ∷ es) bus kind k = no_control name winding es bus kind k
no_control name winding ((n, the.Line x) ∷ es) bus kind k = no_control name winding es bus kind k
no_control name winding ((n, the.Transformer x) ∷ es) bus kind k = no_control name winding es bus kind k
no_control name winding ((n, the.Capacitor x) ∷ es) bus kind k = no_control name winding es bus kind k
no_control name winding ((n, the.Load x) ∷ es) bus kind k = no_control name winding es bus kind k
no_control name winding ((n, the.RegControl x) ∷ es) bus kind k = no_control name winding es bus kind k
no_control name winding ((n, the.CapControl x) ∷ es) bus kind k = no_control name winding es bus kind k
no_control name winding ((n, the.Loadshape x) ∷ es) bus kind k = no_control name winding es bus kind k

no_follower : (name : List ℕ) (es : Elements) (bus : List ℕ) (kind : Kind) (k : ℕ)
    → is_shape_followed (fault_elements es bus kind k) name ≡ false
no_follower name [] bus kind k = refl
no_follower name ((n, the.Vsource x) ∷ es) bus kind k = no_follower name es bus kind k
no_follower name ((n, the.Linecode x) ∷ es) bus kind k = no_follower name es bus kind k
no_follower name ((n, the.Line x) ∷ es) bus kind k = no_follower name es bus kind k
no_follower name ((n, the.Transformer x) ∷ es) bus kind k = no_follower name es bus kind k
no_follower name ((n, the.Capacitor x) ∷ es) bus kind k = no_follower name es bus kind k
no_follower name ((n, the.Load x) ∷ es) bus kind k = no_follower name es bus kind k
no_follower name ((n, the.RegControl x) ∷ es) bus kind k = no_follower name es bus kind k
no_follower name ((n, the.CapControl x) ∷ es) bus kind k = no_follower name es bus kind k
no_follower name ((n, the.Loadshape x) ∷ es) bus kind k = no_follower name es bus kind k

-- ---- an element that stays is to blame for nothing new

in_range : (o c u s i : Bool) → first_cause o c u s i ≡ None → o ≡ false
in_range true c u s i h = cc h
in_range false c u s i h = refl

counted : (c u s i : Bool) → first_cause false c u s i ≡ None → c ≡ false
counted true u s i h = cc h
counted false u s i h = refl

without_control : (s t c d : Bool) → d ≡ false → (s || (t && c)) ≡ false → (s || (t && d)) ≡ false
without_control true t c d e h = h
without_control false true c d e h = e
without_control false false c d e h = refl

-- the same cause, or none, where a test says no as it did before
cause_as : (o p c u s i : Bool) → o ≡ false → p ≡ false → first_cause o c u s i ≡ None → first_cause p c u s i ≡ None
cause_as o p c u s i e f h = ap (λ (b : Bool). first_cause b c u s i) (f ∙ sym e) ∙ h

module _ (hertz : ℕ) (all : Elements) (bus : List ℕ) (kind : Kind) (k : ℕ) where
  cause_still : (before after : Elements) (name : ElementName) (x : Element) → stays x ≡ true
      → cause_of hertz all before (name, x) ≡ None → cause_of hertz (fault_elements all bus kind k) after (name, x) ≡ None
  cause_still before after name (the.Vsource x) t h = h
  cause_still before after name (the.Linecode x) t h = h
  cause_still before after name (the.Line x) t h = h
  cause_still before after name (the.Transformer x) t h =
      let new = fault_elements all bus kind k in
      let old_range = is_outside_by all name (the.Transformer x) in
      let counts = is_count_fault (tested (terminal_numbers (the.Transformer x))) || false in
      let supports =
      is_support_fault (tested (terminal_numbers (the.Transformer x)))
      || (are_powers_unequal (the.Transformer x) || differs_from hertz (frequency_of (the.Transformer x))) in
      let none = in_range old_range counts supports false false h in
      let parts = or_parts (is_winding_outside all name.name 1 x.first) (is_winding_outside all name.name 2 x.second) none in
      let first : is_winding_outside new name.name 1 x.first ≡ false =
      without_control (is_step_outside x.first) (is_tap_outside x.first) (is_winding_controlled all name.name 1) (is_winding_controlled new name.name 1)
      (no_control name.name 1 all bus kind k) parts.0 in
      let second : is_winding_outside new name.name 2 x.second ≡ false =
      without_control (is_step_outside x.second) (is_tap_outside x.second) (is_winding_controlled all name.name 2) (is_winding_controlled new name.name 2)
      (no_control name.name 2 all bus kind k) parts.1 in
      let both : is_outside_by new name (the.Transformer x) ≡ false = λ i. first i || second i in
      cause_as old_range (is_outside_by new name (the.Transformer x)) counts supports false false none both h
  cause_still before after name (the.Loadshape x) t h =
      let new = fault_elements all bus kind k in
      let none = counted (is_shape_short x && is_shape_followed all name.name) false false false h in
      let gone : (is_shape_short x && is_shape_followed new name.name) ≡ false =
      ap (λ (b : Bool). is_shape_short x && b) (no_follower name.name all bus kind k) ∙ and_no (is_shape_short x) in
      ap (λ (b : Bool). first_cause false b false false false) (gone ∙ sym none) ∙ h
    where
      and_no : (b : Bool) → (b && false) ≡ false
      and_no true = refl
      and_no false = refl
  cause_still before after name (the.Capacitor x) t h = cc t
  cause_still before after name (the.Load x) t h = cc t
  cause_still before after name (the.RegControl x) t h = cc t
  cause_still before after name (the.CapControl x) t h = cc t

-- the line of the short circuit is to blame for nothing
line_fits : (hertz : ℕ) (all before : Elements) (bus : List ℕ) (kind : Kind) (k : ℕ)
    → cause_of hertz all before (fault_entry bus kind k) ≡ None
line_fits hertz all before bus kind.Lll k = refl
line_fits hertz all before bus kind.Lg1 k = refl
line_fits hertz all before bus kind.Lg2 k = refl
line_fits hertz all before bus kind.Lg3 k = refl

-- ---- the first to blame

-- none before the rest is to blame where none is at all
none_first : (o : Option ModelFault) (place : Place) (rest : Result Unit Blame) → blamed_or o place rest ≡ Ok tt
    → (o ≡ None) × (rest ≡ Ok tt)
none_first None place rest h = (refl, h)
none_first (Some cause) place rest h = cc h

none_then : (o : Option ModelFault) (place : Place) (rest : Result Unit Blame) → o ≡ None → rest ≡ Ok tt
    → blamed_or o place rest ≡ Ok tt
none_then o place rest n r = ap (λ (c : Option ModelFault). blamed_or c place rest) n ∙ r

first_still : (hertz : ℕ) (all : Elements) (bus : List ℕ) (kind : Kind) (k : ℕ) (before after rest : Elements)
    → first_blame hertz all before rest ≡ Ok tt
    → first_blame hertz (fault_elements all bus kind k) after (stripped rest ++ fault_entry bus kind k ∷ []) ≡ Ok tt
first_still hertz all bus kind k before after [] h =
    none_then (cause_of hertz (fault_elements all bus kind k) after (fault_entry bus kind k)) (place_of (fault_entry bus kind k).1) (Ok tt)
    (line_fits hertz (fault_elements all bus kind k) after bus kind k) refl
first_still hertz all bus kind k before after (e ∷ rest) h =
    let parts = none_first (cause_of hertz all before e) (place_of e.1) (first_blame hertz all (before ++ e ∷ []) rest) h in
    by (stays e.1) refl parts.0 (λ a. first_still hertz all bus kind k (before ++ e ∷ []) a rest parts.1)
  where
    by : (b : Bool) → stays e.1 ≡ b → cause_of hertz all before e ≡ None
        → ((a : Elements) → first_blame hertz (fault_elements all bus kind k) a (stripped rest ++ fault_entry bus kind k ∷ []) ≡ Ok tt)
        → first_blame hertz (fault_elements all bus kind k) after (cond b (e ∷ stripped rest) (stripped rest) ++ fault_entry bus kind k ∷ []) ≡ Ok tt
    by true t none later =
        none_then (cause_of hertz (fault_elements all bus kind k) after e) (place_of e.1)
        (first_blame hertz (fault_elements all bus kind k) (after ++ e ∷ []) (stripped rest ++ fault_entry bus kind k ∷ []))
        (cause_still hertz all bus kind k before after e.0 e.1 t none) (later (after ++ e ∷ []))
    by false t none later = later after

-- ---- fed nodes stay fed

source_nodes_stay : (es : Elements) → flat_map (λ e. source_nodes e.1) (stripped es) ≡ flat_map (λ e. source_nodes e.1) es
source_nodes_stay [] = refl
source_nodes_stay ((n, the.Vsource x) ∷ es) = ap (λ (ns : List NodeName). source_nodes (the.Vsource x) ++ ns) (source_nodes_stay es)
source_nodes_stay ((n, the.Linecode x) ∷ es) = source_nodes_stay es
source_nodes_stay ((n, the.Line x) ∷ es) = source_nodes_stay es
source_nodes_stay ((n, the.Transformer x) ∷ es) = source_nodes_stay es
source_nodes_stay ((n, the.Capacitor x) ∷ es) = source_nodes_stay es
source_nodes_stay ((n, the.Load x) ∷ es) = source_nodes_stay es
source_nodes_stay ((n, the.RegControl x) ∷ es) = source_nodes_stay es
source_nodes_stay ((n, the.CapControl x) ∷ es) = source_nodes_stay es
source_nodes_stay ((n, the.Loadshape x) ∷ es) = source_nodes_stay es

ties_stay : (es : Elements) → flat_map (λ e. tied_nodes e.1) (stripped es) ≡ flat_map (λ e. tied_nodes e.1) es
ties_stay [] = refl
ties_stay ((n, the.Vsource x) ∷ es) = ties_stay es
ties_stay ((n, the.Linecode x) ∷ es) = ties_stay es
ties_stay ((n, the.Line x) ∷ es) = ap (λ (ns : List (List NodeName)). tied_nodes (the.Line x) ++ ns) (ties_stay es)
ties_stay ((n, the.Transformer x) ∷ es) = ap (λ (ns : List (List NodeName)). tied_nodes (the.Transformer x) ++ ns) (ties_stay es)
ties_stay ((n, the.Capacitor x) ∷ es) = ties_stay es
ties_stay ((n, the.Load x) ∷ es) = ties_stay es
ties_stay ((n, the.RegControl x) ∷ es) = ties_stay es
ties_stay ((n, the.CapControl x) ∷ es) = ties_stay es
ties_stay ((n, the.Loadshape x) ∷ es) = ties_stay es

module _ (es : Elements) (bus : List ℕ) (kind : Kind) (k : ℕ) where
  abbrev last : Elements
  last = fault_entry bus kind k ∷ []

  abbrev new : Elements
  new = fault_elements es bus kind k

  fed_still : (node : NodeName) → Fed es node → Fed new node
  fed_still _ (by_source node c) =
      by_source node
      (subst (λ (ns : List NodeName). Contains ns node) (sym (flat_map-append (λ e. source_nodes e.1) (stripped es) last))
      (Contains-append_left (flat_map (λ e. source_nodes e.1) (stripped es)) (flat_map (λ e. source_nodes e.1) last) node
      (subst (λ (ns : List NodeName). Contains ns node) (sym (source_nodes_stay es)) c)))
  fed_still _ (by_tie group from node c f t fed) =
      by_tie group from node
      (subst (λ (ns : List (List NodeName)). Contains ns group) (sym (flat_map-append (λ e. tied_nodes e.1) (stripped es) last))
      (Contains-append_left (flat_map (λ e. tied_nodes e.1) (stripped es)) (flat_map (λ e. tied_nodes e.1) last) group
      (subst (λ (ns : List (List NodeName)). Contains ns group) (sym (ties_stay es)) c)))
      f t (fed_still from fed)

  -- a node that isn't missing is fed
  there_fed : FirstIsolated es None → (number : ℕ) → is_missing (circuit_nodes es) bus number ≡ false
      → Fed new (record { bus = bus; number = number })
  there_fed all number t =
      let name : NodeName = record { bus = bus; number = number } in
      of_among (Fed new) (circuit_nodes es) name
      (of_nodes (Fed new) es (All-weaker (IsFed es) (λ e. All (Fed new) (mentions e.1))
      (λ e h. All-weaker (Fed es) (Fed new) fed_still (mentions e.1) h) es all))
      (found (list_any (same_node name) (circuit_nodes es)) t)
    where
      found : (b : Bool) → not b ≡ false → b ≡ true
      found true h = refl
      found false h = cc h

  -- none of these numbers is missing
  none_missing : (nodes : List NodeName) (numbers : List ℕ) → missing_in nodes bus numbers ≡ None
      → All (λ n. is_missing nodes bus n ≡ false) numbers
  none_missing nodes [] h = All-nil (λ m. is_missing nodes bus m ≡ false)
  none_missing nodes (n ∷ ns) h = by (is_missing nodes bus n) refl h (none_missing nodes ns)
    where
      by : (b : Bool) → is_missing nodes bus n ≡ b → (if b then Some n else missing_in nodes bus ns) ≡ None
          → (missing_in nodes bus ns ≡ None → All (λ m. is_missing nodes bus m ≡ false) ns)
          → All (λ m. is_missing nodes bus m ≡ false) (n ∷ ns)
      by true t e rest = cc e
      by false t e rest = All-cons (λ m. is_missing nodes bus m ≡ false) n ns t (rest e)

  abbrev IsThere : ℕ → Type 0
  IsThere n = is_missing (circuit_nodes es) bus n ≡ false

  one_fed : FirstIsolated es None → (n : ℕ) → All IsThere (n ∷ []) → All (Fed new) (record { bus = bus; number = n } ∷ [])
  one_fed all n h =
      All-cons (Fed new) (record { bus = bus; number = n }) [] (there_fed all n (All-head IsThere n [] h)) (All-nil (Fed new))

-- the nodes of the line are fed
line_fed : (es : Elements) (bus : List ℕ) (kind : Kind) (k : ℕ) → FirstIsolated es None → first_missing es bus kind ≡ None
    → IsFed (fault_elements es bus kind k) (fault_entry bus kind k)
line_fed es bus kind.Lll k all h =
    let P = IsThere es bus kind.Lll k in
    let F = Fed (fault_elements es bus kind.Lll k) in
    let numbers = none_missing es bus kind.Lll k (circuit_nodes es) (1 ∷ 2 ∷ 3 ∷ []) h in
    let fed = there_fed es bus kind.Lll k all in
    let later = All-tail P 1 (2 ∷ 3 ∷ []) numbers in
    All-cons F (record { bus = bus; number = 1 }) (record { bus = bus; number = 2 } ∷ record { bus = bus; number = 3 } ∷ [])
    (fed 1 (All-head P 1 (2 ∷ 3 ∷ []) numbers))
    (All-cons F (record { bus = bus; number = 2 }) (record { bus = bus; number = 3 } ∷ []) (fed 2 (All-head P 2 (3 ∷ []) later))
    (one_fed es bus kind.Lll k all 3 (All-tail P 2 (3 ∷ []) later)))
line_fed es bus kind.Lg1 k all h = one_fed es bus kind.Lg1 k all 1 (none_missing es bus kind.Lg1 k (circuit_nodes es) (1 ∷ []) h)
line_fed es bus kind.Lg2 k all h = one_fed es bus kind.Lg2 k all 2 (none_missing es bus kind.Lg2 k (circuit_nodes es) (2 ∷ []) h)
line_fed es bus kind.Lg3 k all h = one_fed es bus kind.Lg3 k all 3 (none_missing es bus kind.Lg3 k (circuit_nodes es) (3 ∷ []) h)

pub fault_passed : PassedLaw
fault_passed c bus kind k h there few =
    let es = c.elements in
    let new = fault_elements es bus kind k in
    let kept : All (IsFed new) es =
    All-weaker (IsFed es) (IsFed new) (λ e fed. All-weaker (Fed es) (Fed new) (fed_still es bus kind k) (mentions e.1) fed) es h.all_fed in
    record {
      no_own = first_still c.options.defaultbasefrequency es bus kind k [] [] es h.no_own;
      not_many = few;
      all_fed =
          joined (IsFed new) (stripped es) (fault_entry bus kind k ∷ [])
          (All-filter (λ e. stays e.1) (IsFed new) es kept)
          (All-cons (IsFed new) (fault_entry bus kind k) [] (line_fed es bus kind k h.all_fed there) (All-nil (IsFed new)));
    }

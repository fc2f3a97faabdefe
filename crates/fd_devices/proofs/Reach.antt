-- What a device adds stands at places that it can reach.
use Rattle.std.proofs.Common.{ℕ, zero, suc, ◌+◌, ◌*◌, ◌%◌, ◌<◌, ◌^◌, ℤ, pos, negsuc, neg_ℤ, ◌*ℤ◌, Bool, true, false, cond, List, [], ◌∷◌, ◌++◌, map, arith, sym, subst, inl, inr}
use Rattle.std.specs.List.{All, Contains, flat_map}
use Rattle.std.specs.Ordering.{int_eq}
use Rattle.std.proofs.lemmas.Bool.{cases_eq}
use Rattle.std.proofs.lemmas.List.{get_or_default}
use Rattle.std.proofs.lemmas.List.Elements.{All-append, All-cons, All-head, All-nil, All-tail, All-weaker, Contains-append_left, Contains-append_right}
use Rattle.dss_layout.specs.fd_arith.declared.terms.Term.{Term}
use Rattle.dss_layout.specs.fd_arith.declared.terms.Ends.{Ends}
use Rattle.dss_layout.specs.fd_arith.declared.terms.NodeAt.{NodeAt}
use Rattle.dss_layout.specs.fd_arith.declared.terms.NodeAt.TheVariants.{Ground, Node}
use Rattle.dss_layout.specs.fd_arith.LoadModels.{is_linear}
use Rattle.fd_xfmr.specs.fd_system.declared.loads.LoadAt.{LoadAt}
use Rattle.fd_xfmr.specs.fd_system.declared.terminals.PhasePairs.{PhasePairs}
use Rattle.fd_xfmr.specs.fd_system.declared.terminals.PhasePairs.TheVariants as pairs
use Rattle.fd_xfmr.specs.fd_system.Contributions.{concat_below, one, shunt_list, complex_terms}
use Rattle.fd_xfmr.specs.fd_system.Loads.{impedance_list, linear_list}
use Rattle.fd_xfmr.specs.fd_system.Terminals.{branch_of, node_of, pairs_of, second_node}
use Rattle.fd_xfmr.specs.declared.data.XfmrData.{XfmrData}
use Rattle.fd_xfmr.specs.declared.leakage.Coefficients.{Coefficients}
use Rattle.fd_xfmr.specs.declared.terms.PhaseAt.{PhaseAt}
use Rattle.fd_xfmr.specs.Windings.{first_pairs, second_pairs}
use Rattle.fd_xfmr.specs.Leakage.{coefficients_of}
use Rattle.fd_xfmr.specs.Transformer.{branch_list, current_list, list_at, phase_at, phase_list}
use Rattle.fd_cap.specs.declared.data.CapData.{CapData}
use Rattle.fd_cap.specs.Capacitor.{cap_list, cap_pair, cap_power, list_at as cap_list_at, volts_squared}
use Rattle.fd_pattern.specs.PatternPlaces.{cross, load_places, magnitude_places, node_places, place_of, places_of, terminal_places}
use Rattle.fd_devices.specs.Devices.{capacitor, line, loads, other, source, transformer}
use Rattle.fd_devices.specs.Reach.{ReachLaw, branch_places, unknowns_of}

-- ---- what is among a list

among_left : {X : Type 0} (xs ys : List X) → All (Contains (xs ++ ys)) xs
among_left xs ys k d l = Contains-append_left xs ys _ (k, l, get_or_default xs k _ d l)

among_right : {X : Type 0} (xs ys : List X) → All (Contains (xs ++ ys)) ys
among_right xs ys k d l = Contains-append_right xs ys _ (k, l, get_or_default ys k _ d l)

All-left : {X : Type 0} (P : X → Type 0) (xs ys : List X) → All P (xs ++ ys) → All P xs
All-left P [] ys h = All-nil P
All-left P (x ∷ xs) ys h = All-cons P x xs (All-head P x (xs ++ ys) h) (All-left P xs ys (All-tail P x (xs ++ ys) h))

All-right : {X : Type 0} (P : X → Type 0) (xs ys : List X) → All P (xs ++ ys) → All P ys
All-right P [] ys h = h
All-right P (x ∷ xs) ys h = All-right P xs ys (All-tail P x (xs ++ ys) h)

-- ---- unknowns

abbrev Holds : List ℕ → NodeAt → Type 0
Holds at node = All (Contains at) (node_places node)

holds_left : (at more : List ℕ) (node : NodeAt) → Holds at node → Holds (at ++ more) node
holds_left at more node h = All-weaker (Contains at) (Contains (at ++ more)) (λ x c. Contains-append_left at more x c) (node_places node) h

holds_right : (before at : List ℕ) (node : NodeAt) → Holds at node → Holds (before ++ at) node
holds_right before at node h = All-weaker (Contains at) (Contains (before ++ at)) (λ x c. Contains-append_right before at x c) (node_places node) h

node_held : (ns : List NodeAt) (k : ℕ) → Holds (unknowns_of ns) (node_of ns k)
node_held [] k = All-nil (Contains [])
node_held (n ∷ ns) zero = among_left (node_places n) (unknowns_of ns)
node_held (n ∷ ns) (suc k) = holds_right (node_places n) (unknowns_of ns) (node_of ns k) (node_held ns k)

second_held : (p : PhasePairs) (ns : List NodeAt) (k : ℕ) → Holds (unknowns_of ns) (second_node p ns k)
second_held pairs.OnePhase ns k = node_held ns 1
second_held pairs.Wye ns k = All-nil (Contains (unknowns_of ns))
second_held pairs.DeltaNext ns k = node_held ns ((k + 1) % 3)
second_held pairs.DeltaPrevious ns k = node_held ns ((k + 2) % 3)

branch_held : (branch m k : ℕ) → k < m → Holds (branch_places branch m) (branch_of branch k)
branch_held branch zero k l = absurd (omega arith)
branch_held branch (suc m) k l = elim (cases_eq k m) [
  | inl e ↦ subst (λ j. Holds (branch_places branch m ++ node_places (branch_of branch m)) (branch_of branch j))
      (sym e) (among_right (branch_places branch m) (node_places (branch_of branch m)))
  | inr ne ↦ holds_left (branch_places branch m) (node_places (branch_of branch m)) (branch_of branch k) (branch_held branch m k (omega arith))
]

-- ---- crossings

row_has : (row : ℕ) (cols : List ℕ) (col : ℕ) → Contains cols col → Contains {X = ℕ × ℕ} (map (λ c. (row, c)) cols) (row, col)
row_has row [] col (k, l, e) = absurd (omega arith)
row_has row (a ∷ cols) col (zero, l, e) = (0, omega arith, λ i. (row, e i))
row_has row (a ∷ cols) col (suc k, l, e) =
    let there : Contains cols col = (k, omega arith, e) in
    let (j, m, f) = row_has row cols col there in
    (suc j, omega arith, f)

cross_has : (rows cols : List ℕ) (row col : ℕ) → Contains rows row → Contains cols col → Contains {X = ℕ × ℕ} (cross rows cols) (row, col)
cross_has [] cols row col (k, l, e) has = absurd (omega arith)
cross_has (r ∷ rows) cols row col (zero, l, e) has =
    subst (λ q. Contains {X = ℕ × ℕ} (map (λ c. (r, c)) cols ++ cross rows cols) (q, col)) e
    (Contains-append_left (map (λ c. (r, c)) cols) (cross rows cols) (r, col) (row_has r cols col has))
cross_has (r ∷ rows) cols row col (suc k, l, e) has =
    Contains-append_right (map (λ c. (r, c)) cols) (cross rows cols) (row, col)
    (let there : Contains rows row = (k, omega arith, e) in cross_has rows cols row col there has)

module _ (ps : List (ℕ × ℕ)) where
  abbrev Stands : Term → Type 0
  Stands t = Contains ps (place_of t)

  held : (xs : List (ℕ × ℕ)) (p : ℕ × ℕ) → All (Contains ps) xs → Contains xs p → Contains ps p
  held xs p h (k, l, e) = subst (Contains ps) e (h k p l)

  one_stands : (row col : ℕ) (a d : ℤ) → Contains ps (row, col) → All Stands (one row col a d)
  one_stands row col a d h = by_test (int_eq a (pos 0))
    where
      by_test : (b : Bool) → All Stands (cond b [] (record { row = row; col = col; num = a; den = d } ∷ []))
      by_test true = All-nil Stands
      by_test false = All-cons Stands (record { row = row; col = col; num = a; den = d }) [] h (All-nil Stands)

  module _ (rows cols : List ℕ) (reach : All (Contains ps) (cross rows cols)) where
    at_place : (row col : ℕ) → Contains rows row → Contains cols col → Contains ps (row, col)
    at_place row col h k = held (cross rows cols) (row, col) reach (cross_has rows cols row col h k)

    complex_stands : (r c : NodeAt) (a b d : ℤ) → Holds rows r → Holds cols c → All Stands (complex_terms r c a b d)
    complex_stands (Node r) (Node c) a b d h k =
        let r0 = All-head (Contains rows) (2 * r) ((2 * r + 1) ∷ []) h in
        let r1 = All-head (Contains rows) (2 * r + 1) [] (All-tail (Contains rows) (2 * r) ((2 * r + 1) ∷ []) h) in
        let c0 = All-head (Contains cols) (2 * c) ((2 * c + 1) ∷ []) k in
        let c1 = All-head (Contains cols) (2 * c + 1) [] (All-tail (Contains cols) (2 * c) ((2 * c + 1) ∷ []) k) in
        All-append Stands (one (2 * r) (2 * c) a d) _
        (one_stands (2 * r) (2 * c) a d (at_place (2 * r) (2 * c) r0 c0))
        (All-append Stands (one (2 * r) (2 * c + 1) (neg_ℤ b) d) _
        (one_stands (2 * r) (2 * c + 1) (neg_ℤ b) d (at_place (2 * r) (2 * c + 1) r0 c1))
        (All-append Stands (one (2 * r + 1) (2 * c) b d) (one (2 * r + 1) (2 * c + 1) a d)
        (one_stands (2 * r + 1) (2 * c) b d (at_place (2 * r + 1) (2 * c) r1 c0))
        (one_stands (2 * r + 1) (2 * c + 1) a d (at_place (2 * r + 1) (2 * c + 1) r1 c1))))
    complex_stands (Node r) Ground a b d h k = All-nil Stands
    complex_stands Ground c a b d h k = All-nil Stands

  concat_stands : (f : ℕ → List Term) (m : ℕ) → ((k : ℕ) → k < m → All Stands (f k)) → All Stands (concat_below f m)
  concat_stands f zero h = All-nil Stands
  concat_stands f (suc m) h = All-append Stands (concat_below f m) (f m) (concat_stands f m (λ k l. h k (omega arith))) (h m (omega arith))

  shunt_stands : (at : List ℕ) (first second : NodeAt) (a b d : ℤ) → All (Contains ps) (cross at at) → Holds at first
      → Holds at second → All Stands (shunt_list first second a b d)
  shunt_stands at first second a b d reach f s =
      All-append Stands (complex_terms first first a b d ++ complex_terms first second (neg_ℤ a) (neg_ℤ b) d) _
      (All-append Stands (complex_terms first first a b d) (complex_terms first second (neg_ℤ a) (neg_ℤ b) d)
      (complex_stands at at reach first first a b d f f)
      (complex_stands at at reach first second (neg_ℤ a) (neg_ℤ b) d f s))
      (All-append Stands (complex_terms second first (neg_ℤ a) (neg_ℤ b) d) (complex_terms second second a b d)
      (complex_stands at at reach second first (neg_ℤ a) (neg_ℤ b) d s f)
      (complex_stands at at reach second second a b d s s))

  -- ---- a transformer

  module _ (nodes branches : List ℕ) (bn : All (Contains ps) (cross branches nodes))
      (nb : All (Contains ps) (cross nodes branches)) (bb : All (Contains ps) (cross branches branches)) where
    phase_stands : (c : Coefficients) (p : PhaseAt) → Holds branches p.branch → Holds nodes p.winding1.first
        → Holds nodes p.winding1.second → Holds nodes p.winding2.first → Holds nodes p.winding2.second
        → All Stands (phase_list c p)
    phase_stands c p b f1 s1 f2 s2 =
        All-append Stands (branch_list c p) (current_list c p) (All-append
        Stands _ (complex_terms p.branch p.branch (neg_ℤ c.r) (neg_ℤ c.x) (pos (10 ^ 22))) (All-append Stands _ _
        (All-append Stands (complex_terms p.branch p.winding1.first c.ratio (pos 0) c.ratio_over)
        (complex_terms p.branch p.winding1.second (neg_ℤ c.ratio) (pos 0) c.ratio_over)
        (complex_stands branches nodes bn p.branch p.winding1.first c.ratio (pos 0) c.ratio_over b f1)
        (complex_stands branches nodes bn p.branch p.winding1.second (neg_ℤ c.ratio) (pos 0) c.ratio_over b s1))
        (All-append Stands (complex_terms p.branch p.winding2.first (negsuc 0) (pos 0) (pos 1))
        (complex_terms p.branch p.winding2.second (pos 1) (pos 0) (pos 1))
        (complex_stands branches nodes bn p.branch p.winding2.first (negsuc 0) (pos 0) (pos 1) b f2)
        (complex_stands branches nodes bn p.branch p.winding2.second (pos 1) (pos 0) (pos 1) b s2)))
        (complex_stands branches branches bb p.branch p.branch (neg_ℤ c.r) (neg_ℤ c.x) (pos (10 ^ 22)) b b))
        (All-append Stands (complex_terms p.winding1.first p.branch c.ratio (pos 0) c.ratio_over) _
        (complex_stands nodes branches nb p.winding1.first p.branch c.ratio (pos 0) c.ratio_over f1 b)
        (All-append Stands (complex_terms p.winding1.second p.branch (neg_ℤ c.ratio) (pos 0) c.ratio_over) _
        (complex_stands nodes branches nb p.winding1.second p.branch (neg_ℤ c.ratio) (pos 0) c.ratio_over s1 b)
        (All-append Stands (complex_terms p.winding2.first p.branch (negsuc 0) (pos 0) (pos 1))
        (complex_terms p.winding2.second p.branch (pos 1) (pos 0) (pos 1))
        (complex_stands nodes branches nb p.winding2.first p.branch (negsuc 0) (pos 0) (pos 1) f2 b)
        (complex_stands nodes branches nb p.winding2.second p.branch (pos 1) (pos 0) (pos 1) s2 b))))

  xfmr_stands : (d : XfmrData) (c : Coefficients) (at : Ends)
      → (let nodes = unknowns_of at.first ++ unknowns_of at.second in
      let branches = branch_places at.branch d.phases in
      All (Contains ps) (cross branches nodes ++ (cross nodes branches ++ cross branches branches)))
      → All Stands (concat_below (list_at c d at) d.phases)
  xfmr_stands d c at h =
      let one = unknowns_of at.first in
      let two = unknowns_of at.second in
      let nodes = one ++ two in
      let branches = branch_places at.branch d.phases in
      let rest = All-right (Contains ps) (cross branches nodes) (cross nodes branches ++ cross branches branches) h in
      concat_stands (list_at c d at) d.phases (λ k l.
      phase_stands nodes branches
      (All-left (Contains ps) (cross branches nodes) (cross nodes branches ++ cross branches branches) h)
      (All-left (Contains ps) (cross nodes branches) (cross branches branches) rest)
      (All-right (Contains ps) (cross nodes branches) (cross branches branches) rest) c (phase_at d at k)
      (branch_held at.branch d.phases k l) (holds_left one two (node_of at.first k) (node_held at.first k))
      (holds_left one two (second_node (first_pairs d) at.first k) (second_held (first_pairs d) at.first k))
      (holds_right one two (node_of at.second k) (node_held at.second k))
      (holds_right one two (second_node (second_pairs d) at.second k) (second_held (second_pairs d) at.second k)))

  -- ---- a capacitor bank

  cap_stands : (d : CapData) (closed : Bool) (at : Ends)
      → All (Contains ps) (cross (unknowns_of at.first) (unknowns_of at.first)) → All Stands (cap_list d closed at)
  cap_stands d true at h =
      concat_stands (cap_list_at d at) d.phases (λ k l.
      shunt_stands (unknowns_of at.first) (cap_pair d at k).first (cap_pair d at k).second (pos 0) (cap_power d)
      (pos (volts_squared d)) h (node_held at.first k) (second_held (pairs_of d.phases d.conn) at.first k))
  cap_stands d false at h = All-nil Stands

  -- ---- part loads

  load_stands : (u : LoadAt) → All (Contains ps) (load_places u) → All Stands (linear_list u)
  load_stands u h = by_model (is_linear u.load.model)
    where
      by_model : (b : Bool) → All Stands (cond b (impedance_list u) [])
      by_model true =
          shunt_stands (terminal_places u) u.first u.second (pos (10 ^ 9) *ℤ u.load.p)
          (neg_ℤ (pos (10 ^ 9) *ℤ u.load.q)) (u.load.vn *ℤ u.load.vn) h
          (holds_left (node_places u.first ++ node_places u.second) (magnitude_places u.magnitude) u.first
          (among_left (node_places u.first) (node_places u.second)))
          (holds_left (node_places u.first ++ node_places u.second) (magnitude_places u.magnitude) u.second
          (among_right (node_places u.first) (node_places u.second)))
      by_model false = All-nil Stands

  loads_stand : (us : List LoadAt) → All (Contains ps) (flat_map load_places us) → All Stands (flat_map linear_list us)
  loads_stand [] h = All-nil Stands
  loads_stand (u ∷ us) h =
      All-append Stands (linear_list u) (flat_map linear_list us)
      (load_stands u (All-left (Contains ps) (load_places u) (flat_map load_places us) h))
      (loads_stand us (All-right (Contains ps) (load_places u) (flat_map load_places us) h))

  -- ---- devices

  all_places : (ts : List Term) → All Stands ts → All (Contains ps) (map place_of ts)
  all_places [] h = All-nil (Contains ps)
  all_places (t ∷ ts) h = All-cons (Contains ps) (place_of t) (map place_of ts) (All-head Stands t ts h) (all_places ts (All-tail Stands t ts h))

  no_loads : (ts : List Term) → All (Contains ps) (map place_of ts) → All (Contains ps) (places_of ts [])
  no_loads ts h = All-append (Contains ps) (map place_of ts) [] h (All-nil (Contains ps))

pub reach : ReachLaw
reach ps (source s at) h = no_loads ps _ h
reach ps (line l at) h = no_loads ps _ h
reach ps (transformer d taps at) h = no_loads ps _ (all_places ps _ (xfmr_stands ps d (coefficients_of d taps) at h))
reach ps (capacitor d closed at) h = no_loads ps _ (all_places ps _ (cap_stands ps d closed at h))
reach ps (loads us) h = All-append (Contains ps) (map place_of (flat_map linear_list us)) (flat_map load_places us) (all_places ps _ (loads_stand ps us h)) h
reach ps other h = All-nil (Contains ps)

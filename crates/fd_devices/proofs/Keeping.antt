-- What is kept of an element is the same at all its settings.
use Rattle.std.proofs.Common.{◌≡◌, ◌∙◌, ℕ, zero, suc, ◌+◌, ◌*◌, ◌<◌, ◌≤◌, false, inl, inr, List, [], ◌∷◌, ◌++◌, length, map, Option, Some, None, arith, ap, refl, sym, subst}
use Rattle.std.specs.List.{All, flat_map}
use Rattle.std.proofs.lemmas.List.Elements.{All-nil, All-cons, All-append, All-head, All-tail, All-weaker}
use Rattle.dss_layout.specs.dss_model.Ranges.{IsOneOf}
use Rattle.dss_layout.specs.dss_model.InRange.{ElementInRange}
use Rattle.dss_layout.specs.dss_model.declared.element.Element.{Element}
use Rattle.dss_layout.specs.dss_model.declared.element.Element.TheVariants as the
use Rattle.dss_layout.specs.Limits.{most_complex}
use Rattle.dss_layout.specs.Layout.{LayoutView, branch_phases, complex_count, ends_of, first_magnitude, size_of}
use Rattle.dss_layout.specs.fd_arith.declared.terms.Term.{Term}
use Rattle.dss_layout.specs.fd_arith.declared.terms.Ends.{Ends}
use Rattle.dss_layout.specs.fd_arith.declared.terms.NodeAt.{NodeAt}
use Rattle.dss_layout.specs.fd_arith.declared.terms.NodeAt.TheVariants.{Ground, Node}
use Rattle.fd_xfmr.specs.fd_system.Contributions.{IsSmall, concat_below}
use Rattle.fd_xfmr.specs.fd_system.Terminals.{branch_of}
use Rattle.dss_layout.specs.fd_arith.declared.terms.LoadModel.{LoadModel}
use Rattle.fd_xfmr.specs.fd_system.declared.loads.LoadAt.{LoadAt}
use Rattle.fd_xfmr.specs.fd_system.declared.stamps.Stamp.{Stamp}
use Rattle.fd_xfmr.specs.fd_system.System.{StampView}
use Rattle.fd_pattern.specs.Conditions.{HasMagnitude, IsAmong, IsServed}
use Rattle.fd_pattern.specs.PatternPlaces.{cross, load_places, magnitude_places, node_places, place_of, terminal_places}
use Rattle.fd_pattern.specs.Patterns.{IsInside}
use Rattle.fd_pattern.proofs.CallerLemmas.{cross_inside}
use Rattle.fd_devices.specs.Building.{IsInside as IsTermInside, IsSettled}
use Rattle.dss_layout.specs.dss_model.declared.transformer.Transformer.{Transformer}
use Rattle.dss_layout.specs.dss_model.declared.capacitor.Capacitor.{Capacitor}
use Rattle.dss_layout.specs.dss_model.declared.load.Load.{Load}
use Rattle.fd_devices.specs.Devices.{device_stamp}
use Rattle.fd_devices.specs.declared.kept.Kept.{Kept}
use Rattle.fd_devices.specs.Kept.{AreFewOf, AreSmallEnds, IsKeptOf, is_moved, reach_of}
use Rattle.fd_devices.specs.Reach.{branch_places, device_places, unknowns_of}
use Rattle.fd_devices.specs.Scripted.{device_of}
use Rattle.fd_devices.specs.Settings.{Settings}
use Rattle.fd_devices.specs.Sound.{IsSited}
use Rattle.fd_devices.proofs.PartLoads.{same_reach}

-- ---- without settings

-- the device of an element without settings is the same at all
pub same_device : (layout : LayoutView) (hertz place : ℕ) (e : Element) (s t : Settings) → is_moved e ≡ false
    → device_of layout hertz place e s ≡ device_of layout hertz place e t
same_device layout hertz place (the.Transformer x) s t h = cc
same_device layout hertz place (the.Capacitor c) s t h = cc
same_device layout hertz place (the.Load l) s t h = cc
same_device layout hertz place e s t h = refl

-- ---- places

-- a device reaches the same places at all settings
pub same_places : (layout : LayoutView) (hertz place : ℕ) (e : Element) (s t : Settings)
    → device_places (device_of layout hertz place e s) ≡ device_places (device_of layout hertz place e t)
same_places layout hertz place (the.Load l) s t =
    same_reach l (ends_of layout place (the.Load l)).first (first_magnitude layout place) s.powers t.powers
same_places layout hertz place e s t = refl

reached : (layout : LayoutView) (hertz place : ℕ) (e : Element) (s : Settings)
    → reach_of e (ends_of layout place e) (device_stamp (device_of layout hertz place e s))
    ≡ device_places (device_of layout hertz place e s)
reached layout hertz place (the.Transformer x) s = refl
reached layout hertz place (the.Capacitor c) s = refl
reached layout hertz place (the.Load l) s = refl
reached layout hertz place e s = refl

-- what is read off the ends and the stamp of an element is what its device reaches
pub reach_is : (layout : LayoutView) (hertz place : ℕ) (e : Element) (s : Settings) (at : Ends) (a : StampView)
    → at ≡ ends_of layout place e → a ≡ device_stamp (device_of layout hertz place e s)
    → reach_of e at a ≡ device_places (device_of layout hertz place e s)
reach_is layout hertz place e s at a p q = (λ i. reach_of e (p i) (q i)) ∙ reached layout hertz place e s

-- ---- places are among the rows and columns

module _ (size : ℕ) where
  abbrev IsUnknown : ℕ → Type 0
  IsUnknown l = l < size

  terms_inside : (n : ℕ) (ts : List Term) → 2 * n ≤ size → All (IsTermInside n) ts → All (IsInside size) (map place_of ts)
  terms_inside n [] few h = All-nil (IsInside size)
  terms_inside n (t ∷ ts) few h =
      let one = All-head (IsTermInside n) t ts h in
      let r = one.row in
      let c = one.col in
      All-cons (IsInside size) (place_of t) (map place_of ts) (record { row = omega arith; col = omega arith })
      (terms_inside n ts few (All-tail (IsTermInside n) t ts h))

  node_inside : (n : ℕ) (node : NodeAt) → 2 * n ≤ size → IsAmong n node → All IsUnknown (node_places node)
  node_inside n Ground few h = All-nil IsUnknown
  node_inside n (Node k) few h =
      All-cons IsUnknown (2 * k) ((2 * k + 1) ∷ []) (omega arith)
      (All-cons IsUnknown (2 * k + 1) [] (omega arith) (All-nil IsUnknown))

  nodes_inside : (n : ℕ) (ns : List NodeAt) → 2 * n ≤ size → All (IsAmong n) ns → All IsUnknown (unknowns_of ns)
  nodes_inside n [] few h = All-nil IsUnknown
  nodes_inside n (node ∷ ns) few h =
      All-append IsUnknown (node_places node) (unknowns_of ns)
      (node_inside n node few (All-head (IsAmong n) node ns h))
      (nodes_inside n ns few (All-tail (IsAmong n) node ns h))

  branches_inside : (n branch m : ℕ) → 2 * n ≤ size → branch + m ≤ n → All IsUnknown (branch_places branch m)
  branches_inside n branch zero few h = All-nil IsUnknown
  branches_inside n branch (suc m) few h =
      let low : branch + m < n = omega arith in
      All-append IsUnknown (branch_places branch m) (node_places (branch_of branch m))
      (branches_inside n branch m few (omega arith)) (node_inside n (branch_of branch m) few low)

  magnitude_inside : (n : ℕ) (model : LoadModel) (place : Option ℕ) → HasMagnitude n size model place → All IsUnknown (magnitude_places place)
  magnitude_inside n model None h = All-nil IsUnknown
  magnitude_inside n model (Some k) h = All-cons IsUnknown k [] h.1.1 (All-nil IsUnknown)

  loads_inside : (m n : ℕ) (us : List LoadAt) → 2 * m ≤ size → All (IsServed m n size) us → All (IsInside size) (flat_map load_places us)
  loads_inside m n [] few h = All-nil (IsInside size)
  loads_inside m n (u ∷ us) few h =
      let s = All-head (IsServed m n size) u us h in
      let at =
      All-append IsUnknown (node_places u.first ++ node_places u.second) (magnitude_places u.magnitude)
      (All-append IsUnknown (node_places u.first) (node_places u.second) (node_inside m u.first few s.first) (node_inside m u.second few s.second))
      (magnitude_inside n u.load.model u.magnitude s.magnitude) in
      All-append (IsInside size) (load_places u) (flat_map load_places us)
      (cross_inside size (terminal_places u) (terminal_places u) at at)
      (loads_inside m n us few (All-tail (IsServed m n size) u us h))

-- the places that the device of an element reaches are among the rows and columns
pub places_inside : (layout : LayoutView) (hertz place : ℕ) (e : Element) (s : Settings)
    → IsSited (length layout.nodes) (complex_count layout) (size_of layout) (first_magnitude layout place) (ends_of layout place e) e
    → IsSettled (length layout.nodes) (complex_count layout) (size_of layout) (branch_phases e) (device_of layout hertz place e s)
    → All (IsInside (size_of layout)) (device_places (device_of layout hertz place e s))
places_inside layout hertz place (the.Vsource v) s at h = terms_inside (size_of layout) (complex_count layout) _ (omega arith) h.bounded.terms.inside
places_inside layout hertz place (the.Line l) s at h = terms_inside (size_of layout) (complex_count layout) _ (omega arith) h.bounded.terms.inside
places_inside layout hertz place (the.Transformer x) s at h =
    let size = size_of layout in
    let n = complex_count layout in
    let m = length layout.nodes in
    let ends = ends_of layout place (the.Transformer x) in
    let one = nodes_inside size m ends.first (omega arith) at.0.below in
    let two = nodes_inside size m ends.second (omega arith) at.1.below in
    let nodes = All-append (IsUnknown size) (unknowns_of ends.first) (unknowns_of ends.second) one two in
    let branches = branches_inside size n ends.branch x.phases (omega arith) at.2.below in
    let us = unknowns_of ends.first ++ unknowns_of ends.second in
    let bs = branch_places ends.branch x.phases in
    All-append (IsInside size) (cross bs us) (cross us bs ++ cross bs bs) (cross_inside size bs us branches nodes)
    (All-append (IsInside size) (cross us bs) (cross bs bs) (cross_inside size us bs nodes branches) (cross_inside size bs bs branches branches))
places_inside layout hertz place (the.Capacitor c) s at h =
    let size = size_of layout in
    let ends = ends_of layout place (the.Capacitor c) in
    let one = nodes_inside size (length layout.nodes) ends.first (omega arith) at.below in
    cross_inside size (unknowns_of ends.first) (unknowns_of ends.first) one one
places_inside layout hertz place (the.Load l) s at h =
    loads_inside (size_of layout) (length layout.nodes) (complex_count layout) _ (omega arith) h.bounded.loads
places_inside layout hertz place e s at h = All-nil (IsInside (size_of layout))

-- ---- small numbers

among_small : (n : ℕ) (node : NodeAt) → n ≤ most_complex → IsAmong n node → IsSmall node
among_small n Ground few h = tt
among_small n (Node k) few h = omega arith

all_small : (n : ℕ) (ns : List NodeAt) → n ≤ most_complex → All (IsAmong n) ns → All IsSmall ns
all_small n ns few h = All-weaker (IsAmong n) IsSmall (λ node k. among_small n node few k) ns h

-- the ends of an element at its place are small
small_ends : (layout : LayoutView) (place : ℕ) (e : Element) → complex_count layout ≤ most_complex
    → IsSited (length layout.nodes) (complex_count layout) (size_of layout) (first_magnitude layout place)
    (ends_of layout place e) e
    → AreSmallEnds e (ends_of layout place e)
small_ends layout place (the.Transformer x) few h =
    let b = h.2.below in
    let ends = ends_of layout place (the.Transformer x) in
    ((all_small (length layout.nodes) ends.first (omega arith) h.0.below, all_small (length layout.nodes) ends.second (omega arith) h.1.below), omega arith)
small_ends layout place (the.Capacitor c) few h = all_small (length layout.nodes) (ends_of layout place (the.Capacitor c)).first (omega arith) h.below
small_ends layout place e few h = tt

pub small_ends_of : (layout : LayoutView) (place : ℕ) (e : Element) (at : Ends) → complex_count layout ≤ most_complex
    → IsSited (length layout.nodes) (complex_count layout) (size_of layout) (first_magnitude layout place)
    (ends_of layout place e) e
    → at ≡ ends_of layout place e → AreSmallEnds e at
small_ends_of layout place e at few h same = subst (AreSmallEnds e) (sym same) (small_ends layout place e few h)

-- part loads between nodes are small
pub first_small : (m n size : ℕ) (us : List LoadAt) → m ≤ most_complex → All (IsServed m n size) us → All (λ u. IsSmall u.first) us
first_small m n size us few h = All-weaker (IsServed m n size) (λ u. IsSmall u.first) (λ u s. among_small m u.first few s.first) us h

pub second_small : (m n size : ℕ) (us : List LoadAt) → m ≤ most_complex → All (IsServed m n size) us → All (λ u. IsSmall u.second) us
second_small m n size us few h = All-weaker (IsServed m n size) (λ u. IsSmall u.second) (λ u s. among_small m u.second few s.second) us h

-- few branches
pub few_branches : (e : Element) → ElementInRange e → branch_phases e ≤ 3
few_branches (the.Vsource v) h = few v.phases h.phases
  where
    few : (n : ℕ) → IsOneOf (1 ∷ 3 ∷ []) n → n ≤ 3
    few n (inl e) = omega arith
    few n (inr e) = omega arith
few_branches (the.Line l) h = let p = h.phases in omega (arith, p.least, p.most)
few_branches (the.Transformer x) h = few x.phases h.phases
  where
    few : (n : ℕ) → IsOneOf (1 ∷ 3 ∷ []) n → n ≤ 3
    few n (inl e) = omega arith
    few n (inr e) = omega arith
few_branches e h = omega arith

-- ---- few

pub fixed_few : (layout : LayoutView) (hertz place : ℕ) (e : Element) (s : Settings) → is_moved e ≡ false
    → IsSettled (length layout.nodes) (complex_count layout) (size_of layout) (branch_phases e)
    (device_of layout hertz place e s)
    → AreFewOf e (device_stamp (device_of layout hertz place e s))
fixed_few layout hertz place (the.Vsource v) s h k =
    let t = k.bounded.terms.few in
    let c = k.bounded.few_constants in
    record { terms = omega arith; loads = omega arith; constants = omega arith }
fixed_few layout hertz place (the.Line l) s h k = let t = k.bounded.terms.few in record { terms = omega arith; loads = omega arith; constants = omega arith }
fixed_few layout hertz place (the.Transformer x) s h k = cc
fixed_few layout hertz place (the.Capacitor c) s h k = cc
fixed_few layout hertz place (the.Load l) s h k = cc
fixed_few layout hertz place e s h k = record { terms = omega arith; loads = omega arith; constants = omega arith }

-- ---- what is kept, written again

pub unmoved : (e : Element) → ((t : Transformer) → ¬ (e ≡ the.Transformer t))
    → ((k : Capacitor) → ¬ (e ≡ the.Capacitor k)) → ((l : Load) → ¬ (e ≡ the.Load l)) → is_moved e ≡ false
unmoved (the.Transformer t) a b c = absurd (a t refl)
unmoved (the.Capacitor k) a b c = absurd (b k refl)
unmoved (the.Load l) a b c = absurd (c l refl)
unmoved e a b c = refl

-- a kept stamp is small
pub record IsSmallStamp (s : Stamp) : Type 0 where
  pub terms : length s.terms.items ≤ 256
  pub loads : length s.loads.items ≤ 9
  pub constants : length s.constants.items ≤ 6
  pub draw : s.draw ≤ 17_500_000_000_000

pub kept_small : (layout : LayoutView) (hertz place : ℕ) (e : Element) (s : Settings) (k : Kept)
    → IsKeptOf layout hertz place e k → is_moved e ≡ false → ElementInRange e → IsSmallStamp k.stamp
kept_small layout hertz place e s k h none range =
    let same = h.stamp none s in
    let b = (h.settled none s).bounded in
    let few = few_branches e range in
    let terms = ap (λ (a : StampView). length a.terms) same in
    let loads = ap (λ (a : StampView). length a.loads) same in
    let constants = ap (λ (a : StampView). length a.constants) same in
    let draw = ap (λ (a : StampView). a.draw) same in
    record {
      terms = omega (arith, terms, b.terms.few, few);
      loads = omega (arith, loads, b.few_loads);
      constants = omega (arith, constants, b.few_constants);
      draw = omega (arith, draw, b.draw);
    }

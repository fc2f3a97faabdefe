-- What elements add is written into lists with room for it, and stands at places that rows can hold.
use Rattle.std.proofs.Common.{◌≡◌, ◌∙◌, ℕ, zero, suc, ◌+◌, ◌*◌, ◌≤◌, List, [], ◌∷◌, ◌++◌, length, length-append, map, take, slice_get, Some, arith, ap, refl, sym, subst}
use Rattle.std.specs.List.{All, Contains, flat_map}
use Rattle.std.proofs.lemmas.List.{map-append}
use Rattle.std.proofs.lemmas.List.Concat.{flat_map-append}
use Rattle.std.proofs.lemmas.List.Elements.{All-nil, All-append}
use Rattle.fd_equations.specs.fd_exact.Sums.{list_n}
use Rattle.dss_ready.specs.dss_circuit.Limits.{most_elements}
use Rattle.dss_ready.specs.dss_model.declared.element.Element.{Element}
use Rattle.dss_ready.specs.dss_model.declared.names.ElementName.{ElementName}
use Rattle.dss_ready.specs.dss_layout.Limits.{most_complex, most_magnitudes}
use Rattle.dss_ready.specs.dss_layout.Layout.{Elements, LayoutView, branch_phases, complex_count, size_of}
use Rattle.dss_ready.proofs.CallerLemmas.dss_layout.{both_parts, take-more}
use Rattle.fd_devices.specs.fd_system.System.{StampView, beside}
use Rattle.fd_equations.specs.Amounts.{RowsView}
use Rattle.fd_equations.specs.fd_pattern.Conditions.{AreLinear}
use Rattle.fd_equations.specs.Holding.{CanHold}
use Rattle.fd_equations.specs.fd_pattern.PatternPlaces.{load_places, place_of, places_of}
use Rattle.fd_equations.specs.fd_pattern.Terminals.{IsConnected}
use Rattle.fd_equations.proofs.CallerLemmas.fd_pattern.{all_connected}
use Rattle.fd_devices.specs.Building.{AreCollected}
use Rattle.fd_devices.specs.Devices.{Device, device_stamp, stamp_of_all}
use Rattle.fd_devices.specs.Kept.{AreFewOf, most_constants, most_loads, most_terms}
use Rattle.fd_devices.specs.Reach.{ReachLaw, device_places}
use Rattle.fd_devices.specs.Scripted.{devices_from}
use Rattle.fd_devices.specs.Settings.{Settings, after, own}
use Rattle.fd_devices.proofs.CallerLemmas.{list_n-more, same_places}
use Rattle.fd_network.specs.Keeping.{Reaches}
use Rattle.fd_network.proofs.Assembling.{are_linear}

-- ---- room

-- the first of a list have no more than all
pub part_within : {A : Type 0} (f : A → ℕ) (xs : List A) (k : ℕ) → list_n f (take k xs) ≤ list_n f xs
part_within f [] zero = omega arith
part_within f [] (suc k) = omega arith
part_within f (x ∷ xs) zero = omega arith
part_within f (x ∷ xs) (suc k) = let h = part_within f xs k in omega arith

-- the first k elements add no more than they have at most
pub record IsFewFor (es : Elements) (k : ℕ) (a : StampView) : Type 0 where
  pub terms : length a.terms ≤ list_n (λ e. most_terms e.1) (take k es)
  pub loads : length a.loads ≤ list_n (λ e. most_loads e.1) (take k es)
  pub constants : length a.constants ≤ list_n (λ e. most_constants e.1) (take k es)

-- what one more element adds at most fits beside it
pub record LeavesRoom (es : Elements) (e : Element) (a : StampView) : Type 0 where
  pub terms : length a.terms + most_terms e ≤ list_n (λ x. most_terms x.1) es
  pub loads : length a.loads + most_loads e ≤ list_n (λ x. most_loads x.1) es
  pub constants : length a.constants + most_constants e ≤ list_n (λ x. most_constants x.1) es

module _ (es : Elements) (k : ℕ) (e : ElementName × Element) (here : slice_get es k ≡ Some e) where
  pub one_more : (f : ElementName × Element → ℕ) → list_n f (take (k + 1) es) ≡ list_n f (take k es) + f e
  one_more f = ap (list_n f) (take-more es k e here) ∙ list_n-more f (take k es) e

  pub room_left : (a : StampView) → IsFewFor es k a → LeavesRoom es e.1 a
  room_left a h = record {
    terms = omega (arith, h.terms, one_more (λ x. most_terms x.1), part_within (λ x. most_terms x.1) es (k + 1));
    loads = omega (arith, h.loads, one_more (λ x. most_loads x.1), part_within (λ x. most_loads x.1) es (k + 1));
    constants = omega (arith, h.constants, one_more (λ x. most_constants x.1), part_within (λ x. most_constants x.1) es (k + 1));
  }

  few_both : (a p : StampView) → IsFewFor es k a → AreFewOf e.1 p → IsFewFor es (k + 1) (beside a p)
  few_both a p h f = record {
    terms = omega (arith, h.terms, f.terms, one_more (λ x. most_terms x.1), length-append a.terms p.terms);
    loads = omega (arith, h.loads, f.loads, one_more (λ x. most_loads x.1), length-append a.loads p.loads);
    constants = omega (arith, h.constants, f.constants, one_more (λ x. most_constants x.1), length-append a.constants p.constants);
  }

  pub few_next : (a p b : StampView) → IsFewFor es k a → AreFewOf e.1 p → b ≡ beside a p → IsFewFor es (k + 1) b
  few_next a p b h f be = subst (IsFewFor es (k + 1)) (sym be) (few_both a p h f)

-- ---- places

module _ (ps : List (ℕ × ℕ)) (law : ReachLaw) where
  terms_reached : (ds : List Device) → All (Contains ps) (flat_map device_places ds)
      → All (Contains ps) (map place_of (flat_map (λ (s : StampView). s.terms) (map device_stamp ds)))
  terms_reached [] h = All-nil (Contains ps)
  terms_reached (d ∷ ds) h =
      let b = both_parts (Contains ps) (device_places d) (flat_map device_places ds) h in
      let mine = both_parts (Contains ps) (map place_of (device_stamp d).terms) (flat_map load_places (device_stamp d).loads) (law ps d b.0) in
      let rest = flat_map (λ (s : StampView). s.terms) (map device_stamp ds) in
      subst (All (Contains ps)) (sym (map-append place_of (device_stamp d).terms rest))
      (All-append (Contains ps) (map place_of (device_stamp d).terms) (map place_of rest) mine.0
      (terms_reached ds b.1))

  loads_reached : (ds : List Device) → All (Contains ps) (flat_map device_places ds)
      → All (Contains ps) (flat_map load_places (flat_map (λ (s : StampView). s.loads) (map device_stamp ds)))
  loads_reached [] h = All-nil (Contains ps)
  loads_reached (d ∷ ds) h =
      let b = both_parts (Contains ps) (device_places d) (flat_map device_places ds) h in
      let mine = both_parts (Contains ps) (map place_of (device_stamp d).terms) (flat_map load_places (device_stamp d).loads) (law ps d b.0) in
      let rest = flat_map (λ (s : StampView). s.loads) (map device_stamp ds) in
      subst (All (Contains ps)) (sym (flat_map-append load_places (device_stamp d).loads rest))
      (All-append (Contains ps) (flat_map load_places (device_stamp d).loads) (flat_map load_places rest) mine.1
      (loads_reached ds b.1))

  pub all_reached : (ds : List Device) → All (Contains ps) (flat_map device_places ds)
      → All (Contains ps) (places_of (stamp_of_all ds).terms (stamp_of_all ds).loads)
  all_reached ds h =
      All-append (Contains ps) (map place_of (stamp_of_all ds).terms) (flat_map load_places (stamp_of_all ds).loads)
      (terms_reached ds h) (loads_reached ds h)

-- the places don't depend on the settings
places_same : (layout : LayoutView) (hertz place : ℕ) (es : Elements) (s t : Settings)
    → flat_map device_places (devices_from layout hertz place es s)
    ≡ flat_map device_places (devices_from layout hertz place es t)
places_same layout hertz place [] s t = refl
places_same layout hertz place (e ∷ es) s t =
    let one = same_places layout hertz place e.1 (own e.1 s) (own e.1 t) in
    let rest = places_same layout hertz (place + 1) es (after e.1 s) (after e.1 t) in
    λ i. one i ++ rest i

pub reaches : (layout : LayoutView) (hertz : ℕ) (es : Elements) (s : Settings) (ps qs : List (ℕ × ℕ))
    → qs ≡ flat_map device_places (devices_from layout hertz 0 es s) → All (Contains ps) qs
    → Reaches layout hertz es ps
reaches layout hertz es s ps qs e h = λ t. subst (All (Contains ps)) (e ∙ places_same layout hertz 0 es s t) h

-- rows with these places can hold what is collected
pub can_hold : (layout : LayoutView) (es : Elements) (ds : List Device) (a : StampView) (v : RowsView)
    → v.size ≡ size_of layout → AreCollected (length layout.nodes) (complex_count layout) (size_of layout) es ds a
    → ReachLaw → All (Contains v.places) (flat_map device_places ds)
    → length es ≤ most_elements → list_n (λ e. branch_phases e.1) es ≤ most_complex
    → complex_count layout ≤ most_complex → length layout.magnitudes ≤ most_magnitudes → CanHold v a.terms a.loads
can_hold layout es ds a v size h law reach few branches complexes magnitudes =
    let b = h.bounded in
    record {
      linear = subst (λ n. AreLinear n a.terms) (sym size) (are_linear (complex_count layout) (size_of layout)
          (omega arith) (64 * (length es + list_n (λ e. branch_phases e.1) es)) a.terms (omega arith) b.terms);
      loads = subst (λ n. All (IsConnected n) a.loads) (sym size)
          (all_connected (length layout.nodes) (complex_count layout) (size_of layout) a.loads (omega arith)
          (omega arith) (omega arith) b.loads);
      few = omega (arith, b.few_loads, few);
      reached = subst (λ (x : StampView). All (Contains v.places) (places_of x.terms x.loads)) (sym h.stamp) (all_reached v.places law ds reach);
    }

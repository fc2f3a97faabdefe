-- The devices of a load and of an element at its place are settled.
use Rattle.std.proofs.Common.{◌≡◌, IsTrue, ◌∙◌, ℕ, zero, suc, ◌+◌, ◌*◌, ◌<◌, ◌≤◌, inl, inr, Bool, List, [], ◌∷◌, length, length-append, add-one, arith, ap, refl, sym, subst}
use Rattle.std.specs.List.{All}
use Rattle.std.proofs.lemmas.List.Elements.{All-nil, All-cons, All-append, All-weaker}
use Rattle.dss_layout.specs.fd_arith.declared.terms.NodeAt.{NodeAt}
use Rattle.dss_layout.specs.dss_model.LoadKinds.{has_magnitude}
use Rattle.dss_layout.specs.fd_arith.declared.terms.Ends.{Ends}
use Rattle.dss_layout.specs.fd_arith.declared.terms.TapPair.{TapPair}
use Rattle.fd_xfmr.specs.fd_system.Terminals.{node_count, pairs_of}
use Rattle.fd_elements.specs.Connections.{conn_of}
use Rattle.fd_elements.specs.declared.powers.LoadPower.{LoadPower}
use Rattle.fd_elements.specs.Lines.{line_data_of}
use Rattle.fd_pattern.specs.Conditions.{HasMagnitude, IsAmong}
use Rattle.fd_xfmr.specs.fd_system.Contributions.{concat_below}
use Rattle.dss_layout.specs.dss_model.Ranges.{IsOneOf}
use Rattle.dss_layout.specs.dss_model.InRange.{LoadInRange}
use Rattle.dss_layout.specs.dss_model.declared.element.Element.{Element}
use Rattle.dss_layout.specs.dss_model.declared.element.Element.TheVariants as the
use Rattle.dss_layout.specs.dss_model.declared.vsource.Vsource.{Vsource}
use Rattle.dss_layout.specs.dss_model.declared.line.Line.{Line}
use Rattle.dss_layout.specs.dss_model.declared.transformer.Transformer.{Transformer}
use Rattle.dss_layout.specs.dss_model.declared.capacitor.Capacitor.{Capacitor}
use Rattle.dss_layout.specs.dss_model.declared.load.Load.{Load}
use Rattle.dss_layout.specs.Layout.{LayoutView, branch_phases, complex_count, ends_of, first_magnitude, size_of}
use Rattle.fd_devices.specs.Data.{cap_data_of, xfmr_data_of}
use Rattle.fd_devices.specs.Devices.{source, line, transformer, capacitor, loads}
use Rattle.fd_devices.specs.Settings.{Settings}
use Rattle.fd_elements.specs.Sources.{source_data_of}
use Rattle.fd_devices.specs.Scripted.{device_of, first_state, first_taps, phases_of}
use Rattle.fd_devices.specs.Sound.{HasBranches, HasMagnitudes, IsSideOf, IsSited}
use Rattle.fd_devices.specs.Building.{DeviceFits, IsSettled, IsUsable}
use Rattle.fd_devices.proofs.Bounded.{among_more, loads_settled, other_settled}
use Rattle.fd_devices.proofs.PartLoads.{count_parts, few_phases, nine_parts, parts_few, parts_inside}

-- ---- loads

pub phases_settled : (load : Load) (ns : List NodeAt) (magnitude : ℕ) (powers : List LoadPower) → LoadInRange load
    → All IsUsable (phases_of load ns magnitude powers) → DeviceFits (loads (phases_of load ns magnitude powers))
    → (m n size : ℕ) → m ≤ n → IsSideOf m (node_count load.phases) ns
    → (IsTrue (has_magnitude load.model) → HasMagnitudes n size load.phases magnitude)
    → IsSettled m n size 0 (loads (phases_of load ns magnitude powers))
phases_settled load ns magnitude powers range usable fits m n size among side places =
    let few = nine_parts load.model load.phases range.phases in
    let count = count_parts load ns magnitude powers in
    let phases = few_phases load.phases range.phases in
    let terms = parts_few load ns magnitude powers m side.below in
    loads_settled m n size (phases_of load ns magnitude powers) among usable (omega arith) (omega arith)
    (parts_inside load ns magnitude powers m n size side.below places) fits

-- ---- elements at their places

-- a side at nodes is among the complex unknowns, of which the nodes come first
pub side_among : (m n count : ℕ) (ns : List NodeAt) → m ≤ n → IsSideOf m count ns → IsSideOf n count ns
side_among m n count ns h s = record { count = s.count; below = All-weaker (IsAmong m) (IsAmong n) (λ node k. among_more m n node h k) ns s.below }

module _ (layout : LayoutView) (hertz place : ℕ) (e : Element) (s : Settings) (at : Ends)
    (here : at ≡ ends_of layout place e) (sited : IsSited (length layout.nodes) (complex_count layout)
    (size_of layout) (first_magnitude layout place) (ends_of layout place e) e) where
  abbrev Settled : Element → Type 0
  Settled x = IsSettled (length layout.nodes) (complex_count layout) (size_of layout) (branch_phases x) (device_of layout hertz place x s)

  abbrev Stands : Ends → Element → Type 0
  Stands t x = IsSited (length layout.nodes) (complex_count layout) (size_of layout) (first_magnitude layout place) t x

  all_nodes : length layout.nodes ≤ complex_count layout
  all_nodes = omega arith

  abbrev widened : (count : ℕ) (ns : List NodeAt) → IsSideOf (length layout.nodes) count ns → IsSideOf (complex_count layout) count ns
  widened count ns s = side_among (length layout.nodes) (complex_count layout) count ns all_nodes s

  stands : Stands at e
  stands = subst (λ (t : Ends). Stands t e) (sym here) sited

  pub source_here : (v : Vsource) → e ≡ the.Vsource v
      → ((m n size : ℕ) → IsSideOf n v.phases at.first → HasBranches n v.phases at
      → IsSettled m n size v.phases (source (source_data_of v) at))
      → Settled e
  source_here v is h =
      let side = subst (λ (x : Element). Stands at x) is stands in
      let a = subst (λ (x : Element). at ≡ ends_of layout place x) is here in
      subst Settled (sym is) (subst (λ (t : Ends).
      IsSettled (length layout.nodes) (complex_count layout) (size_of layout) v.phases (source (source_data_of v) t))
      a (h (length layout.nodes) (complex_count layout) (size_of layout) (widened v.phases at.first side.0) side.1))

  pub line_here : (l : Line) → e ≡ the.Line l
      → ((m n size : ℕ) → IsSideOf n l.phases at.first → IsSideOf n l.phases at.second → HasBranches n l.phases at
      → IsSettled m n size l.phases (line (line_data_of l hertz) at))
      → Settled e
  line_here l is h =
      let side = subst (λ (x : Element). Stands at x) is stands in
      let a = subst (λ (x : Element). at ≡ ends_of layout place x) is here in
      subst Settled (sym is) (subst (λ (t : Ends).
      IsSettled (length layout.nodes) (complex_count layout) (size_of layout) l.phases
      (line (line_data_of l hertz) t)) a (h (length layout.nodes) (complex_count layout) (size_of layout)
      (widened l.phases at.first side.0) (widened l.phases at.second side.1) side.2))

  pub transformer_here : (t : Transformer) (taps : TapPair) → e ≡ the.Transformer t → taps ≡ first_taps s.taps
      → ((m n size : ℕ) → IsSideOf n (node_count t.phases) at.first → IsSideOf n (node_count t.phases) at.second
      → HasBranches n t.phases at → IsSettled m n size t.phases (transformer (xfmr_data_of t) taps at))
      → Settled e
  transformer_here t taps is own h =
      let side = subst (λ (x : Element). Stands at x) is stands in
      let a = subst (λ (x : Element). at ≡ ends_of layout place x) is here in
      subst Settled (sym is) (subst (λ (u : TapPair).
      IsSettled (length layout.nodes) (complex_count layout) (size_of layout) t.phases
      (transformer (xfmr_data_of t) u (ends_of layout place (the.Transformer t)))) own (subst (λ (u : Ends).
      IsSettled (length layout.nodes) (complex_count layout) (size_of layout) t.phases
      (transformer (xfmr_data_of t) taps u)) a (h (length layout.nodes) (complex_count layout) (size_of layout)
      (widened (node_count t.phases) at.first side.0) (widened (node_count t.phases) at.second side.1) side.2)))

  pub capacitor_here : (k : Capacitor) (closed : Bool) → e ≡ the.Capacitor k → closed ≡ first_state s.closed
      → ((m n size : ℕ) → IsSideOf n (node_count k.phases) at.first → IsSettled m n size 0 (capacitor (cap_data_of k) closed at)) → Settled e
  capacitor_here k closed is own h =
      let side = subst (λ (x : Element). Stands at x) is stands in
      let a = subst (λ (x : Element). at ≡ ends_of layout place x) is here in
      subst Settled (sym is) (subst (λ b.
      IsSettled (length layout.nodes) (complex_count layout) (size_of layout) 0
      (capacitor (cap_data_of k) b (ends_of layout place (the.Capacitor k)))) own (subst (λ (u : Ends).
      IsSettled (length layout.nodes) (complex_count layout) (size_of layout) 0 (capacitor (cap_data_of k) closed u))
      a (h (length layout.nodes) (complex_count layout) (size_of layout)
      (widened (node_count k.phases) at.first side))))

  -- the device of a load
  pub load_is : (l : Load) (nodes : List NodeAt) (magnitude : ℕ) → e ≡ the.Load l → nodes ≡ at.first
      → magnitude ≡ first_magnitude layout place
      → loads (phases_of l nodes magnitude s.powers) ≡ device_of layout hertz place e s
  load_is l nodes magnitude is ns m =
      let a = subst (λ (x : Element). at ≡ ends_of layout place x) is here in
      let nodes_are = ns ∙ ap (λ (t : Ends). t.first) a in
      (λ i. loads (phases_of l (nodes_are i) (m i) s.powers)) ∙ ap (λ (x : Element). device_of layout hertz place x s) (sym is)

  pub load_here : (l : Load) (nodes : List NodeAt) (magnitude : ℕ) → e ≡ the.Load l → nodes ≡ at.first
      → magnitude ≡ first_magnitude layout place
      → ((m n size : ℕ) → m ≤ n → IsSideOf m (node_count l.phases) nodes
      → (IsTrue (has_magnitude l.model) → HasMagnitudes n size l.phases magnitude)
      → IsSettled m n size 0 (loads (phases_of l nodes magnitude s.powers)))
      → Settled e
  load_here l nodes magnitude is ns m h =
      let side = subst (λ (x : Element). Stands at x) is stands in
      let a = subst (λ (x : Element). at ≡ ends_of layout place x) is here in
      let nodes_are = ns ∙ ap (λ (t : Ends). t.first) a in
      let places : IsTrue (has_magnitude l.model)
      → HasMagnitudes (complex_count layout) (size_of layout) l.phases magnitude =
      λ has. subst (HasMagnitudes (complex_count layout) (size_of layout) l.phases) (sym m) (side.1 has) in
      let settled = h (length layout.nodes) (complex_count layout) (size_of layout) all_nodes
      (subst (IsSideOf (length layout.nodes) (node_count l.phases)) (sym ns) side.0) places in
      subst Settled (sym is) (subst (λ k.
      IsSettled (length layout.nodes) (complex_count layout) (size_of layout) 0
      (loads (phases_of l (ends_of layout place (the.Load l)).first k s.powers))) m
      (subst (λ us. IsSettled (length layout.nodes) (complex_count layout) (size_of layout) 0
      (loads (phases_of l us magnitude s.powers))) nodes_are settled))

-- an element that takes no part in the equations
pub other_here : (layout : LayoutView) (hertz place : ℕ) (s : Settings) (e : Element)
    → ((v : Vsource) → ¬ (e ≡ the.Vsource v)) → ((l : Line) → ¬ (e ≡ the.Line l))
    → ((t : Transformer) → ¬ (e ≡ the.Transformer t))
    → ((k : Capacitor) → ¬ (e ≡ the.Capacitor k)) → ((l : Load) → ¬ (e ≡ the.Load l))
    → IsSettled (length layout.nodes) (complex_count layout) (size_of layout) (branch_phases e)
    (device_of layout hertz place e s)
other_here layout hertz place s (the.Vsource v) a b c d f = absurd (a v refl)
other_here layout hertz place s (the.Line l) a b c d f = absurd (b l refl)
other_here layout hertz place s (the.Transformer t) a b c d f = absurd (c t refl)
other_here layout hertz place s (the.Capacitor k) a b c d f = absurd (d k refl)
other_here layout hertz place s (the.Load l) a b c d f = absurd (f l refl)
other_here layout hertz place s e a b c d f = other_settled (length layout.nodes) (complex_count layout) (size_of layout)

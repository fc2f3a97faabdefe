-- What a circuit that passed the tests of Solve says of the elements that a control names.
use Rattle.std.proofs.Common.{take, ◌≡◌, ℕ, ◌<◌, ◌≤◌, ◌^◌, List, length, get_or, slice_get, Option, Some, None, refl, sym, ap, subst, ◌∙◌, arith}
use Rattle.std.specs.Prelude.{All, IfSome, IsSome}
use Rattle.std.specs.Option.{option_map}
use Rattle.std.proofs.lemmas.Option.{slice_get_within, get_or_from_slice_get}
use Rattle.fd_regctl.specs.fd_arith.declared.terms.Ends.{Ends}
use Rattle.fd_regctl.specs.fd_arith.declared.terms.NodeAt.{NodeAt}
use Rattle.fd_regctl.specs.fd_arith.declared.terms.NodeAt.TheVariants.{Ground, Node}
use Rattle.fd_network.specs.fd_system.Contributions.{IsSmall}
use Rattle.fd_network.specs.fd_system.Terminals.{node_count}
use Rattle.fd_network.specs.fd_pattern.Conditions.{IsAmong}
use Rattle.fd_network.specs.dss_model.Element.{class_of}
use Rattle.fd_network.specs.dss_model.InRange.{ElementInRange}
use Rattle.fd_network.specs.dss_model.declared.element.Element.{Element}
use Rattle.fd_network.specs.dss_model.declared.element.Element.TheVariants as the
use Rattle.fd_network.specs.dss_model.declared.capcontrol.CapControl.{CapControl}
use Rattle.fd_network.specs.dss_model.declared.line.Line.{Line}
use Rattle.fd_sample.specs.declared.probe.CapProbe.{CapProbe}
use Rattle.fd_network.specs.dss_model.declared.names.Class.{Class}
use Rattle.fd_network.specs.dss_model.declared.names.Class.TheVariants as class
use Rattle.fd_network.specs.dss_model.declared.names.ElementName.{ElementName}
use Rattle.fd_network.specs.dss_model.declared.regcontrol.RegControl.{RegControl}
use Rattle.fd_network.specs.dss_model.declared.transformer.Transformer.{Transformer}
use Rattle.fd_network.specs.dss_circuit.Circuit.{CircuitView}
use Rattle.fd_network.specs.dss_circuit.WellFormed.{IsEntry}
use Rattle.fd_network.proofs.CallerLemmas.dss_circuit.{found_class}
use Rattle.fd_network.specs.dss_layout.Layout.{Elements, LayoutView, branch_phases, complex_count, ends_of, layout_of, size_of}
use Rattle.fd_network.proofs.CallerLemmas.dss_layout.{length-sums_before}
use Rattle.fd_network.specs.dss_circuit.Lookups.{element_given}
use Rattle.fd_network.specs.dss_ready.Passed.{IsFit, IsPhaseOf}
use Rattle.fd_network.specs.dss_ready.Ready.{HasPassed}
use Rattle.fd_network.proofs.CallerLemmas.dss_ready.{passed}
use Rattle.fd_network.specs.fd_devices.Standing.{IsReadyAt}
use Rattle.fd_network.proofs.CallerLemmas.fd_devices.{side_among}
use Rattle.fd_network.proofs.CallerLemmas.{element_ready}
use Rattle.fd_sample.specs.Circuits.{IsCapControlIn, IsCapProbeAt, IsCapProbeIn, IsLineFor, IsLineOf, banks_before, line_in, IsXfmrOf, IsXfmrFor, IsRegControlIn, IsRegProbeAt, IsRegProbeIn, element_at, place_given, transformer_in, transformers_before}
use Rattle.fd_sample.specs.Scripted.{IsLineAt, IsXfmrAt, cap_probe, reg_probe}
use Rattle.fd_sample.specs.declared.probe.RegProbe.{RegProbe}

-- ---- the class of an element that is there

given_class : (es : Elements) (kind : Class) (given : Option (List ℕ)) (e : Element) → All IsEntry es
    → element_given es kind given ≡ Some e → kind ≡ class_of e
given_class es kind None e h is = absurd (cc)
given_class es kind (Some name) e h is =
    let found = found_class (record { class = kind; name = name }) es h in
    subst (λ (o : Option Element). IfSome o (λ x. kind ≡ class_of x)) is found

as_transformer : (e : Element) → class.Transformer ≡ class_of e → IsSome (transformer_in e)
as_transformer (the.Transformer t) h = refl
as_transformer e h = absurd (cc)

pub is_transformer : (es : Elements) (given : Option (List ℕ)) (e : Element) → All IsEntry es
    → element_given es class.Transformer given ≡ Some e → IsSome (transformer_in e)
is_transformer es given e h is = as_transformer e (given_class es class.Transformer given e h is)

-- ---- where it stands

among_small : (n : ℕ) (node : NodeAt) → n ≤ 2 ^ 29 → IsAmong n node → IsSmall node
among_small n Ground few h = tt
among_small n (Node k) few h = omega arith

pub xfmr_in : (circuit : CircuitView) → HasPassed circuit → All (λ e. ElementInRange e.1) circuit.elements
    → (control : RegControl) → IsRegControlIn circuit.elements control
    → (place : ℕ) (n : ElementName) (t : Transformer) → slice_get circuit.elements place ≡ Some (n, the.Transformer t)
    → element_at circuit.elements place ≡ element_given circuit.elements class.Transformer control.transformer
    → IsXfmrOf (layout_of circuit.elements) place control t
xfmr_in circuit h range control r place n t is same =
    let es = circuit.elements in
    let layout = layout_of es in
    let entry : ElementName × Element = (n, the.Transformer t) in
    let all = passed circuit h in
    let within = slice_get_within es place entry is in
    let at = get_or_from_slice_get es place entry entry is in
    let ready = subst (λ (e : ElementName × Element). IsReadyAt layout place e.1) at (element_ready circuit h range place entry within) in
    let fit = (all.each place entry is).values in
    let here : the.Transformer t ≡ r.transformer = (let e = sym (ap (option_map (λ (x : ElementName × Element). x.1)) is) ∙ (same ∙ r.there) in cc) in
    let phase = subst (λ (e : Element). IsPhaseOf e control.ptphase) (sym here) r.phase in
    let few : complex_count layout ≤ 2 ^ 29 = omega (arith, all.complex) in
    let nodes : length layout.nodes ≤ complex_count layout = omega arith in
    let first = side_among (length layout.nodes) (complex_count layout) (node_count t.phases)
    (ends_of layout place (the.Transformer t)).first nodes ready.sited.0 in
    let second = side_among (length layout.nodes) (complex_count layout) (node_count t.phases)
    (ends_of layout place (the.Transformer t)).second nodes ready.sited.1 in
    let branches = ready.sited.2 in
    let low : (ends_of layout place (the.Transformer t)).branch < 2 ^ 30 = omega (arith, branches.below, branches.some, all.complex) in
    record {
      in_range = ready.in_range;
      first_step = fit.first.step;
      second_step = fit.second.step;
      phase = record { least = phase.least t.phases refl; most = phase.most t.phases refl };
      between = record {
        first = record {
          count = first.count;
          small = λ k d w.
              among_small (complex_count layout) (get_or (ends_of layout place (the.Transformer t)).first k d) few
              (first.below k d w);
        };
        second = record {
          count = second.count;
          small = λ k d w.
              among_small (complex_count layout) (get_or (ends_of layout place (the.Transformer t)).second k d) few
              (second.below k d w);
        };
        branch = low;
      };
      stands = record { first = first; second = second; branches = branches; few = few; room = omega arith };
    }

-- ---- what is found of a control's transformer

pub transformer_back : (e : Element) (t : Transformer) → transformer_in e ≡ Some t → e ≡ the.Transformer t
transformer_back (the.Transformer s) t h = cc
transformer_back e t h = absurd (cc)

pub record IsFound (circuit : CircuitView) (control : RegControl) (place : ℕ) (e : Element)
    (t : Transformer) : Type 0 where
  pub stands : IsXfmrOf (layout_of circuit.elements) place control t
  pub is : e ≡ the.Transformer t
  pub there : element_at circuit.elements place ≡ Some (the.Transformer t)

module _ (circuit : CircuitView) (h : HasPassed circuit) (range : All (λ e. ElementInRange e.1) circuit.elements) (keys : All IsEntry circuit.elements)
    (control : RegControl) (r : IsRegControlIn circuit.elements control) (place : ℕ) (entry : ElementName × Element)
    (is : slice_get circuit.elements place ≡ Some entry)
    (same : element_at circuit.elements place ≡ element_given circuit.elements class.Transformer control.transformer) where
  own : entry.1 ≡ r.transformer
  own = let e : Some entry.1 ≡ Some r.transformer = sym (ap (option_map (λ (x : ElementName × Element). x.1)) is) ∙ (same ∙ r.there) in cc

  pub found_some : IsSome (transformer_in entry.1)
  found_some = subst (λ (e : Element). IsSome (transformer_in e)) (sym own) (is_transformer circuit.elements control.transformer r.transformer keys r.there)

  pub found_at : (t : Transformer) → transformer_in entry.1 ≡ Some t → IsFound circuit control place entry.1 t
  found_at t back =
      let e : entry.1 ≡ the.Transformer t = transformer_back entry.1 t back in
      let there : slice_get circuit.elements place ≡ Some (entry.0, the.Transformer t) =
      is ∙ ap (λ (x : Element). let pair : ElementName × Element = (entry.0, x) in Some pair) e in
      record {
        stands = xfmr_in circuit h range control r place entry.0 t there same;
        is = e;
        there = ap (option_map (λ (x : ElementName × Element). x.1)) there;
      }

-- ---- the same by the element at a place

pub record HasEntry (o : Option (ElementName × Element)) (e : Element) : Type 0 where
  pub name : ElementName
  pub is : o ≡ Some (name, e)

pub entry_of : (o : Option (ElementName × Element)) (e : Element) → option_map (λ x. x.1) o ≡ Some e → HasEntry o e
entry_of None e h = absurd (cc)
entry_of (Some x) e h = let same : x.1 ≡ e = cc in record {
  name = x.0;
  is = ap (λ (y : Element). let pair : ElementName × Element = (x.0, y) in Some pair) same;
}

record HasTransformer (o : Option Transformer) : Type 0 where
  transformer : Transformer
  is : o ≡ Some transformer

some_of : (o : Option Transformer) → IsSome o → HasTransformer o
some_of None h = absurd (cc)
some_of (Some t) h = record { transformer = t; is = refl }

pub xfmr_for : (circuit : CircuitView) → HasPassed circuit → All (λ e. ElementInRange e.1) circuit.elements
    → All IsEntry circuit.elements →
    (control : RegControl) → IsRegControlIn circuit.elements control → (place : ℕ) (e : Element) → element_at circuit.elements place ≡ Some e →
    element_at circuit.elements place ≡ element_given circuit.elements class.Transformer control.transformer →
    IsXfmrFor (layout_of circuit.elements) place control e
xfmr_for circuit h range keys control r place e at same =
    let entry = entry_of (slice_get circuit.elements place) e at in
    let pair : ElementName × Element = (entry.name, e) in
    let some = some_of (transformer_in e) (found_some circuit h range keys control r place pair entry.is same) in
    let found = found_at circuit h range keys control r place pair entry.is same some.transformer some.is in
    record { transformer = some.transformer; is = found.is; fit = found.stands }

-- the transformer of an element that is one
own_transformer : (layout : LayoutView) (place : ℕ) (control : RegControl) (e : Element) (f : IsXfmrFor layout place control e) (t : Transformer) →
    Some t ≡ transformer_in e → f.transformer ≡ t
own_transformer layout place control e f t is = let back = ap transformer_in f.is in cc

pub stands_of : (layout : LayoutView) (place : ℕ) (control : RegControl) (e : Element) (t : Transformer) (at : Ends)
    → IsXfmrFor layout place control e →
    Some t ≡ transformer_in e → at ≡ ends_of layout place e → IsXfmrAt (complex_count layout) (size_of layout) t.phases at
stands_of layout place control e t at f is ends =
    let same = own_transformer layout place control e f t is in
    let there = sym (ends ∙ ap (ends_of layout place) f.is) in
    subst (λ (s : Transformer). IsXfmrAt (complex_count layout) (size_of layout) s.phases at) same
    (subst (λ (x : Ends). IsXfmrAt (complex_count layout) (size_of layout) f.transformer.phases x) there f.fit.stands)

pub probe_in : (circuit : CircuitView) (control : RegControl) (place : ℕ) (layout : LayoutView) (e : Element) (number : ℕ) (p : RegProbe) →
    layout ≡ layout_of circuit.elements → IsXfmrFor (layout_of circuit.elements) place control e → element_at circuit.elements place ≡ Some e →
    place_given circuit.elements class.Transformer control.transformer ≡ Some place → number ≡ transformers_before circuit.elements place →
    IsRegProbeAt layout place control e number p → IsRegProbeIn circuit.elements control p
probe_in circuit control place layout e number p same f at found count h = record {
  place = place;
  transformer = f.transformer;
  found = found;
  there = at ∙ ap Some f.is;
  probe = h f.transformer f.is
      ∙ (λ i. reg_probe control f.transformer (ends_of (same i) place (the.Transformer f.transformer)) (count i));
}

pub place_inside : (es : Elements) (layout : LayoutView) (place : ℕ) → layout ≡ layout_of es → place < length es
    → place < length layout.branches_before
place_inside es layout place same h =
    let count = ap (λ (l : LayoutView). length l.branches_before) same ∙ length-sums_before branch_phases 0 es in
    subst (λ (n : ℕ). place < n) (sym count) h

-- ---- lines

as_line : (e : Element) → class.Line ≡ class_of e → IsSome (line_in e)
as_line (the.Line l) h = refl
as_line e h = absurd (cc)

pub line_back : (e : Element) (l : Line) → line_in e ≡ Some l → e ≡ the.Line l
line_back (the.Line s) l h = cc
line_back e l h = absurd (cc)

record HasLine (o : Option Line) : Type 0 where
  line : Line
  is : o ≡ Some line

some_line : (o : Option Line) → IsSome o → HasLine o
some_line None h = absurd (cc)
some_line (Some l) h = record { line = l; is = refl }

pub line_at : (circuit : CircuitView) → HasPassed circuit → All (λ e. ElementInRange e.1) circuit.elements
    → (control : CapControl) →
    IsCapControlIn circuit.elements control → (place : ℕ) (n : ElementName) (l : Line) →
    slice_get circuit.elements place ≡ Some (n, the.Line l) →
    element_at circuit.elements place ≡ element_given circuit.elements class.Line control.element → IsLineOf (layout_of circuit.elements) place control l
line_at circuit h range control r place n l is same =
    let es = circuit.elements in
    let layout = layout_of es in
    let entry : ElementName × Element = (n, the.Line l) in
    let all = passed circuit h in
    let within = slice_get_within es place entry is in
    let at = get_or_from_slice_get es place entry entry is in
    let ready = subst (λ (e : ElementName × Element). IsReadyAt layout place e.1) at (element_ready circuit h range place entry within) in
    let here : the.Line l ≡ r.line = (let e = sym (ap (option_map (λ (x : ElementName × Element). x.1)) is) ∙ (same ∙ r.line_there) in cc) in
    let voltage = subst (λ (e : Element). IsPhaseOf e control.ptphase) (sym here) r.voltage_phase in
    let current = subst (λ (e : Element). IsPhaseOf e control.ctphase) (sym here) r.current_phase in
    let few : complex_count layout ≤ 2 ^ 29 = omega (arith, all.complex) in
    let nodes : length layout.nodes ≤ complex_count layout = omega arith in
    let first = side_among (length layout.nodes) (complex_count layout) l.phases (ends_of layout place (the.Line l)).first nodes ready.sited.0 in
    let second = side_among (length layout.nodes) (complex_count layout) l.phases (ends_of layout place (the.Line l)).second nodes ready.sited.1 in
    let branches = ready.sited.2 in
    record {
      in_range = ready.in_range;
      voltage_phase = record { least = voltage.least l.phases refl; most = voltage.most l.phases refl };
      current_phase = record { least = current.least l.phases refl; most = current.most l.phases refl };
      branch = omega (arith, branches.below, branches.some, all.complex);
      stands = record { first = first; second = second; branches = branches; few = few; room = omega arith };
    }

pub line_for : (circuit : CircuitView) → HasPassed circuit → All (λ e. ElementInRange e.1) circuit.elements
    → All IsEntry circuit.elements →
    (control : CapControl) → IsCapControlIn circuit.elements control → (place : ℕ) (e : Element) → element_at circuit.elements place ≡ Some e →
    element_at circuit.elements place ≡ element_given circuit.elements class.Line control.element →
    IsLineFor (layout_of circuit.elements) place control e
line_for circuit h range keys control r place e at same =
    let entry = entry_of (slice_get circuit.elements place) e at in
    let own : e ≡ r.line = (let f : Some e ≡ Some r.line = sym at ∙ (same ∙ r.line_there) in cc) in
    let kind = subst (λ (x : Element). class.Line ≡ class_of x) (sym own) (given_class circuit.elements class.Line control.element r.line keys r.line_there) in
    let some = some_line (line_in e) (as_line e kind) in
    let back : e ≡ the.Line some.line = line_back e some.line some.is in
    let there : slice_get circuit.elements place ≡ Some (entry.name, the.Line some.line) =
    entry.is ∙ ap (λ (x : Element). let pair : ElementName × Element = (entry.name, x) in Some pair) back in
    record { line = some.line; is = back; fit = line_at circuit h range control r place entry.name some.line there same }

own_line : (layout : LayoutView) (place : ℕ) (control : CapControl) (e : Element) (f : IsLineFor layout place control e) (l : Line)
    → Some l ≡ line_in e → f.line ≡ l
own_line layout place control e f l is = let back = ap line_in f.is in cc

pub line_stands : (layout : LayoutView) (place : ℕ) (control : CapControl) (e : Element) (l : Line) (at : Ends)
    → IsLineFor layout place control e →
    Some l ≡ line_in e → at ≡ ends_of layout place e → IsLineAt (complex_count layout) (size_of layout) l.phases at
line_stands layout place control e l at f is ends =
    let same = own_line layout place control e f l is in
    let there = sym (ends ∙ ap (ends_of layout place) f.is) in
    subst (λ (s : Line). IsLineAt (complex_count layout) (size_of layout) s.phases at) same
    (subst (λ (x : Ends). IsLineAt (complex_count layout) (size_of layout) f.line.phases x) there f.fit.stands)

pub cap_probe_in : (circuit : CircuitView) (control : CapControl) (place bank : ℕ) (layout : LayoutView) (e : Element) (number : ℕ) (p : CapProbe) →
    layout ≡ layout_of circuit.elements → IsLineFor (layout_of circuit.elements) place control e → element_at circuit.elements place ≡ Some e →
    place_given circuit.elements class.Line control.element ≡ Some place → place_given circuit.elements class.Capacitor control.capacitor ≡ Some bank →
    number ≡ banks_before circuit.elements bank → IsCapProbeAt layout place control e number p → IsCapProbeIn circuit.elements control p
cap_probe_in circuit control place bank layout e number p same f at found bank_found count h = record {
  place = place;
  line = f.line;
  found = found;
  there = at ∙ ap Some f.is;
  bank = bank;
  bank_found = bank_found;
  probe = h f.line f.is ∙ (λ i. cap_probe control f.line (ends_of (same i) place (the.Line f.line)) (count i));
}

-- ---- what the tests of Solve say of a control at its place

record AtPlace (circuit : CircuitView) (place : ℕ) (e : Element) : Type 0 where
  before : Elements
  name : ElementName
  fit : IsFit circuit before (name, e)
  in_range : ElementInRange e

at_place : (circuit : CircuitView) → HasPassed circuit → All (λ e. ElementInRange e.1) circuit.elements
    → (place : ℕ) (e : Element) →
    element_at circuit.elements place ≡ Some e → AtPlace circuit place e
at_place circuit h range place e at =
    let entry = entry_of (slice_get circuit.elements place) e at in
    let pair : ElementName × Element = (entry.name, e) in
    let within = slice_get_within circuit.elements place pair entry.is in
    record {
      before = take place circuit.elements;
      name = entry.name;
      fit = (passed circuit h).each place pair entry.is;
      in_range = subst (λ (x : ElementName × Element). ElementInRange x.1)
          (get_or_from_slice_get circuit.elements place pair pair entry.is) (range place pair within);
    }

pub regcontrol_in : (circuit : CircuitView) → HasPassed circuit → All (λ e. ElementInRange e.1) circuit.elements
    → (place : ℕ) (e : Element)
    (control : RegControl) → element_at circuit.elements place ≡ Some e → e ≡ the.RegControl control → IsRegControlIn circuit.elements control
regcontrol_in circuit h range place e control at is =
    let here = at_place circuit h range place (the.RegControl control) (at ∙ ap Some is) in
    let fit = here.fit.values in
    record { in_range = here.in_range; transformer = fit.transformer; there = fit.there; phase = fit.phase }

pub capcontrol_in : (circuit : CircuitView) → HasPassed circuit → All (λ e. ElementInRange e.1) circuit.elements
    → (place : ℕ) (e : Element)
    (control : CapControl) → element_at circuit.elements place ≡ Some e → e ≡ the.CapControl control → IsCapControlIn circuit.elements control
capcontrol_in circuit h range place e control at is =
    let here = at_place circuit h range place (the.CapControl control) (at ∙ ap Some is) in
    let fit = here.fit.values in
    record {
      in_range = here.in_range;
      line = fit.line;
      line_there = fit.line_there;
      bank = fit.bank;
      bank_there = fit.bank_there;
      voltage_phase = fit.voltage_phase;
      current_phase = fit.current_phase;
    }

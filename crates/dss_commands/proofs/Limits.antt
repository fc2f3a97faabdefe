-- What holds of every circuit stays so by each command.
use Rattle.std.proofs.Common.{◌≡◌, ◌∙◌, ℕ, ◌+◌, ◌<◌, ◌≤◌, Bool, true, false, if◌then◌else◌, List, [], ◌∷◌, length, Option, Some, None, IfSome, Result, Ok, arith, refl, sym, subst}
use Rattle.std.specs.Map.{lookup}
use Rattle.std.specs.Option.{option_and_then}
use Rattle.std.proofs.lemmas.List.Elements.{All-nil}
use Rattle.std.proofs.lemmas.Result.{IfOk-at_ok}
use Rattle.indexmap.specs.IndexMap.{insert_entry}
use Rattle.dss_circuit.specs.dss_lexer.declared.pair.Pair.{Pair}
use Rattle.dss_circuit.specs.dss_model.Answers.{◌>>=◌, or_fault}
use Rattle.dss_circuit.specs.dss_model.Defaults.{default_options}
use Rattle.dss_circuit.specs.dss_model.Element.{class_of, fresh}
use Rattle.dss_circuit.specs.dss_model.InRange.{ElementInRange, OptionsInRange}
use Rattle.dss_circuit.specs.dss_model.SameElement.{same_element}
use Rattle.dss_circuit.specs.dss_model.declared.command.Place.{Place}
use Rattle.dss_circuit.specs.dss_model.declared.command.Verb.{Verb}
use Rattle.dss_circuit.specs.dss_model.declared.command.Verb.TheVariants as verb
use Rattle.dss_circuit.specs.dss_model.declared.element.Element.{Element}
use Rattle.dss_circuit.specs.dss_model.declared.fault.ModelFault.{ModelFault}
use Rattle.dss_circuit.specs.dss_model.declared.fault.ModelFault.TheVariants as fault
use Rattle.dss_circuit.specs.dss_model.declared.names.Class.{Class}
use Rattle.dss_circuit.specs.dss_model.declared.names.Class.TheVariants as class
use Rattle.dss_circuit.specs.dss_model.declared.names.ElementName.{ElementName}
use Rattle.dss_circuit.specs.dss_model.declared.options.Options.{Options}
use Rattle.dss_circuit.proofs.CallerLemmas.dss_model.{fresh_class}
use Rattle.dss_profile.specs.Element.{reference, with_pair}
use Rattle.dss_profile.specs.Options.{with_options}
use Rattle.dss_profile.proofs.CallerLemmas.{options_in_range, pair_in_range}
use Rattle.dss_circuit.specs.Circuit.{CircuitView, Elements, has_circuit, source_name}
use Rattle.dss_circuit.specs.InRange.{AllInRange, IsWithinLimits}
use Rattle.dss_circuit.specs.Limits.{most_elements}
use Rattle.dss_circuit.specs.WellFormed.{IsKey, NamesAreThere}
use Rattle.dss_circuit.proofs.CallerLemmas.{found_begun, found_class, none_well_formed, of_found, of_inserted, well_formed_kept}
use Rattle.dss_commands.specs.Commands.{applied_verb, edit, make, make_where, put, referred, set, solve, with_pairs}
use Rattle.dss_commands.specs.Keys.{edit_key, needed, new_key}
use Rattle.dss_commands.specs.Laws.{IsKept, LimitsLaw}
use Rattle.dss_commands.proofs.KeyNames.{edit_key_is, new_key_is}
use Rattle.dss_commands.proofs.Named.{fresh_names}
use Rattle.dss_commands.proofs.Pairs.{pairs_keep_class, pairs_keep_names}
use Rattle.dss_commands.proofs.Steps.{through}

-- ---- elements

-- an element with its defaults is in range
fresh_in_range : (solves : ℕ) (kind : Class) (place : Place) → ElementInRange (fresh solves kind place)
fresh_in_range solves class.Vsource place = grind arith
fresh_in_range solves class.Linecode place = grind arith
fresh_in_range solves class.Line place = grind arith
fresh_in_range solves class.Transformer place = grind arith
fresh_in_range solves class.Capacitor place = grind arith
fresh_in_range solves class.Load place = grind arith
fresh_in_range solves class.RegControl place = grind arith
fresh_in_range solves class.CapControl place = grind arith
fresh_in_range solves class.Loadshape place = grind arith

default_in_range : OptionsInRange default_options
default_in_range = grind arith

-- the element that a pair names is in range
referred_in_range : (es : Elements) (kind : Class) (pair : Pair) (found : Option Element) → AllInRange es
    → referred es kind pair ≡ Ok found → IfSome found ElementInRange
referred_in_range es kind pair found h is =
    let t = through (reference kind pair) (λ named. Ok (option_and_then (λ name. lookup (same_element name) es) named)) found is in
    by t.value t.next
  where
    by : (n : Option ElementName) → ◌≡◌ {A = Result (Option Element) ModelFault} (Ok (option_and_then (λ name. lookup (same_element name) es) n)) (Ok found)
        → IfSome found ElementInRange
    by None e = let same : None ≡ found = cc e in subst (λ f. IfSome f ElementInRange) same tt
    by (Some name) e =
        let same : lookup (same_element name) es ≡ found = cc e in
        subst (λ f. IfSome f ElementInRange) same (of_found ElementInRange (same_element name) es h)

-- pairs keep an element in range
pairs_keep_range : (solves : ℕ) (es : Elements) (kind : Class) (pairs : List Pair) (e new : Element) → AllInRange es
    → with_pairs solves es kind pairs e ≡ Ok new → ElementInRange e → ElementInRange new
pairs_keep_range solves es kind [] e new h is own = let same : e ≡ new = cc is in subst ElementInRange same own
pairs_keep_range solves es kind (p ∷ ps) e new h is own =
    let t = through (referred es kind p) (λ found. with_pair solves found p e >>= with_pairs solves es kind ps) new is in
    let u = through (with_pair solves t.value p e) (with_pairs solves es kind ps) new t.next in
    pairs_keep_range solves es kind ps u.value new h u.next
    (pair_in_range solves t.value p e u.value (referred_in_range es kind p t.value h t.first) own u.first)

-- no circuit is one
pub none_within : IsWithinLimits [] default_options
none_within = record {
  well_formed = none_well_formed;
  few = omega arith;
  elements_in_range = All-nil _;
  options_in_range = default_in_range;
}

-- ---- a circuit with an element put

grown : (same : ElementName → ElementName → Bool) (es : Elements) (k : ElementName) (v : Element)
    → length (insert_entry same es k v) ≤ length es + 1
grown same [] k v = omega arith
grown same (e ∷ es) k v = by (same k e.0) (grown same es k v)
  where
    by : (b : Bool) → length (insert_entry same es k v) ≤ length es + 1
        → length (if b then (e.0, v) ∷ es else e ∷ insert_entry same es k v) ≤ length (e ∷ es) + 1
    by true h = omega arith
    by false h = omega (arith, h)

module _ (before : CircuitView) (room : length before.elements < most_elements)
    (within : IsWithinLimits before.elements before.options) where
  kept_by_put : (name : ElementName) (e : Element) (pairs : List Pair) (after : CircuitView) → IsKey name
      → name.class ≡ class_of e → (has_circuit before.elements ≡ false → name ≡ source_name)
      → NamesAreThere before.elements e → ElementInRange e → put name e pairs before ≡ Ok after → IsKept before after
  unfolding put
  kept_by_put name e pairs after key kind source names own is =
      let es = before.elements in
      let t = through (with_pairs before.solves es name.class pairs e)
      (λ x. Ok (record before { elements = insert_entry same_element es name x })) after is in
      let x = t.value in
      let same : record before { elements = insert_entry same_element es name x } ≡ after = cc t.next in
      let more = grown same_element es name x in
      subst (IsKept before) same (record {
        within = record {
          well_formed = well_formed_kept name x es key
              (kind ∙ sym (pairs_keep_class before.solves es name.class pairs e x t.first)) source
              (pairs_keep_names before.solves es name.class pairs e x kind t.first names) within.well_formed;
          few = omega (arith, more, room);
          elements_in_range = of_inserted ElementInRange same_element es name x within.elements_in_range
              (pairs_keep_range before.solves es name.class pairs e x within.elements_in_range t.first own);
          options_in_range = within.options_in_range;
        };
        one_more = more;
      })

  kept_by_make : (place : Place) (name : ElementName) (pairs : List Pair) (after : CircuitView) → IsKey name
      → (has_circuit before.elements ≡ false → name ≡ source_name) → make place name pairs before ≡ Ok after
      → IsKept before after
  unfolding make
  kept_by_make place name pairs after key source is = by (lookup (same_element name) before.elements) is
    where
      by : (o : Option Element) → make_where o place name pairs before ≡ Ok after → IsKept before after
      by (Some there) e = absurd (let no : ⊥ = cc e in no)
      by None e =
          kept_by_put name (fresh before.solves name.class place) pairs after key
          (sym (fresh_class before.solves name.class place)) source
          (fresh_names before.elements before.solves name.class place) (fresh_in_range before.solves name.class place) e

  kept_by_edit : (name : ElementName) (pairs : List Pair) (after : CircuitView) → IsKey name
      → edit name pairs before ≡ Ok after → IsKept before after
  unfolding edit
  kept_by_edit name pairs after key is = by (lookup (same_element name) before.elements) refl is
    where
      by : (o : Option Element) → lookup (same_element name) before.elements ≡ o
          → (or_fault fault.UnknownName o >>= λ element. put name element pairs before) ≡ Ok after → IsKept before after
      by None found e = absurd (let no : ⊥ = cc e in no)
      by (Some there) found e =
          let es = before.elements in
          let own : IfSome (Some there) ElementInRange =
          subst (λ o. IfSome o ElementInRange) found (of_found ElementInRange (same_element name) es within.elements_in_range) in
          let kind : IfSome (Some there) (λ x. name.class ≡ class_of x) =
          subst (λ o. IfSome o (λ x. name.class ≡ class_of x)) found (found_class name es within.well_formed.entries) in
          let names : IfSome (Some there) (NamesAreThere es) =
          subst (λ o. IfSome o (NamesAreThere es)) found
          (of_found (NamesAreThere es) (same_element name) es within.well_formed.named) in
          kept_by_put name there pairs after key kind
          (λ none. absurd (let no : ⊥ = cc (none, found_begun name es there found) in no)) names own e

  -- the same elements, with options in range
  with_other : (o : Options) (n : ℕ) → OptionsInRange o
      → IsKept before (record before { options = o; solves = n })
  with_other o n h = record {
    within = record {
      well_formed = within.well_formed;
      few = within.few;
      elements_in_range = within.elements_in_range;
      options_in_range = h;
    };
    one_more = omega arith;
  }

  options_by : (pairs : List Pair) (o : Options) → with_options pairs before.options ≡ Ok o → OptionsInRange o
  options_by pairs o is = IfOk-at_ok OptionsInRange is (options_in_range pairs before.options within.options_in_range)

  kept_by_set : (pairs : List Pair) (after : CircuitView) → set pairs before ≡ Ok after → IsKept before after
  unfolding set
  kept_by_set pairs after is =
      let t = through (with_options pairs before.options) (λ o. Ok (record before { options = o })) after is in
      let same : record before { options = t.value } ≡ after = cc t.next in
      subst (IsKept before) same (with_other t.value before.solves (options_by pairs t.value t.first))

  kept_by_solve : (pairs : List Pair) (after : CircuitView) → solve pairs before ≡ Ok after → IsKept before after
  unfolding solve
  kept_by_solve pairs after is =
      let next = λ (o : Options). Ok (record before { options = o; solves = before.solves + 1 }) in
      let t = through (needed (has_circuit before.elements)) (λ done. with_options pairs before.options >>= next) after is in
      let u = through (with_options pairs before.options) next after t.next in
      let same : record before { options = u.value; solves = before.solves + 1 } ≡ after = cc u.next in
      subst (IsKept before) same (with_other u.value (before.solves + 1) (options_by pairs u.value u.first))

  kept_by_verb : (place : Place) (v : Verb) (after : CircuitView) → applied_verb place v before ≡ Ok after → IsKept before after
  kept_by_verb place (verb.New kind name pairs) after is =
      let t = through (new_key kind name (has_circuit before.elements)) (λ key. make place key pairs before) after is in
      let key = new_key_is kind name (has_circuit before.elements) t.value t.first in
      kept_by_make place t.value pairs after key.0 key.1 t.next
  kept_by_verb place (verb.Edit kind name pairs) after is =
      let t = through (edit_key kind name (has_circuit before.elements)) (λ key. edit key pairs before) after is in
      kept_by_edit t.value pairs after (edit_key_is kind name (has_circuit before.elements) t.value t.first) t.next
  kept_by_verb place (verb.Set pairs) after is = kept_by_set pairs after is
  kept_by_verb place (verb.Solve pairs) after is = kept_by_solve pairs after is
  kept_by_verb place verb.Clear after is =
      let same : record before { elements = []; options = default_options } ≡ after = cc is in
      subst (IsKept before) same (record { within = none_within; one_more = omega arith })
  kept_by_verb place verb.Bases after is =
      let t = through (needed (has_circuit before.elements)) (λ done. Ok before) after is in
      let same : before ≡ after = cc t.next in
      subst (IsKept before) same (with_other before.options before.solves within.options_in_range)

pub kept_by_command : LimitsLaw
kept_by_command command before after is room within = kept_by_verb before room within command.place command.verb after is

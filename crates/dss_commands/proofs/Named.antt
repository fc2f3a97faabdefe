-- The elements that an element names are in the circuit, after a pair as before.
use Rattle.std.proofs.Common.{◌≡◌, ℕ, Bool, true, false, if◌then◌else◌, List, [], ◌∷◌, Option, Some, None, is_some, IfSome, IsSome, IsTrue, Result, Ok, Err, IfOk, refl, sym, ap, subst, ◌∙◌, codes, nat_eq}
use Rattle.std.specs.List.{list_all}
use Rattle.std.specs.Option.{option_and_then}
use Rattle.std.specs.Cmp.Lexicographic.{bytes_decides, pointwise}
use Rattle.std.specs.Map.{lookup}
use Rattle.std.proofs.lemmas.Bool.{and_parts}
use Rattle.dss_circuit.specs.dss_lexer.declared.pair.Pair.{Pair}
use Rattle.dss_circuit.specs.dss_lexer.Texts.{is_empty}
use Rattle.dss_circuit.specs.dss_model.declared.fault.ModelFault.{ModelFault}
use Rattle.dss_circuit.specs.dss_model.declared.fault.ModelFault.TheVariants as fault
use Rattle.dss_circuit.specs.dss_model.Answers.{◌>>=◌, or_fault}
use Rattle.dss_profile.specs.dss_values.Forms.{name_in, line_name_in, known, known_name_in, known_line_name_in}
use Rattle.dss_circuit.specs.dss_model.Names.{bytes, lower, named}
use Rattle.dss_circuit.specs.dss_model.declared.command.Place.{Place}
use Rattle.dss_circuit.specs.dss_model.declared.element.Element.{Element}
use Rattle.dss_circuit.specs.dss_model.declared.element.Element.TheVariants as the
use Rattle.dss_circuit.specs.dss_model.declared.names.Class.{Class}
use Rattle.dss_circuit.specs.dss_model.declared.names.Class.TheVariants as class
use Rattle.dss_circuit.specs.dss_model.declared.names.ElementName.{ElementName}
use Rattle.dss_circuit.specs.dss_model.declared.linecode.Linecode.{Linecode}
use Rattle.dss_circuit.specs.dss_model.declared.line.Line.{Line}
use Rattle.dss_profile.specs.declared.line.LineProperty.{LineProperty}
use Rattle.dss_profile.specs.declared.line.LineProperty.TheVariants as of_line
use Rattle.dss_circuit.specs.dss_model.declared.load.Load.{Load}
use Rattle.dss_profile.specs.declared.load.LoadProperty.{LoadProperty}
use Rattle.dss_profile.specs.declared.load.LoadProperty.TheVariants as of_load
use Rattle.dss_circuit.specs.dss_model.declared.regcontrol.RegControl.{RegControl}
use Rattle.dss_profile.specs.declared.regcontrol.RegControlProperty.{RegControlProperty}
use Rattle.dss_profile.specs.declared.regcontrol.RegControlProperty.TheVariants as of_regcontrol
use Rattle.dss_circuit.specs.dss_model.declared.capcontrol.CapControl.{CapControl}
use Rattle.dss_profile.specs.declared.capcontrol.CapControlProperty.{CapControlProperty}
use Rattle.dss_profile.specs.declared.capcontrol.CapControlProperty.TheVariants as of_capcontrol
use Rattle.dss_circuit.specs.dss_model.Element.{class_of, fresh}
use Rattle.dss_profile.specs.Element.{code_found, reference, reference_to, references, named_in, with_named, with_pair}
use Rattle.dss_circuit.specs.dss_model.SameElement.{same_element}
use Rattle.dss_profile.specs.Line.{line_properties, switched, with_code, with_line}
use Rattle.dss_profile.specs.Load.{load_properties, with_load}
use Rattle.dss_profile.specs.RegControl.{regcontrol_properties, with_regcontrol}
use Rattle.dss_profile.specs.CapControl.{capcontrol_properties, with_capcontrol}
use Rattle.dss_profile.specs.Vsource.{with_vsource}
use Rattle.dss_profile.specs.Linecode.{with_linecode}
use Rattle.dss_profile.specs.Transformer.{with_transformer}
use Rattle.dss_profile.specs.Capacitor.{with_capacitor}
use Rattle.dss_profile.specs.Loadshape.{with_loadshape}
use Rattle.dss_profile.proofs.CallerLemmas.{then_ok, any_ok, made_ok, kept_ok, found_ok}
use Rattle.dss_circuit.specs.Circuit.{Elements}
use Rattle.dss_circuit.specs.WellFormed.{IsThere, NamesAreThere}
use Rattle.dss_commands.specs.Commands.{referred}

-- an element with its defaults names none
pub fresh_names : (es : Elements) (solves : ℕ) (kind : Class) (place : Place)
    → NamesAreThere es (fresh solves kind place)
fresh_names es solves class.Line place = tt
fresh_names es solves class.Load place = tt
fresh_names es solves class.RegControl place = tt
fresh_names es solves class.CapControl place = (tt, tt)
fresh_names es solves class.Vsource place = tt
fresh_names es solves class.Linecode place = tt
fresh_names es solves class.Transformer place = tt
fresh_names es solves class.Capacitor place = tt
fresh_names es solves class.Loadshape place = tt

-- ---- properties that name an element

-- what each row of a table passes, the row of a name does
row_passes : {T : Type 0} (test : List ℕ → T → Bool) (rows : List (List ℕ × T)) (name : List ℕ)
    → IsTrue (list_all (λ row. test row.0 row.1) rows) → IfSome (named rows name) (λ p. IsTrue (test name p))
row_passes test [] name h = tt
row_passes test (row ∷ rows) name h =
    let parts = and_parts (test row.0 row.1) (list_all (λ r. test r.0 r.1) rows) h in
    by (pointwise nat_eq row.0 name) refl parts.0 (row_passes test rows name parts.1)
  where
    by : (b : Bool) → pointwise nat_eq row.0 name ≡ b → IsTrue (test row.0 row.1)
        → IfSome (named rows name) (λ p. IsTrue (test name p))
        → IfSome (if b then Some row.1 else named rows name) (λ p. IsTrue (test name p))
    by true t first rest = subst (λ n. IsTrue (test n row.1)) ((bytes_decides row.0 name).0 t) first
    by false t first rest = rest

abbrev is_word : List ℕ → List ℕ → Bool
is_word word name = pointwise nat_eq word name

-- a property that names an element has the name that stands in the table of references
abbrev line_named : List ℕ → LineProperty → Bool
line_named name of_line.Linecode = is_word (codes "linecode") name
line_named name other = true

abbrev load_named : List ℕ → LoadProperty → Bool
load_named name of_load.Daily = is_word (codes "daily") name
load_named name other = true

abbrev regcontrol_named : List ℕ → RegControlProperty → Bool
regcontrol_named name of_regcontrol.Transformer = is_word (codes "transformer") name
regcontrol_named name other = true

abbrev capcontrol_named : List ℕ → CapControlProperty → Bool
capcontrol_named name of_capcontrol.Element = is_word (codes "element") name
capcontrol_named name of_capcontrol.Capacitor = is_word (codes "capacitor") name
capcontrol_named name other = true

refers : (kind to : Class) (word name : List ℕ) → IsTrue (is_word word name) → named (references kind) word ≡ Some to
    → named (references kind) name ≡ Some to
refers kind to word name h e = subst (λ n. named (references kind) n ≡ Some to) ((bytes_decides word name).0 h) e

-- ---- pairs

some_code : (found : Option Element) (code : Linecode) → code_found found ≡ Some code → is_some found ≡ true
some_code None code h = cc h
some_code (Some e) code h = refl

-- `found` is the element that the pair names
module _ (elements : Elements) (found : Option Element) (pair : Pair) where
  abbrev IsFound : Class → List ℕ → Type 0
  IsFound to name = found ≡ lookup (same_element (record { class = to; name = name })) elements

  abbrev Answered : Option Class → Type 0
  Answered to = (reference_to to pair >>= λ n. Ok (option_and_then (λ name. lookup (same_element name) elements) n)) ≡ Ok found

  answered : (to : Class) → Answered (Some to) → IfOk (named_in to pair) (IsFound to)
  answered to h = by (named_in to pair) h
    where
      by : (r : Result (List ℕ) ModelFault)
          → ((r >>= λ name. Ok (Some (record { class = to; name = name })))
          >>= λ n. Ok (option_and_then (λ name. lookup (same_element name) elements) n))
          ≡ Ok found
          → IfOk r (IsFound to)
      by (Ok name) h = sym (cc h)
      by (Err e) h = tt

  found_by : (kind to : Class) → named (references kind) (bytes (lower pair.name)) ≡ Some to
      → referred elements kind pair ≡ Ok found → IfOk (named_in to pair) (IsFound to)
  unfolding reference
  found_by kind to e h = answered to (subst Answered e h)

  known_there : (to : Class) (r : Result (List ℕ) ModelFault) → IfOk r (IsFound to)
      → IfOk (r >>= known (is_some found)) (λ name. IsThere elements to (Some name))
  known_there to (Err e) h = tt
  known_there to (Ok name) h = by (is_some found) refl
    where
      by : (b : Bool) → is_some found ≡ b → IfOk (known b name) (λ name. IsThere elements to (Some name))
      by true t = ap is_some (sym h) ∙ t
      by false t = tt

  code_there : (line : Line) (r : Result (List ℕ) ModelFault) → IfOk r (IsFound class.Linecode)
      → IfOk (r >>= λ name. or_fault fault.UnknownName (code_found found) >>= λ c. Ok (with_code name c line)) (λ l. IsThere elements class.Linecode l.linecode)
  code_there line (Err e) h = tt
  code_there line (Ok name) h = by (code_found found) refl
    where
      by : (c : Option Linecode) → code_found found ≡ c
          → IfOk (or_fault fault.UnknownName c >>= λ c. Ok (with_code name c line)) (λ l. IsThere elements class.Linecode l.linecode)
      by (Some code) t = ap is_some (sym h) ∙ some_code found code t
      by None t = tt

  name_known : (kind to : Class) (word : List ℕ) → IsTrue (is_word word (bytes (lower pair.name)))
      → named (references kind) word ≡ Some to → referred elements kind pair ≡ Ok found
      → IfOk (named_in to pair) (IsFound to)
  name_known kind to word t e h = found_by kind to (refers kind to word (bytes (lower pair.name)) t e) h

  -- ---- classes

  abbrev LineNames : Line → Type 0
  LineNames line = NamesAreThere elements (the.Line line)

  switch_names : (on : Bool) (line : Line) → LineNames line → LineNames (switched on line)
  switch_names true line h = h
  switch_names false line h = h

  line_names : (property : LineProperty) (line : Line) → IsTrue (line_named (bytes (lower pair.name)) property)
      → referred elements class.Line pair ≡ Ok found → LineNames line
      → IfOk (with_line (code_found found) property pair line) LineNames
  line_names of_line.Linecode line t r h = code_there line (name_in pair) (name_known class.Line class.Linecode (codes "linecode") t refl r)
  line_names of_line.Bus1 line t r h = kept_ok LineNames _ _ (λ v. h)
  line_names of_line.Bus2 line t r h = kept_ok LineNames _ _ (λ v. h)
  line_names of_line.Phases line t r h = kept_ok LineNames _ _ (λ v. h)
  line_names of_line.Length line t r h = kept_ok LineNames _ _ (λ v. h)
  line_names of_line.Units line t r h = kept_ok LineNames _ _ (λ v. h)
  line_names (of_line.Data property) line t r h = kept_ok LineNames _ _ (λ v. h)
  line_names of_line.Switch line t r h = kept_ok LineNames _ _ (λ on. switch_names on line h)
  line_names of_line.Basefreq line t r h = kept_ok LineNames _ _ (λ v. h)
  line_names of_line.Ignored line t r h = h

  abbrev LoadNames : Load → Type 0
  LoadNames load = NamesAreThere elements (the.Load load)

  load_names : (property : LoadProperty) (load : Load) → IsTrue (load_named (bytes (lower pair.name)) property)
      → referred elements class.Load pair ≡ Ok found → LoadNames load
      → IfOk (with_load (is_some found) property pair load) LoadNames
  unfolding known_name_in
  load_names of_load.Daily load t r h =
      let there = known_there class.Loadshape (name_in pair) (name_known class.Load class.Loadshape (codes "daily") t refl r) in
      made_ok (λ name. IsThere elements class.Loadshape (Some name)) LoadNames _ _ there (λ name q. q)
  load_names of_load.Bus1 load t r h = kept_ok LoadNames _ _ (λ v. h)
  load_names of_load.Phases load t r h = kept_ok LoadNames _ _ (λ v. h)
  load_names of_load.Kv load t r h = kept_ok LoadNames _ _ (λ v. h)
  load_names of_load.Kw load t r h = kept_ok LoadNames _ _ (λ v. h)
  load_names of_load.Pf load t r h = kept_ok LoadNames _ _ (λ v. h)
  load_names of_load.Kvar load t r h = kept_ok LoadNames _ _ (λ v. h)
  load_names of_load.Model load t r h = kept_ok LoadNames _ _ (λ v. h)
  load_names of_load.Zipv load t r h = kept_ok LoadNames _ _ (λ v. h)
  load_names of_load.Conn load t r h = kept_ok LoadNames _ _ (λ v. h)
  load_names of_load.Vminpu load t r h = kept_ok LoadNames _ _ (λ v. h)
  load_names of_load.Vmaxpu load t r h = kept_ok LoadNames _ _ (λ v. h)
  load_names of_load.Basefreq load t r h = kept_ok LoadNames _ _ (λ v. h)
  load_names of_load.Ignored load t r h = h

  abbrev RegControlNames : RegControl → Type 0
  RegControlNames control = NamesAreThere elements (the.RegControl control)

  regcontrol_names : (property : RegControlProperty) (control : RegControl)
      → IsTrue (regcontrol_named (bytes (lower pair.name)) property)
      → referred elements class.RegControl pair ≡ Ok found → RegControlNames control
      → IfOk (with_regcontrol (is_some found) property pair control) RegControlNames
  unfolding known_name_in
  regcontrol_names of_regcontrol.Transformer control t r h =
      let there = known_there class.Transformer (name_in pair) (name_known class.RegControl class.Transformer (codes "transformer") t refl r) in
      made_ok (λ name. IsThere elements class.Transformer (Some name)) RegControlNames _ _ there (λ name q. q)
  regcontrol_names of_regcontrol.Winding control t r h = kept_ok RegControlNames _ _ (λ v. h)
  regcontrol_names of_regcontrol.Vreg control t r h = kept_ok RegControlNames _ _ (λ v. h)
  regcontrol_names of_regcontrol.Band control t r h = kept_ok RegControlNames _ _ (λ v. h)
  regcontrol_names of_regcontrol.Ptratio control t r h = kept_ok RegControlNames _ _ (λ v. h)
  regcontrol_names of_regcontrol.Ctprim control t r h = kept_ok RegControlNames _ _ (λ v. h)
  regcontrol_names of_regcontrol.R control t r h = kept_ok RegControlNames _ _ (λ v. h)
  regcontrol_names of_regcontrol.X control t r h = kept_ok RegControlNames _ _ (λ v. h)
  regcontrol_names of_regcontrol.Delay control t r h = kept_ok RegControlNames _ _ (λ v. h)
  regcontrol_names of_regcontrol.Tapdelay control t r h = kept_ok RegControlNames _ _ (λ v. h)
  regcontrol_names of_regcontrol.Maxtapchange control t r h = kept_ok RegControlNames _ _ (λ v. h)
  regcontrol_names of_regcontrol.Ptphase control t r h = kept_ok RegControlNames _ _ (λ v. h)

  abbrev CapControlNames : CapControl → Type 0
  CapControlNames control = NamesAreThere elements (the.CapControl control)

  capcontrol_names : (property : CapControlProperty) (control : CapControl)
      → IsTrue (capcontrol_named (bytes (lower pair.name)) property)
      → referred elements class.CapControl pair ≡ Ok found → CapControlNames control
      → IfOk (with_capcontrol (is_some found) property pair control) CapControlNames
  unfolding known_name_in known_line_name_in
  capcontrol_names of_capcontrol.Element control t r h =
      let there = known_there class.Line (line_name_in pair) (name_known class.CapControl class.Line (codes "element") t refl r) in
      made_ok (λ name. IsThere elements class.Line (Some name)) CapControlNames _ _ there (λ name q. (q, h.1))
  capcontrol_names of_capcontrol.Capacitor control t r h =
      let there = known_there class.Capacitor (name_in pair) (name_known class.CapControl class.Capacitor (codes "capacitor") t refl r) in
      made_ok (λ name. IsThere elements class.Capacitor (Some name)) CapControlNames _ _ there (λ name q. (h.0, q))
  capcontrol_names of_capcontrol.Terminal control t r h = kept_ok CapControlNames _ _ (λ v. h)
  capcontrol_names of_capcontrol.Kind control t r h = kept_ok CapControlNames _ _ (λ v. h)
  capcontrol_names of_capcontrol.Ptratio control t r h = kept_ok CapControlNames _ _ (λ v. h)
  capcontrol_names of_capcontrol.Ctratio control t r h = kept_ok CapControlNames _ _ (λ v. h)
  capcontrol_names of_capcontrol.Onsetting control t r h = kept_ok CapControlNames _ _ (λ v. h)
  capcontrol_names of_capcontrol.Offsetting control t r h = kept_ok CapControlNames _ _ (λ v. h)
  capcontrol_names of_capcontrol.Delay control t r h = kept_ok CapControlNames _ _ (λ v. h)
  capcontrol_names of_capcontrol.Delayoff control t r h = kept_ok CapControlNames _ _ (λ v. h)
  capcontrol_names of_capcontrol.Deadtime control t r h = kept_ok CapControlNames _ _ (λ v. h)
  capcontrol_names of_capcontrol.Ptphase control t r h = kept_ok CapControlNames _ _ (λ v. h)
  capcontrol_names of_capcontrol.Ctphase control t r h = kept_ok CapControlNames _ _ (λ v. h)

  -- ---- elements

  abbrev property : List ℕ
  property = bytes (lower pair.name)

  named_there : (solves : ℕ) (e : Element) → referred elements (class_of e) pair ≡ Ok found → NamesAreThere elements e
      → IfOk (with_named solves found property pair e) (NamesAreThere elements)
  unfolding with_named
  named_there solves (the.Line line) r h =
      then_ok (λ p. IsTrue (line_named property p)) (NamesAreThere elements)
      (or_fault fault.UnknownProperty (named line_properties property)) _
      (found_ok _ (named line_properties property) _ (row_passes line_named line_properties property refl))
      (λ p t. made_ok LineNames (NamesAreThere elements) _ the.Line (line_names p line t r h) (λ x q. q))
  named_there solves (the.Load load) r h =
      then_ok (λ p. IsTrue (load_named property p)) (NamesAreThere elements)
      (or_fault fault.UnknownProperty (named load_properties property)) _
      (found_ok _ (named load_properties property) _ (row_passes load_named load_properties property refl))
      (λ p t. made_ok LoadNames (NamesAreThere elements) _ the.Load (load_names p load t r h) (λ x q. q))
  named_there solves (the.RegControl control) r h =
      then_ok (λ p. IsTrue (regcontrol_named property p)) (NamesAreThere elements)
      (or_fault fault.UnknownProperty (named regcontrol_properties property)) _ (found_ok _
      (named regcontrol_properties property) _ (row_passes regcontrol_named regcontrol_properties property refl))
      (λ p t.
      made_ok RegControlNames (NamesAreThere elements) _ the.RegControl (regcontrol_names p control t r h) (λ x q. q))
  named_there solves (the.CapControl control) r h =
      then_ok (λ p. IsTrue (capcontrol_named property p)) (NamesAreThere elements)
      (or_fault fault.UnknownProperty (named capcontrol_properties property)) _ (found_ok _
      (named capcontrol_properties property) _ (row_passes capcontrol_named capcontrol_properties property refl))
      (λ p t.
      made_ok CapControlNames (NamesAreThere elements) _ the.CapControl (capcontrol_names p control t r h) (λ x q. q))
  named_there solves (the.Vsource source) r h =
      any_ok (NamesAreThere elements) _ _ (λ p.
      kept_ok (NamesAreThere elements) (with_vsource p pair source) the.Vsource (λ x. tt))
  named_there solves (the.Linecode code) r h =
      any_ok (NamesAreThere elements) _ _ (λ p.
      kept_ok (NamesAreThere elements) (with_linecode p pair code) the.Linecode (λ x. tt))
  named_there solves (the.Transformer xfmr) r h =
      any_ok (NamesAreThere elements) _ _ (λ p.
      kept_ok (NamesAreThere elements) (with_transformer solves p pair xfmr) the.Transformer (λ x. tt))
  named_there solves (the.Capacitor bank) r h =
      any_ok (NamesAreThere elements) _ _ (λ p.
      kept_ok (NamesAreThere elements) (with_capacitor solves p pair bank) the.Capacitor (λ x. tt))
  named_there solves (the.Loadshape shape) r h =
      any_ok (NamesAreThere elements) _ _ (λ p.
      kept_ok (NamesAreThere elements) (with_loadshape p pair shape) the.Loadshape (λ x. tt))

  -- a pair leaves each name as it was, or sets that of an element that is there
  pub pair_there : (solves : ℕ) (e : Element) → referred elements (class_of e) pair ≡ Ok found
      → NamesAreThere elements e → IfOk (with_pair solves found pair e) (NamesAreThere elements)
  unfolding with_pair
  pair_there solves e r h = by (is_empty pair.name)
    where
      by : (b : Bool)
          → IfOk (if b then Err fault.Unsupported else with_named solves found property pair e) (NamesAreThere elements)
      by true = tt
      by false = named_there solves e r h

-- Elements of all classes: the pairs that set them, and the elements that pairs name.
use Rattle.std.specs.Prelude.{ℕ, List, [], ◌∷◌, codes, Option, Some, None, is_some, Result, Ok, Err, if◌then◌else◌}
use Rattle.dss_values.specs.dss_lexer.declared.pair.Pair.{Pair}
use Rattle.dss_values.specs.dss_lexer.Texts.{is_empty}
use Rattle.dss_values.specs.dss_model.declared.fault.ModelFault.{ModelFault}
use Rattle.dss_values.specs.dss_model.declared.fault.ModelFault.TheVariants as fault
use Rattle.dss_values.specs.dss_model.declared.command.Place.{Place}
use Rattle.dss_values.specs.dss_model.declared.element.Element.{Element}
use Rattle.dss_values.specs.dss_model.declared.element.Element.TheVariants as the
use Rattle.dss_values.specs.dss_model.declared.linecode.Linecode.{Linecode}
use Rattle.dss_values.specs.dss_model.declared.names.Class.{Class}
use Rattle.dss_values.specs.dss_model.declared.names.Class.TheVariants as class
use Rattle.dss_values.specs.dss_model.declared.names.ElementName.{ElementName}
use Rattle.dss_values.specs.dss_model.Answers.{◌>>=◌, or_fault}
use Rattle.dss_values.specs.dss_model.Names.{bytes, lower, named}
use Rattle.dss_values.specs.Forms.{name_in, line_name_in}
use Rattle.dss_profile.specs.Vsource.{vsource_properties, with_vsource}
use Rattle.dss_values.specs.dss_model.Defaults.{fresh_vsource, fresh_linecode, fresh_line, fresh_transformer, fresh_capacitor, fresh_load, fresh_regcontrol, fresh_capcontrol, fresh_loadshape}
use Rattle.dss_profile.specs.Linecode.{linecode_properties, with_linecode}
use Rattle.dss_profile.specs.Line.{line_properties, with_line}
use Rattle.dss_profile.specs.Transformer.{transformer_properties, with_transformer}
use Rattle.dss_profile.specs.Capacitor.{capacitor_properties, with_capacitor}
use Rattle.dss_profile.specs.Load.{load_properties, with_load}
use Rattle.dss_profile.specs.RegControl.{regcontrol_properties, with_regcontrol}
use Rattle.dss_profile.specs.CapControl.{capcontrol_properties, with_capcontrol}
use Rattle.dss_profile.specs.Loadshape.{loadshape_properties, with_loadshape}

-- an element, as a line code
abbrev pub code_found : Option Element → Option Linecode
code_found None = None
code_found (Some (the.Linecode code)) = Some code
code_found (Some element) = None

-- the property of this name, in lower case, takes the value; `found` is the element that the pair names
unfoldable pub with_named : ℕ → Option Element → List ℕ → Pair → Element → Result Element ModelFault
with_named solves found name pair (the.Vsource source) = do
  property ← or_fault fault.UnknownProperty (named vsource_properties name)
  new ← with_vsource property pair source
  Ok (the.Vsource new)
with_named solves found name pair (the.Linecode code) = do
  property ← or_fault fault.UnknownProperty (named linecode_properties name)
  new ← with_linecode property pair code
  Ok (the.Linecode new)
with_named solves found name pair (the.Line line) = do
  property ← or_fault fault.UnknownProperty (named line_properties name)
  new ← with_line (code_found found) property pair line
  Ok (the.Line new)
with_named solves found name pair (the.Transformer xfmr) = do
  property ← or_fault fault.UnknownProperty (named transformer_properties name)
  new ← with_transformer solves property pair xfmr
  Ok (the.Transformer new)
with_named solves found name pair (the.Capacitor bank) = do
  property ← or_fault fault.UnknownProperty (named capacitor_properties name)
  new ← with_capacitor solves property pair bank
  Ok (the.Capacitor new)
with_named solves found name pair (the.Load load) = do
  property ← or_fault fault.UnknownProperty (named load_properties name)
  new ← with_load (is_some found) property pair load
  Ok (the.Load new)
with_named solves found name pair (the.RegControl control) = do
  property ← or_fault fault.UnknownProperty (named regcontrol_properties name)
  new ← with_regcontrol (is_some found) property pair control
  Ok (the.RegControl new)
with_named solves found name pair (the.CapControl control) = do
  property ← or_fault fault.UnknownProperty (named capcontrol_properties name)
  new ← with_capcontrol (is_some found) property pair control
  Ok (the.CapControl new)
with_named solves found name pair (the.Loadshape shape) = do
  property ← or_fault fault.UnknownProperty (named loadshape_properties name)
  new ← with_loadshape property pair shape
  Ok (the.Loadshape new)

-- a word without a name is unsupported
unfoldable pub with_pair : ℕ → Option Element → Pair → Element → Result Element ModelFault
with_pair solves found pair element = if is_empty pair.name then Err fault.Unsupported else with_named solves found (bytes (lower pair.name)) pair element

-- the properties of a class that name an element, and the class of that element
abbrev pub references : Class → List (List ℕ × Class)
references class.Line = (codes "linecode", class.Linecode) ∷ []
references class.Load = (codes "daily", class.Loadshape) ∷ []
references class.RegControl = (codes "transformer", class.Transformer) ∷ []
references class.CapControl = (codes "element", class.Line) ∷ (codes "capacitor", class.Capacitor) ∷ []
references class.Vsource = []
references class.Linecode = []
references class.Transformer = []
references class.Capacitor = []
references class.Loadshape = []

-- a Line is named with its class before it, and any other element without
abbrev pub named_in : Class → Pair → Result (List ℕ) ModelFault
named_in class.Line pair = line_name_in pair
named_in other pair = name_in pair

abbrev pub reference_to : Option Class → Pair → Result (Option ElementName) ModelFault
reference_to None pair = Ok None
reference_to (Some kind) pair = named_in kind pair >>= λ name. Ok (Some (record { class = kind; name = name }))

-- the element that a pair of an element of a class names, where its property names any
unfoldable pub reference : Class → Pair → Result (Option ElementName) ModelFault
reference kind pair = reference_to (named (references kind) (bytes (lower pair.name))) pair

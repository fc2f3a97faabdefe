-- A circuit is the fold of its commands.
use Rattle.std.specs.Prelude.{ℕ, ◌+◌, List, [], ◌∷◌, Option, Some, None, Result, Ok, Err}
use Rattle.std.specs.Option.{option_and_then}
use Rattle.std.specs.Map.{lookup}
use Rattle.indexmap.specs.IndexMap.{insert_entry}
use Rattle.dss_circuit.specs.dss_lexer.declared.pair.Pair.{Pair}
use Rattle.dss_circuit.specs.dss_model.declared.fault.ModelFault.{ModelFault}
use Rattle.dss_circuit.specs.dss_model.declared.fault.ModelFault.TheVariants as fault
use Rattle.dss_circuit.specs.dss_model.declared.command.Place.{Place}
use Rattle.dss_circuit.specs.dss_model.declared.command.Command.{Command}
use Rattle.dss_circuit.specs.dss_model.declared.command.Verb.{Verb}
use Rattle.dss_circuit.specs.dss_model.declared.command.Verb.TheVariants as verb
use Rattle.dss_circuit.specs.dss_model.declared.element.Element.{Element}
use Rattle.dss_circuit.specs.dss_model.declared.names.Class.{Class}
use Rattle.dss_circuit.specs.dss_model.declared.names.ElementName.{ElementName}
use Rattle.dss_circuit.specs.dss_model.Answers.{◌>>=◌, or_fault}
use Rattle.dss_circuit.specs.dss_model.Defaults.{default_options}
use Rattle.dss_circuit.specs.dss_model.Element.{fresh}
use Rattle.dss_circuit.specs.dss_model.SameElement.{same_element}
use Rattle.dss_profile.specs.Element.{reference, with_pair}
use Rattle.dss_profile.specs.Options.{with_options}
use Rattle.dss_circuit.specs.Circuit.{Elements, CircuitView, has_circuit}
use Rattle.dss_commands.specs.Keys.{needed, edit_key, new_key}

-- the element that a pair names for an element of a class, where it names one that is there
abbrev pub referred : Elements → Class → Pair → Result (Option Element) ModelFault
referred elements kind pair = reference kind pair >>= λ named. Ok (option_and_then (λ name. lookup (same_element name) elements) named)

-- the pairs from left to right; `solves` is the number of Solves that were applied so far
abbrev pub with_pairs : ℕ → Elements → Class → List Pair → Element → Result Element ModelFault
with_pairs solves elements kind [] element = Ok element
with_pairs solves elements kind (p ∷ ps) element = do
  found ← referred elements kind p
  new ← with_pair solves found p element
  with_pairs solves elements kind ps new

-- an element with these pairs takes the place of the one of its name, or stands last
unfoldable pub put : ElementName → Element → List Pair → CircuitView → Result CircuitView ModelFault
put name element pairs circuit =
    with_pairs circuit.solves circuit.elements name.class pairs element
    >>= λ e. Ok (record circuit { elements = insert_entry same_element circuit.elements name e })

abbrev pub make_where : Option Element → Place → ElementName → List Pair → CircuitView → Result CircuitView ModelFault
make_where None place name pairs circuit = put name (fresh circuit.solves name.class place) pairs circuit
make_where (Some there) place name pairs circuit = Err fault.Duplicate

-- New: an element with its defaults, and then the pairs; its name must be free
unfoldable pub make : Place → ElementName → List Pair → CircuitView → Result CircuitView ModelFault
make place name pairs circuit = make_where (lookup (same_element name) circuit.elements) place name pairs circuit

-- Edit: the pairs of an element that is there
unfoldable pub edit : ElementName → List Pair → CircuitView → Result CircuitView ModelFault
edit name pairs circuit = or_fault fault.UnknownName (lookup (same_element name) circuit.elements) >>= λ element. put name element pairs circuit

-- Set: options
unfoldable pub set : List Pair → CircuitView → Result CircuitView ModelFault
set pairs circuit = with_options pairs circuit.options >>= λ o. Ok (record circuit { options = o })

-- Solve: options, and one Solve more, where there is a circuit
unfoldable pub solve : List Pair → CircuitView → Result CircuitView ModelFault
solve pairs circuit = do
  done ← needed (has_circuit circuit.elements)
  options ← with_options pairs circuit.options
  Ok (record circuit { options = options; solves = circuit.solves + 1 })

abbrev pub applied_verb : Place → Verb → CircuitView → Result CircuitView ModelFault
applied_verb place (verb.New kind name pairs) circuit = new_key kind name (has_circuit circuit.elements) >>= λ key. make place key pairs circuit
applied_verb place (verb.Edit kind name pairs) circuit = edit_key kind name (has_circuit circuit.elements) >>= λ key. edit key pairs circuit
applied_verb place (verb.Set pairs) circuit = set pairs circuit
applied_verb place (verb.Solve pairs) circuit = solve pairs circuit
applied_verb place verb.Clear circuit = Ok (record circuit { elements = []; options = default_options })
applied_verb place verb.Bases circuit = needed (has_circuit circuit.elements) >>= λ done. Ok circuit

-- one command
abbrev pub applied : Command → CircuitView → Result CircuitView ModelFault
applied command circuit = applied_verb command.place command.verb circuit

-- all commands, in order
abbrev pub circuit_of : List Command → CircuitView → Result CircuitView ModelFault
circuit_of [] circuit = Ok circuit
circuit_of (c ∷ cs) circuit = applied c circuit >>= circuit_of cs

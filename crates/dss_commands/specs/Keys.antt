-- The element that a command is about.
use Rattle.std.specs.Prelude.{ℕ, Bool, List, codes, nat_eq, Result, Ok, Err, if◌then◌else◌}
use Rattle.std.specs.Cmp.Lexicographic.{pointwise}
use Rattle.dss_circuit.specs.dss_lexer.Texts.{is_empty}
use Rattle.dss_circuit.specs.dss_model.declared.fault.ModelFault.{ModelFault}
use Rattle.dss_circuit.specs.dss_model.declared.fault.ModelFault.TheVariants as fault
use Rattle.dss_circuit.specs.dss_model.Answers.{◌>>=◌, or_fault}
use Rattle.dss_circuit.specs.dss_model.Names.{bytes, lower, named, is_name}
use Rattle.dss_circuit.specs.dss_model.declared.names.ElementName.{ElementName}
use Rattle.dss_circuit.specs.dss_model.Classes.{classes}
use Rattle.dss_circuit.specs.Circuit.{source_name}

-- an element is written as a class and a name of allowed characters
abbrev pub written : List ℕ → List ℕ → Result Unit ModelFault
written kind name = if is_empty kind then Err fault.BadValue else (if is_name name then Ok tt else Err fault.BadValue)

-- what wants a circuit is refused before there is one
abbrev pub needed : Bool → Result Unit ModelFault
needed has_circuit = if has_circuit then Ok tt else Err fault.NoCircuit

-- the key of a class, in lower case, and a name
abbrev pub element_key : List ℕ → List ℕ → Bool → Result ElementName ModelFault
element_key kind name has_circuit = do
  c ← or_fault fault.UnknownClass (named classes kind)
  done ← needed has_circuit
  Ok (record { class = c; name = lower name })

-- an Edit names an element of one of the classes
abbrev pub edit_key : List ℕ → List ℕ → Bool → Result ElementName ModelFault
edit_key kind name has_circuit = written kind name >>= λ done. element_key (bytes (lower kind)) name has_circuit

-- New Circuit makes Vsource.source, whatever its name
abbrev pub made_key : List ℕ → List ℕ → Bool → Result ElementName ModelFault
made_key kind name has_circuit = if pointwise nat_eq kind (codes "circuit") then Ok source_name else element_key kind name has_circuit

abbrev pub new_key : List ℕ → List ℕ → Bool → Result ElementName ModelFault
new_key kind name has_circuit = written kind name >>= λ done. made_key (bytes (lower kind)) name has_circuit

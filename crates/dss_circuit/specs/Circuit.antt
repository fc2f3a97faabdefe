-- What a circuit is seen as.
use Rattle.std.specs.Prelude.{ℕ, List, [], ◌∷◌, codes, Bool, true, false}
use Rattle.dss_model.specs.declared.element.Element.{Element}
use Rattle.dss_model.specs.declared.names.Class.TheVariants as class
use Rattle.dss_model.specs.declared.names.ElementName.{ElementName}
use Rattle.dss_model.specs.declared.options.Options.{Options}
use Rattle.dss_model.specs.Defaults.{default_options}

-- elements by name, in order of definition
abbrev pub Elements : Type 0
Elements = List (ElementName × Element)

pub record CircuitView : Type 0 where
  pub elements : Elements
  pub options : Options
  -- how many Solves were applied so far; Clear doesn't change it
  pub solves : ℕ

-- no circuit yet, and the options as they are when nothing is set
abbrev pub empty_circuit : CircuitView
empty_circuit = record { elements = []; options = default_options; solves = 0 }

-- a circuit begins with its Vsource.source, so there is one as soon as there is an element
abbrev pub has_circuit : Elements → Bool
has_circuit [] = false
has_circuit (entry ∷ entries) = true

-- the source that New Circuit makes
abbrev pub source_name : ElementName
source_name = record { class = class.Vsource; name = codes "source" }

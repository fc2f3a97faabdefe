-- Which buses are reached from the sources, in which order, and with which nominal voltages.
use Rattle.std.specs.Prelude.{ℕ, zero, suc, List, [], ◌∷◌, ◌++◌, length, fold, Option, Some, None, unwrap_or}
use Rattle.std.specs.Map.{lookup}
use Rattle.dss_layout.specs.dss_lexer.Texts.{text_eq}
use Rattle.dss_layout.specs.dss_model.declared.bus.Bus.{Bus}
use Rattle.dss_layout.specs.dss_model.declared.element.Element.{Element}
use Rattle.dss_layout.specs.dss_model.declared.element.Element.TheVariants as the
use Rattle.dss_circuit.specs.Circuit.{Elements}
use Rattle.fd_bases.specs.declared.nominal.Nominal.{Nominal}
use Rattle.fd_bases.specs.Nominals.{source_nominal, winding_nominal}

-- buses by name, in the order in which they are reached, each with its nominal voltage
abbrev pub Reached : Type 0
Reached = List (List ℕ × Nominal)

-- the nominal voltage of a bus, where it is reached
abbrev pub nominal_at : Reached → List ℕ → Option Nominal
nominal_at reached bus = lookup (text_eq bus) reached

abbrev pub reach_where : Option Nominal → List ℕ → Nominal → Reached → Reached
reach_where None bus nominal reached = reached ++ (bus, nominal) ∷ []
reach_where (Some there) bus nominal reached = reached

-- a bus is reached with this nominal voltage; one that is reached already keeps what it has
abbrev pub reach : List ℕ → Nominal → Reached → Reached
reach bus nominal reached = reach_where (nominal_at reached bus) bus nominal reached

abbrev pub carried_where : Option Nominal → List ℕ → Option Nominal → Reached → Reached
carried_where None to own reached = reached
carried_where (Some there) to own reached = reach to (unwrap_or own there) reached

-- where bus `from` is reached, bus `to` is, with the nominal voltage of the element's own end there, else with that
-- of `from`
abbrev pub carried : List ℕ → List ℕ → Option Nominal → Reached → Reached
carried from to own reached = carried_where (nominal_at reached from) to own reached

-- where one of two buses is reached the other is; where one isn't given, none is
abbrev pub joined : Option Bus → Option Nominal → Option Bus → Option Nominal → Reached → Reached
joined (Some a) at_a (Some b) at_b reached = carried b.name a.name at_a (carried a.name b.name at_b reached)
joined (Some a) at_a None at_b reached = reached
joined None at_a b at_b reached = reached

-- an element is taken: a source reaches its bus, a line its other bus with the same nominal voltage, and a transformer
-- its other bus with the nominal voltage of that winding
abbrev pub taken : Element → Reached → Reached
taken (the.Vsource v) reached = reach v.bus1.name (source_nominal v) reached
taken (the.Line l) reached = joined l.bus1 None l.bus2 None reached
taken (the.Transformer t) reached = joined t.first.bus (Some (winding_nominal t.phases t.first)) t.second.bus (Some (winding_nominal t.phases t.second)) reached
taken other reached = reached

-- all elements are taken once, in order
abbrev pub pass : Elements → Reached → Reached
pass elements reached = fold (λ before entry. taken entry.1 before) reached elements

-- so many passes
abbrev pub passes : ℕ → Elements → Reached → Reached
passes zero elements reached = reached
passes (suc n) elements reached = passes n elements (pass elements reached)

-- the buses that are reached in as many passes as there are elements; no later pass reaches another
unfoldable pub reached_in : Elements → Reached
reached_in elements = passes (length elements) elements []

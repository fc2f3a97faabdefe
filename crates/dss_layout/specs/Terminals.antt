-- Terminals: the nodes at which an element joins its buses.
use Rattle.std.specs.Prelude.{ℕ, ◌==◌, ◌&&◌, nat_le, List, [], ◌∷◌, ◌++◌, length, take, map, filter, Option, Some, None, Result, Ok, Err, if◌then◌else◌}
use Rattle.dss_model.specs.declared.bus.Bus.{Bus}
use Rattle.dss_model.specs.declared.words.Connection.{Connection}
use Rattle.dss_model.specs.declared.words.Connection.TheVariants.{Wye, Delta}
use Rattle.dss_model.specs.declared.element.Element.{Element}
use Rattle.dss_model.specs.declared.element.Element.TheVariants as the
use Rattle.dss_layout.specs.declared.nodes.NodeName.{NodeName}
use Rattle.dss_layout.specs.declared.terminals.Terminals.{Terminals}
use Rattle.dss_layout.specs.declared.numbers.TerminalFault.{TerminalFault}
use Rattle.dss_layout.specs.declared.numbers.TerminalFault.TheVariants.{WrongCount, Unsupported}
use Rattle.dss_layout.specs.Nodes.{is_node}

-- three phases: nodes 1, 2 and 3 where none is given; a fourth number must be 0
abbrev pub three_phase_numbers : List ℕ → Result (List ℕ) TerminalFault
three_phase_numbers [] = Ok (1 ∷ 2 ∷ 3 ∷ [])
three_phase_numbers (a ∷ b ∷ c ∷ []) = Ok (a ∷ b ∷ c ∷ [])
three_phase_numbers (a ∷ b ∷ c ∷ d ∷ []) = if d == 0 then Ok (a ∷ b ∷ c ∷ []) else Err Unsupported
three_phase_numbers given = Err WrongCount

-- one phase: the node at its one end, 1 where none is given, and the node at its other end, which for wye is 0 unless given
abbrev pub one_phase_numbers : Connection → List ℕ → Result (List ℕ) TerminalFault
one_phase_numbers Wye [] = Ok (1 ∷ 0 ∷ [])
one_phase_numbers Wye (a ∷ []) = Ok (a ∷ 0 ∷ [])
one_phase_numbers Delta [] = Ok (1 ∷ 2 ∷ [])
one_phase_numbers Delta (a ∷ []) = Err WrongCount
one_phase_numbers connection (a ∷ b ∷ []) = Ok (a ∷ b ∷ [])
one_phase_numbers connection given = Err WrongCount

abbrev pub phase_numbers : ℕ → Connection → List ℕ → Result (List ℕ) TerminalFault
phase_numbers phases connection given = if phases == 1 then one_phase_numbers connection given else three_phase_numbers given

-- a source of one phase stands between its node and node 0
abbrev pub one_source_number : List ℕ → Result (List ℕ) TerminalFault
one_source_number [] = Ok (1 ∷ [])
one_source_number (a ∷ []) = Ok (a ∷ [])
one_source_number (a ∷ b ∷ []) = if b == 0 then Ok (a ∷ []) else Err Unsupported
one_source_number given = Err WrongCount

abbrev pub source_numbers : ℕ → List ℕ → Result (List ℕ) TerminalFault
source_numbers phases given = if phases == 1 then one_source_number given else three_phase_numbers given

-- an end of a line has one node for each of its phases, which are at most three: the first of 1, 2 and 3 where none is given
abbrev pub line_numbers : ℕ → List ℕ → Result (List ℕ) TerminalFault
line_numbers phases [] = Ok (take phases (1 ∷ 2 ∷ 3 ∷ []))
line_numbers phases given = if (length given == phases) && nat_le phases 3 then Ok given else Err WrongCount

-- a bus that is needed and isn't given has too few nodes
abbrev pub bus_numbers : (List ℕ → Result (List ℕ) TerminalFault) → Option Bus → Result (List ℕ) TerminalFault
bus_numbers rule None = Err WrongCount
bus_numbers rule (Some bus) = rule bus.nodes

abbrev pub at_one_bus : Result (List ℕ) TerminalFault → Result (List ℕ × List ℕ) TerminalFault
at_one_bus (Ok numbers) = Ok (numbers, [])
at_one_bus (Err e) = Err e

-- a wrong count at either bus comes before a number that is unsupported
abbrev pub at_two_buses : Result (List ℕ) TerminalFault → Result (List ℕ) TerminalFault
    → Result (List ℕ × List ℕ) TerminalFault
at_two_buses (Ok first) (Ok second) = Ok (first, second)
at_two_buses (Ok first) (Err e) = Err e
at_two_buses (Err WrongCount) second = Err WrongCount
at_two_buses (Err Unsupported) (Err WrongCount) = Err WrongCount
at_two_buses (Err Unsupported) second = Err Unsupported

-- the node numbers of an element at its first and at its second bus
abbrev pub terminal_numbers : Element → Result (List ℕ × List ℕ) TerminalFault
terminal_numbers (the.Vsource v) = at_one_bus (source_numbers v.phases v.bus1.nodes)
terminal_numbers (the.Line l) = at_two_buses (bus_numbers (line_numbers l.phases) l.bus1) (bus_numbers (line_numbers l.phases) l.bus2)
terminal_numbers (the.Transformer t) =
    at_two_buses (bus_numbers (phase_numbers t.phases t.first.conn) t.first.bus)
    (bus_numbers (phase_numbers t.phases t.second.conn) t.second.bus)
terminal_numbers (the.Capacitor c) = at_one_bus (bus_numbers (phase_numbers c.phases c.conn) c.bus1)
terminal_numbers (the.Load l) = at_one_bus (bus_numbers (phase_numbers l.phases l.conn) l.bus1)
terminal_numbers other = Ok ([], [])

-- the terminals' fault, if there is one
abbrev pub tested : Result (List ℕ × List ℕ) TerminalFault → Result Unit TerminalFault
tested (Ok numbers) = Ok tt
tested (Err e) = Err e

-- the buses of an element
abbrev pub first_bus : Element → Option Bus
first_bus (the.Vsource v) = Some v.bus1
first_bus (the.Line l) = l.bus1
first_bus (the.Transformer t) = t.first.bus
first_bus (the.Capacitor c) = c.bus1
first_bus (the.Load l) = l.bus1
first_bus other = None

abbrev pub second_bus : Element → Option Bus
second_bus (the.Line l) = l.bus2
second_bus (the.Transformer t) = t.second.bus
second_bus other = None

-- these numbers at a bus
abbrev pub named_at : Option Bus → List ℕ → List NodeName
named_at None numbers = []
named_at (Some bus) numbers = map (λ n. record { bus = bus.name; number = n }) numbers

abbrev pub nodes_by : Element → Result (List ℕ × List ℕ) TerminalFault → Terminals
nodes_by element (Ok numbers) = record { first = named_at (first_bus element) numbers.0; second = named_at (second_bus element) numbers.1 }
nodes_by element (Err e) = record { first = []; second = [] }

-- the nodes of an element at its first and at its second bus; none where its terminals have a fault
abbrev pub terminals_of : Element → Terminals
terminals_of element = nodes_by element (terminal_numbers element)

-- the nodes that an element mentions, bus by bus, numbers as they are written; ground is left out
abbrev pub mentions : Element → List NodeName
mentions element = filter is_node ((terminals_of element).first ++ (terminals_of element).second)

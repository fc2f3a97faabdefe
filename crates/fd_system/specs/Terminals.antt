-- The terminals of elements: the node and the branch of each phase, the two nodes that a phase joins, and its nominal voltage.
use Rattle.std.specs.Prelude.{ℕ, ◌+◌, ◌%◌, ◌^◌, ◌≡◌, ℤ, pos, ◌*ℤ◌, List, length, get_or, cond, eqb, All}
use Rattle.fd_arith.specs.fd_exact.Rounding.{near_div}
use Rattle.fd_arith.specs.fd_exact.RootThree.{root_three}
use Rattle.fd_arith.specs.declared.terms.NodeAt.{NodeAt}
use Rattle.fd_arith.specs.declared.terms.NodeAt.TheVariants.{Ground, Node}
use Rattle.fd_arith.specs.declared.terms.Conn.{Conn}
use Rattle.fd_arith.specs.declared.terms.Conn.TheVariants.{Wye, Delta}
use Rattle.fd_system.specs.declared.terminals.NodePair.{NodePair}
use Rattle.fd_system.specs.declared.terminals.PhasePairs.{PhasePairs}
use Rattle.fd_system.specs.declared.terminals.PhasePairs.TheVariants as pairs
use Rattle.fd_system.specs.Contributions.{IsSmall}

-- ---- one node for each phase

-- the node of phase k, and its branch
abbrev pub node_of : List NodeAt → ℕ → NodeAt
node_of ns k = get_or ns k Ground

abbrev pub branch_of : ℕ → ℕ → NodeAt
branch_of branch k = Node (branch + k)

-- n nodes, with numbers that leave room for two parts
pub record IsSide (n : ℕ) (ns : List NodeAt) : Type 0 where
  pub count : length ns ≡ n
  pub small : All IsSmall ns

-- ---- the two nodes that a phase joins

-- the nodes and the phases of a terminal: one phase stands at two nodes
abbrev pub node_count : ℕ → ℕ
node_count phases = cond (eqb phases 1) 2 phases

abbrev pub phase_count : PhasePairs → ℕ
phase_count pairs.OnePhase = 1
phase_count pairs.Wye = 3
phase_count pairs.DeltaNext = 3
phase_count pairs.DeltaPrevious = 3

-- the second of the nodes that phase k joins
abbrev pub second_node : PhasePairs → List NodeAt → ℕ → NodeAt
second_node pairs.OnePhase ns k = node_of ns 1
second_node pairs.Wye ns k = Ground
second_node pairs.DeltaNext ns k = node_of ns ((k + 1) % 3)
second_node pairs.DeltaPrevious ns k = node_of ns ((k + 2) % 3)

abbrev pub pair_of : PhasePairs → List NodeAt → ℕ → NodePair
pair_of p ns k = record { first = node_of ns k; second = second_node p ns k }

-- at a capacitor or a load
abbrev pub three_phase_pairs : Conn → PhasePairs
three_phase_pairs Wye = pairs.Wye
three_phase_pairs Delta = pairs.DeltaNext

abbrev pub pairs_of : ℕ → Conn → PhasePairs
pairs_of phases conn = cond (eqb phases 1) pairs.OnePhase (three_phase_pairs conn)

-- ---- nominal voltages

-- a voltage between two of three phases as that of a phase, to the nearest microvolt
abbrev pub over_root_three : ℤ → ℤ
over_root_three volts = near_div (volts *ℤ pos (10 ^ 15)) root_three

-- a kV in 10^-9 is a number of microvolts; with three phases in wye it is divided by root three
abbrev pub three_phase_volts : Conn → ℤ → ℤ
three_phase_volts Wye kv = over_root_three kv
three_phase_volts Delta kv = kv

abbrev pub phase_volts : ℕ → Conn → ℤ → ℤ
phase_volts phases conn kv = cond (eqb phases 1) kv (three_phase_volts conn kv)

-- The Lines and Transformers of a circuit as sections of a ladder: their nodes, and from which side each may be taken.
use Rattle.std.specs.Prelude.{ℕ, suc, ◌==◌, Bool, true, false, not, ◌&&◌, List, [], ◌∷◌, ◌++◌, filter, if◌then◌else◌}
use Rattle.std.specs.List.{list_any, list_all}
use Rattle.dss_layout.specs.dss_model.declared.words.Connection.{Connection}
use Rattle.dss_layout.specs.dss_model.declared.words.Connection.TheVariants.{Wye, Delta}
use Rattle.dss_layout.specs.dss_model.declared.transformer.Transformer.{Transformer}
use Rattle.dss_layout.specs.dss_model.declared.element.Element.{Element}
use Rattle.dss_layout.specs.dss_model.declared.element.Element.TheVariants as the
use Rattle.dss_layout.specs.declared.nodes.NodeName.{NodeName}
use Rattle.dss_layout.specs.declared.terminals.Terminals.{Terminals}
use Rattle.dss_layout.specs.Nodes.{same_node, is_node}
use Rattle.dss_layout.specs.Terminals.{terminals_of}
use Rattle.dss_circuit.specs.Circuit.{Elements}
use Rattle.fd_ladder.specs.declared.section.Section.{Section}

-- ---- nodes

-- no two of these are the same
abbrev pub are_distinct : List NodeName → Bool
are_distinct [] = true
are_distinct (node ∷ nodes) = not (list_any (λ other. same_node other node) nodes) && are_distinct nodes

-- each is a node of its own: none is ground, and no two are the same
abbrev pub are_own_nodes : List NodeName → Bool
are_own_nodes nodes = list_all is_node nodes && are_distinct nodes

-- ---- Transformers

-- one of two nodes is ground, and the other isn't
abbrev pub has_one_ground : List NodeName → Bool
has_one_ground (a ∷ b ∷ []) = if is_node a then not (is_node b) else is_node b
has_one_ground nodes = false

-- each of three phases joins a node of its own to ground; in delta two phases meet at each node
abbrev pub three_join_ground : Connection → List NodeName → Bool
three_join_ground Wye nodes = are_own_nodes nodes
three_join_ground Delta nodes = false

-- each phase of a winding joins a node of its own to ground
abbrev pub joins_ground : ℕ → Connection → List NodeName → Bool
joins_ground phases connection nodes = if phases == 1 then has_one_ground nodes else three_join_ground connection nodes

-- ---- sections

-- a Line may be taken from either end where no node of it is ground and the nodes of the other end are distinct
abbrev pub line_section : ℕ → Terminals → Section
line_section number ends = record {
  element = number;
  first = ends.first;
  second = ends.second;
  from_first = list_all is_node ends.first && are_own_nodes ends.second;
  from_second = list_all is_node ends.second && are_own_nodes ends.first;
}

-- a Transformer may be taken from its first winding where each phase of its second joins a node of its own to ground
abbrev pub transformer_section : ℕ → Transformer → Terminals → Section
transformer_section number transformer ends = record {
  element = number;
  first = filter is_node ends.first;
  second = filter is_node ends.second;
  from_first = joins_ground transformer.phases transformer.second.conn ends.second;
  from_second = false;
}

-- the element of this number as a section, if it is one
abbrev pub sections_at : ℕ → Element → List Section
sections_at number (the.Line l) = line_section number (terminals_of (the.Line l)) ∷ []
sections_at number (the.Transformer t) = transformer_section number t (terminals_of (the.Transformer t)) ∷ []
sections_at number other = []

-- the Lines and Transformers in order of definition, the first element having this number
abbrev pub sections_from : ℕ → Elements → List Section
sections_from number [] = []
sections_from number (entry ∷ entries) = sections_at number entry.1 ++ sections_from (suc number) entries

-- ---- the source

-- the nodes of the source with which a circuit begins
abbrev pub source_nodes : Elements → List NodeName
source_nodes [] = []
source_nodes (entry ∷ entries) = filter is_node (terminals_of entry.1).first

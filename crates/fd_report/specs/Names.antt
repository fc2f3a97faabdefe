-- The names of nodes, elements and unknowns, as records have them. A field is a list of bytes.
use Rattle.std.specs.Prelude.{ℕ, List, [], unwrap_or}
use Rattle.dss_script.specs.dss_model.Names.{bytes}
use Rattle.dss_script.specs.dss_model.declared.names.ElementName.{ElementName}
use Rattle.fd_sample.specs.dss_layout.declared.nodes.NodeName.{NodeName}
use Rattle.fd_sample.specs.dss_layout.Layout.{LayoutView}
use Rattle.fd_sample.specs.dss_layout.UnknownNames.{element_text, node_text, unknown_name}

-- bus and number, parted by a dot
abbrev pub node_field : NodeName → List ℕ
node_field node = bytes (node_text node)

-- class and name, parted by a dot
abbrev pub element_field : ElementName → List ℕ
element_field element = bytes (element_text element)

-- the name of the real unknown at a place, which is that of its row; the place is below the layout's size
unfoldable pub name_at : LayoutView → ℕ → List ℕ
name_at layout place = unwrap_or (unknown_name layout place) []

-- The walk over the Lines and Transformers ends.
use Rattle.std.specs.Prelude.{◌≡◌, List}
use Rattle.dss_layout.specs.declared.nodes.NodeName.{NodeName}
use Rattle.fd_ladder.specs.declared.section.Section.{Section}
use Rattle.fd_ladder.specs.Radial.{pass, reach_of}

-- a further pass takes none
abbrev pub RadialLaw : Type 0
RadialLaw = (sections : List Section) (nodes : List NodeName) → pass sections (reach_of sections nodes) ≡ reach_of sections nodes

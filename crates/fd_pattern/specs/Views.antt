-- What contracts see of a network, and where its unknowns stand.
use Rattle.std.specs.Prelude.{ℕ, ◌+◌, ◌*◌, nat_lt, if◌then◌else◌}
use Rattle.fd_load.specs.fd_system.System.{StampView}
use Rattle.fd_pattern.specs.declared.layout.Layout.{Layout}
use Rattle.fd_pattern.specs.declared.layout.PlaceKind.{PlaceKind}
use Rattle.fd_pattern.specs.declared.layout.PlaceKind.TheVariants.{Node, Branch, Magnitude}

-- `size` real unknowns: two parts for each of the complex ones, of which the first are nodes and the others branches, then the
-- magnitudes of part loads; with the stamp of all elements
pub record NetworkView : Type 0 where
  pub size : ℕ
  pub complexes : ℕ
  pub nodes : ℕ
  pub magnitudes : ℕ
  pub stamp : StampView

-- the network of a layout
abbrev pub network_of : Layout → StampView → NetworkView
network_of l s = record {
  size = 2 * (l.nodes + l.branches) + l.magnitudes;
  complexes = l.nodes + l.branches;
  nodes = l.nodes;
  magnitudes = l.magnitudes;
  stamp = s;
}

-- what the unknown at a place is, where branches begin at one place and magnitudes at another
abbrev pub kind_in : ℕ → ℕ → ℕ → PlaceKind
kind_in branches magnitudes place = (if nat_lt place branches then Node else if nat_lt place magnitudes then Branch else Magnitude)

abbrev pub kind_of : NetworkView → ℕ → PlaceKind
kind_of v place = kind_in (2 * v.nodes) (2 * v.complexes) place

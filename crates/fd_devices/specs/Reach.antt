-- The places of row and column that a device can reach, whatever its taps, its state or its powers.
use Rattle.std.specs.Prelude.{ℕ, List, [], ◌++◌, map, All}
use Rattle.std.specs.List.{Contains, flat_map}
use Rattle.dss_layout.specs.fd_arith.declared.terms.NodeAt.{NodeAt}
use Rattle.dss_layout.specs.fd_arith.declared.terms.Ends.{Ends}
use Rattle.fd_xfmr.specs.fd_system.Contributions.{concat_below}
use Rattle.fd_xfmr.specs.fd_system.Terminals.{branch_of}
use Rattle.fd_elements.specs.fd_line.Line.{line_list}
use Rattle.fd_elements.specs.fd_source.Equations.{source_list}
use Rattle.fd_pattern.specs.PatternPlaces.{cross, load_places, node_places, place_of, places_of}
use Rattle.fd_devices.specs.Devices.{Device, capacitor, device_stamp, line, loads, other, source, transformer}

-- the real unknowns of nodes, and of m branches from the first one on
abbrev pub unknowns_of : List NodeAt → List ℕ
unknowns_of ns = flat_map node_places ns

abbrev pub branch_places : ℕ → ℕ → List ℕ
branch_places branch m = concat_below (λ k. node_places (branch_of branch k)) m

-- a transformer's branches meet its nodes and one another
abbrev pub transformer_places : ℕ → Ends → List (ℕ × ℕ)
transformer_places phases at =
    let nodes = unknowns_of at.first ++ unknowns_of at.second in
    let branches = branch_places at.branch phases in
    cross branches nodes ++ (cross nodes branches ++ cross branches branches)

-- the nodes of a bank meet one another, also while it is open
abbrev pub bank_places : Ends → List (ℕ × ℕ)
bank_places at = cross (unknowns_of at.first) (unknowns_of at.first)

-- the unknowns of each part load's terminal meet one another, whatever its powers; a source and a line don't move
abbrev pub device_places : Device → List (ℕ × ℕ)
device_places (source s at) = map place_of (source_list s at)
device_places (line l at) = map place_of (line_list l at)
device_places (transformer d taps at) = transformer_places d.phases at
device_places (capacitor d closed at) = bank_places at
device_places (loads us) = flat_map load_places us
device_places other = []

-- what a device adds stands at places that it can reach
abbrev pub ReachLaw : Type 0
ReachLaw =
    (ps : List (ℕ × ℕ)) (d : Device) → All (Contains ps) (device_places d)
    → All (Contains ps) (places_of (device_stamp d).terms (device_stamp d).loads)

-- The records of a solved network, as lists of fields.
use Rattle.std.specs.Prelude.{ℕ, ◌+◌, ◌*◌, List, [], ◌∷◌, ◌++◌, length, map, codes}
use Rattle.std.specs.List.{enumerate_from}
use Rattle.std.specs.Fmt.{decimal}
use Rattle.fd_inverse.specs.fd_exact.States.{part}
use Rattle.fd_sample.specs.dss_layout.declared.nodes.NodeName.{NodeName}
use Rattle.fd_sample.specs.dss_layout.declared.nodes.PhaseName.{PhaseName}
use Rattle.fd_sample.specs.dss_layout.Layout.{LayoutView, complex_count}
use Rattle.dss_script.specs.fd_decimal.Decimals.{micro_text, size_text}
use Rattle.fd_report.specs.Names.{node_field, element_field}
use Rattle.fd_report.specs.Sizes.{greatest_size, least_size}
use Rattle.fd_report.specs.Solutions.{SolutionView, number_at}

-- the number of the solution, the hour and the round
abbrev pub solution_fields : ℕ → ℕ → ℕ → List (List ℕ)
solution_fields number hour round = codes "solution" ∷ decimal number ∷ decimal hour ∷ decimal round ∷ []

-- the numbers of a solution, by place
module _ (s : SolutionView) where
  -- the real and the imaginary part of complex unknown k
  abbrev pub part_fields : ℕ → List (List ℕ)
  part_fields k = micro_text (part s.centre (2 * k)) ∷ micro_text (part s.centre (2 * k + 1)) ∷ []

  -- the mismatches of their rows
  abbrev pub mismatch_fields : ℕ → List (List ℕ)
  mismatch_fields k = size_text (number_at s.mismatches (2 * k)) ∷ size_text (number_at s.mismatches (2 * k + 1)) ∷ []

  -- the radius and the half-width of the box of its parts, and the least and the greatest size within the radii
  abbrev pub interval_fields : ℕ → List (List ℕ)
  interval_fields k =
      size_text (number_at s.radii (2 * k)) ∷ size_text (number_at s.boxes (2 * k))
      ∷ size_text (least_size s k) ∷ size_text (greatest_size s k) ∷ []

  -- a node, whose voltage is complex unknown k
  abbrev pub node_fields : ℕ → NodeName → List (List ℕ)
  node_fields k node = codes "node" ∷ node_field node ∷ (part_fields k ++ (interval_fields k ++ mismatch_fields k))

  -- a branch phase, whose current is complex unknown k
  abbrev pub branch_fields : ℕ → PhaseName → List (List ℕ)
  branch_fields k phase =
      codes "branch" ∷ element_field phase.element ∷ decimal phase.phase
      ∷ (part_fields k ++ size_text (number_at s.radii (2 * k)) ∷ mismatch_fields k)

  -- the real unknown at a place, its radius, the half-width of its box, and the mismatch of its row
  abbrev pub value_fields : ℕ → List (List ℕ)
  value_fields place =
      micro_text (part s.centre place) ∷ size_text (number_at s.radii place) ∷ size_text (number_at s.boxes place)
      ∷ size_text (number_at s.mismatches place) ∷ []

  -- a phase of a load of constant current, whose voltage magnitude is the real unknown at this place
  abbrev pub magnitude_fields : ℕ → PhaseName → List (List ℕ)
  magnitude_fields place phase = codes "magnitude" ∷ element_field phase.element ∷ decimal phase.phase ∷ value_fields place

  -- nodes of which the first is complex unknown k
  abbrev pub node_records : ℕ → List NodeName → List (List (List ℕ))
  node_records k nodes = map (λ p. node_fields p.0 p.1) (enumerate_from k nodes)

  -- branch phases of which the first is complex unknown k
  abbrev pub branch_records : ℕ → List PhaseName → List (List (List ℕ))
  branch_records k phases = map (λ p. branch_fields p.0 p.1) (enumerate_from k phases)

  -- phases of which the first has its magnitude at this place
  abbrev pub magnitude_records : ℕ → List PhaseName → List (List (List ℕ))
  magnitude_records place phases = map (λ p. magnitude_fields p.0 p.1) (enumerate_from place phases)

  -- nodes, which are the first complex unknowns, branch phases and magnitudes, each in the layout's order
  abbrev pub state_records : LayoutView → List (List (List ℕ))
  state_records layout =
      node_records 0 layout.nodes
      ++ (branch_records (length layout.nodes) layout.branches ++ magnitude_records (2 * complex_count layout) layout.magnitudes)

-- the records of one solution of a network with this layout
abbrev pub report_of : LayoutView → ℕ → ℕ → ℕ → SolutionView → List (List (List ℕ))
report_of layout number hour round s = solution_fields number hour round ∷ state_records s layout

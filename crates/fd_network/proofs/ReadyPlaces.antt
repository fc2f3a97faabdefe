-- Where the nodes, the branches and the magnitudes of an element stand among the unknowns of the layout.
use Rattle.std.proofs.Common.{ℕ, ◌+◌, ◌≤◌, ◌==◌, Bool, true, false, if◌then◌else◌, length, slice_index, All, ◌∙◌, arith}
use Rattle.std.proofs.lemmas.List.{length-map}
use Rattle.dss_ready.specs.dss_model.declared.element.Element.{Element}
use Rattle.dss_ready.specs.dss_layout.Among.{IsAmong}
use Rattle.dss_ready.specs.dss_layout.Nodes.{node_at}
use Rattle.dss_ready.specs.dss_layout.Terminals.{mentions, terminals_of}
use Rattle.dss_ready.specs.dss_layout.Layout.{LayoutView, branch_phases, complex_count, ends_of, first_magnitude, magnitude_phases, size_of}
use Rattle.fd_devices.proofs.CallerLemmas.{HasCounts, StandsAmong, first_count, second_count}
use Rattle.fd_network.proofs.ReadyNodes.{sides_below}

module _ (layout : LayoutView) (place : ℕ) (e : Element) where
  branches_below : (b : Bool) → slice_index layout.branches_before place + branch_phases e ≤ length layout.branches
      → (if b then 0 else length layout.nodes + slice_index layout.branches_before place) + branch_phases e ≤ complex_count layout
  branches_below true h = omega arith
  branches_below false h = omega arith

  pub stands_among : HasCounts (first_count e) (second_count e) (terminals_of e) → All (IsAmong layout.nodes) (mentions e)
      → slice_index layout.branches_before place + branch_phases e ≤ length layout.branches
      → slice_index layout.magnitudes_before place + magnitude_phases e ≤ length layout.magnitudes
      → StandsAmong (length layout.nodes) (complex_count layout) (size_of layout) (first_magnitude layout place) (ends_of layout place e) e
  stands_among counts among room behind =
      let below = sides_below layout.nodes (length layout.nodes) (omega arith) (terminals_of e) among in
      record {
        first = record { count = length-map (terminals_of e).first (node_at layout.nodes) ∙ counts.at_first; below = below.0 };
        second = record { count = length-map (terminals_of e).second (node_at layout.nodes) ∙ counts.at_second; below = below.1 };
        branches = branches_below (branch_phases e == 0) room;
        magnitudes = record { behind = omega arith; below = omega arith };
      }

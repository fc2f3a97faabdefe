-- The ladder of a circuit by its parts.
use Rattle.std.proofs.Common.{◌≡◌, ◌∙◌, ℕ, Bool, false, List, [], ◌∷◌, ◌++◌, length, map, replicate, ap}
use Rattle.fd_network.specs.dss_circuit.Circuit.{CircuitView}
use Rattle.fd_network.specs.dss_layout.Layout.{layout_of}
use Rattle.fd_network.specs.fd_devices.declared.settings.Positions.{Positions}
use Rattle.fd_ladder.specs.Radial.{order_of}
use Rattle.fd_series.specs.fd_rungs.Bounds.{branches_in, ladder_in}
use Rattle.fd_series.specs.fd_rungs.declared.branch.Rung.{Rung}
use Rattle.fd_series.specs.fd_rungs.declared.branch.Ladder.{Ladder}
use Rattle.fd_series.specs.fd_rungs.fd_arith.declared.terms.TapPair.{TapPair}
use Rattle.fd_sweep.specs.Ladders.{ladder_of, rungs_from, shunts_from, taps_from}

-- from no rungs, with no node reached, the rungs of the source and those in order
pub is_ladder : (c : CircuitView) (at : Positions) (ladder : Ladder) (before : List Rung)
    (taps : List TapPair) (reached : List Bool) (numbers : List ℕ)
    → before ≡ [] → taps ≡ taps_from c.elements at.taps → reached ≡ replicate (length (layout_of c.elements).nodes) false
    → numbers ≡ 0 ∷ order_of c.elements
    → map branches_in ladder.rungs.items
    ≡ map branches_in before ++ rungs_from (layout_of c.elements) c.options.defaultbasefrequency c.elements taps reached numbers
    → ladder.shunts.items ≡ shunts_from (layout_of c.elements) c.options.defaultbasefrequency 0 c.elements at.closed
    → ladder_in ladder ≡ ladder_of c at
unfolding ladder_of
is_ladder c at ladder before taps reached numbers none taps_are reached_are numbers_are rungs_are shunts_are =
    let layout = layout_of c.elements in
    let hertz = c.options.defaultbasefrequency in
    let all : map branches_in ladder.rungs.items
    ≡ rungs_from layout hertz c.elements (taps_from c.elements at.taps) (replicate (length layout.nodes) false) (0 ∷ order_of c.elements) =
    rungs_are
    ∙ ap (λ b. map branches_in b ++ rungs_from layout hertz c.elements taps reached numbers) none
    ∙ ap (λ t. rungs_from layout hertz c.elements t reached numbers) taps_are
    ∙ ap (λ r. rungs_from layout hertz c.elements (taps_from c.elements at.taps) r numbers) reached_are
    ∙ ap (rungs_from layout hertz c.elements (taps_from c.elements at.taps) (replicate (length layout.nodes) false)) numbers_are in
    (λ i. record { rungs = all i; shunts = shunts_are i })

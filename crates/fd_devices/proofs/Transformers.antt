-- What a transformer adds is bounded.
use Rattle.std.proofs.Common.{ℕ, ◌+◌, ◌*◌, ◌%◌, ◌<◌, ◌≤◌, ◌^◌, pos, negsuc, neg_ℤ, List, arith}
use Rattle.std.specs.List.{All}
use Rattle.std.proofs.lemmas.List.Elements.{All-nil}
use Rattle.dss_layout.specs.fd_arith.declared.terms.NodeAt.{NodeAt}
use Rattle.dss_layout.specs.fd_arith.declared.terms.Ends.{Ends}
use Rattle.dss_layout.specs.fd_arith.declared.terms.TapPair.{TapPair}
use Rattle.fd_xfmr.specs.fd_system.Contributions.{IsWithin, complex_terms}
use Rattle.fd_xfmr.specs.fd_system.declared.terminals.NodePair.{NodePair}
use Rattle.fd_xfmr.specs.fd_system.declared.terminals.PhasePairs.{PhasePairs}
use Rattle.fd_xfmr.specs.fd_system.declared.terminals.PhasePairs.TheVariants as pairs
use Rattle.fd_xfmr.specs.fd_system.Terminals.{node_count, pair_of, second_node}
use Rattle.fd_xfmr.specs.declared.data.XfmrData.{XfmrData}
use Rattle.fd_xfmr.specs.declared.leakage.Coefficients.{Coefficients}
use Rattle.fd_xfmr.specs.declared.terms.PhaseAt.{PhaseAt}
use Rattle.fd_xfmr.specs.Windings.{first_pairs, second_pairs}
use Rattle.fd_xfmr.specs.Leakage.{AreTaps, IsXfmr, coefficients_of}
use Rattle.fd_xfmr.specs.Transformer.{branch_list, current_list, list_at, phase_at, phase_list, xfmr_list}
use Rattle.fd_xfmr.proofs.CallerLemmas.{xfmr_is}
use Rattle.fd_elements.specs.fd_load.Current.{IsPast}
use Rattle.fd_pattern.specs.Conditions.{IsAmong, IsKnown, IsServed}
use Rattle.fd_devices.specs.Devices.{transformer}
use Rattle.fd_devices.specs.Building.{IsSettled}
use Rattle.fd_devices.specs.Sound.{HasBranches, IsSideOf}
use Rattle.fd_devices.proofs.Counting.{AreInside, concat_inside, joined_inside, more_room, node_below, complex_inside}
use Rattle.fd_devices.proofs.Bounded.{contributions}
use Rattle.fd_devices.proofs.Fitting.{fits_by}

-- ---- the places of its contributions

module _ (n : ℕ) where
  -- both nodes of a pair
  pub record IsPairBelow (p : NodePair) : Type 0 where
    pub first : IsAmong n p.first
    pub second : IsAmong n p.second

  second_below : (p : PhasePairs) (ns : List NodeAt) (k : ℕ) → All (IsAmong n) ns → IsAmong n (second_node p ns k)
  second_below pairs.OnePhase ns k h = node_below n ns 1 h
  second_below pairs.Wye ns k h = tt
  second_below pairs.DeltaNext ns k h = node_below n ns ((k + 1) % 3) h
  second_below pairs.DeltaPrevious ns k h = node_below n ns ((k + 2) % 3) h

  pub pair_below : (p : PhasePairs) (ns : List NodeAt) (k : ℕ) → All (IsAmong n) ns → IsPairBelow (pair_of p ns k)
  pair_below p ns k h = record { first = node_below n ns k h; second = second_below p ns k h }

  module _ (c : Coefficients) (p : PhaseAt) (one : IsPairBelow p.winding1) (two : IsPairBelow p.winding2) (branch : IsAmong n p.branch) where
    branch_inside : AreInside n 20 (branch_list c p)
    branch_inside =
        joined_inside n 16 4 _ (complex_terms p.branch p.branch (neg_ℤ c.r) (neg_ℤ c.x) (pos (10 ^ 22)))
        (joined_inside n 8 8 _ _
        (joined_inside n 4 4 (complex_terms p.branch p.winding1.first c.ratio (pos 0) c.ratio_over)
        (complex_terms p.branch p.winding1.second (neg_ℤ c.ratio) (pos 0) c.ratio_over)
        (complex_inside n p.branch p.winding1.first c.ratio (pos 0) c.ratio_over branch one.first)
        (complex_inside n p.branch p.winding1.second (neg_ℤ c.ratio) (pos 0) c.ratio_over branch one.second))
        (joined_inside n 4 4 (complex_terms p.branch p.winding2.first (negsuc 0) (pos 0) (pos 1))
        (complex_terms p.branch p.winding2.second (pos 1) (pos 0) (pos 1))
        (complex_inside n p.branch p.winding2.first (negsuc 0) (pos 0) (pos 1) branch two.first)
        (complex_inside n p.branch p.winding2.second (pos 1) (pos 0) (pos 1) branch two.second)))
        (complex_inside n p.branch p.branch (neg_ℤ c.r) (neg_ℤ c.x) (pos (10 ^ 22)) branch branch)

    current_inside : AreInside n 16 (current_list c p)
    current_inside =
        joined_inside n 4 12 (complex_terms p.winding1.first p.branch c.ratio (pos 0) c.ratio_over) _
        (complex_inside n p.winding1.first p.branch c.ratio (pos 0) c.ratio_over one.first branch)
        (joined_inside n 4 8 (complex_terms p.winding1.second p.branch (neg_ℤ c.ratio) (pos 0) c.ratio_over) _
        (complex_inside n p.winding1.second p.branch (neg_ℤ c.ratio) (pos 0) c.ratio_over one.second branch)
        (joined_inside n 4 4 (complex_terms p.winding2.first p.branch (negsuc 0) (pos 0) (pos 1))
        (complex_terms p.winding2.second p.branch (pos 1) (pos 0) (pos 1))
        (complex_inside n p.winding2.first p.branch (negsuc 0) (pos 0) (pos 1) two.first branch)
        (complex_inside n p.winding2.second p.branch (pos 1) (pos 0) (pos 1) two.second branch)))

    phase_inside : AreInside n 36 (phase_list c p)
    phase_inside = joined_inside n 20 16 (branch_list c p) (current_list c p) branch_inside current_inside

  xfmr_inside : (d : XfmrData) (t : TapPair) (at : Ends) → All (IsAmong n) at.first → All (IsAmong n) at.second
      → at.branch + d.phases ≤ n → AreInside n (d.phases * 64) (xfmr_list d t at)
  xfmr_inside d t at first second room =
      more_room n (d.phases * 36) (d.phases * 64) (xfmr_list d t at) (omega arith)
      (concat_inside n 36 (list_at (coefficients_of d t) d at) d.phases (λ k p.
      phase_inside (coefficients_of d t) (phase_at d at k) (pair_below (first_pairs d) at.first k first)
      (pair_below (second_pairs d) at.second k second) (below k p)))
    where
      below : (k : ℕ) → k < d.phases → at.branch + k < n
      below k p = omega arith

-- ---- what it adds

pub transformer_settled : (m n size : ℕ) (d : XfmrData) (t : TapPair) (at : Ends) → IsXfmr d → AreTaps t
    → IsSideOf n (node_count d.phases) at.first → IsSideOf n (node_count d.phases) at.second
    → HasBranches n d.phases at → All IsWithin (xfmr_list d t at) → IsSettled m n size d.phases (transformer d t at)
transformer_settled m n size d t at h k first second branches w = record {
  fits = fits_by (transformer d t at) w (All-nil (λ u. ¬ (IsPast u.load)));
  good = (h, k);
  bounded = record {
    terms = contributions n (64 * (1 + d.phases)) (xfmr_list d t at)
        (more_room n (d.phases * 64) (64 * (1 + d.phases)) (xfmr_list d t at) (omega arith)
        (xfmr_inside n d t at first.below second.below branches.below))
        (xfmr_is d t at h k).divided w;
    constants = All-nil (IsKnown (2 * n));
    few_constants = omega arith;
    loads = All-nil (IsServed m n size);
    few_loads = omega arith;
    draw = omega arith;
  };
}

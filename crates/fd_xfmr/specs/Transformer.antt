-- The equations of a transformer, and the contributions that add up to them.
use Rattle.std.specs.Prelude.{ℕ, ◌+◌, ◌<◌, ◌^◌, pos, negsuc, neg_ℤ, nat_abs, List, [], ◌∷◌, ◌++◌}
use Rattle.fd_system.specs.fd_exact.States.{State}
use Rattle.fd_system.specs.fd_arith.declared.terms.Term.{Term}
use Rattle.fd_system.specs.fd_arith.declared.terms.Ends.{Ends}
use Rattle.fd_system.specs.fd_arith.declared.terms.TapPair.{TapPair}
use Rattle.fd_system.specs.Complex.{Complex, complex, ◌⊟◌, ◌⊠◌, negative}
use Rattle.fd_system.specs.Contributions.{complex_terms, concat_below, IsSmall}
use Rattle.fd_system.specs.Equations.{unknown, Part, both}
use Rattle.fd_system.specs.declared.terminals.NodePair.{NodePair}
use Rattle.fd_system.specs.Terminals.{IsSide, branch_of, node_count, pair_of}
use Rattle.fd_xfmr.specs.declared.data.XfmrData.{XfmrData}
use Rattle.fd_xfmr.specs.declared.leakage.Coefficients.{Coefficients}
use Rattle.fd_xfmr.specs.declared.terms.PhaseAt.{PhaseAt}
use Rattle.fd_xfmr.specs.Windings.{first_pairs, second_pairs}
use Rattle.fd_xfmr.specs.Leakage.{coefficients_of}

-- ---- the equations

-- where phase k stands
abbrev pub phase_at : XfmrData → Ends → ℕ → PhaseAt
phase_at d at k = record {
  winding1 = pair_of (first_pairs d) at.first k;
  winding2 = pair_of (second_pairs d) at.second k;
  branch = branch_of at.branch k;
}

-- the ratio a and the leakage impedance Z
abbrev pub turns_ratio : Coefficients → Complex
turns_ratio c = complex c.ratio (pos 0) (nat_abs c.ratio_over)

abbrev pub leakage_impedance : Coefficients → Complex
leakage_impedance c = complex c.r c.x (10 ^ 22)

-- the voltage of a winding
abbrev pub across : State → NodePair → Complex
across x p = unknown x p.first ⊟ unknown x p.second

-- a phase: the branch row a w1 - w2 - Z i; winding 1 draws a i at its first node and gives it back at its second, and winding 2
-- delivers i at its first node and draws it at its second
abbrev pub phase_parts : Coefficients → PhaseAt → State → List Part
phase_parts c p x =
    let a = turns_ratio c in
    let z = leakage_impedance c in
    let i = unknown x p.branch in
    both p.branch (a ⊠ across x p.winding1 ⊟ across x p.winding2 ⊟ z ⊠ i)
    ∷ both p.winding1.first (a ⊠ i)
    ∷ both p.winding1.second (negative (a ⊠ i))
    ∷ both p.winding2.first (negative i)
    ∷ both p.winding2.second i
    ∷ []

-- all phases, by the numbers at the taps
abbrev pub parts_at : Coefficients → XfmrData → Ends → State → ℕ → List Part
parts_at c d at x k = phase_parts c (phase_at d at k) x

abbrev pub parts_by : Coefficients → XfmrData → Ends → State → List Part
parts_by c d at x = concat_below (parts_at c d at x) d.phases

abbrev pub xfmr_parts : XfmrData → TapPair → Ends → State → List Part
xfmr_parts d t at x = parts_by (coefficients_of d t) d at x

-- ---- its contributions, in order

abbrev pub branch_list : Coefficients → PhaseAt → List Term
branch_list c p =
    ((complex_terms p.branch p.winding1.first c.ratio (pos 0) c.ratio_over ++ complex_terms p.branch p.winding1.second (neg_ℤ c.ratio) (pos 0) c.ratio_over)
    ++ (complex_terms p.branch p.winding2.first (negsuc 0) (pos 0) (pos 1) ++ complex_terms p.branch p.winding2.second (pos 1) (pos 0) (pos 1)))
    ++ complex_terms p.branch p.branch (neg_ℤ c.r) (neg_ℤ c.x) (pos (10 ^ 22))

abbrev pub current_list : Coefficients → PhaseAt → List Term
current_list c p =
    complex_terms p.winding1.first p.branch c.ratio (pos 0) c.ratio_over
    ++ (complex_terms p.winding1.second p.branch (neg_ℤ c.ratio) (pos 0) c.ratio_over
    ++ (complex_terms p.winding2.first p.branch (negsuc 0) (pos 0) (pos 1)
    ++ complex_terms p.winding2.second p.branch (pos 1) (pos 0) (pos 1)))

abbrev pub phase_list : Coefficients → PhaseAt → List Term
phase_list c p = branch_list c p ++ current_list c p

abbrev pub list_at : Coefficients → XfmrData → Ends → ℕ → List Term
list_at c d at k = phase_list c (phase_at d at k)

abbrev pub list_by : Coefficients → XfmrData → Ends → List Term
list_by c d at = concat_below (list_at c d at) d.phases

abbrev pub xfmr_list : XfmrData → TapPair → Ends → List Term
xfmr_list d t at = list_by (coefficients_of d t) d at

-- ---- conditions

-- three nodes of each end for three phases and two for one, and room for the branches
pub record IsBetween (phases : ℕ) (at : Ends) : Type 0 where
  pub first : IsSide (node_count phases) at.first
  pub second : IsSide (node_count phases) at.second
  pub branch : at.branch < 2 ^ 30

-- the numbers of the places leave room for two parts
pub record ArePlaces (p : PhaseAt) : Type 0 where
  pub first1 : IsSmall p.winding1.first
  pub second1 : IsSmall p.winding1.second
  pub first2 : IsSmall p.winding2.first
  pub second2 : IsSmall p.winding2.second
  pub branch : IsSmall p.branch

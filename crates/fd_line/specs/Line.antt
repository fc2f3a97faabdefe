-- The equations of a line (pi model), and the contributions that add up to them.
use Rattle.std.specs.Prelude.{ℕ, ◌*◌, ◌<◌, ◌^◌, ℤ, pos, negsuc, ◌*ℤ◌, List, [], ◌∷◌, ◌++◌}
use Rattle.fd_system.specs.fd_exact.States.{State}
use Rattle.fd_system.specs.fd_arith.declared.terms.Term.{Term}
use Rattle.fd_system.specs.fd_arith.declared.terms.NodeAt.{NodeAt}
use Rattle.fd_system.specs.fd_arith.declared.terms.Ends.{Ends}
use Rattle.fd_system.specs.Complex.{Complex, complex, ◌⊞◌, ◌⊟◌, ◌⊠◌, negative, total}
use Rattle.fd_system.specs.Contributions.{complex_terms, concat_below}
use Rattle.fd_system.specs.Equations.{unknown, Part, both}
use Rattle.fd_line.specs.declared.data.LineData.{LineData}
use Rattle.fd_system.specs.Terminals.{IsSide, branch_of, node_of}
use Rattle.fd_system.specs.Series.{drop_list, drop_of}
use Rattle.fd_line.specs.Totals.{angular_frequency, capacitance_of, reactance_of, resistance_of}

-- ---- the equations

-- omega C between phases k and m, in 10^-27 siemens
abbrev pub susceptance_of : LineData → ℕ → ℕ → ℤ
susceptance_of l k m = angular_frequency l.hertz *ℤ capacitance_of l k m

-- j omega C / 2
abbrev pub half_charge : LineData → ℕ → ℕ → Complex
half_charge l k m = complex (pos 0) (susceptance_of l k m) (2 * 10 ^ 27)

-- the current that node k of one end draws by its half of the capacitance
abbrev pub charge_of : LineData → List NodeAt → State → ℕ → Complex
charge_of l ns x k = total (λ m. half_charge l k m ⊠ unknown x (node_of ns m)) l.phases

-- phase k: the branch row v1 - v2 - sum Z_km i_m; i leaves the first node and enters the second, and at each end the node
-- draws its charging current
abbrev pub line_phase : LineData → Ends → State → ℕ → List Part
line_phase l at x k =
    let v1 = unknown x (node_of at.first k) in
    let v2 = unknown x (node_of at.second k) in
    let i = unknown x (branch_of at.branch k) in
    both (branch_of at.branch k) (v1 ⊟ v2 ⊟ drop_of (resistance_of l) (reactance_of l) at.branch l.phases x k)
    ∷ both (node_of at.first k) (i ⊞ charge_of l at.first x k)
    ∷ both (node_of at.second k) (negative i ⊞ charge_of l at.second x k)
    ∷ []

abbrev pub line_parts : LineData → Ends → State → List Part
line_parts l at x = concat_below (line_phase l at x) l.phases

-- ---- its contributions, in order

abbrev pub branch_row : LineData → Ends → ℕ → List Term
branch_row l at k =
    (complex_terms (branch_of at.branch k) (node_of at.first k) (pos 1) (pos 0) (pos 1)
    ++ complex_terms (branch_of at.branch k) (node_of at.second k) (negsuc 0) (pos 0) (pos 1))
    ++ drop_list (resistance_of l) (reactance_of l) at.branch l.phases k

abbrev pub charge_at : LineData → List NodeAt → ℕ → ℕ → List Term
charge_at l ns k m = complex_terms (node_of ns k) (node_of ns m) (pos 0) (susceptance_of l k m) (pos (2 * 10 ^ 27))

-- one end: the branch current with its sign, then the charging current
abbrev pub end_row : LineData → ℕ → List NodeAt → ℤ → ℕ → List Term
end_row l branch ns sign k = complex_terms (node_of ns k) (branch_of branch k) sign (pos 0) (pos 1) ++ concat_below (charge_at l ns k) l.phases

abbrev pub phase_list : LineData → Ends → ℕ → List Term
phase_list l at k = branch_row l at k ++ (end_row l at.branch at.first (pos 1) k ++ end_row l at.branch at.second (negsuc 0) k)

abbrev pub line_list : LineData → Ends → List Term
line_list l at = concat_below (phase_list l at) l.phases

-- ---- the condition on its places

-- one node of each end for each of n phases, and room for the branches
pub record IsBetween (n : ℕ) (at : Ends) : Type 0 where
  pub first : IsSide n at.first
  pub second : IsSide n at.second
  pub branch : at.branch < 2 ^ 30

-- The branches and the shunts of elements.
use Rattle.std.specs.Prelude.{ℕ, ◌+◌, ◌*◌, ◌^◌, ℤ, pos, neg_ℤ, nat_abs, Bool, true, false, List, [], ◌∷◌, ◌++◌, if◌then◌else◌}
use Rattle.fd_pattern.specs.fd_arith.declared.terms.Ends.{Ends}
use Rattle.fd_pattern.specs.fd_arith.declared.terms.NodeAt.{NodeAt}
use Rattle.fd_pattern.specs.fd_arith.declared.terms.NodeAt.TheVariants.{Ground, Node}
use Rattle.fd_pattern.specs.fd_arith.declared.terms.TapPair.{TapPair}
use Rattle.fd_pattern.specs.fd_system.declared.terminals.NodePair.{NodePair}
use Rattle.fd_pattern.specs.fd_system.Contributions.{concat_below}
use Rattle.fd_pattern.specs.fd_system.Terminals.{node_of, pair_of}
use Rattle.fd_line.specs.declared.data.LineData.{LineData}
use Rattle.fd_line.specs.Line.{susceptance_of}
use Rattle.fd_line.specs.Totals as line
use Rattle.fd_source.specs.declared.data.SourceData.{SourceData}
use Rattle.fd_source.specs.Equations as source
use Rattle.fd_source.specs.Phasors.{volts_im, volts_re}
use Rattle.fd_xfmr.specs.declared.data.XfmrData.{XfmrData}
use Rattle.fd_xfmr.specs.declared.leakage.Coefficients.{Coefficients}
use Rattle.fd_xfmr.specs.declared.terms.PhaseAt.{PhaseAt}
use Rattle.fd_xfmr.specs.Leakage.{coefficients_of}
use Rattle.fd_xfmr.specs.Transformer.{phase_at}
use Rattle.fd_cap.specs.declared.data.CapData.{CapData}
use Rattle.fd_cap.specs.Capacitor.{cap_pair, cap_power, volts_squared}
use Rattle.fd_rungs.specs.declared.branch.Branch.{Branch}
use Rattle.fd_rungs.specs.declared.branch.Shunt.{Shunt}
use Rattle.fd_rungs.specs.Branches.{to_ground}
use Rattle.fd_rungs.specs.Numbers.{coefficient}

-- f 0, .., f (n - 1)
abbrev pub each_below : {A : Type 0} → (ℕ → A) → ℕ → List A
each_below f = concat_below (λ k. f k ∷ [])

-- ---- Lines

-- a row of an impedance in whole 10^-12 ohm
abbrev pub row_of : (ℕ → ℤ) → ℕ → List ℤ
row_of f = each_below (λ m. coefficient (f m) (10 ^ 12))

-- phase k between the nodes of an inner and an outer end
abbrev pub line_branch : LineData → List NodeAt → List NodeAt → ℕ → Bool → ℕ → Branch
line_branch l inner outer branch outward k = record {
  re = pos 0;
  im = pos 0;
  inner = to_ground (node_of inner k);
  ratio = pos (2 ^ 40);
  r = row_of (line.resistance_of l k) l.phases;
  x = row_of (line.reactance_of l k) l.phases;
  from = branch;
  own = branch + k;
  outward = outward;
  outer = node_of outer k;
}

-- taken from its first end, and else from its second: the currents run from the first to the second
abbrev pub line_branches : LineData → Ends → Bool → List Branch
line_branches l at true = each_below (line_branch l at.first at.second at.branch true) l.phases
line_branches l at false = each_below (line_branch l at.second at.first at.branch false) l.phases

-- half of the charging at node k of one end, by the voltage of phase m there
abbrev pub charge_of : LineData → List NodeAt → ℕ → ℕ → Shunt
charge_of l ns k m = record {
  charge = coefficient (susceptance_of l k m) (2 * 10 ^ 27);
  across = to_ground (node_of ns m);
  into = to_ground (node_of ns k);
}

abbrev pub charges_of : LineData → List NodeAt → List Shunt
charges_of l ns = concat_below (λ k. each_below (charge_of l ns k) l.phases) l.phases

abbrev pub line_shunts : LineData → Ends → List Shunt
line_shunts l at = charges_of l at.first ++ charges_of l at.second

-- ---- the source

abbrev pub source_branch : SourceData → Ends → ℕ → Branch
source_branch s at k = record {
  re = volts_re s k;
  im = volts_im s k;
  inner = to_ground Ground;
  ratio = pos 0;
  r = row_of (source.resistance_of s k) s.phases;
  x = row_of (source.reactance_of s k) s.phases;
  from = at.branch;
  own = at.branch + k;
  outward = true;
  outer = node_of at.first k;
}

abbrev pub source_branches : SourceData → Ends → List Branch
source_branches s at = each_below (source_branch s at) s.phases

-- ---- Transformers

-- the node that a phase of winding 2 joins to ground, and whether it stands first
abbrev pub outer_node : NodePair → NodeAt
outer_node p = by p.first p.second
  where
    by : NodeAt → NodeAt → NodeAt
    by Ground second = second
    by (Node k) second = Node k

abbrev pub stands_first : NodeAt → Bool
stands_first Ground = false
stands_first (Node k) = true

-- where ground stands first, the node's voltage is that of the winding with its sign turned
abbrev pub facing : Bool → ℤ → ℤ
facing outward z = if outward then z else neg_ℤ z

abbrev pub transformer_branch : Coefficients → PhaseAt → ℕ → Branch
transformer_branch c p own = record {
  re = pos 0;
  im = pos 0;
  inner = p.winding1;
  ratio = facing (stands_first p.winding2.first) (coefficient c.ratio (nat_abs c.ratio_over));
  r = coefficient c.r (10 ^ 22) ∷ [];
  x = coefficient c.x (10 ^ 22) ∷ [];
  from = own;
  own = own;
  outward = stands_first p.winding2.first;
  outer = outer_node p.winding2;
}

-- phase k by these numbers
abbrev pub transformer_phase : Coefficients → XfmrData → Ends → ℕ → Branch
transformer_phase c t at k = transformer_branch c (phase_at t at k) (at.branch + k)

abbrev pub transformer_branches : XfmrData → TapPair → Ends → List Branch
transformer_branches t taps at = each_below (transformer_phase (coefficients_of t taps) t at) t.phases

-- ---- Capacitors

-- a phase of a closed bank
abbrev pub bank_shunt : CapData → NodePair → Shunt
bank_shunt c p = record { charge = coefficient (cap_power c) (volts_squared c); across = p; into = p }

abbrev pub bank_phase : CapData → Ends → ℕ → Shunt
bank_phase c at k = bank_shunt c (cap_pair c at k)

abbrev pub bank_shunts : CapData → Bool → Ends → List Shunt
bank_shunts c true at = each_below (bank_phase c at) c.phases
bank_shunts c false at = []

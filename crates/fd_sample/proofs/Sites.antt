-- Where the devices that probes measure stand.
use Rattle.std.proofs.Common.{◌≡◌, ℕ, ◌+◌, ◌*◌, ◌<◌, ◌≤◌, ◌^◌, ◌%◌, ℤ, pos, nat_abs, Bool, true, false, cond, List, [], ◌∷◌, length, ◌⊎◌, ⊎_elim, sym, subst, arith}
use Rattle.std.specs.Prelude.{All, nat_eq}
use Rattle.std.proofs.lemmas.Int.{ints}
use Rattle.std.proofs.lemmas.List.{get_or_past}
use Rattle.std.proofs.lemmas.List.Elements.{All-get_or, All-cons, All-nil}
use Rattle.fd_network.specs.fd_exact.Ranges.{IsBetween}
use Rattle.fd_network.specs.dss_model.declared.words.ControlQuantity.{ControlQuantity}
use Rattle.fd_network.specs.dss_model.declared.words.ControlQuantity.TheVariants as quantity
use Rattle.fd_network.specs.dss_model.InRange.{CapControlInRange}
use Rattle.fd_network.specs.dss_model.declared.capcontrol.CapControl.{CapControl}
use Rattle.fd_network.specs.dss_model.declared.line.Line.{Line}
use Rattle.fd_sample.specs.declared.probe.CapProbe.{CapProbe}
use Rattle.fd_regctl.specs.fd_arith.declared.terms.Ends.{Ends}
use Rattle.fd_regctl.specs.fd_arith.declared.terms.NodeAt.{NodeAt}
use Rattle.fd_regctl.specs.fd_arith.declared.terms.NodeAt.TheVariants.{Ground, Node}
use Rattle.fd_network.specs.fd_system.declared.terminals.NodePair.{NodePair}
use Rattle.fd_network.specs.fd_system.declared.terminals.PhasePairs.{PhasePairs}
use Rattle.fd_network.specs.fd_system.declared.terminals.PhasePairs.TheVariants as pairs
use Rattle.fd_network.specs.fd_system.Residual.{IsPlace}
use Rattle.fd_network.specs.fd_system.Terminals.{node_of, second_node, pair_of}
use Rattle.fd_network.specs.fd_xfmr.Windings.{first_pairs, second_pairs}
use Rattle.fd_network.specs.fd_pattern.Conditions.{IsAmong}
use Rattle.fd_network.specs.dss_model.declared.regcontrol.RegControl.{RegControl}
use Rattle.fd_network.specs.dss_model.declared.transformer.Transformer.{Transformer}
use Rattle.fd_network.specs.fd_devices.Data.{xfmr_data_of}
use Rattle.fd_sample.specs.declared.probe.RegProbe.{RegProbe}
use Rattle.fd_sample.specs.Regulators.{AreRegSettings, IsRegProbe}
use Rattle.fd_sample.specs.Banks.{IsCapProbe, IsLineEnd, IsMeasured, IsRatio}
use Rattle.fd_sample.specs.Scripted.{IsAt, IsLineAt, IsXfmrAt, IsPhase, cap_probe, line_end, measured_by, phase_index, reg_probe, side_of}
use Rattle.fd_sample.proofs.Signed.{size_between, size_within}

inside_or_past : (a b : ℕ) → (a < b) ⊎ (b ≤ a)
inside_or_past a b = grind arith

pub node_among : (n : ℕ) (ns : List NodeAt) (k : ℕ) → All (IsAmong n) ns → IsAmong n (node_of ns k)
node_among n ns k h = ⊎_elim
    (λ inside. All-get_or (IsAmong n) ns k Ground inside h)
    (λ past. subst (IsAmong n) (sym (get_or_past ns k Ground past)) tt)
    (inside_or_past k (length ns))

pub place_among : (n places : ℕ) (node : NodeAt) → n ≤ 2 ^ 29 → 2 * n ≤ places → IsAmong n node → IsPlace places node
place_among n places Ground few room h = tt
place_among n places (Node k) few room h = (omega arith, omega arith)

second_among : (n : ℕ) (p : PhasePairs) (ns : List NodeAt) (k : ℕ) → All (IsAmong n) ns → IsAmong n (second_node p ns k)
second_among n pairs.OnePhase ns k h = node_among n ns 1 h
second_among n pairs.Wye ns k h = tt
second_among n pairs.DeltaNext ns k h = node_among n ns ((k + 1) % 3) h
second_among n pairs.DeltaPrevious ns k h = node_among n ns ((k + 2) % 3) h

record ArePlaces (places : ℕ) (p : NodePair) : Type 0 where
  first : IsPlace places p.first
  second : IsPlace places p.second

pair_places : (n places : ℕ) (p : PhasePairs) (ns : List NodeAt) (k : ℕ) → n ≤ 2 ^ 29 → 2 * n ≤ places
    → All (IsAmong n) ns → ArePlaces places (pair_of p ns k)
pair_places n places p ns k few room h = record {
  first = place_among n places (node_of ns k) few room (node_among n ns k h);
  second = place_among n places (second_node p ns k) few room (second_among n p ns k h);
}

either_pair : (t : Bool) (places : ℕ) (p q : NodePair) → ArePlaces places p → ArePlaces places q
    → ArePlaces places (cond t p q)
either_pair true places p q h k = h
either_pair false places p q h k = k

index_below : (phases : ℕ) (phase : ℤ) → IsPhase phases phase → phase_index phase < phases
index_below phases phase h = omega (arith, ints, h.least, h.most)

pub branch_place : (n places m phases : ℕ) (at : Ends) (k : ℕ) → IsAt n places m phases at → k < phases
    → IsPlace places (Node (at.branch + k))
branch_place n places m phases at k h less =
    let below : at.branch + phases ≤ n = h.branches.below in
    let few = h.few in
    let room = h.room in
    (omega arith, omega arith)

-- the probe of a regulator's control at a transformer that stands among the unknowns
pub reg_places : (control : RegControl) (t : Transformer) (at : Ends) (number n places : ℕ) (p : RegProbe)
    → p ≡ reg_probe control t at number →
    AreRegSettings p → IsPhase t.phases control.ptphase → IsXfmrAt n places t.phases at → IsRegProbe places p
reg_places control t at number n places p is settings phase h =
    let k = phase_index control.ptphase in
    let d = xfmr_data_of t in
    let nodes = either_pair (nat_eq control.winding 2) places (pair_of (second_pairs d) at.second k) (pair_of (first_pairs d) at.first k)
    (pair_places n places (second_pairs d) at.second k h.few h.room h.second.below)
    (pair_places n places (first_pairs d) at.first k h.few h.room h.first.below) in
    let own = subst (λ (q : RegProbe). ArePlaces places q.nodes × IsPlace places (Node q.branch)) (sym is)
    (nodes, branch_place n places _ t.phases at k h (index_below t.phases control.ptphase phase)) in
    record { first = own.0.first; second = own.0.second; branch = own.1; settings = settings }

-- ---- the probe of a bank's control at a line that stands among the unknowns

side_among : (t : Bool) (n m places phases : ℕ) (at : Ends) → IsAt n places m phases at → All (IsAmong n) (side_of t at)
side_among true n m places phases at h = h.second.below
side_among false n m places phases at h = h.first.below

ratio_of : (z : ℤ) → IsBetween (pos 1_000_000) (pos (1_000_000 * 1_000_000_000)) z → IsRatio (nat_abs z)
ratio_of z h = let w = size_between 1_000_000 (1_000_000 * 1_000_000_000) z h in record { least = w.0; most = w.1 }

end_places : (t : Bool) (l : Line) (at : Ends) (n places : ℕ) → l.phases ≤ 3 → IsLineAt n places l.phases at
    → IsLineEnd places (line_end t l at)
end_places t l at n places few h =
    let node : (k : ℕ) → IsPlace places (node_of (side_of t at) k) = λ k.
    place_among n places (node_of (side_of t at) k) h.few h.room
    (node_among n (side_of t at) k (side_among t n l.phases places l.phases at h)) in
    record {
      phases = few;
      nodes = All-cons (IsPlace places) (node_of (side_of t at) 0) (node_of (side_of t at) 1 ∷ node_of (side_of t at) 2 ∷ []) (node 0)
          (All-cons (IsPlace places) (node_of (side_of t at) 1) (node_of (side_of t at) 2 ∷ []) (node 1)
          (All-cons (IsPlace places) (node_of (side_of t at) 2) [] (node 2) (All-nil (IsPlace places))));
      branches = λ k less. branch_place n places l.phases l.phases at k h less;
    }

measured_places : (q : ControlQuantity) (control : CapControl) (l : Line) (at : Ends) (n places : ℕ)
    → CapControlInRange control → l.phases ≤ 3 →
    IsPhase l.phases control.ctphase → IsLineAt n places l.phases at → IsMeasured places (measured_by q control l at)
measured_places quantity.Voltage control l at n places range few phase h =
    let t = nat_eq control.terminal 2 in
    let k = phase_index control.ptphase in (
      place_among n places (node_of (side_of t at) k) h.few h.room
          (node_among n (side_of t at) k (side_among t n l.phases places l.phases at h)),
      ratio_of control.ptratio range.ptratio,
    )
measured_places quantity.Current control l at n places range few phase h = (
  branch_place n places l.phases l.phases
      at (phase_index control.ctphase) h (index_below l.phases control.ctphase phase),
  ratio_of control.ctratio range.ctratio,
)
measured_places quantity.Kvar control l at n places range few phase h = end_places (nat_eq control.terminal 2) l at n places few h

pub cap_places : (control : CapControl) (l : Line) (at : Ends) (number n places : ℕ) (p : CapProbe)
    → p ≡ cap_probe control l at number →
    CapControlInRange control → l.phases ≤ 3 → IsPhase l.phases control.ctphase → IsLineAt n places l.phases at → IsCapProbe places p
cap_places control l at number n places p is range few phase h = subst (IsCapProbe places) (sym is) (record {
  measured = measured_places control.kind control l at n places range few phase h;
  on = size_within (1_000_000 * 1_000_000_000) control.onsetting range.onsetting;
  off = size_within (1_000_000 * 1_000_000_000) control.offsetting range.offsetting;
})

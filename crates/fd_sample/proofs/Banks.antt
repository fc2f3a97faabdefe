-- What a bank's control samples over a ball holds what it would sample at each state.
use Rattle.std.proofs.Common.{◌≡◌, ℕ, zero, suc, ◌+◌, ◌<◌, ◌≤◌, ◌^◌, ℤ, pos, nat_abs, Bool, true, false, cond, List, length, Some, None, ◌⊎◌, ⊎_elim, lit<, sym, ap, ◌∙◌, subst, arith}
use Rattle.std.specs.Prelude.{All, IsSome, IfSome}
use Rattle.std.proofs.lemmas.List.{get_or_past}
use Rattle.std.proofs.lemmas.List.Elements.{All-get_or}
use Rattle.fd_network.specs.fd_exact.Fractions.{fraction, ◌⊕◌, ◌⊗◌, opposite}
use Rattle.fd_network.specs.fd_exact.States.{State}
use Rattle.fd_network.specs.fd_exact.Sums.{sum_f}
use Rattle.fd_regctl.specs.fd_arith.Interval.{Bounds, Holds, negation, area_of}
use Rattle.fd_regctl.specs.fd_arith.Capping.{point-holds}
use Rattle.fd_regctl.specs.fd_arith.declared.cx.Cx.{Cx}
use Rattle.fd_regctl.specs.fd_arith.declared.terms.NodeAt.{NodeAt}
use Rattle.fd_regctl.specs.fd_arith.declared.terms.NodeAt.TheVariants.{Ground, Node}
use Rattle.fd_network.specs.fd_system.Complex.{Complex, negative}
use Rattle.fd_network.specs.fd_system.Equations.{unknown}
use Rattle.fd_network.specs.fd_system.Residual.{IsPlace}
use Rattle.fd_network.specs.fd_system.Terminals.{node_of}
use Rattle.fd_regctl.specs.fd_queue.Decisions.{Decision, IsEdge}
use Rattle.fd_regctl.specs.fd_queue.Quantities.{Quantity, value}
use Rattle.fd_regctl.specs.fd_queue.Verdicts.{decision}
use Rattle.fd_regctl.specs.fd_queue.declared.verdict.Verdict.{Verdict}
use Rattle.fd_capctl.proofs.CallerLemmas.{bank_decided, bank_edged}
use Rattle.fd_sample.specs.declared.probe.CapProbe.{CapProbe}
use Rattle.fd_sample.specs.declared.probe.LineEnd.{LineEnd}
use Rattle.fd_sample.specs.declared.probe.Measured.{Measured}
use Rattle.fd_sample.specs.declared.probe.Measured.TheVariants as measured
use Rattle.fd_sample.specs.Balls.{IsInBall, interval_at}
use Rattle.fd_sample.specs.Phasors.{factor, scaled_by, negative_interval, scaled_interval, square_size, size_of}
use Rattle.fd_sample.specs.Banks.{least_of, greatest_of, IsLineEnd, IsMeasured, IsRatio, entering, entering_interval, reactive, reactive_interval, reactive_total, ratio_interval, cap_interval, cap_quantity, bank_of, cap_decision, cap_edge, kind_of, IsCapSample}
use Rattle.fd_sample.specs.Samples.{IsRootSample, IsValueSample, TellsEdge, decision_of, agreed, least_root, greatest_root, least_value, greatest_value}
use Rattle.fd_sample.proofs.HeldUnknowns.{node_held}
use Rattle.fd_sample.proofs.HeldPhasors.{IsHeld, AreHeld, factor_held, negative_held, negation_held, scaled_held, square_size_held, square_top, sum_held, area_held}
use Rattle.fd_sample.proofs.Samples.{ends_differ, root_of_all, value_of_all}

-- ---- magnitudes

ratio_held : (node : NodeAt) (ratio : ℕ) (c : List ℤ) (r : List ℕ) (x : State) → IsPlace (length c) node → IsRatio ratio
    → IsInBall c r x →
    IsHeld (ratio_interval node ratio c r) (square_size (scaled_by (unknown x node) (fraction (pos (10 ^ 9)) ratio)))
ratio_held node ratio c r x h k b =
    let f = factor_held (pos (10 ^ 9)) ratio (omega (arith, k.least)) in
    square_size_held (scaled_interval (interval_at c r node) (factor (pos (10 ^ 9)) ratio)) (scaled_by (unknown x node) (fraction (pos (10 ^ 9)) ratio))
    (scaled_held (interval_at c r node) (factor (pos (10 ^ 9)) ratio) (unknown x node) (fraction (pos (10 ^ 9)) ratio) (node_held c r x node b h) f)

with_size : (s : Bounds) (z : Complex) → IsHeld s (square_size z)
    → Holds s (fraction (pos (nat_abs (square_size z).top)) (square_size z).over)
with_size s z h = subst (λ (n : ℤ). Holds s (fraction n (square_size z).over)) (square_top z) h.holds

-- ---- reactive power

node_in : (n : ℕ) (ns : List NodeAt) (k : ℕ) → All (IsPlace n) ns → IsPlace n (node_of ns k)
node_in n ns k h = ⊎_elim
    (λ inside. All-get_or (IsPlace n) ns k Ground inside h)
    (λ past. subst (IsPlace n) (sym (get_or_past ns k Ground past)) tt)
    (inside_or_past k (length ns))
  where
    inside_or_past : (a b : ℕ) → (a < b) ⊎ (b ≤ a)
    inside_or_past a b = grind arith

entering_by : (t : Bool) (b c : Cx Bounds) (y z : Complex) → AreHeld b y → AreHeld c z
    → AreHeld (cond t b c) (cond t y z)
entering_by true b c y z h k = h
entering_by false b c y z h k = k

entering_held : (e : LineEnd) (c : List ℤ) (r : List ℕ) (x : State) (k : ℕ) → IsLineEnd (length c) e → k < e.phases
    → IsInBall c r x →
    AreHeld (entering_interval e c r k) (entering e x k)
entering_held e c r x k h in_k b =
    let branch = node_held c r x (Node (e.branch + k)) b (h.branches k in_k) in
    entering_by e.is_second (negative_interval (interval_at c r (Node (e.branch + k)))) (interval_at c r (Node (e.branch + k)))
    (negative (unknown x (Node (e.branch + k)))) (unknown x (Node (e.branch + k)))
    (negative_held (interval_at c r (Node (e.branch + k))) (unknown x (Node (e.branch + k))) branch) branch

reactive_held : (e : LineEnd) (c : List ℤ) (r : List ℕ) (x : State) (k : ℕ) → IsLineEnd (length c) e → k < e.phases
    → IsInBall c r x →
    IsHeld (reactive_interval e c r k) (reactive e x k)
reactive_held e c r x k h in_k b =
    let at = interval_at c r (node_of e.nodes k) in
    let i = entering_interval e c r k in
    let v = node_held c r x (node_of e.nodes k) b (node_in (length c) e.nodes k h.nodes) in
    let z = entering_held e c r x k h in_k b in
    sum_held (area_of at.re (negation i.im)) (area_of at.im i.re)
    ((unknown x (node_of e.nodes k)).re ⊗ opposite (entering e x k).im) ((unknown x (node_of e.nodes k)).im ⊗ (entering e x k).re)
    (area_held at.re (negation i.im) (unknown x (node_of e.nodes k)).re (opposite (entering e x k).im) v.re (negation_held i.im (entering e x k).im z.im))
    (area_held at.im i.re (unknown x (node_of e.nodes k)).im (entering e x k).re v.im z.re)

total_held : (e : LineEnd) (c : List ℤ) (r : List ℕ) (x : State) (n : ℕ) → IsLineEnd (length c) e → n ≤ e.phases
    → IsInBall c r x →
    IsHeld (reactive_total e c r n) (sum_f (reactive e x) n)
unfolding ◌⊕◌
total_held e c r x zero h few b = record { over = lit< tt; holds = point-holds (pos 0) }
total_held e c r x (suc n) h few b = sum_held (reactive_total e c r n) (reactive_interval e c r n) (sum_f (reactive e x) n) (reactive e x n)
    (total_held e c r x n h (omega arith) b) (reactive_held e c r x n h (omega arith) b)

-- ---- what is decided over the ball is so at each of its states

magnitude_of_all : (p : CapProbe) (closed : Bool) (node : NodeAt) (ratio : ℕ) (c : List ℤ) (r : List ℕ) (x : State)
    (v : Decision)
    → IsPlace (length c) node → IsRatio ratio → IsInBall c r x
    → agreed (ratio_interval node ratio c r) (cap_decision p closed (least_root (ratio_interval node ratio c r)))
    (cap_decision p closed (greatest_root (ratio_interval node ratio c r)))
    ≡ Some v
    → cap_decision p closed (size_of (scaled_by (unknown x node) (fraction (pos (10 ^ 9)) ratio))) ≡ v
magnitude_of_all p closed node ratio c r x v h k b e =
    let z = scaled_by (unknown x node) (fraction (pos (10 ^ 9)) ratio) in
    let held = ratio_held node ratio c r x h k b in
    root_of_all (cap_decision p closed) (ratio_interval node ratio c r) (nat_abs (square_size z).top) (square_size z).over v
    (bank_decided (bank_of p) closed) held.over (with_size (ratio_interval node ratio c r) z held) e

power_of_all : (p : CapProbe) (closed : Bool) (end : LineEnd) (c : List ℤ) (r : List ℕ) (x : State) (v : Decision)
    → IsLineEnd (length c) end → IsInBall c r x
    → agreed (reactive_total end c r end.phases)
    (cap_decision p closed (least_value (reactive_total end c r end.phases)))
    (cap_decision p closed (greatest_value (reactive_total end c r end.phases)))
    ≡ Some v
    → cap_decision p closed (cap_quantity (measured.Kvar end) x) ≡ v
power_of_all p closed end c r x v h b e =
    let held = total_held end c r x end.phases h (omega arith) b in
    value_of_all (cap_decision p closed) (reactive_total end c r end.phases) (sum_f (reactive end x) end.phases).top (sum_f (reactive end x) end.phases).over v
    (bank_decided (bank_of p) closed) held.over held.holds e

pub cap_of_agreed : (p : CapProbe) (closed : Bool) (m : Measured) (c : List ℤ) (r : List ℕ) (x : State) (v : Decision)
    → IsMeasured (length c) m → IsInBall c r x
    → agreed (cap_interval m c r) (cap_decision p closed (least_of (kind_of m) (cap_interval m c r)))
    (cap_decision p closed (greatest_of (kind_of m) (cap_interval m c r)))
    ≡ Some v
    → cap_decision p closed (cap_quantity m x) ≡ v
unfolding cap_interval
cap_of_agreed p closed (measured.Voltage node ratio) c r x v h b e = magnitude_of_all p closed node ratio c r x v h.0 h.1 b e
cap_of_agreed p closed (measured.Current branch ratio) c r x v h b e = magnitude_of_all p closed (Node branch) ratio c r x v h.0 h.1 b e
cap_of_agreed p closed (measured.Kvar end) c r x v h b e = power_of_all p closed end c r x v h b e

pub cap_of_all : (p : CapProbe) (closed : Bool) (m : Measured) (c : List ℤ) (r : List ℕ) (x : State) (w : Verdict) (v : Decision)
    → IsMeasured (length c) m →
    IsInBall c r x → IsCapSample (kind_of m) (cap_decision p closed) (cap_edge p closed) (cap_interval m c r) w → decision_of w ≡ Some v →
    cap_decision p closed (cap_quantity m x) ≡ v
unfolding cap_interval
cap_of_all p closed (measured.Voltage node ratio) c r x w v h b s e = let d = s.decides in magnitude_of_all p closed node ratio c r x v h.0 h.1 b (cc)
cap_of_all p closed (measured.Current branch ratio) c r x w v h b s e =
    let d = s.decides in magnitude_of_all p closed (Node branch) ratio c r x v h.0 h.1 b (cc)
cap_of_all p closed (measured.Kvar end) c r x w v h b s e = let d = s.decides in power_of_all p closed end c r x v h b (cc)

-- ---- the sample by what is measured

pub record IsSampled (p : CapProbe) (closed : Bool) (c : List ℤ) (r : List ℕ) (w : Verdict)
    (m : Measured) : Type 0 where
  pub sample : IsCapSample (kind_of m) (cap_decision p closed) (cap_edge p closed) (cap_interval m c r) w
  pub edge : IsSome (cap_interval m c r)
      → TellsEdge (cap_decision p closed) (least_of (kind_of m) (cap_interval m c r)) (greatest_of (kind_of m) (cap_interval m c r)) w

pub of_voltage : (p : CapProbe) (closed : Bool) (c : List ℤ) (r : List ℕ) (w : Verdict) (node : NodeAt) (ratio : ℕ)
    → IsRootSample (cap_decision p closed) (λ d. cap_edge p closed) (ratio_interval node ratio c r) w
    → (IsSome (ratio_interval node ratio c r)
    → TellsEdge (cap_decision p closed) (least_root (ratio_interval node ratio c r))
    (greatest_root (ratio_interval node ratio c r)) w)
    → IsSampled p closed c r w (measured.Voltage node ratio)
unfolding cap_interval
of_voltage p closed c r w node ratio s e = record { sample = s; edge = e }

pub of_current : (p : CapProbe) (closed : Bool) (c : List ℤ) (r : List ℕ) (w : Verdict) (branch : ℕ) (ratio : ℕ)
    → IsRootSample (cap_decision p closed) (λ d. cap_edge p closed) (ratio_interval (Node branch) ratio c r) w
    → (IsSome (ratio_interval (Node branch) ratio c r)
    → TellsEdge (cap_decision p closed) (least_root (ratio_interval (Node branch) ratio c r))
    (greatest_root (ratio_interval (Node branch) ratio c r)) w)
    → IsSampled p closed c r w (measured.Current branch ratio)
unfolding cap_interval
of_current p closed c r w branch ratio s e = record { sample = s; edge = e }

pub of_power : (p : CapProbe) (closed : Bool) (c : List ℤ) (r : List ℕ) (w : Verdict) (end : LineEnd)
    → IsValueSample (cap_decision p closed) (λ d. cap_edge p closed) (reactive_total end c r end.phases) w
    → (IsSome (reactive_total end c r end.phases)
    → TellsEdge (cap_decision p closed) (least_value (reactive_total end c r end.phases))
    (greatest_value (reactive_total end c r end.phases)) w)
    → IsSampled p closed c r w (measured.Kvar end)
unfolding cap_interval
of_power p closed c r w end s e = record { sample = s; edge = e }

-- where nothing is decided, the edge is where the decision changes
pub cap_edged : (p : CapProbe) (closed : Bool) (s : Bounds) (least greatest : Quantity) → IsSome s →
    agreed s (cap_decision p closed least) (cap_decision p closed greatest) ≡ None →
    IsEdge (cap_decision p closed) least greatest (cap_edge p closed)
cap_edged p closed s least greatest some e = bank_edged (bank_of p) closed least greatest
    (ends_differ s (cap_decision p closed least) (cap_decision p closed greatest) some e)

-- what is wanted at the ends that an interval has
pub least_at : (p : CapProbe) (closed : Bool) (s : Bounds) (v : Verdict) (lo hi : ℤ)
    → IfSome s (λ e. (lo ≡ e.0) × (hi ≡ e.1)) →
    decision v ≡ cap_decision p closed (value lo (10 ^ 6)) → IsSome s → decision v ≡ cap_decision p closed (least_value s)
least_at p closed None v lo hi h e some = absurd (cc)
least_at p closed (Some b) v lo hi h e some = e ∙ ap (λ (z : ℤ). cap_decision p closed (value z (10 ^ 6))) h.0

pub greatest_at : (p : CapProbe) (closed : Bool) (s : Bounds) (v : Verdict) (lo hi : ℤ)
    → IfSome s (λ e. (lo ≡ e.0) × (hi ≡ e.1)) →
    decision v ≡ cap_decision p closed (value hi (10 ^ 6)) → IsSome s → decision v ≡ cap_decision p closed (greatest_value s)
greatest_at p closed None v lo hi h e some = absurd (cc)
greatest_at p closed (Some b) v lo hi h e some = e ∙ ap (λ (z : ℤ). cap_decision p closed (value z (10 ^ 6))) h.1

-- A verdict is the sample that it comes to, and what a sample decides is wanted at every state of the ball.
use Rattle.std.proofs.Common.{◌≡◌, ℕ, ℤ, pos, List, length, Option, Some, None, Result, Ok, Err, ap, ◌∙◌}
use Rattle.std.specs.Prelude.{All}
use Rattle.std.proofs.lemmas.List.Elements.{All-get_or}
use Rattle.std.proofs.lemmas.Option.{some_pair_parts}
use Rattle.fd_network.specs.fd_exact.States.{State}
use Rattle.fd_regctl.specs.fd_arith.Limits.{non_negative}
use Rattle.fd_regctl.specs.fd_arith.Interval.{Bounds}
use Rattle.fd_network.specs.fd_xfmr.Leakage.{AreTaps}
use Rattle.fd_regctl.specs.fd_queue.Controls.{Positions, is_closed, no_taps, pair_at}
use Rattle.fd_regctl.specs.fd_queue.Decisions.{Decision}
use Rattle.fd_regctl.specs.fd_queue.Quantities.{Quantity}
use Rattle.fd_regctl.specs.fd_queue.declared.verdict.Verdict.{Verdict}
use Rattle.fd_regctl.specs.fd_queue.declared.verdict.Verdict.TheVariants as verdict
use Rattle.fd_capctl.specs.Bank.{Kind, Voltage, Current, Kvar}
use Rattle.fd_sample.specs.declared.probe.Probe.{Probe}
use Rattle.fd_sample.specs.declared.probe.Probe.TheVariants as probe
use Rattle.fd_sample.specs.Balls.{IsInBall}
use Rattle.fd_sample.specs.Regulators.{reg_edge}
use Rattle.fd_sample.specs.Banks.{IsCapSample, cap_edge, greatest_of, least_of}
use Rattle.fd_sample.specs.Probes.{HasDevice, IsProbe, IsSampleOf, decision_at, interval_over, quantity_at, switch_of}
use Rattle.fd_sample.specs.Samples.{AreRootEnds, AreValueEnds, IfUndecided, IsRootSample, IsValueSample, agreed, decision_of, greatest_root, greatest_value, least_root, least_value}
use Rattle.fd_sample.specs.Decided.{SampleLaw, Undecided, bank_ends, decided_or, root_ends, sample_in, sample_of, sample_over, value_ends}
use Rattle.fd_sample.proofs.Banks.{cap_of_agreed}
use Rattle.fd_sample.proofs.Regulators.{reg_of_all}
use Rattle.fd_sample.proofs.SquareRoots.{root_of, root_up_of}

-- ---- what a verdict comes to

abbrev told_as : ℤ × ℤ → ℤ → Undecided
told_as ends edge = record { low = ends.0; high = ends.1; edge = edge }

-- a verdict with what it decides and what it tells where it decides nothing
told : (v : Verdict) (o : Option Decision) (ends : ℤ × ℤ) (edge : ℤ) → decision_of v ≡ o →
    IfUndecided v (λ low high at. (low ≡ ends.0) × ((high ≡ ends.1) × (at ≡ edge))) → sample_of v ≡ decided_or o (told_as ends edge)
told (verdict.Raise n) o ends edge d h = ap (λ (x : Option Decision). decided_or x (told_as ends edge)) d
told verdict.Hold o ends edge d h = ap (λ (x : Option Decision). decided_or x (told_as ends edge)) d
told (verdict.Lower n) o ends edge d h = ap (λ (x : Option Decision). decided_or x (told_as ends edge)) d
told (verdict.Undecided low high at) o ends edge d h =
    (λ i. let u : Undecided = record { low = h.0 i; high = h.1.0 i; edge = h.1.1 i } in let r : Result Decision Undecided = Err u in r)
    ∙ ap (λ (x : Option Decision). decided_or x (told_as ends edge)) d

weaker : {P Q : ℤ → ℤ → ℤ → Type 0} (v : Verdict) → ((low high at : ℤ) → P low high at → Q low high at)
    → IfUndecided v P → IfUndecided v Q
weaker (verdict.Raise n) f h = tt
weaker verdict.Hold f h = tt
weaker (verdict.Lower n) f h = tt
weaker (verdict.Undecided low high at) f h = f low high at h

root_ends_are : (s : Bounds) (low high : ℤ) → AreRootEnds s low high
    → (low ≡ (root_ends s).0) × (high ≡ (root_ends s).1)
root_ends_are None low high h = h
root_ends_are (Some e) low high h =
    let same = some_pair_parts low (pos h.0) high (pos h.1.0) h.1.1.0 in
    (same.0 ∙ ap pos (root_of (non_negative e.0) h.0 h.1.1.1.0), same.1 ∙ ap pos (root_up_of (non_negative e.1) h.1.0 h.1.1.1.1))

value_ends_are : (s : Bounds) (low high : ℤ) → AreValueEnds s low high
    → (low ≡ (value_ends s).0) × (high ≡ (value_ends s).1)
value_ends_are None low high h = h
value_ends_are (Some e) low high h = h

root_told : (f : Quantity → Decision) (edge_of : Decision → ℤ) (s : Bounds) (v : Verdict) → IsRootSample f edge_of s v →
    sample_of v ≡ decided_or (agreed s (f (least_root s)) (f (greatest_root s))) (told_as (root_ends s) (edge_of (f (least_root s))))
root_told f edge_of s v h = told v (agreed s (f (least_root s)) (f (greatest_root s))) (root_ends s) (edge_of (f (least_root s))) h.decides
    (weaker v (λ low high at r. let ends = root_ends_are s low high r.ends in (ends.0, (ends.1, r.edge))) h.reports)

value_told : (f : Quantity → Decision) (edge_of : Decision → ℤ) (s : Bounds) (v : Verdict)
    → IsValueSample f edge_of s v →
    sample_of v ≡ decided_or (agreed s (f (least_value s)) (f (greatest_value s))) (told_as (value_ends s) (edge_of (f (least_value s))))
value_told f edge_of s v h = told v (agreed s (f (least_value s)) (f (greatest_value s))) (value_ends s) (edge_of (f (least_value s))) h.decides
    (weaker v (λ low high at r. let ends = value_ends_are s low high r.ends in (ends.0, (ends.1, r.edge))) h.reports)

cap_told : (k : Kind) (f : Quantity → Decision) (edge : ℤ) (s : Bounds) (v : Verdict) → IsCapSample k f edge s v →
    sample_of v ≡ decided_or (agreed s (f (least_of k s)) (f (greatest_of k s))) (told_as (bank_ends k s) edge)
cap_told Voltage f edge s v h = root_told f (λ d. edge) s v h
cap_told Current f edge s v h = root_told f (λ d. edge) s v h
cap_told Kvar f edge s v h = value_told f (λ d. edge) s v h

told_in : (p : Probe) (at : Positions) (s : Bounds) (v : Verdict) → IsSampleOf p at s v → sample_of v ≡ sample_in p at s
told_in (probe.Regulator p) at s v h = root_told (decision_at (probe.Regulator p) at) (reg_edge p (pair_at at p.transformer)) s v h
told_in (probe.Bank p) at s v h = cap_told _ (decision_at (probe.Bank p) at) (cap_edge p (is_closed at (switch_of p))) s v h

pub sample_told : (p : Probe) (at : Positions) (c : List ℤ) (r : List ℕ) (v : Verdict)
    → IsSampleOf p at (interval_over p at c r) v →
    sample_of v ≡ sample_over p at c r
unfolding sample_over
sample_told p at c r v h = told_in p at (interval_over p at c r) v h

-- ---- what is decided

decided : (o : Option Decision) (u : Undecided) (d : Decision) → decided_or o u ≡ Ok d → o ≡ Some d
decided (Some x) u d e = cc
decided None u d e = absurd (cc)

wanted : (p : Probe) (at : Positions) (c : List ℤ) (r : List ℕ) (x : State) (d : Decision) → IsProbe (length c) p
    → HasDevice at p →
    All AreTaps at.taps → IsInBall c r x → sample_in p at (interval_over p at c r) ≡ Ok d → decision_at p at (quantity_at p at x) ≡ d
wanted (probe.Regulator p) at c r x d h device taps b e =
    reg_of_all p (pair_at at p.transformer) c r x d h (All-get_or AreTaps at.taps p.transformer no_taps device taps) b (decided _ _ d e)
wanted (probe.Bank p) at c r x d h device taps b e = cap_of_agreed p (is_closed at (switch_of p)) p.measured c r x d h.measured b (decided _ _ d e)

pub every_state : SampleLaw
unfolding sample_over
every_state p at c r x d h device taps ball b e = wanted p at c r x d h device taps b e

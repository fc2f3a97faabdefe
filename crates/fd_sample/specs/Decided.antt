-- What the sample of a control over a ball comes to: what the control wants at each of its states, or the ends of the
-- interval and the edge at which that changes.
use Rattle.std.specs.Prelude.{◌≡◌, ℕ, ◌^◌, ℤ, pos, neg_ℤ, List, length, All, Option, Some, None, Result, Ok, Err}
use Rattle.fd_network.specs.fd_exact.Rounding.{floor_div, ceil_div}
use Rattle.fd_network.specs.fd_exact.States.{State}
use Rattle.fd_regctl.specs.fd_arith.Limits.{limit, non_negative}
use Rattle.fd_regctl.specs.fd_arith.Interval.{Bounds}
use Rattle.fd_network.specs.fd_xfmr.Leakage.{AreTaps}
use Rattle.fd_regctl.specs.fd_queue.Controls.{Positions, is_closed, pair_at}
use Rattle.fd_regctl.specs.fd_queue.Decisions.{Decision}
use Rattle.fd_regctl.specs.fd_queue.Decisions as the
use Rattle.fd_regctl.specs.fd_queue.Quantities.{Quantity}
use Rattle.fd_regctl.specs.fd_queue.declared.verdict.Verdict.{Verdict}
use Rattle.fd_regctl.specs.fd_queue.declared.verdict.Verdict.TheVariants as verdict
use Rattle.fd_capctl.specs.Bank.{Kind, Voltage, Current, Kvar}
use Rattle.fd_sample.specs.declared.probe.Probe.{Probe}
use Rattle.fd_sample.specs.declared.probe.Probe.TheVariants as probe
use Rattle.fd_sample.specs.Balls.{IsBall, IsInBall}
use Rattle.fd_sample.specs.Regulators.{reg_edge}
use Rattle.fd_sample.specs.Banks.{cap_edge, greatest_of, kind_of, least_of}
use Rattle.fd_sample.specs.Probes.{HasDevice, IsProbe, decision_at, interval_over, quantity_at, switch_of}
use Rattle.fd_sample.specs.Roots.{root_down, root_up}
use Rattle.fd_sample.specs.Samples.{agreed, greatest_root, least_root}

-- the ends of an interval, and the least value between them at which the decision changes: in whole micro-units, or in
-- 10^-9 kvar
pub record Undecided : Type 0 where
  pub low : ℤ
  pub high : ℤ
  pub edge : ℤ

-- ---- the ends of an interval, rounded outward

-- of an interval of squares: the magnitudes
abbrev pub root_ends : Bounds → ℤ × ℤ
root_ends None = (pos 0, limit)
root_ends (Some e) = (pos (root_down (non_negative e.0)), pos (root_up (non_negative e.1)))

-- of an interval of reactive powers in 10^-15 kvar
abbrev pub value_ends : Bounds → ℤ × ℤ
value_ends None = (neg_ℤ limit, limit)
value_ends (Some e) = (floor_div e.0 (10 ^ 6), ceil_div e.1 (10 ^ 6))

abbrev pub bank_ends : Kind → Bounds → ℤ × ℤ
bank_ends Voltage s = root_ends s
bank_ends Current s = root_ends s
bank_ends Kvar s = value_ends s

-- ---- by kind of control

-- the least and the greatest quantity of an interval
abbrev pub least_in : Probe → Bounds → Quantity
least_in (probe.Regulator p) s = least_root s
least_in (probe.Bank p) s = least_of (kind_of p.measured) s

abbrev pub greatest_in : Probe → Bounds → Quantity
greatest_in (probe.Regulator p) s = greatest_root s
greatest_in (probe.Bank p) s = greatest_of (kind_of p.measured) s

abbrev pub ends_in : Probe → Bounds → ℤ × ℤ
ends_in (probe.Regulator p) s = root_ends s
ends_in (probe.Bank p) s = bank_ends (kind_of p.measured) s

-- the value at which the decision of an interval's least quantity changes
abbrev pub edge_in : Probe → Positions → Decision → ℤ
edge_in (probe.Regulator p) at d = reg_edge p (pair_at at p.transformer) d
edge_in (probe.Bank p) at d = cap_edge p (is_closed at (switch_of p))

-- ---- the sample

abbrev pub decided_or : Option Decision → Undecided → Result Decision Undecided
decided_or (Some d) u = Ok d
decided_or None u = Err u

-- over an interval: what both its ends want; where they want different things, or the interval is ALL, it is undecided
abbrev pub sample_in : Probe → Positions → Bounds → Result Decision Undecided
sample_in p at s = decided_or (agreed s (decision_at p at (least_in p s)) (decision_at p at (greatest_in p s))) (record {
  low = (ends_in p s).0;
  high = (ends_in p s).1;
  edge = edge_in p at (decision_at p at (least_in p s));
})

-- over a ball, at these positions of taps and banks
unfoldable pub sample_over : Probe → Positions → List ℤ → List ℕ → Result Decision Undecided
sample_over p at c r = sample_in p at (interval_over p at c r)

-- ---- the code's verdicts

abbrev pub sample_of : Verdict → Result Decision Undecided
sample_of (verdict.Raise n) = Ok (the.Raise n)
sample_of verdict.Hold = Ok the.Hold
sample_of (verdict.Lower n) = Ok (the.Lower n)
sample_of (verdict.Undecided low high edge) = Err (record { low = low; high = high; edge = edge })

-- ---- its law

-- what a sample over a ball decides, its control wants at every state of the ball, whatever its denominator
abbrev pub SampleLaw : Type 0
SampleLaw = (p : Probe) (at : Positions) (c : List ℤ) (r : List ℕ) (x : State) (d : Decision) →
    IsProbe (length c) p → HasDevice at p → All AreTaps at.taps → IsBall c r → IsInBall c r x →
    sample_over p at c r ≡ Ok d → decision_at p at (quantity_at p at x) ≡ d

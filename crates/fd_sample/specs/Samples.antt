-- Samples: what is decided over an interval, and what an undecided sample says.
use Rattle.std.specs.Prelude.{◌≡◌, ℕ, ◌^◌, ℤ, pos, neg_ℤ, if◌then◌else◌, Option, Some, None}
use Rattle.fd_network.specs.fd_exact.Rounding.{floor_div, ceil_div}
use Rattle.fd_regctl.specs.fd_arith.Limits.{limit, non_negative}
use Rattle.fd_regctl.specs.fd_arith.Interval.{Bounds, IsRootOf}
use Rattle.fd_regctl.specs.fd_queue.Quantities.{Quantity, magnitude, value}
use Rattle.fd_regctl.specs.fd_queue.Decisions.{Decision, same_decision, IsEdge}
use Rattle.fd_regctl.specs.fd_queue.Decisions as the
use Rattle.fd_regctl.specs.fd_queue.declared.verdict.Verdict.{Verdict}
use Rattle.fd_regctl.specs.fd_queue.declared.verdict.Verdict.TheVariants as verdict

-- what a verdict decides, if it does
abbrev pub decision_of : Verdict → Option Decision
decision_of (verdict.Raise n) = Some (the.Raise n)
decision_of verdict.Hold = Some the.Hold
decision_of (verdict.Lower n) = Some (the.Lower n)
decision_of (verdict.Undecided low high edge) = None

-- P of the ends and the edge of a verdict that decides nothing
abbrev pub IfUndecided : Verdict → (ℤ → ℤ → ℤ → Type 0) → Type 0
IfUndecided (verdict.Raise n) P = Unit {0}
IfUndecided verdict.Hold P = Unit {0}
IfUndecided (verdict.Lower n) P = Unit {0}
IfUndecided (verdict.Undecided low high edge) P = P low high edge

-- what two ends of an interval decide: what both want; ALL decides nothing
abbrev pub agreed : Bounds → Decision → Decision → Option Decision
agreed None low high = None
agreed (Some e) low high = (if same_decision low high then Some low else None)

-- ---- magnitudes, which are known by their squares

-- the least and the greatest square of an interval of squares
abbrev pub lower_square : Bounds → ℕ
lower_square None = 0
lower_square (Some e) = non_negative e.0

abbrev pub upper_square : Bounds → ℕ
upper_square None = 2 ^ 240
upper_square (Some e) = non_negative e.1

-- the least and the greatest magnitude; of ALL they are 0 and 2^120
abbrev pub least_root : Bounds → Quantity
least_root s = magnitude (lower_square s) 1

abbrev pub greatest_root : Bounds → Quantity
greatest_root s = magnitude (upper_square s) 1

-- whole micro-units about the magnitudes: the least rounded down and the greatest up
abbrev pub AreRootEnds : Bounds → ℤ → ℤ → Type 0
AreRootEnds None low high = (low ≡ pos 0) × (high ≡ limit)
AreRootEnds (Some e) low high = IsRootOf (Some e) (Some (low, high))

-- what an undecided sample says: the ends, and the edge by the decision at the least magnitude
pub record IsRootReport (f : Quantity → Decision) (edge_of : Decision → ℤ) (s : Bounds) (low high at : ℤ) : Type 0 where
  pub ends : AreRootEnds s low high
  pub edge : at ≡ edge_of (f (least_root s))

-- the verdict of a sample over an interval of squares: decided where the least and the greatest magnitude want the same
pub record IsRootSample (f : Quantity → Decision) (edge_of : Decision → ℤ) (s : Bounds) (v : Verdict) : Type 0 where
  pub decides : decision_of v ≡ agreed s (f (least_root s)) (f (greatest_root s))
  pub reports : IfUndecided v (IsRootReport f edge_of s)

-- the edge that an undecided verdict tells is the least value of the interval at which the decision changes
abbrev pub TellsEdge : (Quantity → Decision) → Quantity → Quantity → Verdict → Type 0
TellsEdge f least greatest v = IfUndecided v (λ low high at. IsEdge f least greatest at)

-- ---- values in 10^-15, with edges in 10^-9

-- the least and the greatest value; of ALL they are -2^120 and 2^120 in 10^-9
abbrev pub least_value : Bounds → Quantity
least_value None = value (neg_ℤ limit) 1
least_value (Some e) = value e.0 (10 ^ 6)

abbrev pub greatest_value : Bounds → Quantity
greatest_value None = value limit 1
greatest_value (Some e) = value e.1 (10 ^ 6)

-- these rounded outward to whole 10^-9
abbrev pub AreValueEnds : Bounds → ℤ → ℤ → Type 0
AreValueEnds None low high = (low ≡ neg_ℤ limit) × (high ≡ limit)
AreValueEnds (Some e) low high = (low ≡ floor_div e.0 (10 ^ 6)) × (high ≡ ceil_div e.1 (10 ^ 6))

pub record IsValueReport (f : Quantity → Decision) (edge_of : Decision → ℤ) (s : Bounds)
    (low high at : ℤ) : Type 0 where
  pub ends : AreValueEnds s low high
  pub edge : at ≡ edge_of (f (least_value s))

-- the verdict of a sample over an interval of values
pub record IsValueSample (f : Quantity → Decision) (edge_of : Decision → ℤ) (s : Bounds) (v : Verdict) : Type 0 where
  pub decides : decision_of v ≡ agreed s (f (least_value s)) (f (greatest_value s))
  pub reports : IfUndecided v (IsValueReport f edge_of s)

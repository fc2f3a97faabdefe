-- The quantity of a bank's control (OpenDSS manual, CapControl, property type): the magnitude of a node's voltage or of
-- a branch's current over the ratio of its transformer, or the reactive power that enters a line at one of its ends.
use Rattle.std.specs.Prelude.{◌≡◌, ℕ, zero, suc, ◌+◌, ◌*◌, ◌^◌, ◌<◌, ◌≤◌, ℤ, pos, nat_abs, Bool, if◌then◌else◌, List, All, Some}
use Rattle.fd_network.specs.fd_exact.Fractions.{Fraction, fraction, opposite}
use Rattle.fd_network.specs.fd_exact.Rounding.{near_div}
use Rattle.fd_network.specs.fd_exact.States.{State}
use Rattle.fd_network.specs.fd_exact.Sums.{sum_f}
use Rattle.fd_regctl.specs.fd_arith.Interval.{Bounds, capped, sum, negation, area_of}
use Rattle.fd_regctl.specs.fd_arith.declared.cx.Cx.{Cx}
use Rattle.fd_regctl.specs.fd_arith.declared.terms.NodeAt.{NodeAt}
use Rattle.fd_regctl.specs.fd_arith.declared.terms.NodeAt.TheVariants.{Node}
use Rattle.fd_network.specs.fd_system.Complex.{Complex, ◌⊠◌, negative}
use Rattle.fd_network.specs.fd_system.Equations.{unknown}
use Rattle.fd_network.specs.fd_system.Residual.{IsPlace}
use Rattle.fd_network.specs.fd_system.Terminals.{node_of}
use Rattle.fd_regctl.specs.fd_queue.Decisions.{Decision, Raise, Hold, Lower}
use Rattle.fd_regctl.specs.fd_queue.Quantities.{Quantity, value}
use Rattle.fd_regctl.specs.fd_queue.declared.verdict.Verdict.{Verdict}
use Rattle.fd_capctl.specs.Bank.{Bank, Kind, Voltage, Current, Kvar, bank_verdict, bank_edge}
use Rattle.fd_sample.specs.declared.probe.CapProbe.{CapProbe}
use Rattle.fd_sample.specs.declared.probe.LineEnd.{LineEnd}
use Rattle.fd_sample.specs.declared.probe.Measured.{Measured}
use Rattle.fd_sample.specs.declared.probe.Measured.TheVariants as measured
use Rattle.fd_sample.specs.Balls.{IsInBall, interval_at}
use Rattle.fd_sample.specs.Phasors.{scaled_by, size_of, factor, negative_interval, scaled_interval, square_interval}
use Rattle.fd_sample.specs.Samples.{IsRootSample, IsValueSample, decision_of, least_root, greatest_root, least_value, greatest_value}

-- ---- settings

abbrev pub kind_of : Measured → Kind
kind_of (measured.Voltage node ratio) = Voltage
kind_of (measured.Current branch ratio) = Current
kind_of (measured.Kvar end) = Kvar

-- a setting, whole 10^-9, as an edge: to the nearest microvolt or microampere, or in 10^-9 kvar
abbrev pub setting_of : Kind → ℤ → ℤ
setting_of Voltage z = near_div z 1000
setting_of Current z = near_div z 1000
setting_of Kvar z = z

abbrev pub bank_of : CapProbe → Bank
bank_of p = record {
  kind = kind_of p.measured;
  on = setting_of (kind_of p.measured) p.on;
  off = setting_of (kind_of p.measured) p.off;
}

-- a ratio from 10^-3 to 10^6
pub record IsRatio (n : ℕ) : Type 0 where
  pub least : 10 ^ 6 ≤ n
  pub most : n ≤ 10 ^ 15

-- at most three phases, at places among n unknowns
pub record IsLineEnd (n : ℕ) (e : LineEnd) : Type 0 where
  pub phases : e.phases ≤ 3
  pub nodes : All (IsPlace n) e.nodes
  pub branches : (k : ℕ) → k < e.phases → IsPlace n (Node (e.branch + k))

abbrev pub IsMeasured : ℕ → Measured → Type 0
IsMeasured n (measured.Voltage node ratio) = IsPlace n node × IsRatio ratio
IsMeasured n (measured.Current branch ratio) = IsPlace n (Node branch) × IsRatio ratio
IsMeasured n (measured.Kvar end) = IsLineEnd n end

-- in the ranges of the script profile, at places among n unknowns
pub record IsCapProbe (n : ℕ) (p : CapProbe) : Type 0 where
  pub measured : IsMeasured n p.measured
  pub on : nat_abs p.on ≤ 10 ^ 15
  pub off : nat_abs p.off ≤ 10 ^ 15

-- ---- the quantity at a state

-- the current that enters the line in phase k: the branch's at the first end, and with its sign turned at the second
abbrev pub entering : LineEnd → State → ℕ → Complex
entering e x k = (if e.is_second then negative (unknown x (Node (e.branch + k))) else unknown x (Node (e.branch + k)))

abbrev pub conjugate : Complex → Complex
conjugate z = record { re = z.re; im = opposite z.im }

-- the reactive power of phase k, the imaginary part of v conj(i), in 10^-15 kvar
abbrev pub reactive : LineEnd → State → ℕ → Fraction
reactive e x k = (unknown x (node_of e.nodes k) ⊠ conjugate (entering e x k)).im

abbrev pub reactive_power : LineEnd → State → Fraction
reactive_power e x = sum_f (reactive e x) e.phases

abbrev pub cap_quantity : Measured → State → Quantity
cap_quantity (measured.Voltage node ratio) x = size_of (scaled_by (unknown x node) (fraction (pos (10 ^ 9)) ratio))
cap_quantity (measured.Current branch ratio) x = size_of (scaled_by (unknown x (Node branch)) (fraction (pos (10 ^ 9)) ratio))
cap_quantity (measured.Kvar end) x = value (reactive_power end x).top ((reactive_power end x).over * 10 ^ 6)

-- ---- the same in the interval operators over a ball

abbrev pub entering_interval : LineEnd → List ℤ → List ℕ → ℕ → Cx Bounds
entering_interval e c r k =
    (if e.is_second then negative_interval (interval_at c r (Node (e.branch + k))) else interval_at c r (Node (e.branch + k)))

abbrev pub reactive_interval : LineEnd → List ℤ → List ℕ → ℕ → Bounds
reactive_interval e c r k =
    let v = interval_at c r (node_of e.nodes k) in
    let i = entering_interval e c r k in
    sum (area_of v.re (negation i.im)) (area_of v.im i.re)

-- of the first n phases
abbrev pub reactive_total : LineEnd → List ℤ → List ℕ → ℕ → Bounds
reactive_total e c r zero = capped (pos 0) (pos 0)
reactive_total e c r (suc n) = sum (reactive_total e c r n) (reactive_interval e c r n)

-- the square of a magnitude
abbrev pub ratio_interval : NodeAt → ℕ → List ℤ → List ℕ → Bounds
ratio_interval node ratio c r = square_interval (scaled_interval (interval_at c r node) (factor (pos (10 ^ 9)) ratio))

-- of the square of the magnitude, or of the reactive power
unfoldable pub cap_interval : Measured → List ℤ → List ℕ → Bounds
cap_interval (measured.Voltage node ratio) c r = ratio_interval node ratio c r
cap_interval (measured.Current branch ratio) c r = ratio_interval (Node branch) ratio c r
cap_interval (measured.Kvar end) c r = reactive_total end c r end.phases

-- ---- decisions

-- what the control wants at a quantity, where its bank is closed or open
abbrev pub cap_decision : CapProbe → Bool → Quantity → Decision
cap_decision p closed q = bank_verdict (bank_of p) closed q

-- the value at which that changes
abbrev pub cap_edge : CapProbe → Bool → ℤ
cap_edge p closed = bank_edge (bank_of p) closed

-- the least and the greatest quantity of the interval
abbrev pub least_of : Kind → Bounds → Quantity
least_of Voltage s = least_root s
least_of Current s = least_root s
least_of Kvar s = least_value s

abbrev pub greatest_of : Kind → Bounds → Quantity
greatest_of Voltage s = greatest_root s
greatest_of Current s = greatest_root s
greatest_of Kvar s = greatest_value s

-- the verdict of a sample over an interval: magnitudes are known by their squares, and reactive power by its value
abbrev pub IsCapSample : Kind → (Quantity → Decision) → ℤ → Bounds → Verdict → Type 0
IsCapSample Voltage f edge s v = IsRootSample f (λ d. edge) s v
IsCapSample Current f edge s v = IsRootSample f (λ d. edge) s v
IsCapSample Kvar f edge s v = IsValueSample f (λ d. edge) s v

-- a decided verdict is what the control wants at every state of the ball
abbrev pub AgreesAtEveryState : CapProbe → Bool → List ℤ → List ℕ → Verdict → Type 0
AgreesAtEveryState p closed c r v = (x : State) (d : Decision) → IsInBall c r x → decision_of v ≡ Some d →
    cap_decision p closed (cap_quantity p.measured x) ≡ d

-- ---- how it is decided

-- past the setting: a voltage bank closes below and opens above, and the others the other way round
abbrev pub is_past : Kind → Bool → Bool → Bool → Bool
is_past Voltage closed below above = (if closed then above else below)
is_past Current closed below above = (if closed then below else above)
is_past Kvar closed below above = (if closed then below else above)

-- a bank past its setting switches
abbrev pub switched : Bool → Bool → Decision
switched closed past = (if past then (if closed then Lower 1 else Raise 1) else Hold)

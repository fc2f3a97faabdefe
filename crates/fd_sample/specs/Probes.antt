-- Probes: what a control wants at the positions of a circuit's taps and banks, and its sample over a ball.
use Rattle.std.specs.Prelude.{◌≡◌, ℕ, ◌<◌, ℤ, List, length, IsSome, Some}
use Rattle.fd_network.specs.fd_exact.States.{State}
use Rattle.fd_regctl.specs.fd_arith.Interval.{Bounds}
use Rattle.fd_regctl.specs.fd_queue.Controls.{Positions, Control, Regulates, Switches, BankSwitch, pair_at, is_closed}
use Rattle.fd_regctl.specs.fd_queue.Decisions.{Decision}
use Rattle.fd_regctl.specs.fd_queue.Quantities.{Quantity}
use Rattle.fd_regctl.specs.fd_queue.declared.verdict.Verdict.{Verdict}
use Rattle.fd_network.specs.fd_devices.declared.settings.Positions.{Positions as CodePositions}
use Rattle.fd_sample.specs.declared.probe.CapProbe.{CapProbe}
use Rattle.fd_sample.specs.declared.probe.Probe.{Probe}
use Rattle.fd_sample.specs.declared.probe.Probe.TheVariants as probe
use Rattle.fd_sample.specs.Balls.{IsInBall}
use Rattle.fd_sample.specs.Regulators.{IsRegProbe, changer_of, reg_decision, reg_edge, reg_interval, reg_quantity}
use Rattle.fd_sample.specs.Banks.{IsCapProbe, IsCapSample, cap_decision, cap_edge, cap_interval, cap_quantity, greatest_of, kind_of, least_of}
use Rattle.fd_sample.specs.Samples.{IsRootSample, TellsEdge, decision_of, greatest_root, least_root}

-- ---- positions

abbrev pub positions_in : CodePositions → Positions
positions_in at = record { taps = at.taps; closed = at.closed }

abbrev pub switch_of : CapProbe → BankSwitch
switch_of p = record { bank = p.bank; delay = p.delay; delay_off = p.delayoff; dead_time = p.deadtime }

-- the control in the words of the queue machine
abbrev pub control_of : Probe → Control
control_of (probe.Regulator p) = Regulates (changer_of p)
control_of (probe.Bank p) = Switches (switch_of p)

-- ---- conditions

-- in the ranges of the script profile, at places among n unknowns
abbrev pub IsProbe : ℕ → Probe → Type 0
IsProbe n (probe.Regulator p) = IsRegProbe n p
IsProbe n (probe.Bank p) = IsCapProbe n p

-- the control's device is one of those that stand at these positions
abbrev pub HasDevice : Positions → Probe → Type 0
HasDevice at (probe.Regulator p) = p.transformer < length at.taps
HasDevice at (probe.Bank p) = p.bank < length at.closed

-- ---- at a state

-- what the control wants at a quantity
abbrev pub decision_at : Probe → Positions → Quantity → Decision
decision_at (probe.Regulator p) at q = reg_decision p (pair_at at p.transformer) q
decision_at (probe.Bank p) at q = cap_decision p (is_closed at (switch_of p)) q

-- its quantity at a state
abbrev pub quantity_at : Probe → Positions → State → Quantity
quantity_at (probe.Regulator p) at x = reg_quantity p (pair_at at p.transformer) x
quantity_at (probe.Bank p) at x = cap_quantity p.measured x

-- ---- over a ball

-- the interval of its quantity: of the square of a magnitude, or of a reactive power
abbrev pub interval_over : Probe → Positions → List ℤ → List ℕ → Bounds
interval_over (probe.Regulator p) at c r = reg_interval p (pair_at at p.transformer) c r
interval_over (probe.Bank p) at c r = cap_interval p.measured c r

-- the verdict of a sample
abbrev pub IsSampleOf : Probe → Positions → Bounds → Verdict → Type 0
IsSampleOf (probe.Regulator p) at s v = IsRootSample (decision_at (probe.Regulator p) at) (reg_edge p (pair_at at p.transformer)) s v
IsSampleOf (probe.Bank p) at s v = IsCapSample (kind_of p.measured) (decision_at (probe.Bank p) at) (cap_edge p (is_closed at (switch_of p))) s v

-- the edge that an undecided sample tells; the interval of a bank's control is told apart from ALL
abbrev pub TellsChange : Probe → Positions → Bounds → Verdict → Type 0
TellsChange (probe.Regulator p) at s v = TellsEdge (decision_at (probe.Regulator p) at) (least_root s) (greatest_root s) v
TellsChange (probe.Bank p) at s v =
    IsSome s
    → TellsEdge (decision_at (probe.Bank p) at) (least_of (kind_of p.measured) s) (greatest_of (kind_of p.measured) s)
    v

-- a decided verdict is what the control wants at every state of the ball
abbrev pub IsOfEachState : Probe → Positions → List ℤ → List ℕ → Verdict → Type 0
IsOfEachState p at c r v = (x : State) (d : Decision) → IsInBall c r x → decision_of v ≡ Some d → decision_at p at (quantity_at p at x) ≡ d

-- The quantity of a regulator's control: the magnitude of V / ptratio - (R + j X) I / CTprim, V being the voltage of
-- its winding and I the current that the winding delivers (OpenDSS manual, RegControl, line drop compensation).
use Rattle.std.specs.Prelude.{◌≡◌, Bool, not, ℕ, ◌*◌, ◌^◌, ◌≤◌, ℤ, pos, nat_abs, if◌then◌else◌, List, Some}
use Rattle.fd_network.specs.fd_exact.Fractions.{Fraction, fraction}
use Rattle.fd_network.specs.fd_exact.States.{State}
use Rattle.fd_regctl.specs.fd_arith.Interval.{Bounds}
use Rattle.fd_regctl.specs.fd_arith.declared.cx.Cx.{Cx}
use Rattle.fd_regctl.specs.fd_arith.declared.terms.NodeAt.TheVariants.{Node}
use Rattle.fd_regctl.specs.fd_arith.declared.terms.TapPair.{TapPair}
use Rattle.fd_network.specs.fd_system.Complex.{Complex, ◌⊟◌, ◌⊠◌, negative}
use Rattle.fd_network.specs.fd_system.Equations.{unknown}
use Rattle.fd_network.specs.fd_system.Residual.{IsPlace}
use Rattle.fd_network.specs.fd_xfmr.Transformer.{across}
use Rattle.fd_regctl.specs.fd_queue.Controls.{TapChanger, tap_of}
use Rattle.fd_regctl.specs.fd_queue.Decisions.{Decision}
use Rattle.fd_regctl.specs.fd_queue.Quantities.{Quantity, root_above, root_below}
use Rattle.fd_regctl.specs.fd_queue.declared.verdict.Verdict.{Verdict}
use Rattle.fd_regctl.specs.Regulator.{regulator_verdict, regulator_edge}
use Rattle.fd_regctl.specs.Settings.{RegSettings, regulator_at}
use Rattle.fd_sample.specs.declared.probe.RegProbe.{RegProbe}
use Rattle.fd_sample.specs.Balls.{IsInBall, interval_across, interval_at}
use Rattle.fd_sample.specs.Phasors.{scaled_by, size_of, factor, negative_interval, difference_interval, scaled_interval, product_interval, square_interval}
use Rattle.fd_sample.specs.Samples.{decision_of}

-- ---- settings

-- the nominal voltage of the winding that is controlled
abbrev pub nominal_of : RegProbe → ℕ
nominal_of p = if p.is_second then p.second_volts else p.first_volts

abbrev pub changer_of : RegProbe → TapChanger
changer_of p = record {
  transformer = p.transformer;
  is_second = p.is_second;
  tap_step = p.tap_step;
  delay = p.delay;
  tap_delay = p.tapdelay;
}

abbrev pub settings_of : RegProbe → RegSettings
settings_of p = record {
  changer = changer_of p;
  vreg = p.vreg;
  band = p.band;
  ratio = p.ptratio;
  most = p.maxtapchange;
  nominal = nominal_of p;
  min_tap = p.min_tap;
  max_tap = p.max_tap;
}

-- in the ranges of the script profile
pub record AreRegSettings (p : RegProbe) : Type 0 where
  pub first_volts_least : 1 ≤ p.first_volts
  pub first_volts_most : p.first_volts ≤ 10 ^ 12
  pub second_volts_most : p.second_volts ≤ 10 ^ 12
  pub tap_step_least : 1 ≤ p.tap_step
  pub tap_step_most : p.tap_step ≤ 200000
  pub vreg : p.vreg ≤ 10 ^ 15
  pub band : p.band ≤ 10 ^ 12
  pub ptratio_least : 10 ^ 6 ≤ p.ptratio
  pub ptratio_most : p.ptratio ≤ 10 ^ 15
  pub ctprim_least : 10 ^ 6 ≤ p.ctprim
  pub ctprim_most : p.ctprim ≤ 10 ^ 15
  pub r : nat_abs p.r ≤ 10 ^ 12
  pub x : nat_abs p.x ≤ 10 ^ 12
  pub most : p.maxtapchange ≤ 1000

-- the same, at places among n unknowns
pub record IsRegProbe (n : ℕ) (p : RegProbe) : Type 0 where
  pub first : IsPlace n p.nodes.first
  pub second : IsPlace n p.nodes.second
  pub branch : IsPlace n (Node p.branch)
  pub settings : AreRegSettings p

-- ---- the quantity at a state

-- the ratio of the turns at the taps, U2 t2 / (U1 t1)
abbrev pub turns_of : RegProbe → TapPair → Fraction
turns_of p t = fraction (pos (p.second_volts * t.second)) (p.first_volts * t.first)

-- the current that the winding delivers: the branch's at winding 2; winding 1 draws its product with the ratio of the
-- turns
abbrev pub delivered : RegProbe → TapPair → State → Complex
delivered p t x =
    (if p.is_second then unknown x (Node p.branch)
    else negative (scaled_by (unknown x (Node p.branch)) (turns_of p t)))

-- the compensator's impedance over the rating of the current transformer
abbrev pub compensation : RegProbe → Complex
compensation p = record { re = fraction p.r p.ctprim; im = fraction p.x p.ctprim }

abbrev pub relay_voltage : RegProbe → TapPair → State → Complex
relay_voltage p t x = scaled_by (across x p.nodes) (fraction (pos (10 ^ 9)) p.ptratio) ⊟ delivered p t x ⊠ compensation p

abbrev pub reg_quantity : RegProbe → TapPair → State → Quantity
reg_quantity p t x = size_of (relay_voltage p t x)

-- ---- the same in the interval operators over a ball

abbrev pub turns_interval : RegProbe → TapPair → Bounds
turns_interval p t = factor (pos (p.second_volts * t.second)) (p.first_volts * t.first)

abbrev pub delivered_interval : RegProbe → TapPair → List ℤ → List ℕ → Cx Bounds
delivered_interval p t c r =
    (if p.is_second then interval_at c r (Node p.branch)
    else negative_interval (scaled_interval (interval_at c r (Node p.branch)) (turns_interval p t)))

abbrev pub relay_interval : RegProbe → TapPair → List ℤ → List ℕ → Cx Bounds
relay_interval p t c r = difference_interval
    (scaled_interval (interval_across c r p.nodes) (factor (pos (10 ^ 9)) p.ptratio))
    (product_interval (delivered_interval p t c r) (factor p.r p.ctprim) (factor p.x p.ctprim))

-- the interval of the square of the magnitude
unfoldable pub reg_interval : RegProbe → TapPair → List ℤ → List ℕ → Bounds
reg_interval p t c r = square_interval (relay_interval p t c r)

-- ---- decisions

-- the magnitude of a square is at most n steps below the voltage that is wanted, and at least n steps above it
abbrev pub fits_up : RegProbe → ℕ → ℕ → Bool
fits_up p square n = not (root_above square 1 ((regulator_at (settings_of p) 0).under n))

abbrev pub fits_down : RegProbe → ℕ → ℕ → Bool
fits_down p square n = not (root_below square 1 ((regulator_at (settings_of p) 0).over n))

-- what the control wants at a quantity, where its winding stands at this tap
abbrev pub wanted_at : RegProbe → ℕ → Quantity → Decision
wanted_at p tap q = regulator_verdict (regulator_at (settings_of p) tap) q

-- the least value at which that changes, by what is wanted at the least value
abbrev pub edge_at : RegProbe → ℕ → Decision → ℤ
edge_at p tap v = regulator_edge (regulator_at (settings_of p) tap) v

-- the tap of its winding
abbrev pub own_tap : RegProbe → TapPair → ℕ
own_tap p t = tap_of p.is_second t

abbrev pub reg_decision : RegProbe → TapPair → Quantity → Decision
reg_decision p t q = wanted_at p (own_tap p t) q

abbrev pub reg_edge : RegProbe → TapPair → Decision → ℤ
reg_edge p t v = edge_at p (own_tap p t) v

-- a decided verdict is what the control wants at every state of the ball
abbrev pub IsOfEveryState : RegProbe → TapPair → List ℤ → List ℕ → Verdict → Type 0
IsOfEveryState p t c r v = (x : State) (d : Decision) → IsInBall c r x → decision_of v ≡ Some d →
    reg_decision p t (reg_quantity p t x) ≡ d

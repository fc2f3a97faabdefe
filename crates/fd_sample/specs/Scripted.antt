-- The probes of a circuit's controls, by their settings in the script and by where their transformers, banks and lines
-- stand.
use Rattle.std.specs.Prelude.{ℕ, ◌+◌, ◌-◌, ◌*◌, ◌/◌, ◌^◌, ◌≤◌, ◌==◌, ℤ, pos, ◌≤ℤ◌, nat_abs, Bool, if◌then◌else◌, List, [], ◌∷◌}
use Rattle.fd_regctl.specs.fd_arith.declared.terms.Ends.{Ends}
use Rattle.fd_regctl.specs.fd_arith.declared.terms.NodeAt.{NodeAt}
use Rattle.fd_network.specs.fd_system.Terminals.{node_count, node_of}
use Rattle.fd_network.specs.fd_xfmr.Transformer.{phase_at}
use Rattle.fd_network.specs.fd_xfmr.Windings.{first_volts, second_volts}
use Rattle.fd_network.specs.dss_model.declared.words.ControlQuantity.{ControlQuantity}
use Rattle.fd_network.specs.dss_model.declared.words.ControlQuantity.TheVariants as quantity
use Rattle.fd_network.specs.dss_model.declared.capcontrol.CapControl.{CapControl}
use Rattle.fd_network.specs.dss_model.declared.line.Line.{Line}
use Rattle.fd_network.specs.dss_model.declared.regcontrol.RegControl.{RegControl}
use Rattle.fd_network.specs.dss_model.declared.transformer.Transformer.{Transformer}
use Rattle.fd_network.specs.dss_model.declared.transformer.Winding.{Winding}
use Rattle.fd_network.specs.fd_devices.Data.{xfmr_data_of}
use Rattle.fd_network.specs.fd_devices.Sound.{HasBranches, IsSideOf}
use Rattle.fd_sample.specs.declared.probe.CapProbe.{CapProbe}
use Rattle.fd_sample.specs.declared.probe.LineEnd.{LineEnd}
use Rattle.fd_sample.specs.declared.probe.Measured.{Measured}
use Rattle.fd_sample.specs.declared.probe.Measured.TheVariants as measured
use Rattle.fd_sample.specs.declared.probe.RegProbe.{RegProbe}

-- ---- a regulator's control

-- the place of a phase, which is counted from 1
abbrev pub phase_index : ℤ → ℕ
phase_index phase = nat_abs phase - 1

abbrev pub winding_of : Bool → Transformer → Winding
winding_of is_second t = if is_second then t.second else t.first

-- one step of a winding's tap, in whole 10^-5 and rounded down
abbrev pub step_of : Winding → ℕ
step_of w = (w.maxtap - w.mintap) / w.numtaps

-- of a transformer with this number that stands at these ends
abbrev pub reg_probe : RegControl → Transformer → Ends → ℕ → RegProbe
reg_probe control t at number =
    let is_second = control.winding == 2 in
    let phase = phase_at (xfmr_data_of t) at (phase_index control.ptphase) in
    record {
      transformer = number;
      is_second = is_second;
      nodes = if is_second then phase.winding2 else phase.winding1;
      branch = at.branch + phase_index control.ptphase;
      first_volts = nat_abs (first_volts (xfmr_data_of t));
      second_volts = nat_abs (second_volts (xfmr_data_of t));
      tap_step = step_of (winding_of is_second t);
      min_tap = (winding_of is_second t).mintap;
      max_tap = (winding_of is_second t).maxtap;
      vreg = nat_abs control.vreg;
      band = nat_abs control.band;
      ptratio = nat_abs control.ptratio;
      ctprim = nat_abs control.ctprim;
      r = control.r;
      x = control.x;
      maxtapchange = control.maxtapchange;
      delay = control.delay;
      tapdelay = control.tapdelay;
    }

-- ---- a bank's control

-- the nodes of the end of a line
abbrev pub side_of : Bool → Ends → List NodeAt
side_of is_second at = if is_second then at.second else at.first

abbrev pub line_end : Bool → Line → Ends → LineEnd
line_end is_second l at =
    let ns = side_of is_second at in
    record {
      phases = l.phases;
      nodes = node_of ns 0 ∷ node_of ns 1 ∷ node_of ns 2 ∷ [];
      branch = at.branch;
      is_second = is_second;
    }

-- what it measures at a line that stands at these ends
abbrev pub measured_by : ControlQuantity → CapControl → Line → Ends → Measured
measured_by quantity.Voltage control l at =
    measured.Voltage (node_of (side_of (control.terminal == 2) at) (phase_index control.ptphase)) (nat_abs control.ptratio)
measured_by quantity.Current control l at = measured.Current (at.branch + phase_index control.ctphase) (nat_abs control.ctratio)
measured_by quantity.Kvar control l at = measured.Kvar (line_end (control.terminal == 2) l at)

-- of a bank with this number
abbrev pub cap_probe : CapControl → Line → Ends → ℕ → CapProbe
cap_probe control l at number = record {
  bank = number;
  measured = measured_by control.kind control l at;
  on = control.onsetting;
  off = control.offsetting;
  delay = control.delay;
  delayoff = control.delayoff;
  deadtime = control.deadtime;
}

-- ---- conditions

-- a phase, counted from 1
pub record IsPhase (phases : ℕ) (phase : ℤ) : Type 0 where
  pub least : pos 1 ≤ℤ phase
  pub most : phase ≤ℤ pos phases

-- an element of so many phases with sides of m terminals that stands among the first n complex unknowns, of `places`
-- real ones
pub record IsAt (n places m phases : ℕ) (at : Ends) : Type 0 where
  pub first : IsSideOf n m at.first
  pub second : IsSideOf n m at.second
  pub branches : HasBranches n phases at
  pub few : n ≤ 2 ^ 29
  pub room : 2 * n ≤ places

abbrev pub IsXfmrAt : ℕ → ℕ → ℕ → Ends → Type 0
IsXfmrAt n size phases at = IsAt n size (node_count phases) phases at

abbrev pub IsLineAt : ℕ → ℕ → ℕ → Ends → Type 0
IsLineAt n size phases at = IsAt n size phases phases at

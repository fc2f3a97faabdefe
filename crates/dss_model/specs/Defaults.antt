-- The defaults: what an element of each class is before any pair sets it, and the options before any is set.
use Rattle.std.specs.Prelude.{ℕ, List, [], codes, pos, false, None}
use Rattle.dss_model.specs.declared.command.Place.{Place}
use Rattle.dss_model.specs.declared.vsource.Vsource.{Vsource}
use Rattle.dss_model.specs.declared.line_constants.LineConstants.{LineConstants}
use Rattle.dss_model.specs.declared.linecode.Linecode.{Linecode}
use Rattle.dss_model.specs.declared.line.Line.{Line}
use Rattle.dss_model.specs.declared.transformer.Winding.{Winding}
use Rattle.dss_model.specs.declared.transformer.Transformer.{Transformer}
use Rattle.dss_model.specs.declared.capacitor.Capacitor.{Capacitor}
use Rattle.dss_model.specs.declared.load.Load.{Load}
use Rattle.dss_model.specs.declared.regcontrol.RegControl.{RegControl}
use Rattle.dss_model.specs.declared.capcontrol.CapControl.{CapControl}
use Rattle.dss_model.specs.declared.loadshape.Loadshape.{Loadshape}
use Rattle.dss_model.specs.declared.options.Options.{Options}
use Rattle.dss_model.specs.declared.load.LoadKind.TheVariants as kind
use Rattle.dss_model.specs.declared.words.SourceForm.TheVariants as source_form
use Rattle.dss_model.specs.declared.words.Units.TheVariants as unit
use Rattle.dss_model.specs.declared.words.Connection.TheVariants as connection
use Rattle.dss_model.specs.declared.words.LeadLag.TheVariants as lead
use Rattle.dss_model.specs.declared.words.BankState.TheVariants as state
use Rattle.dss_model.specs.declared.words.ReactiveRule.TheVariants as rule
use Rattle.dss_model.specs.declared.words.ControlQuantity.TheVariants as quantity
use Rattle.dss_model.specs.declared.words.Mode.TheVariants as mode
use Rattle.dss_model.specs.declared.words.ControlMode.TheVariants as control
use Rattle.dss_model.specs.declared.words.StepSize.TheVariants as step
use Rattle.dss_model.specs.Ranges.{ones}

-- the bus of a source where no other is said
abbrev pub source_bus : List ℕ
source_bus = codes "sourcebus"

abbrev pub fresh_vsource : Place → Vsource
fresh_vsource place = record {
  place = place;
  bus1 = record { name = source_bus; nodes = [] };
  phases = 3;
  basekv = ones 115;
  pu = ones 1;
  angle = pos 0;
  mvasc3 = ones 2000;
  mvasc1 = ones 2100;
  x1r1 = ones 4;
  x0r0 = ones 3;
  r1 = None;
  x1 = None;
  r0 = None;
  x0 = None;
  basefreq = None;
  form = source_form.ShortCircuit;
}

abbrev pub fresh_constants : LineConstants
fresh_constants = record {
  rmatrix = None;
  xmatrix = None;
  cmatrix = None;
  r1 = None;
  x1 = None;
  r0 = None;
  x0 = None;
  c1 = None;
  c0 = None;
  form = None;
  charge_form = None;
}

abbrev pub fresh_linecode : Place → Linecode
fresh_linecode place = record {
  place = place;
  nphases = 3;
  constants = fresh_constants;
  units = unit.None;
  basefreq = None;
}

abbrev pub fresh_line : Place → Line
fresh_line place = record {
  place = place;
  bus1 = None;
  bus2 = None;
  phases = 3;
  linecode = None;
  length = ones 1;
  units = unit.None;
  constants = fresh_constants;
  switch = false;
  basefreq = None;
  code_units = unit.None;
}

-- `solves` is the number of Solves that were applied so far
abbrev pub fresh_winding : ℕ → Winding
fresh_winding solves = record {
  bus = None;
  conn = connection.Wye;
  kv = pos 12_470_000_000;
  kva = ones 1000;
  pct_r = pos 200_000_000;
  tap = 100_000;
  set_at = solves;
  mintap = 90_000;
  maxtap = 110_000;
  numtaps = 32;
}

abbrev pub fresh_transformer : ℕ → Place → Transformer
fresh_transformer solves place = record {
  place = place;
  phases = 3;
  windings = 2;
  wdg = 1;
  first = fresh_winding solves;
  second = fresh_winding solves;
  xhl = ones 7;
  pct_loadloss = None;
  leadlag = lead.Lag;
  pct_noloadloss = pos 0;
  pct_imag = pos 0;
  basefreq = None;
}

-- `solves` is the number of Solves that were applied so far
abbrev pub fresh_capacitor : ℕ → Place → Capacitor
fresh_capacitor solves place = record {
  place = place;
  bus1 = None;
  phases = 3;
  kvar = ones 1200;
  kv = pos 12_470_000_000;
  conn = connection.Wye;
  numsteps = 1;
  states = state.Closed;
  set_at = solves;
  basefreq = None;
}

abbrev pub fresh_load : Place → Load
fresh_load place = record {
  place = place;
  bus1 = None;
  phases = 3;
  kv = pos 12_470_000_000;
  kw = ones 10;
  pf = pos 880_000_000;
  kvar = None;
  model = kind.ConstantPower;
  zipv = None;
  conn = connection.Wye;
  vminpu = pos 950_000_000;
  vmaxpu = pos 1_050_000_000;
  daily = None;
  basefreq = None;
  reactive = rule.PowerFactor;
}

abbrev pub fresh_regcontrol : Place → RegControl
fresh_regcontrol place = record {
  place = place;
  transformer = None;
  winding = 1;
  vreg = ones 120;
  band = ones 3;
  ptratio = ones 60;
  ctprim = ones 300;
  r = pos 0;
  x = pos 0;
  delay = 15_000;
  tapdelay = 2_000;
  maxtapchange = 16;
  ptphase = pos 1;
}

abbrev pub fresh_capcontrol : Place → CapControl
fresh_capcontrol place = record {
  place = place;
  element = None;
  terminal = 1;
  capacitor = None;
  kind = quantity.Current;
  ptratio = ones 60;
  ctratio = ones 60;
  onsetting = ones 300;
  offsetting = ones 200;
  delay = 15_000;
  delayoff = 15_000;
  deadtime = 300_000;
  ptphase = pos 1;
  ctphase = pos 1;
}

abbrev pub fresh_loadshape : Place → Loadshape
fresh_loadshape place = record { place = place; npts = 0; interval = 1; mult = [] }

abbrev pub default_options : Options
default_options = record {
  mode = mode.Snapshot;
  number = 1;
  stepsize = step.Hour;
  maxiterations = 15;
  tolerance = pos 100_000;
  maxcontroliter = 10;
  controlmode = control.Static;
  voltagebases = [];
  defaultbasefrequency = 60;
}

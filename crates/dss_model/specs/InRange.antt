-- The ranges of the values of elements and options: each value that a script can set lies in them.
use Rattle.std.specs.Prelude.{◌≡◌, ◌≤◌, length, pos, [], ◌∷◌, All, IfSome}
use Rattle.dss_model.specs.Ranges.{ones, IsBetween, IsCountBetween, IsOneOf, IsAngle, IsRatio, IsPowerFactor, IsTap, IsTime, IsPhaseNumber, IsKilovolt, IsRating, IsImpedance, IsImpedanceEntry, IsCapacitance, IsCapacitanceEntry, IsPower, IsShare, IsCompensation, IsSetting}
use Rattle.dss_model.specs.declared.bus.Bus.{Bus}
use Rattle.dss_model.specs.declared.vsource.Vsource.{Vsource}
use Rattle.dss_model.specs.declared.line_constants.LineConstants.{LineConstants}
use Rattle.dss_model.specs.declared.linecode.Linecode.{Linecode}
use Rattle.dss_model.specs.declared.line.Line.{Line}
use Rattle.dss_model.specs.declared.transformer.Winding.{Winding}
use Rattle.dss_model.specs.declared.transformer.Transformer.{Transformer}
use Rattle.dss_model.specs.declared.capacitor.Capacitor.{Capacitor}
use Rattle.dss_model.specs.declared.load.Load.{Load}
use Rattle.dss_model.specs.declared.load.Shares.{Shares}
use Rattle.dss_model.specs.declared.load.ZipShares.{ZipShares}
use Rattle.dss_model.specs.declared.regcontrol.RegControl.{RegControl}
use Rattle.dss_model.specs.declared.capcontrol.CapControl.{CapControl}
use Rattle.dss_model.specs.declared.loadshape.Loadshape.{Loadshape}
use Rattle.dss_model.specs.declared.element.Element.{Element}
use Rattle.dss_model.specs.declared.element.Element.TheVariants as the
use Rattle.dss_model.specs.declared.options.Options.{Options}

-- at most four node numbers, each of one digit
pub record BusInRange (bus : Bus) : Type 0 where
  pub few : length bus.nodes ≤ 4
  pub digits : All (λ n. n ≤ 9) bus.nodes

pub record VsourceInRange (source : Vsource) : Type 0 where
  pub bus1 : BusInRange source.bus1
  pub phases : IsOneOf (1 ∷ 3 ∷ []) source.phases
  pub basekv : IsBetween (pos 1_000_000) (ones 1000) source.basekv
  pub pu : IsBetween (pos 0) (ones 2) source.pu
  pub angle : IsAngle source.angle
  pub mvasc3 : IsRating source.mvasc3
  pub mvasc1 : IsRating source.mvasc1
  pub x1r1 : IsRatio source.x1r1
  pub x0r0 : IsRatio source.x0r0
  pub r1 : IfSome source.r1 IsImpedance
  pub x1 : IfSome source.x1 IsImpedance
  pub r0 : IfSome source.r0 IsImpedance
  pub x0 : IfSome source.x0 IsImpedance

-- how many rows a matrix has is a test of Solve
pub record LineConstantsInRange (constants : LineConstants) : Type 0 where
  pub rmatrix : IfSome constants.rmatrix (All IsImpedanceEntry)
  pub xmatrix : IfSome constants.xmatrix (All IsImpedanceEntry)
  pub cmatrix : IfSome constants.cmatrix (All IsCapacitanceEntry)
  pub r1 : IfSome constants.r1 IsImpedance
  pub x1 : IfSome constants.x1 IsImpedance
  pub r0 : IfSome constants.r0 IsImpedance
  pub x0 : IfSome constants.x0 IsImpedance
  pub c1 : IfSome constants.c1 IsCapacitance
  pub c0 : IfSome constants.c0 IsCapacitance

pub record LinecodeInRange (code : Linecode) : Type 0 where
  pub nphases : IsCountBetween 1 3 code.nphases
  pub constants : LineConstantsInRange code.constants

pub record LineInRange (line : Line) : Type 0 where
  pub bus1 : IfSome line.bus1 BusInRange
  pub bus2 : IfSome line.bus2 BusInRange
  pub phases : IsCountBetween 1 3 line.phases
  pub length : IsBetween (pos 0) (ones 1_000_000) line.length
  pub constants : LineConstantsInRange line.constants

pub record WindingInRange (winding : Winding) : Type 0 where
  pub bus : IfSome winding.bus BusInRange
  pub kv : IsKilovolt winding.kv
  pub kva : IsRating winding.kva
  pub pct_r : IsBetween (pos 0) (ones 100) winding.pct_r
  pub tap : IsTap winding.tap
  pub mintap : IsTap winding.mintap
  pub maxtap : IsTap winding.maxtap
  pub numtaps : IsCountBetween 1 1000 winding.numtaps

pub record TransformerInRange (xfmr : Transformer) : Type 0 where
  pub phases : IsOneOf (1 ∷ 3 ∷ []) xfmr.phases
  pub windings : xfmr.windings ≡ 2
  pub wdg : IsCountBetween 1 2 xfmr.wdg
  pub first : WindingInRange xfmr.first
  pub second : WindingInRange xfmr.second
  pub xhl : IsBetween (pos 0) (ones 100) xfmr.xhl
  pub pct_loadloss : IfSome xfmr.pct_loadloss (IsBetween (pos 0) (ones 200))
  pub pct_noloadloss : xfmr.pct_noloadloss ≡ pos 0
  pub pct_imag : xfmr.pct_imag ≡ pos 0

pub record CapacitorInRange (bank : Capacitor) : Type 0 where
  pub bus1 : IfSome bank.bus1 BusInRange
  pub phases : IsOneOf (1 ∷ 3 ∷ []) bank.phases
  pub kvar : IsBetween (pos 0) (ones 100_000) bank.kvar
  pub kv : IsKilovolt bank.kv
  pub numsteps : bank.numsteps ≡ 1

pub record SharesInRange (shares : Shares) : Type 0 where
  pub impedance : IsShare shares.impedance
  pub current : IsShare shares.current
  pub power : IsShare shares.power

pub record ZipSharesInRange (shares : ZipShares) : Type 0 where
  pub p : SharesInRange shares.p
  pub q : SharesInRange shares.q

pub record LoadInRange (load : Load) : Type 0 where
  pub bus1 : IfSome load.bus1 BusInRange
  pub phases : IsOneOf (1 ∷ 3 ∷ []) load.phases
  pub kv : IsKilovolt load.kv
  pub kw : IsPower load.kw
  pub pf : IsPowerFactor load.pf
  pub kvar : IfSome load.kvar IsPower
  pub zipv : IfSome load.zipv ZipSharesInRange
  pub vminpu : IsBetween (pos 400_000_000) (ones 1) load.vminpu
  pub vmaxpu : IsBetween (ones 1) (ones 2) load.vmaxpu

pub record RegControlInRange (control : RegControl) : Type 0 where
  pub winding : IsCountBetween 1 2 control.winding
  pub vreg : IsBetween (ones 1) (ones 1_000_000) control.vreg
  pub band : IsBetween (pos 1_000_000) (ones 1000) control.band
  pub ptratio : IsRating control.ptratio
  pub ctprim : IsRating control.ctprim
  pub r : IsCompensation control.r
  pub x : IsCompensation control.x
  pub delay : IsTime control.delay
  pub tapdelay : IsTime control.tapdelay
  pub maxtapchange : IsCountBetween 1 1000 control.maxtapchange
  pub ptphase : IsPhaseNumber control.ptphase

pub record CapControlInRange (control : CapControl) : Type 0 where
  pub terminal : IsCountBetween 1 2 control.terminal
  pub ptratio : IsRating control.ptratio
  pub ctratio : IsRating control.ctratio
  pub onsetting : IsSetting control.onsetting
  pub offsetting : IsSetting control.offsetting
  pub delay : IsTime control.delay
  pub delayoff : IsTime control.delayoff
  pub deadtime : IsTime control.deadtime
  pub ptphase : IsPhaseNumber control.ptphase
  pub ctphase : IsPhaseNumber control.ctphase

pub record LoadshapeInRange (shape : Loadshape) : Type 0 where
  pub npts : shape.npts ≤ 8760
  pub interval : shape.interval ≡ 1
  pub mult : All (IsBetween (pos 0) (ones 1000)) shape.mult

abbrev pub ElementInRange : Element → Type 0
ElementInRange (the.Vsource source) = VsourceInRange source
ElementInRange (the.Linecode code) = LinecodeInRange code
ElementInRange (the.Line line) = LineInRange line
ElementInRange (the.Transformer xfmr) = TransformerInRange xfmr
ElementInRange (the.Capacitor bank) = CapacitorInRange bank
ElementInRange (the.Load load) = LoadInRange load
ElementInRange (the.RegControl control) = RegControlInRange control
ElementInRange (the.CapControl control) = CapControlInRange control
ElementInRange (the.Loadshape shape) = LoadshapeInRange shape

pub record OptionsInRange (options : Options) : Type 0 where
  pub number : IsCountBetween 1 8760 options.number
  pub maxiterations : IsCountBetween 1 1000 options.maxiterations
  pub tolerance : IsBetween (pos 1) (pos 100_000_000) options.tolerance
  pub maxcontroliter : options.maxcontroliter ≤ 100
  pub voltagebases : All (IsBetween (pos 1_000_000) (ones 1000)) options.voltagebases
  pub defaultbasefrequency : IsOneOf (50 ∷ 60 ∷ []) options.defaultbasefrequency

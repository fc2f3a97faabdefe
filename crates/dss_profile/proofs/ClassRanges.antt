-- The properties of each class keep its values in range.
use Rattle.std.proofs.Common.{◌≡◌, ℕ, ◌==◌, ◌≤◌, ℤ, pos, Bool, true, false, List, [], ◌∷◌, All, Option, Some, None, IfSome, Result, Ok, if◌then◌else◌, IfOk, refl, arith}
use Rattle.std.proofs.lemmas.Int.{ints}
use Rattle.std.proofs.lemmas.Result.{IfOk-weaker}
use Rattle.dss_values.specs.dss_lexer.declared.pair.Pair.{Pair}
use Rattle.dss_values.specs.dss_model.declared.fault.ModelFault.{ModelFault}
use Rattle.dss_values.specs.dss_model.Answers.{◌>>=◌}
use Rattle.dss_values.specs.dss_model.Ranges.{ones, IsBetween, IsRating, IsImpedance, IsImpedanceEntry, IsCapacitance, IsCapacitanceEntry}
use Rattle.dss_values.specs.Forms.{half, name_in, whole_between, supported_among}
use Rattle.dss_values.specs.dss_model.declared.vsource.Vsource.{Vsource}
use Rattle.dss_profile.specs.declared.vsource.VsourceProperty.{VsourceProperty}
use Rattle.dss_profile.specs.declared.vsource.VsourceProperty.TheVariants as of_source
use Rattle.dss_values.specs.dss_model.declared.line_constants.LineConstants.{LineConstants}
use Rattle.dss_profile.specs.declared.line_constants.DataProperty.{DataProperty}
use Rattle.dss_profile.specs.declared.line_constants.DataProperty.TheVariants as of_data
use Rattle.dss_values.specs.dss_model.declared.linecode.Linecode.{Linecode}
use Rattle.dss_profile.specs.declared.linecode.LinecodeProperty.{LinecodeProperty}
use Rattle.dss_profile.specs.declared.linecode.LinecodeProperty.TheVariants as of_code
use Rattle.dss_values.specs.dss_model.declared.line.Line.{Line}
use Rattle.dss_profile.specs.declared.line.LineProperty.{LineProperty}
use Rattle.dss_profile.specs.declared.line.LineProperty.TheVariants as of_line
use Rattle.dss_values.specs.dss_model.declared.transformer.Winding.{Winding}
use Rattle.dss_profile.specs.declared.transformer.WindingProperty.{WindingProperty}
use Rattle.dss_profile.specs.declared.transformer.WindingProperty.TheVariants as of_winding
use Rattle.dss_profile.specs.declared.transformer.BothProperty.{BothProperty}
use Rattle.dss_profile.specs.declared.transformer.BothProperty.TheVariants as of_both
use Rattle.dss_values.specs.dss_model.declared.transformer.Transformer.{Transformer}
use Rattle.dss_profile.specs.declared.transformer.TransformerProperty.{TransformerProperty}
use Rattle.dss_profile.specs.declared.transformer.TransformerProperty.TheVariants as of_xfmr
use Rattle.dss_values.specs.dss_model.declared.capacitor.Capacitor.{Capacitor}
use Rattle.dss_profile.specs.declared.capacitor.CapacitorProperty.{CapacitorProperty}
use Rattle.dss_profile.specs.declared.capacitor.CapacitorProperty.TheVariants as of_bank
use Rattle.dss_values.specs.dss_model.declared.load.Load.{Load}
use Rattle.dss_profile.specs.declared.load.LoadProperty.{LoadProperty}
use Rattle.dss_profile.specs.declared.load.LoadProperty.TheVariants as of_load
use Rattle.dss_values.specs.dss_model.declared.regcontrol.RegControl.{RegControl}
use Rattle.dss_profile.specs.declared.regcontrol.RegControlProperty.{RegControlProperty}
use Rattle.dss_profile.specs.declared.regcontrol.RegControlProperty.TheVariants as of_regcontrol
use Rattle.dss_values.specs.dss_model.declared.capcontrol.CapControl.{CapControl}
use Rattle.dss_profile.specs.declared.capcontrol.CapControlProperty.{CapControlProperty}
use Rattle.dss_profile.specs.declared.capcontrol.CapControlProperty.TheVariants as of_capcontrol
use Rattle.dss_values.specs.dss_model.declared.loadshape.Loadshape.{Loadshape}
use Rattle.dss_profile.specs.declared.loadshape.LoadshapeProperty.{LoadshapeProperty}
use Rattle.dss_profile.specs.declared.loadshape.LoadshapeProperty.TheVariants as of_shape
use Rattle.dss_values.specs.dss_model.InRange.{VsourceInRange, LineConstantsInRange, LinecodeInRange, LineInRange, WindingInRange, TransformerInRange, CapacitorInRange, LoadInRange, RegControlInRange, CapControlInRange, LoadshapeInRange}
use Rattle.dss_profile.specs.Vsource.{with_vsource}
use Rattle.dss_profile.specs.LineConstants.{impedance_matrix_in, capacitance_matrix_in, with_constant, with_switch}
use Rattle.dss_profile.specs.Linecode.{with_linecode}
use Rattle.dss_profile.specs.Line.{with_code, with_code_in, switched, with_line}
use Rattle.dss_profile.specs.Transformer.{with_winding, with_chosen, with_kvas, with_pct_rs, with_losses, zero_in, with_both, with_transformer}
use Rattle.dss_profile.specs.Capacitor.{with_capacitor}
use Rattle.dss_profile.specs.Load.{with_load}
use Rattle.dss_profile.specs.RegControl.{with_regcontrol}
use Rattle.dss_profile.specs.CapControl.{with_capcontrol}
use Rattle.dss_profile.specs.Loadshape.{with_loadshape}
use Rattle.dss_profile.proofs.FormRanges.{then_ok, any_ok, made_ok, kept_ok, number_ok, power_factor_ok, whole_ok, among_ok, supported_ok, tap_ok, time_ok, ratio_ok, half_between, angle_ok, phase_ok, numbers_ok, two_numbers_ok, two_taps_ok, matrix_ok, bus_ok, two_buses_ok, shares_ok}

-- ---- sources

pub vsource_in_range : (property : VsourceProperty) (pair : Pair) (source : Vsource) → VsourceInRange source
    → IfOk (with_vsource property pair source) VsourceInRange
vsource_in_range of_source.Bus1 pair source h = made_ok _ VsourceInRange _ _ (bus_ok pair) (λ b r. assumption (h, r))
vsource_in_range of_source.Phases pair source h = made_ok _ VsourceInRange _ _ (among_ok _ pair) (λ n r. assumption (h, r))
vsource_in_range of_source.Basekv pair source h = made_ok _ VsourceInRange _ _ (number_ok _ _ pair) (λ n r. assumption (h, r))
vsource_in_range of_source.Pu pair source h = made_ok _ VsourceInRange _ _ (number_ok _ _ pair) (λ n r. assumption (h, r))
vsource_in_range of_source.Angle pair source h = made_ok _ VsourceInRange _ _ (angle_ok pair) (λ n r. assumption (h, r))
vsource_in_range of_source.Mvasc3 pair source h = made_ok _ VsourceInRange _ _ (number_ok _ _ pair) (λ n r. assumption (h, r))
vsource_in_range of_source.Mvasc1 pair source h = made_ok _ VsourceInRange _ _ (number_ok _ _ pair) (λ n r. assumption (h, r))
vsource_in_range of_source.X1r1 pair source h = made_ok _ VsourceInRange _ _ (ratio_ok pair) (λ n r. assumption (h, r))
vsource_in_range of_source.X0r0 pair source h = made_ok _ VsourceInRange _ _ (ratio_ok pair) (λ n r. assumption (h, r))
vsource_in_range of_source.R1 pair source h = made_ok _ VsourceInRange _ _ (number_ok _ _ pair) (λ n r. assumption (h, r))
vsource_in_range of_source.X1 pair source h = made_ok _ VsourceInRange _ _ (number_ok _ _ pair) (λ n r. assumption (h, r))
vsource_in_range of_source.R0 pair source h = made_ok _ VsourceInRange _ _ (number_ok _ _ pair) (λ n r. assumption (h, r))
vsource_in_range of_source.X0 pair source h = made_ok _ VsourceInRange _ _ (number_ok _ _ pair) (λ n r. assumption (h, r))
vsource_in_range of_source.Basefreq pair source h = kept_ok VsourceInRange _ _ (λ n. assumption h)

-- ---- impedance and charging

impedance_ok : (pair : Pair) → IfOk (impedance_matrix_in pair) (All IsImpedanceEntry)
unfolding impedance_matrix_in
impedance_ok pair = matrix_ok _ _ pair (record { least = omega (arith, ints); most = omega (arith, ints) })

capacitance_ok : (pair : Pair) → IfOk (capacitance_matrix_in pair) (All IsCapacitanceEntry)
unfolding capacitance_matrix_in
capacitance_ok pair = matrix_ok _ _ pair (record { least = omega (arith, ints); most = omega (arith, ints) })

constants_in_range : (property : DataProperty) (pair : Pair) (constants : LineConstants)
    → LineConstantsInRange constants → IfOk (with_constant property pair constants) LineConstantsInRange
constants_in_range of_data.Rmatrix pair constants h = made_ok _ LineConstantsInRange _ _ (impedance_ok pair) (λ v r. assumption (h, r))
constants_in_range of_data.Xmatrix pair constants h = made_ok _ LineConstantsInRange _ _ (impedance_ok pair) (λ v r. assumption (h, r))
constants_in_range of_data.Cmatrix pair constants h = made_ok _ LineConstantsInRange _ _ (capacitance_ok pair) (λ v r. assumption (h, r))
constants_in_range of_data.R1 pair constants h = made_ok _ LineConstantsInRange _ _ (number_ok _ _ pair) (λ v r. assumption (h, r))
constants_in_range of_data.X1 pair constants h = made_ok _ LineConstantsInRange _ _ (number_ok _ _ pair) (λ v r. assumption (h, r))
constants_in_range of_data.R0 pair constants h = made_ok _ LineConstantsInRange _ _ (number_ok _ _ pair) (λ v r. assumption (h, r))
constants_in_range of_data.X0 pair constants h = made_ok _ LineConstantsInRange _ _ (number_ok _ _ pair) (λ v r. assumption (h, r))
constants_in_range of_data.C1 pair constants h = made_ok _ LineConstantsInRange _ _ (number_ok _ _ pair) (λ v r. assumption (h, r))
constants_in_range of_data.C0 pair constants h = made_ok _ LineConstantsInRange _ _ (number_ok _ _ pair) (λ v r. assumption (h, r))

switch_constants : (constants : LineConstants) → LineConstantsInRange constants
    → LineConstantsInRange (with_switch constants)
switch_constants constants h =
    let one : IsImpedance (ones 1) = record { least = omega (arith, ints); most = omega (arith, ints) } in
    let c1 : IsCapacitance (pos 1_100_000_000) = record { least = omega (arith, ints); most = omega (arith, ints) } in
    let c0 : IsCapacitance (ones 1) = record { least = omega (arith, ints); most = omega (arith, ints) } in
    record { rmatrix = h.rmatrix; xmatrix = h.xmatrix; cmatrix = h.cmatrix; r1 = one; x1 = one; r0 = one; x0 = one; c1 = c1; c0 = c0 }

-- ---- line codes

pub linecode_in_range : (property : LinecodeProperty) (pair : Pair) (code : Linecode) → LinecodeInRange code
    → IfOk (with_linecode property pair code) LinecodeInRange
linecode_in_range of_code.Nphases pair code h = made_ok _ LinecodeInRange _ _ (whole_ok _ _ pair) (λ v r. record { nphases = r; constants = h.constants })
linecode_in_range (of_code.Data property) pair code h =
    made_ok _ LinecodeInRange _ _ (constants_in_range property pair code.constants h.constants)
    (λ v r. record { nphases = h.nphases; constants = r })
linecode_in_range of_code.Units pair code h = kept_ok LinecodeInRange _ _ (λ v. record { nphases = h.nphases; constants = h.constants })
linecode_in_range of_code.Basefreq pair code h = kept_ok LinecodeInRange _ _ (λ v. record { nphases = h.nphases; constants = h.constants })
linecode_in_range of_code.Ignored pair code h = h

-- ---- lines

copied_in_range : (name : List ℕ) (code : Linecode) (line : Line) → LinecodeInRange code → LineInRange line
    → LineInRange (with_code name code line)
copied_in_range name code line c h = record { bus1 = h.bus1; bus2 = h.bus2; phases = c.nphases; length = h.length; constants = c.constants }

code_in_range : (code : Option Linecode) (pair : Pair) (line : Line) → IfSome code LinecodeInRange → LineInRange line
    → IfOk (with_code_in code pair line) LineInRange
code_in_range (Some code) pair line c h = any_ok LineInRange (name_in pair) _ (λ name. copied_in_range name code line c h)
code_in_range None pair line c h = any_ok LineInRange (name_in pair) _ (λ name. tt)

switch_in_range : (on : Bool) (line : Line) → LineInRange line → LineInRange (switched on line)
switch_in_range false line h = assumption h
switch_in_range true line h =
    let short : IsBetween (pos 0) (ones 1_000_000) (pos 1_000_000) = record { least = omega (arith, ints); most = omega (arith, ints) } in
    record { bus1 = h.bus1; bus2 = h.bus2; phases = h.phases; length = short; constants = switch_constants line.constants h.constants }

-- `code` is the line code that the pair names
pub line_in_range : (code : Option Linecode) (property : LineProperty) (pair : Pair) (line : Line)
    → IfSome code LinecodeInRange → LineInRange line → IfOk (with_line code property pair line) LineInRange
line_in_range code of_line.Bus1 pair line c h = made_ok _ LineInRange _ _ (bus_ok pair) (λ v r. assumption (h, r))
line_in_range code of_line.Bus2 pair line c h = made_ok _ LineInRange _ _ (bus_ok pair) (λ v r. assumption (h, r))
line_in_range code of_line.Phases pair line c h = made_ok _ LineInRange _ _ (whole_ok _ _ pair) (λ v r. assumption (h, r))
line_in_range code of_line.Linecode pair line c h = code_in_range code pair line c h
line_in_range code of_line.Length pair line c h = made_ok _ LineInRange _ _ (number_ok _ _ pair) (λ v r. assumption (h, r))
line_in_range code of_line.Units pair line c h = kept_ok LineInRange _ _ (λ v. assumption h)
line_in_range code (of_line.Data property) pair line c h =
    made_ok _ LineInRange _ _ (constants_in_range property pair line.constants h.constants)
    (λ v r. record { bus1 = h.bus1; bus2 = h.bus2; phases = h.phases; length = h.length; constants = r })
line_in_range code of_line.Switch pair line c h = kept_ok LineInRange _ _ (λ on. switch_in_range on line h)
line_in_range code of_line.Basefreq pair line c h = kept_ok LineInRange _ _ (λ v. assumption h)
line_in_range code of_line.Ignored pair line c h = h

-- ---- transformers

winding_in_range : (solves : ℕ) (property : WindingProperty) (pair : Pair) (winding : Winding) → WindingInRange winding
    → IfOk (with_winding solves property pair winding) WindingInRange
winding_in_range solves of_winding.Bus pair winding h = made_ok _ WindingInRange _ _ (bus_ok pair) (λ v r. assumption (h, r))
winding_in_range solves of_winding.Conn pair winding h = kept_ok WindingInRange _ _ (λ v. assumption h)
winding_in_range solves of_winding.Kv pair winding h = made_ok _ WindingInRange _ _ (number_ok _ _ pair) (λ v r. assumption (h, r))
winding_in_range solves of_winding.PctR pair winding h = made_ok _ WindingInRange _ _ (number_ok _ _ pair) (λ v r. assumption (h, r))
winding_in_range solves of_winding.Tap pair winding h = made_ok _ WindingInRange _ _ (tap_ok pair) (λ v r. assumption (h, r))
winding_in_range solves of_winding.Mintap pair winding h = made_ok _ WindingInRange _ _ (tap_ok pair) (λ v r. assumption (h, r))
winding_in_range solves of_winding.Maxtap pair winding h = made_ok _ WindingInRange _ _ (tap_ok pair) (λ v r. assumption (h, r))
winding_in_range solves of_winding.Numtaps pair winding h = made_ok _ WindingInRange _ _ (whole_ok _ _ pair) (λ v r. assumption (h, r))

with_windings : (xfmr : Transformer) (first second : Winding) → TransformerInRange xfmr → WindingInRange first
    → WindingInRange second → TransformerInRange (record xfmr { first = first; second = second })
with_windings xfmr first second h a b = record {
  phases = h.phases;
  windings = h.windings;
  wdg = h.wdg;
  first = a;
  second = b;
  xhl = h.xhl;
  pct_loadloss = h.pct_loadloss;
  pct_noloadloss = h.pct_noloadloss;
  pct_imag = h.pct_imag;
}

-- the winding that was chosen, by the test of which it is
chosen_or : (b : Bool) (first second : Result Winding ModelFault) (xfmr : Transformer) → IfOk first WindingInRange
    → IfOk second WindingInRange → TransformerInRange xfmr
    → IfOk (if b then (first >>= λ w. Ok (record xfmr { first = w })) else (second >>= λ w. Ok (record xfmr { second = w }))) TransformerInRange
chosen_or true first second xfmr p q h = then_ok _ TransformerInRange first _ p (λ w r. with_windings xfmr w xfmr.second h r h.second)
chosen_or false first second xfmr p q h = then_ok _ TransformerInRange second _ q (λ w r. with_windings xfmr xfmr.first w h h.first r)

chosen_in_range : (solves : ℕ) (property : WindingProperty) (pair : Pair) (xfmr : Transformer) → TransformerInRange xfmr
    → IfOk (with_chosen solves property pair xfmr) TransformerInRange
chosen_in_range solves property pair xfmr h =
    chosen_or (xfmr.wdg == 1) _ _ xfmr (winding_in_range solves property pair xfmr.first h.first) (winding_in_range solves property pair xfmr.second h.second) h

kvas_in_range : (a b : ℤ) (xfmr : Transformer) → IsRating a → IsRating b → TransformerInRange xfmr
    → TransformerInRange (with_kvas a b xfmr)
kvas_in_range a b xfmr p q h =
    let first = h.first in
    let second = h.second in
    with_windings xfmr _ _ h (assumption (first, p)) (assumption (second, q))

kva_or : (b : Bool) (n : ℤ) (xfmr : Transformer) → IsRating n → TransformerInRange xfmr
    → TransformerInRange (if b then with_kvas n n xfmr else with_kvas xfmr.first.kva n xfmr)
kva_or true n xfmr p h = kvas_in_range n n xfmr p p h
kva_or false n xfmr p h = kvas_in_range xfmr.first.kva n xfmr h.first.kva p h

pct_rs_in_range : (a b : ℤ) (xfmr : Transformer) → IsBetween (pos 0) (ones 100) a → IsBetween (pos 0) (ones 100) b
    → TransformerInRange xfmr → TransformerInRange (with_pct_rs a b xfmr)
pct_rs_in_range a b xfmr p q h =
    let first = h.first in
    let second = h.second in
    with_windings xfmr _ _ h (assumption (first, p)) (assumption (second, q))

losses_in_range : (n : ℤ) (xfmr : Transformer) → IsBetween (pos 0) (ones 200) n → TransformerInRange xfmr
    → TransformerInRange (with_losses n xfmr)
losses_in_range n xfmr p h =
    let half_in : IsBetween (pos 0) (ones 100) (half n) = half_between n p in
    let there : TransformerInRange (record xfmr { pct_loadloss = Some n }) = assumption (h, p) in
    pct_rs_in_range (half n) (half n) (record xfmr { pct_loadloss = Some n }) half_in half_in there

both_in_range : (solves : ℕ) (property : BothProperty) (pair : Pair) (xfmr : Transformer) → TransformerInRange xfmr
    → IfOk (with_both solves property pair xfmr) TransformerInRange
both_in_range solves of_both.Buses pair xfmr h =
    made_ok _ TransformerInRange _ _ (two_buses_ok pair) (λ v r.
    let first = h.first in
    let second = h.second in
    let p = r.0 in
    let q = r.1 in
    with_windings xfmr _ _ h (assumption (first, p)) (assumption (second, q)))
both_in_range solves of_both.Conns pair xfmr h =
    kept_ok TransformerInRange _ _ (λ v.
    let first = h.first in let second = h.second in with_windings xfmr _ _ h (assumption first) (assumption second))
both_in_range solves of_both.Kvs pair xfmr h =
    made_ok _ TransformerInRange _ _ (two_numbers_ok _ _ pair) (λ v r.
    let first = h.first in
    let second = h.second in
    let p = r.0 in
    let q = r.1 in
    with_windings xfmr _ _ h (assumption (first, p)) (assumption (second, q)))
both_in_range solves of_both.Kvas pair xfmr h = made_ok _ TransformerInRange _ _ (two_numbers_ok _ _ pair) (λ v r. kvas_in_range v.0 v.1 xfmr r.0 r.1 h)
both_in_range solves of_both.PctRs pair xfmr h = made_ok _ TransformerInRange _ _ (two_numbers_ok _ _ pair) (λ v r. pct_rs_in_range v.0 v.1 xfmr r.0 r.1 h)
both_in_range solves of_both.Taps pair xfmr h =
    made_ok _ TransformerInRange _ _ (two_taps_ok pair) (λ v r.
    let first = h.first in
    let second = h.second in
    let p = r.0 in
    let q = r.1 in
    with_windings xfmr _ _ h (assumption (first, p)) (assumption (second, q)))

zero_ok : (pair : Pair) → IfOk (zero_in pair) (λ n. n ≡ pos 0)
unfolding zero_in
zero_ok pair = any_ok _ (supported_among (0 ∷ []) pair) _ (λ n. refl)

pub transformer_in_range : (solves : ℕ) (property : TransformerProperty) (pair : Pair) (xfmr : Transformer)
    → TransformerInRange xfmr → IfOk (with_transformer solves property pair xfmr) TransformerInRange
transformer_in_range solves of_xfmr.Phases pair xfmr h = made_ok _ TransformerInRange _ _ (among_ok _ pair) (λ v r. assumption (h, r))
transformer_in_range solves of_xfmr.Windings pair xfmr h = made_ok _ TransformerInRange _ _ (supported_ok _ pair) (λ v r. assumption (h, r))
transformer_in_range solves of_xfmr.Wdg pair xfmr h = made_ok _ TransformerInRange _ _ (whole_ok _ _ pair) (λ v r. assumption (h, r))
transformer_in_range solves (of_xfmr.OfWinding property) pair xfmr h = chosen_in_range solves property pair xfmr h
transformer_in_range solves of_xfmr.Kva pair xfmr h = made_ok _ TransformerInRange _ _ (number_ok _ _ pair) (λ v r. kva_or (xfmr.wdg == 1) v xfmr r h)
transformer_in_range solves of_xfmr.Xhl pair xfmr h = made_ok _ TransformerInRange _ _ (number_ok _ _ pair) (λ v r. assumption (h, r))
transformer_in_range solves of_xfmr.PctLoadloss pair xfmr h = made_ok _ TransformerInRange _ _ (number_ok _ _ pair) (λ v r. losses_in_range v xfmr r h)
transformer_in_range solves (of_xfmr.OfBoth property) pair xfmr h = both_in_range solves property pair xfmr h
transformer_in_range solves of_xfmr.Leadlag pair xfmr h = kept_ok TransformerInRange _ _ (λ v. assumption h)
transformer_in_range solves of_xfmr.PctNoloadloss pair xfmr h = made_ok _ TransformerInRange _ _ (zero_ok pair) (λ v r. assumption (h, r))
transformer_in_range solves of_xfmr.PctImag pair xfmr h = made_ok _ TransformerInRange _ _ (zero_ok pair) (λ v r. assumption (h, r))
transformer_in_range solves of_xfmr.Basefreq pair xfmr h = kept_ok TransformerInRange _ _ (λ v. assumption h)
transformer_in_range solves of_xfmr.Ignored pair xfmr h = h

-- ---- banks of capacitors

pub capacitor_in_range : (solves : ℕ) (property : CapacitorProperty) (pair : Pair) (bank : Capacitor)
    → CapacitorInRange bank → IfOk (with_capacitor solves property pair bank) CapacitorInRange
capacitor_in_range solves of_bank.Bus1 pair bank h = made_ok _ CapacitorInRange _ _ (bus_ok pair) (λ v r. assumption (h, r))
capacitor_in_range solves of_bank.Bus2 pair bank h = tt
capacitor_in_range solves of_bank.Phases pair bank h = made_ok _ CapacitorInRange _ _ (among_ok _ pair) (λ v r. assumption (h, r))
capacitor_in_range solves of_bank.Kvar pair bank h = made_ok _ CapacitorInRange _ _ (number_ok _ _ pair) (λ v r. assumption (h, r))
capacitor_in_range solves of_bank.Kv pair bank h = made_ok _ CapacitorInRange _ _ (number_ok _ _ pair) (λ v r. assumption (h, r))
capacitor_in_range solves of_bank.Conn pair bank h = kept_ok CapacitorInRange _ _ (λ v. assumption h)
capacitor_in_range solves of_bank.Numsteps pair bank h = made_ok _ CapacitorInRange _ _ (supported_ok _ pair) (λ v r. assumption (h, r))
capacitor_in_range solves of_bank.States pair bank h = kept_ok CapacitorInRange _ _ (λ v. assumption h)
capacitor_in_range solves of_bank.Basefreq pair bank h = kept_ok CapacitorInRange _ _ (λ v. assumption h)

-- ---- loads

pub load_in_range : (found : Bool) (property : LoadProperty) (pair : Pair) (load : Load) → LoadInRange load
    → IfOk (with_load found property pair load) LoadInRange
load_in_range found of_load.Bus1 pair load h = made_ok _ LoadInRange _ _ (bus_ok pair) (λ v r. assumption (h, r))
load_in_range found of_load.Phases pair load h = made_ok _ LoadInRange _ _ (among_ok _ pair) (λ v r. assumption (h, r))
load_in_range found of_load.Kv pair load h = made_ok _ LoadInRange _ _ (number_ok _ _ pair) (λ v r. assumption (h, r))
load_in_range found of_load.Kw pair load h = made_ok _ LoadInRange _ _ (number_ok _ _ pair) (λ v r. assumption (h, r))
load_in_range found of_load.Pf pair load h = made_ok _ LoadInRange _ _ (power_factor_ok pair) (λ v r. assumption (h, r))
load_in_range found of_load.Kvar pair load h = made_ok _ LoadInRange _ _ (number_ok _ _ pair) (λ v r. assumption (h, r))
load_in_range found of_load.Model pair load h = kept_ok LoadInRange _ _ (λ v. assumption h)
load_in_range found of_load.Zipv pair load h = made_ok _ LoadInRange _ _ (shares_ok pair) (λ v r. assumption (h, r))
load_in_range found of_load.Conn pair load h = kept_ok LoadInRange _ _ (λ v. assumption h)
load_in_range found of_load.Vminpu pair load h = made_ok _ LoadInRange _ _ (number_ok _ _ pair) (λ v r. assumption (h, r))
load_in_range found of_load.Vmaxpu pair load h = made_ok _ LoadInRange _ _ (number_ok _ _ pair) (λ v r. assumption (h, r))
load_in_range found of_load.Daily pair load h = kept_ok LoadInRange _ _ (λ v. assumption h)
load_in_range found of_load.Basefreq pair load h = kept_ok LoadInRange _ _ (λ v. assumption h)
load_in_range found of_load.Ignored pair load h = h

-- ---- controls

pub regcontrol_in_range : (found : Bool) (property : RegControlProperty) (pair : Pair) (control : RegControl)
    → RegControlInRange control → IfOk (with_regcontrol found property pair control) RegControlInRange
regcontrol_in_range found of_regcontrol.Transformer pair control h = kept_ok RegControlInRange _ _ (λ v. assumption h)
regcontrol_in_range found of_regcontrol.Winding pair control h = made_ok _ RegControlInRange _ _ (whole_ok _ _ pair) (λ v r. assumption (h, r))
regcontrol_in_range found of_regcontrol.Vreg pair control h = made_ok _ RegControlInRange _ _ (number_ok _ _ pair) (λ v r. assumption (h, r))
regcontrol_in_range found of_regcontrol.Band pair control h = made_ok _ RegControlInRange _ _ (number_ok _ _ pair) (λ v r. assumption (h, r))
regcontrol_in_range found of_regcontrol.Ptratio pair control h = made_ok _ RegControlInRange _ _ (number_ok _ _ pair) (λ v r. assumption (h, r))
regcontrol_in_range found of_regcontrol.Ctprim pair control h = made_ok _ RegControlInRange _ _ (number_ok _ _ pair) (λ v r. assumption (h, r))
regcontrol_in_range found of_regcontrol.R pair control h = made_ok _ RegControlInRange _ _ (number_ok _ _ pair) (λ v r. assumption (h, r))
regcontrol_in_range found of_regcontrol.X pair control h = made_ok _ RegControlInRange _ _ (number_ok _ _ pair) (λ v r. assumption (h, r))
regcontrol_in_range found of_regcontrol.Delay pair control h = made_ok _ RegControlInRange _ _ (time_ok pair) (λ v r. assumption (h, r))
regcontrol_in_range found of_regcontrol.Tapdelay pair control h = made_ok _ RegControlInRange _ _ (time_ok pair) (λ v r. assumption (h, r))
regcontrol_in_range found of_regcontrol.Maxtapchange pair control h = made_ok _ RegControlInRange _ _ (whole_ok _ _ pair) (λ v r. assumption (h, r))
regcontrol_in_range found of_regcontrol.Ptphase pair control h = made_ok _ RegControlInRange _ _ (phase_ok pair) (λ v r. assumption (h, r))

pub capcontrol_in_range : (found : Bool) (property : CapControlProperty) (pair : Pair) (control : CapControl)
    → CapControlInRange control → IfOk (with_capcontrol found property pair control) CapControlInRange
capcontrol_in_range found of_capcontrol.Element pair control h = kept_ok CapControlInRange _ _ (λ v. assumption h)
capcontrol_in_range found of_capcontrol.Terminal pair control h = made_ok _ CapControlInRange _ _ (whole_ok _ _ pair) (λ v r. assumption (h, r))
capcontrol_in_range found of_capcontrol.Capacitor pair control h = kept_ok CapControlInRange _ _ (λ v. assumption h)
capcontrol_in_range found of_capcontrol.Kind pair control h = kept_ok CapControlInRange _ _ (λ v. assumption h)
capcontrol_in_range found of_capcontrol.Ptratio pair control h = made_ok _ CapControlInRange _ _ (number_ok _ _ pair) (λ v r. assumption (h, r))
capcontrol_in_range found of_capcontrol.Ctratio pair control h = made_ok _ CapControlInRange _ _ (number_ok _ _ pair) (λ v r. assumption (h, r))
capcontrol_in_range found of_capcontrol.Onsetting pair control h = made_ok _ CapControlInRange _ _ (number_ok _ _ pair) (λ v r. assumption (h, r))
capcontrol_in_range found of_capcontrol.Offsetting pair control h = made_ok _ CapControlInRange _ _ (number_ok _ _ pair) (λ v r. assumption (h, r))
capcontrol_in_range found of_capcontrol.Delay pair control h = made_ok _ CapControlInRange _ _ (time_ok pair) (λ v r. assumption (h, r))
capcontrol_in_range found of_capcontrol.Delayoff pair control h = made_ok _ CapControlInRange _ _ (time_ok pair) (λ v r. assumption (h, r))
capcontrol_in_range found of_capcontrol.Deadtime pair control h = made_ok _ CapControlInRange _ _ (time_ok pair) (λ v r. assumption (h, r))
capcontrol_in_range found of_capcontrol.Ptphase pair control h = made_ok _ CapControlInRange _ _ (phase_ok pair) (λ v r. assumption (h, r))
capcontrol_in_range found of_capcontrol.Ctphase pair control h = made_ok _ CapControlInRange _ _ (phase_ok pair) (λ v r. assumption (h, r))

-- ---- shapes of loads

npts_ok : (pair : Pair) → IfOk (whole_between 0 8760 pair) (λ n. n ≤ 8760)
npts_ok pair = IfOk-weaker (whole_between 0 8760 pair) _ _ (λ n r. r.most) (whole_ok 0 8760 pair)

pub loadshape_in_range : (property : LoadshapeProperty) (pair : Pair) (shape : Loadshape) → LoadshapeInRange shape
    → IfOk (with_loadshape property pair shape) LoadshapeInRange
loadshape_in_range of_shape.Npts pair shape h = made_ok _ LoadshapeInRange _ _ (npts_ok pair) (λ v r. assumption (h, r))
loadshape_in_range of_shape.Interval pair shape h = made_ok _ LoadshapeInRange _ _ (supported_ok _ pair) (λ v r. assumption (h, r))
loadshape_in_range of_shape.Mult pair shape h = made_ok _ LoadshapeInRange _ _ (numbers_ok (pos 0) (ones 1000) pair) (λ v r. assumption (h, r))

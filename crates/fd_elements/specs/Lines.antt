-- The data of a line by its values in the script.
use Rattle.std.specs.Prelude.{ℕ, ◌*◌, ℤ, pos, List, replicate, Option, Some, None}
use Rattle.std.specs.Option.{unwrap_or}
use Rattle.dss_model.specs.declared.words.DataForm.{DataForm}
use Rattle.dss_model.specs.declared.words.DataForm.TheVariants as data_form
use Rattle.dss_model.specs.declared.words.Units.{Units}
use Rattle.dss_model.specs.declared.words.Units.TheVariants as unit
use Rattle.dss_model.specs.declared.line.Line.{Line}
use Rattle.dss_model.specs.declared.line_constants.LineConstants.{LineConstants}
use Rattle.fd_line.specs.declared.data.LineData.{LineData}
use Rattle.fd_line.specs.declared.data.LineForm.{LineForm}
use Rattle.fd_line.specs.declared.data.LineForm.TheVariants as line_form
use Rattle.fd_line.specs.declared.data.ChargeForm.{ChargeForm}
use Rattle.fd_line.specs.declared.data.ChargeForm.TheVariants as charge_form

-- ---- units of length

-- a unit in whole 0.1 mm, where one is given
abbrev pub tenths_of : Units → Option ℕ
tenths_of unit.None = None
tenths_of unit.Mile = Some 16093440
tenths_of unit.Kilofoot = Some 3048000
tenths_of unit.Kilometre = Some 10000000
tenths_of unit.Metre = Some 10000
tenths_of unit.Foot = Some 3048
tenths_of unit.Inch = Some 254
tenths_of unit.Centimetre = Some 100

-- the unit of the length and the unit of the data. Where one of them isn't given the length counts as it stands, and both are a metre
abbrev pub units_by : Option ℕ → Option ℕ → ℕ × ℕ
units_by (Some line) (Some code) = (line, code)
units_by (Some line) None = (10000, 10000)
units_by None code = (10000, 10000)

abbrev pub units_of : Line → ℕ × ℕ
units_of line = units_by (tenths_of line.units) (tenths_of line.code_units)

-- ---- impedance and charging

-- positive sequence values that aren't given are 0, and zero sequence values are those of the positive sequence
abbrev pub series_by_sequence : LineConstants → LineForm
series_by_sequence constants =
    let r1 = unwrap_or constants.r1 (pos 0) in
    let x1 = unwrap_or constants.x1 (pos 0) in
    line_form.Sequence r1 x1 (unwrap_or constants.r0 r1) (unwrap_or constants.x0 x1)

abbrev pub charge_by_sequence : LineConstants → ChargeForm
charge_by_sequence constants =
    let c1 = unwrap_or constants.c1 (pos 0) in
    charge_form.Sequence c1 (unwrap_or constants.c0 c1)

-- a matrix that isn't given is zero
abbrev pub matrix_or_zero : ℕ → Option (List ℤ) → List ℤ
matrix_or_zero phases matrix = unwrap_or matrix (replicate (phases * phases) (pos 0))

abbrev pub series_of : Option DataForm → Line → LineForm
series_of (Some data_form.Matrix) line =
    line_form.Matrix (matrix_or_zero line.phases line.constants.rmatrix)
    (matrix_or_zero line.phases line.constants.xmatrix)
series_of other line = series_by_sequence line.constants

-- with no form there is no charging
abbrev pub charge_of : Option DataForm → Line → ChargeForm
charge_of None line = charge_form.Sequence (pos 0) (pos 0)
charge_of (Some data_form.Sequence) line = charge_by_sequence line.constants
charge_of (Some data_form.Matrix) line = charge_form.Matrix (matrix_or_zero line.phases line.constants.cmatrix)

-- ---- the line

abbrev pub line_data_of : Line → ℕ → LineData
line_data_of line hertz = record {
  phases = line.phases;
  form = series_of line.constants.form line;
  charge = charge_of line.constants.charge_form line;
  length = line.length;
  line_unit = (units_of line).0;
  code_unit = (units_of line).1;
  hertz = hertz;
}

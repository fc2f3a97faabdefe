-- The impedance and the charging of a line or a line code: the form and range of each property, and the field that it sets.
use Rattle.std.specs.Prelude.{ℤ, Bool, true, false, List, pos, neg_ℤ, Some, None, Result, Ok}
use Rattle.dss_values.specs.dss_lexer.declared.pair.Pair.{Pair}
use Rattle.dss_values.specs.dss_model.declared.fault.ModelFault.{ModelFault}
use Rattle.dss_values.specs.dss_model.declared.line_constants.LineConstants.{LineConstants}
use Rattle.dss_profile.specs.declared.line_constants.DataProperty.{DataProperty}
use Rattle.dss_profile.specs.declared.line_constants.DataProperty.TheVariants as the
use Rattle.dss_values.specs.dss_model.declared.words.DataForm.TheVariants as data_form
use Rattle.dss_values.specs.dss_model.Answers.{◌>>=◌}
use Rattle.dss_values.specs.dss_model.Ranges.{ones}
use Rattle.dss_values.specs.Forms.{number_between}
use Rattle.dss_values.specs.Matrices.{matrix_between}

-- the other properties are those of the charging
abbrev pub is_impedance : DataProperty → Bool
is_impedance the.Rmatrix = true
is_impedance the.Xmatrix = true
is_impedance the.Cmatrix = false
is_impedance the.R1 = true
is_impedance the.X1 = true
is_impedance the.R0 = true
is_impedance the.X0 = true
is_impedance the.C1 = false
is_impedance the.C0 = false

-- in ohm for each unit of length
unfoldable pub impedance_matrix_in : Pair → Result (List ℤ) ModelFault
impedance_matrix_in = matrix_between (neg_ℤ (ones 10_000)) (ones 10_000)

-- in nF for each unit of length
unfoldable pub capacitance_matrix_in : Pair → Result (List ℤ) ModelFault
capacitance_matrix_in = matrix_between (neg_ℤ (ones 1_000_000)) (ones 1_000_000)

-- the last pair among matrices and sequence values decides which of them hold
abbrev pub with_constant : DataProperty → Pair → LineConstants → Result LineConstants ModelFault
with_constant the.Rmatrix pair constants = impedance_matrix_in pair >>= λ m. Ok (record constants { rmatrix = Some m; form = Some data_form.Matrix })
with_constant the.Xmatrix pair constants = impedance_matrix_in pair >>= λ m. Ok (record constants { xmatrix = Some m; form = Some data_form.Matrix })
with_constant the.Cmatrix pair constants = capacitance_matrix_in pair >>= λ m. Ok (record constants { cmatrix = Some m; charge_form = Some data_form.Matrix })
with_constant the.R1 pair constants = number_between (pos 0) (ones 10_000) pair >>= λ n. Ok (record constants { r1 = Some n; form = Some data_form.Sequence })
with_constant the.X1 pair constants = number_between (pos 0) (ones 10_000) pair >>= λ n. Ok (record constants { x1 = Some n; form = Some data_form.Sequence })
with_constant the.R0 pair constants = number_between (pos 0) (ones 10_000) pair >>= λ n. Ok (record constants { r0 = Some n; form = Some data_form.Sequence })
with_constant the.X0 pair constants = number_between (pos 0) (ones 10_000) pair >>= λ n. Ok (record constants { x0 = Some n; form = Some data_form.Sequence })
with_constant the.C1 pair constants =
    number_between (pos 0) (ones 1_000_000) pair
    >>= λ n. Ok (record constants { c1 = Some n; charge_form = Some data_form.Sequence })
with_constant the.C0 pair constants =
    number_between (pos 0) (ones 1_000_000) pair
    >>= λ n. Ok (record constants { c0 = Some n; charge_form = Some data_form.Sequence })

-- a switch has all six sequence values, and they hold; matrices that were given stay
abbrev pub with_switch : LineConstants → LineConstants
with_switch constants = record constants {
  r1 = Some (ones 1);
  x1 = Some (ones 1);
  r0 = Some (ones 1);
  x0 = Some (ones 1);
  c1 = Some (pos 1_100_000_000);
  c0 = Some (ones 1);
  form = Some data_form.Sequence;
  charge_form = Some data_form.Sequence;
}

-- What the tests of Solve ask of the values of one source or one line, whatever else is in the circuit.
use Rattle.std.specs.Prelude.{ℕ, ℤ, ◌*◌, ◌==◌, length, Bool, false, true, not, ◌&&◌, ◌||◌, List, Option, Some, None}
use Rattle.fd_arith.specs.ShortCircuit.{is_source_above_limit}
use Rattle.dss_model.specs.declared.words.DataForm.{DataForm}
use Rattle.dss_model.specs.declared.words.DataForm.TheVariants as matrix
use Rattle.dss_model.specs.declared.words.SourceForm.{SourceForm}
use Rattle.dss_model.specs.declared.words.SourceForm.TheVariants as form
use Rattle.dss_model.specs.declared.vsource.Vsource.{Vsource}
use Rattle.dss_model.specs.declared.line.Line.{Line}

-- a source that isn't given in ohms has at most 10^4 ohm for three phases and for one
abbrev pub is_source_outside_by : SourceForm → Vsource → Bool
is_source_outside_by form.ShortCircuit source = is_source_above_limit source.basekv source.mvasc3 source.mvasc1
is_source_outside_by form.Ohms source = false

abbrev pub is_source_outside : Vsource → Bool
is_source_outside source = is_source_outside_by source.form source

-- a matrix that is given has a row and a column for each phase
abbrev pub is_size_wrong : ℕ → Option (List ℤ) → Bool
is_size_wrong phases None = false
is_size_wrong phases (Some numbers) = not (length numbers == phases * phases)

abbrev pub is_matrix : Option DataForm → Bool
is_matrix (Some matrix.Matrix) = true
is_matrix other = false

-- only the matrices of the form that holds are tested
abbrev pub are_matrices_wrong : Line → Bool
are_matrices_wrong line =
    let constants = line.constants in
    (is_matrix constants.form && (is_size_wrong line.phases constants.rmatrix || is_size_wrong line.phases constants.xmatrix))
    || (is_matrix constants.charge_form && is_size_wrong line.phases constants.cmatrix)

-- The properties of a Linecode: the form and range of each, and the field that it sets.
use Rattle.std.specs.Prelude.{ℕ, List, [], ◌∷◌, codes, Some, None, Result, Ok}
use Rattle.dss_values.specs.dss_lexer.declared.pair.Pair.{Pair}
use Rattle.dss_values.specs.dss_model.declared.fault.ModelFault.{ModelFault}
use Rattle.dss_values.specs.dss_model.declared.command.Place.{Place}
use Rattle.dss_values.specs.dss_model.declared.linecode.Linecode.{Linecode}
use Rattle.dss_profile.specs.declared.line_constants.DataProperty.TheVariants as data_property
use Rattle.dss_profile.specs.declared.linecode.LinecodeProperty.{LinecodeProperty}
use Rattle.dss_profile.specs.declared.linecode.LinecodeProperty.TheVariants as the
use Rattle.dss_values.specs.dss_model.declared.words.Units.TheVariants as unit
use Rattle.dss_values.specs.dss_model.Answers.{◌>>=◌}
use Rattle.dss_values.specs.dss_model.declared.fault.ModelFault.TheVariants as fault
use Rattle.dss_values.specs.Forms.{number_in, whole_between, choice_in}
use Rattle.dss_values.specs.dss_model.Defaults.{fresh_constants}
use Rattle.dss_profile.specs.LineConstants.{with_constant}
use Rattle.dss_values.specs.Words.{units}

abbrev pub linecode_properties : List (List ℕ × LinecodeProperty)
linecode_properties =
    (codes "nphases", the.Nphases)
    ∷ (codes "rmatrix", the.Data data_property.Rmatrix)
    ∷ (codes "xmatrix", the.Data data_property.Xmatrix)
    ∷ (codes "cmatrix", the.Data data_property.Cmatrix)
    ∷ (codes "r1", the.Data data_property.R1)
    ∷ (codes "x1", the.Data data_property.X1)
    ∷ (codes "r0", the.Data data_property.R0)
    ∷ (codes "x0", the.Data data_property.X0)
    ∷ (codes "c1", the.Data data_property.C1)
    ∷ (codes "c0", the.Data data_property.C0)
    ∷ (codes "units", the.Units)
    ∷ (codes "basefreq", the.Basefreq)
    ∷ (codes "normamps", the.Ignored)
    ∷ (codes "emergamps", the.Ignored)
    ∷ (codes "faultrate", the.Ignored)
    ∷ (codes "pctperm", the.Ignored)
    ∷ (codes "repair", the.Ignored)
    ∷ []

abbrev pub with_linecode : LinecodeProperty → Pair → Linecode → Result Linecode ModelFault
with_linecode the.Nphases pair code = whole_between 1 3 pair >>= λ n. Ok (record code { nphases = n })
with_linecode (the.Data property) pair code = with_constant property pair code.constants >>= λ c. Ok (record code { constants = c })
with_linecode the.Units pair code = choice_in fault.BadValue units pair >>= λ u. Ok (record code { units = u })
with_linecode the.Basefreq pair code = number_in pair >>= λ n. Ok (record code { basefreq = Some n })
with_linecode the.Ignored pair code = Ok code

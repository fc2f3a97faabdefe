-- The properties of a Line: the form and range of each, and the field that it sets.
use Rattle.std.specs.Prelude.{ℕ, List, [], ◌∷◌, Bool, true, false, codes, pos, Option, Some, None, Result, Ok, if◌then◌else◌}
use Rattle.dss_values.specs.dss_lexer.declared.pair.Pair.{Pair}
use Rattle.dss_values.specs.dss_model.declared.fault.ModelFault.{ModelFault}
use Rattle.dss_values.specs.dss_model.declared.command.Place.{Place}
use Rattle.dss_values.specs.dss_model.declared.line.Line.{Line}
use Rattle.dss_profile.specs.declared.line.LineProperty.{LineProperty}
use Rattle.dss_profile.specs.declared.line.LineProperty.TheVariants as the
use Rattle.dss_profile.specs.declared.line_constants.DataProperty.{DataProperty}
use Rattle.dss_profile.specs.declared.line_constants.DataProperty.TheVariants as data_property
use Rattle.dss_values.specs.dss_model.declared.linecode.Linecode.{Linecode}
use Rattle.dss_values.specs.dss_model.declared.words.Units.TheVariants as unit
use Rattle.dss_values.specs.dss_model.Answers.{◌>>=◌, or_fault}
use Rattle.dss_values.specs.dss_model.declared.fault.ModelFault.TheVariants as fault
use Rattle.dss_values.specs.dss_model.Ranges.{ones}
use Rattle.dss_values.specs.Forms.{number_in, number_between, whole_between, choice_in, name_in, bus_in}
use Rattle.dss_values.specs.dss_model.Defaults.{fresh_constants}
use Rattle.dss_profile.specs.LineConstants.{is_impedance, with_constant, with_switch}
use Rattle.dss_values.specs.Words.{units, truths}

abbrev pub line_properties : List (List ℕ × LineProperty)
line_properties =
    (codes "bus1", the.Bus1)
    ∷ (codes "bus2", the.Bus2)
    ∷ (codes "phases", the.Phases)
    ∷ (codes "linecode", the.Linecode)
    ∷ (codes "length", the.Length)
    ∷ (codes "units", the.Units)
    ∷ (codes "rmatrix", the.Data data_property.Rmatrix)
    ∷ (codes "xmatrix", the.Data data_property.Xmatrix)
    ∷ (codes "cmatrix", the.Data data_property.Cmatrix)
    ∷ (codes "r1", the.Data data_property.R1)
    ∷ (codes "x1", the.Data data_property.X1)
    ∷ (codes "r0", the.Data data_property.R0)
    ∷ (codes "x0", the.Data data_property.X0)
    ∷ (codes "c1", the.Data data_property.C1)
    ∷ (codes "c0", the.Data data_property.C0)
    ∷ (codes "switch", the.Switch)
    ∷ (codes "basefreq", the.Basefreq)
    ∷ (codes "normamps", the.Ignored)
    ∷ (codes "emergamps", the.Ignored)
    ∷ (codes "faultrate", the.Ignored)
    ∷ (codes "pctperm", the.Ignored)
    ∷ (codes "repair", the.Ignored)
    ∷ []

-- the data of a line code as they are now, with its phases and its unit; the line's own length and unit stay
abbrev pub with_code : List ℕ → Linecode → Line → Line
with_code name code line = record line {
  linecode = Some name;
  phases = code.nphases;
  constants = code.constants;
  code_units = code.units;
}

-- `code` is the line code that the pair names, where there is one
abbrev pub with_code_in : Option Linecode → Pair → Line → Result Line ModelFault
with_code_in code pair line = name_in pair >>= λ name. or_fault fault.UnknownName code >>= λ c. Ok (with_code name c line)

-- a switch is a short line with an impedance and a charging of its own
abbrev pub switched : Bool → Line → Line
switched false line = record line { switch = false }
switched true line = record line {
  switch = true;
  constants = with_switch line.constants;
  length = pos 1_000_000;
  units = unit.None;
  code_units = unit.None;
}

-- an impedance of the line's own has no unit
abbrev pub with_line_data : DataProperty → Pair → Line → Result Line ModelFault
with_line_data property pair line =
    with_constant property pair line.constants
    >>= λ c.
    Ok (record line { constants = c; code_units = if is_impedance property then unit.None else line.code_units })

abbrev pub with_line : Option Linecode → LineProperty → Pair → Line → Result Line ModelFault
with_line code the.Bus1 pair line = bus_in pair >>= λ b. Ok (record line { bus1 = Some b })
with_line code the.Bus2 pair line = bus_in pair >>= λ b. Ok (record line { bus2 = Some b })
with_line code the.Phases pair line = whole_between 1 3 pair >>= λ n. Ok (record line { phases = n })
with_line code the.Linecode pair line = with_code_in code pair line
with_line code the.Length pair line = number_between (pos 0) (ones 1_000_000) pair >>= λ n. Ok (record line { length = n })
with_line code the.Units pair line = choice_in fault.BadValue units pair >>= λ u. Ok (record line { units = u })
with_line code (the.Data property) pair line = with_line_data property pair line
with_line code the.Switch pair line = choice_in fault.BadValue truths pair >>= λ on. Ok (switched on line)
with_line code the.Basefreq pair line = number_in pair >>= λ n. Ok (record line { basefreq = Some n })
with_line code the.Ignored pair line = Ok line

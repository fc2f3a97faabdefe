-- The options: the form and range of each, and the field that it sets.
use Rattle.std.specs.Prelude.{ℕ, List, [], ◌∷◌, codes, pos, Result, Ok}
use Rattle.dss_values.specs.dss_lexer.declared.pair.Pair.{Pair}
use Rattle.dss_values.specs.dss_model.declared.fault.ModelFault.{ModelFault}
use Rattle.dss_values.specs.dss_model.declared.options.Options.{Options}
use Rattle.dss_profile.specs.declared.options.OptionName.{OptionName}
use Rattle.dss_profile.specs.declared.options.OptionName.TheVariants as the
use Rattle.dss_values.specs.dss_model.declared.words.Mode.{Mode}
use Rattle.dss_values.specs.dss_model.declared.words.Mode.TheVariants as mode
use Rattle.dss_values.specs.dss_model.declared.words.ControlMode.TheVariants as control
use Rattle.dss_values.specs.dss_model.declared.words.StepSize.TheVariants as step
use Rattle.dss_values.specs.dss_model.declared.fault.ModelFault.TheVariants as fault
use Rattle.dss_values.specs.dss_model.Answers.{◌>>=◌, or_fault}
use Rattle.dss_values.specs.dss_model.Names.{bytes, lower, named}
use Rattle.dss_values.specs.dss_model.Ranges.{ones}
use Rattle.dss_values.specs.Forms.{number_between, numbers_between, whole_between, supported_among, choice_in}
use Rattle.dss_values.specs.Words.{modes, control_modes, step_sizes}

abbrev pub option_names : List (List ℕ × OptionName)
option_names =
    (codes "mode", the.Mode)
    ∷ (codes "number", the.Number)
    ∷ (codes "stepsize", the.Stepsize)
    ∷ (codes "maxiterations", the.Maxiterations)
    ∷ (codes "tolerance", the.Tolerance)
    ∷ (codes "maxcontroliter", the.Maxcontroliter)
    ∷ (codes "controlmode", the.Controlmode)
    ∷ (codes "voltagebases", the.Voltagebases)
    ∷ (codes "defaultbasefrequency", the.Defaultbasefrequency)
    ∷ []

-- a daily run has 24 hours, until a later pair says otherwise
abbrev pub in_mode : Mode → Options → Options
in_mode mode.Snapshot options = record options { mode = mode.Snapshot }
in_mode mode.Daily options = record options { mode = mode.Daily; number = 24 }

abbrev pub with_option : OptionName → Pair → Options → Result Options ModelFault
with_option the.Mode pair options = choice_in fault.BadValue modes pair >>= λ m. Ok (in_mode m options)
with_option the.Number pair options = whole_between 1 8760 pair >>= λ n. Ok (record options { number = n })
with_option the.Stepsize pair options = choice_in fault.Unsupported step_sizes pair >>= λ s. Ok (record options { stepsize = s })
with_option the.Maxiterations pair options = whole_between 1 1000 pair >>= λ n. Ok (record options { maxiterations = n })
with_option the.Tolerance pair options = number_between (pos 1) (pos 100_000_000) pair >>= λ n. Ok (record options { tolerance = n })
with_option the.Maxcontroliter pair options = whole_between 0 100 pair >>= λ n. Ok (record options { maxcontroliter = n })
with_option the.Controlmode pair options = choice_in fault.Unsupported control_modes pair >>= λ c. Ok (record options { controlmode = c })
with_option the.Voltagebases pair options = numbers_between (pos 1_000_000) (ones 1000) pair >>= λ ns. Ok (record options { voltagebases = ns })
with_option the.Defaultbasefrequency pair options = supported_among (50 ∷ 60 ∷ []) pair >>= λ n. Ok (record options { defaultbasefrequency = n })

-- an option is found by its name, without regard to case
unfoldable pub with_named_option : Pair → Options → Result Options ModelFault
with_named_option pair options = or_fault fault.UnknownProperty (named option_names (bytes (lower pair.name))) >>= λ option. with_option option pair options

-- the pairs from left to right
abbrev pub with_options : List Pair → Options → Result Options ModelFault
with_options [] options = Ok options
with_options (p ∷ ps) options = with_named_option p options >>= with_options ps

-- The properties of a RegControl: the form and range of each, and the field that it sets.
use Rattle.std.specs.Prelude.{ℕ, Bool, List, [], ◌∷◌, codes, pos, neg_ℤ, Some, None, Result, Ok}
use Rattle.dss_values.specs.dss_lexer.declared.pair.Pair.{Pair}
use Rattle.dss_values.specs.dss_model.declared.fault.ModelFault.{ModelFault}
use Rattle.dss_values.specs.dss_model.declared.command.Place.{Place}
use Rattle.dss_values.specs.dss_model.declared.regcontrol.RegControl.{RegControl}
use Rattle.dss_profile.specs.declared.regcontrol.RegControlProperty.{RegControlProperty}
use Rattle.dss_profile.specs.declared.regcontrol.RegControlProperty.TheVariants as the
use Rattle.dss_values.specs.dss_model.Answers.{◌>>=◌}
use Rattle.dss_values.specs.dss_model.Ranges.{ones}
use Rattle.dss_values.specs.Forms.{number_between, whole_between, milliseconds_in, phase_in, known_name_in}

abbrev pub regcontrol_properties : List (List ℕ × RegControlProperty)
regcontrol_properties =
    (codes "transformer", the.Transformer)
    ∷ (codes "winding", the.Winding)
    ∷ (codes "vreg", the.Vreg)
    ∷ (codes "band", the.Band)
    ∷ (codes "ptratio", the.Ptratio)
    ∷ (codes "ctprim", the.Ctprim)
    ∷ (codes "r", the.R)
    ∷ (codes "x", the.X)
    ∷ (codes "delay", the.Delay)
    ∷ (codes "tapdelay", the.Tapdelay)
    ∷ (codes "maxtapchange", the.Maxtapchange)
    ∷ (codes "ptphase", the.Ptphase)
    ∷ []

-- `found` says whether the Transformer that the pair names is there
abbrev pub with_regcontrol : Bool → RegControlProperty → Pair → RegControl → Result RegControl ModelFault
with_regcontrol found the.Transformer pair control = known_name_in found pair >>= λ name. Ok (record control { transformer = Some name })
with_regcontrol found the.Winding pair control = whole_between 1 2 pair >>= λ n. Ok (record control { winding = n })
with_regcontrol found the.Vreg pair control = number_between (ones 1) (ones 1_000_000) pair >>= λ n. Ok (record control { vreg = n })
with_regcontrol found the.Band pair control = number_between (pos 1_000_000) (ones 1000) pair >>= λ n. Ok (record control { band = n })
with_regcontrol found the.Ptratio pair control = number_between (pos 1_000_000) (ones 1_000_000) pair >>= λ n. Ok (record control { ptratio = n })
with_regcontrol found the.Ctprim pair control = number_between (pos 1_000_000) (ones 1_000_000) pair >>= λ n. Ok (record control { ctprim = n })
with_regcontrol found the.R pair control = number_between (neg_ℤ (ones 1000)) (ones 1000) pair >>= λ n. Ok (record control { r = n })
with_regcontrol found the.X pair control = number_between (neg_ℤ (ones 1000)) (ones 1000) pair >>= λ n. Ok (record control { x = n })
with_regcontrol found the.Delay pair control = milliseconds_in pair >>= λ n. Ok (record control { delay = n })
with_regcontrol found the.Tapdelay pair control = milliseconds_in pair >>= λ n. Ok (record control { tapdelay = n })
with_regcontrol found the.Maxtapchange pair control = whole_between 1 1000 pair >>= λ n. Ok (record control { maxtapchange = n })
with_regcontrol found the.Ptphase pair control = phase_in pair >>= λ n. Ok (record control { ptphase = n })

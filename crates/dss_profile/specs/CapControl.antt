-- The properties of a CapControl: the form and range of each, and the field that it sets.
use Rattle.std.specs.Prelude.{ℕ, Bool, List, [], ◌∷◌, codes, pos, neg_ℤ, Some, None, Result, Ok}
use Rattle.dss_values.specs.dss_lexer.declared.pair.Pair.{Pair}
use Rattle.dss_values.specs.dss_model.declared.fault.ModelFault.{ModelFault}
use Rattle.dss_values.specs.dss_model.declared.command.Place.{Place}
use Rattle.dss_values.specs.dss_model.declared.capcontrol.CapControl.{CapControl}
use Rattle.dss_profile.specs.declared.capcontrol.CapControlProperty.{CapControlProperty}
use Rattle.dss_profile.specs.declared.capcontrol.CapControlProperty.TheVariants as the
use Rattle.dss_values.specs.dss_model.declared.words.ControlQuantity.TheVariants as quantity
use Rattle.dss_values.specs.dss_model.Answers.{◌>>=◌}
use Rattle.dss_values.specs.dss_model.declared.fault.ModelFault.TheVariants as fault
use Rattle.dss_values.specs.dss_model.Ranges.{ones}
use Rattle.dss_values.specs.Forms.{number_between, whole_between, choice_in, milliseconds_in, phase_in, known_name_in, known_line_name_in}
use Rattle.dss_values.specs.Words.{quantities}

abbrev pub capcontrol_properties : List (List ℕ × CapControlProperty)
capcontrol_properties =
    (codes "element", the.Element)
    ∷ (codes "terminal", the.Terminal)
    ∷ (codes "capacitor", the.Capacitor)
    ∷ (codes "type", the.Kind)
    ∷ (codes "ptratio", the.Ptratio)
    ∷ (codes "ctratio", the.Ctratio)
    ∷ (codes "onsetting", the.Onsetting)
    ∷ (codes "offsetting", the.Offsetting)
    ∷ (codes "delay", the.Delay)
    ∷ (codes "delayoff", the.Delayoff)
    ∷ (codes "deadtime", the.Deadtime)
    ∷ (codes "ptphase", the.Ptphase)
    ∷ (codes "ctphase", the.Ctphase)
    ∷ []

-- `found` says whether the element that the pair names is there
abbrev pub with_capcontrol : Bool → CapControlProperty → Pair → CapControl → Result CapControl ModelFault
with_capcontrol found the.Element pair control = known_line_name_in found pair >>= λ name. Ok (record control { element = Some name })
with_capcontrol found the.Terminal pair control = whole_between 1 2 pair >>= λ n. Ok (record control { terminal = n })
with_capcontrol found the.Capacitor pair control = known_name_in found pair >>= λ name. Ok (record control { capacitor = Some name })
with_capcontrol found the.Kind pair control = choice_in fault.Unsupported quantities pair >>= λ q. Ok (record control { kind = q })
with_capcontrol found the.Ptratio pair control = number_between (pos 1_000_000) (ones 1_000_000) pair >>= λ n. Ok (record control { ptratio = n })
with_capcontrol found the.Ctratio pair control = number_between (pos 1_000_000) (ones 1_000_000) pair >>= λ n. Ok (record control { ctratio = n })
with_capcontrol found the.Onsetting pair control = number_between (neg_ℤ (ones 1_000_000)) (ones 1_000_000) pair >>= λ n. Ok (record control { onsetting = n })
with_capcontrol found the.Offsetting pair control =
    number_between (neg_ℤ (ones 1_000_000)) (ones 1_000_000) pair >>= λ n. Ok (record control { offsetting = n })
with_capcontrol found the.Delay pair control = milliseconds_in pair >>= λ n. Ok (record control { delay = n })
with_capcontrol found the.Delayoff pair control = milliseconds_in pair >>= λ n. Ok (record control { delayoff = n })
with_capcontrol found the.Deadtime pair control = milliseconds_in pair >>= λ n. Ok (record control { deadtime = n })
with_capcontrol found the.Ptphase pair control = phase_in pair >>= λ n. Ok (record control { ptphase = n })
with_capcontrol found the.Ctphase pair control = phase_in pair >>= λ n. Ok (record control { ctphase = n })

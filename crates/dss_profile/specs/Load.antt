-- The properties of a Load: the form and range of each, and the field that it sets.
use Rattle.std.specs.Prelude.{ℕ, ◌==◌, Bool, List, [], ◌∷◌, codes, pos, neg_ℤ, Some, None, Result, Ok, if◌then◌else◌}
use Rattle.dss_values.specs.dss_lexer.declared.pair.Pair.{Pair}
use Rattle.dss_values.specs.dss_model.declared.fault.ModelFault.{ModelFault}
use Rattle.dss_values.specs.dss_model.declared.command.Place.{Place}
use Rattle.dss_values.specs.dss_model.declared.load.Load.{Load}
use Rattle.dss_values.specs.dss_model.declared.load.LoadKind.{LoadKind}
use Rattle.dss_values.specs.dss_model.declared.load.LoadKind.TheVariants as kind
use Rattle.dss_profile.specs.declared.load.LoadProperty.{LoadProperty}
use Rattle.dss_profile.specs.declared.load.LoadProperty.TheVariants as the
use Rattle.dss_values.specs.dss_model.declared.words.Connection.TheVariants as connection
use Rattle.dss_values.specs.dss_model.declared.words.ReactiveRule.TheVariants as rule
use Rattle.dss_values.specs.dss_model.Answers.{◌>>=◌}
use Rattle.dss_values.specs.dss_model.declared.fault.ModelFault.TheVariants as fault
use Rattle.dss_values.specs.dss_model.Ranges.{ones}
use Rattle.dss_values.specs.Forms.{number_in, number_between, power_factor_in, whole_among, supported_among, choice_in, bus_in, known_name_in, shares_in}
use Rattle.dss_values.specs.Words.{connections}

abbrev pub load_properties : List (List ℕ × LoadProperty)
load_properties =
    (codes "bus1", the.Bus1)
    ∷ (codes "phases", the.Phases)
    ∷ (codes "kv", the.Kv)
    ∷ (codes "kw", the.Kw)
    ∷ (codes "pf", the.Pf)
    ∷ (codes "kvar", the.Kvar)
    ∷ (codes "model", the.Model)
    ∷ (codes "zipv", the.Zipv)
    ∷ (codes "conn", the.Conn)
    ∷ (codes "vminpu", the.Vminpu)
    ∷ (codes "vmaxpu", the.Vmaxpu)
    ∷ (codes "daily", the.Daily)
    ∷ (codes "basefreq", the.Basefreq)
    ∷ (codes "class", the.Ignored)
    ∷ (codes "numcust", the.Ignored)
    ∷ []

-- constant power is 1, constant impedance 2, constant current 5, shares of the three 8, and there is no other number
abbrev pub model_of : ℕ → LoadKind
model_of number =
    if number == 1 then kind.ConstantPower
    else if number == 2 then kind.ConstantImpedance
    else if number == 5 then kind.ConstantCurrent
    else kind.Zip

-- the last of pf and kvar rules; `found` says whether the load shape that the pair names is there
abbrev pub with_load : Bool → LoadProperty → Pair → Load → Result Load ModelFault
with_load found the.Bus1 pair load = bus_in pair >>= λ b. Ok (record load { bus1 = Some b })
with_load found the.Phases pair load = whole_among (1 ∷ 3 ∷ []) pair >>= λ n. Ok (record load { phases = n })
with_load found the.Kv pair load = number_between (pos 10_000_000) (ones 1000) pair >>= λ n. Ok (record load { kv = n })
with_load found the.Kw pair load = number_between (neg_ℤ (ones 300_000)) (ones 300_000) pair >>= λ n. Ok (record load { kw = n })
with_load found the.Pf pair load = power_factor_in pair >>= λ n. Ok (record load { pf = n; reactive = rule.PowerFactor })
with_load found the.Kvar pair load = number_between (neg_ℤ (ones 300_000)) (ones 300_000) pair >>= λ n. Ok (record load { kvar = Some n; reactive = rule.Kvar })
with_load found the.Model pair load = supported_among (1 ∷ 2 ∷ 5 ∷ 8 ∷ []) pair >>= λ n. Ok (record load { model = model_of n })
with_load found the.Zipv pair load = shares_in pair >>= λ shares. Ok (record load { zipv = Some shares })
with_load found the.Conn pair load = choice_in fault.BadValue connections pair >>= λ c. Ok (record load { conn = c })
with_load found the.Vminpu pair load = number_between (pos 400_000_000) (ones 1) pair >>= λ n. Ok (record load { vminpu = n })
with_load found the.Vmaxpu pair load = number_between (ones 1) (ones 2) pair >>= λ n. Ok (record load { vmaxpu = n })
with_load found the.Daily pair load = known_name_in found pair >>= λ name. Ok (record load { daily = Some name })
with_load found the.Basefreq pair load = number_in pair >>= λ n. Ok (record load { basefreq = Some n })
with_load found the.Ignored pair load = Ok load

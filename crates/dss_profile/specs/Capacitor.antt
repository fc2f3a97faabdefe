-- The properties of a Capacitor: the form and range of each, and the field that it sets.
use Rattle.std.specs.Prelude.{ℕ, List, [], ◌∷◌, codes, pos, Some, None, Result, Ok, Err}
use Rattle.dss_values.specs.dss_lexer.declared.pair.Pair.{Pair}
use Rattle.dss_values.specs.dss_model.declared.fault.ModelFault.{ModelFault}
use Rattle.dss_values.specs.dss_model.declared.command.Place.{Place}
use Rattle.dss_values.specs.dss_model.declared.capacitor.Capacitor.{Capacitor}
use Rattle.dss_profile.specs.declared.capacitor.CapacitorProperty.{CapacitorProperty}
use Rattle.dss_profile.specs.declared.capacitor.CapacitorProperty.TheVariants as the
use Rattle.dss_values.specs.dss_model.declared.words.Connection.TheVariants as connection
use Rattle.dss_values.specs.dss_model.declared.words.BankState.TheVariants as state
use Rattle.dss_values.specs.dss_model.Answers.{◌>>=◌}
use Rattle.dss_values.specs.dss_model.declared.fault.ModelFault.TheVariants as fault
use Rattle.dss_values.specs.dss_model.Ranges.{ones}
use Rattle.dss_values.specs.Forms.{number_in, number_between, whole_among, supported_among, choice_in, bus_in, state_in}
use Rattle.dss_values.specs.Words.{connections}

abbrev pub capacitor_properties : List (List ℕ × CapacitorProperty)
capacitor_properties =
    (codes "bus1", the.Bus1)
    ∷ (codes "bus2", the.Bus2)
    ∷ (codes "phases", the.Phases)
    ∷ (codes "kvar", the.Kvar)
    ∷ (codes "kv", the.Kv)
    ∷ (codes "conn", the.Conn)
    ∷ (codes "numsteps", the.Numsteps)
    ∷ (codes "states", the.States)
    ∷ (codes "basefreq", the.Basefreq)
    ∷ []

-- a second bus is unsupported, whatever its value
abbrev pub with_capacitor : ℕ → CapacitorProperty → Pair → Capacitor → Result Capacitor ModelFault
with_capacitor solves the.Bus1 pair bank = bus_in pair >>= λ b. Ok (record bank { bus1 = Some b })
with_capacitor solves the.Bus2 pair bank = Err fault.Unsupported
with_capacitor solves the.Phases pair bank = whole_among (1 ∷ 3 ∷ []) pair >>= λ n. Ok (record bank { phases = n })
with_capacitor solves the.Kvar pair bank = number_between (pos 0) (ones 100_000) pair >>= λ n. Ok (record bank { kvar = n })
with_capacitor solves the.Kv pair bank = number_between (pos 10_000_000) (ones 1000) pair >>= λ n. Ok (record bank { kv = n })
with_capacitor solves the.Conn pair bank = choice_in fault.BadValue connections pair >>= λ c. Ok (record bank { conn = c })
with_capacitor solves the.Numsteps pair bank = supported_among (1 ∷ []) pair >>= λ n. Ok (record bank { numsteps = n })
with_capacitor solves the.States pair bank = state_in pair >>= λ s. Ok (record bank { states = s; set_at = solves })
with_capacitor solves the.Basefreq pair bank = number_in pair >>= λ n. Ok (record bank { basefreq = Some n })

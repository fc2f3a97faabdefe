-- The hours of a Solve.
use Rattle.std.specs.Prelude.{ℕ, ◌+◌, ◌-◌, ◌*◌, ◌≤◌, nat_lt, if◌then◌else◌, List, [], ◌∷◌, length, Option, Some, None}
use Rattle.std.specs.List.{AllByRecursion, range_with_len}
use Rattle.fd_settings.specs.dss_model.declared.words.Mode.{Mode}
use Rattle.fd_settings.specs.dss_model.declared.words.Mode.TheVariants as mode
use Rattle.fd_settings.specs.dss_model.declared.options.Options.{Options}

-- hour 0 is a snapshot's, and a day has the hours 1 to its number
abbrev pub hours_in : Mode → ℕ → List ℕ
hours_in mode.Snapshot number = 0 ∷ []
hours_in mode.Daily number = range_with_len 1 number

abbrev pub hours_of : Options → List ℕ
hours_of o = hours_in o.mode o.number

-- at most 8,761 of them, none past 8,760
pub record AreHours (hours : List ℕ) : Type 0 where
  pub few : length hours ≤ 8761
  pub each : AllByRecursion (λ hour. hour ≤ 8760) hours

-- the time at which an hour starts, in milliseconds: a snapshot's and the first hour's is 0
abbrev pub time_of : ℕ → ℕ
time_of k = 3600000 * (k - 1)

abbrev pub first_hour : Mode → ℕ
first_hour mode.Snapshot = 0
first_hour mode.Daily = 1

abbrev pub last_hour : Mode → ℕ → ℕ
last_hour mode.Snapshot number = 0
last_hour mode.Daily number = number

-- the hour behind hour k, none behind the last
abbrev pub hour_after : ℕ → ℕ → Option ℕ
hour_after k last = if nat_lt k last then Some (k + 1) else None

-- an hour and those behind it up to the last
abbrev pub hours_from : Option ℕ → ℕ → List ℕ
hours_from None last = []
hours_from (Some k) last = range_with_len k (last + 1 - k)

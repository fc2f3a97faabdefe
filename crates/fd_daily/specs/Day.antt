-- Where a Solve stands between its hours.
use Rattle.std.specs.Prelude.{ℕ, ◌*◌, ◌≤◌, ◌^◌, Bool, true, false, List, ◌∷◌, replicate, Option, None, IfSome}
use Rattle.std.specs.Option.{unwrap_or}
use Rattle.fd_settle.specs.fd_exact.Sums.{list_n}
use Rattle.fd_settings.specs.dss_circuit.Circuit.{CircuitView}
use Rattle.fd_settings.specs.fd_devices.Settings.{bank_count}
use Rattle.fd_settle.specs.fd_queue.Controls.{Positions}
use Rattle.fd_settle.specs.fd_queue.Machine.{Machine, hour_begun}
use Rattle.fd_settle.specs.Plant.{started, timing_of}
use Rattle.fd_daily.specs.Hours.{hour_after, hours_from, time_of}

-- the hour that comes next, or none after the last; and the last hour
pub record DayView : Type 0 where
  pub hour : Option ℕ
  pub last : ℕ

-- no bank was opened yet
abbrev pub no_openings : CircuitView → List (Option ℕ)
no_openings c = replicate (list_n (λ e. bank_count e.1) c.elements) None

-- the hours that are left
abbrev pub hours_left : DayView → List ℕ
hours_left d = hours_from d.hour d.last

-- no hour is past 8,760
pub record IsDay (d : DayView) : Type 0 where
  pub hour : IfSome d.hour (λ k. k ≤ d.last)
  pub last : d.last ≤ 8760

-- the hour that comes next, where there is one
abbrev pub hour_in : DayView → ℕ
hour_in d = unwrap_or d.hour 0

-- the machine with which an hour of a circuit begins, where the hour before left this one
abbrev pub resumed : CircuitView → ℕ → Machine → Machine
resumed c hour m = hour_begun (timing_of c.options.controlmode) (time_of hour) m

-- that with which the next hour begins
abbrev pub begun_hour : CircuitView → DayView → Machine → Machine
begun_hour c d m = resumed c (hour_in d) m

-- the machine before the first hour of a Solve at these positions: the queue is empty, and no bank was opened yet
abbrev pub before_first : CircuitView → Positions → Machine
before_first c at = started c at 0 (no_openings c)

-- sequence numbers are few in each hour: an hour of this number may begin with the number `next`
abbrev pub MayBegin : ℕ → ℕ → Type 0
MayBegin hour next = next ≤ 2 ^ 25 * hour

-- the hour behind it where its settle ended well, and else the same
abbrev pub hour_kept : Bool → ℕ → DayView → Option ℕ
hour_kept true k d = hour_after k d.last
hour_kept false k d = d.hour

-- these hours, and hour k before them where its settle ended well
abbrev pub hours_done : Bool → ℕ → List ℕ → List ℕ
hours_done true k left = k ∷ left
hours_done false k left = left

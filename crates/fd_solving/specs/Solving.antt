-- What a Solve of a circuit that passed the tests comes to: the settles of its hours.
use Rattle.std.specs.Prelude.{◌≡◌, ℕ, ◌+◌, ℤ, [], ◌∷◌, nat_abs, List, map, slice_get, Option, Some, None, option_map}
use Rattle.std.specs.Prelude.{Result, Ok, Err}
use Rattle.dss_commands.specs.dss_model.declared.words.ControlQuantity.{ControlQuantity}
use Rattle.dss_commands.specs.dss_model.declared.words.ControlQuantity.TheVariants as quantity
use Rattle.dss_commands.specs.dss_model.declared.element.Element.{Element}
use Rattle.dss_commands.specs.dss_model.declared.element.Element.TheVariants as the
use Rattle.dss_commands.specs.dss_model.declared.names.Class.TheVariants as class
use Rattle.dss_commands.specs.dss_model.declared.names.ElementName.{ElementName}
use Rattle.fd_pages.specs.dss_layout.Layout.{layout_of}
use Rattle.dss_commands.specs.dss_circuit.Circuit.{CircuitView}
use Rattle.fd_daily.specs.Day.{before_first, resumed}
use Rattle.fd_daily.specs.Hours.{hours_of}
use Rattle.fd_daily.specs.Underway.{plant_at, start_from}
use Rattle.fd_daily.specs.fd_cert.Claims.{tried_claim}
use Rattle.fd_daily.specs.fd_enclosure.Sound.{Claim, loose, uncertain}
use Rattle.fd_daily.specs.fd_pattern.Views.{NetworkView}
use Rattle.fd_daily.specs.fd_inject.Procedure.{solution_of}
use Rattle.fd_daily.specs.fd_inject.declared.fault.SolveFault.TheVariants as procedure
use Rattle.fd_daily.specs.fd_inject.declared.limits.Limits.{Limits}
use Rattle.fd_daily.specs.fd_queue.Machine.{Machine, Act}
use Rattle.fd_daily.specs.fd_sample.Decided.{Undecided}
use Rattle.fd_daily.specs.fd_settle.Compute.{computed_of, uncertified}
use Rattle.fd_daily.specs.fd_settle.Compute as computed
use Rattle.fd_daily.specs.fd_settle.Computed.{Ending, ended, stopped, IsComputedFrom, range}
use Rattle.fd_daily.specs.fd_settle.Contract.{limits_of}
use Rattle.fd_daily.specs.fd_settle.Settle.{Open, Settled, Limited, Undecidable}
use Rattle.fd_pages.specs.fd_report.Names.{name_at}
use Rattle.fd_pages.specs.fd_report.declared.faults.Cause.TheVariants as cause
use Rattle.fd_pages.specs.fd_report.declared.faults.Fault.{Fault}
use Rattle.fd_pages.specs.fd_report.declared.faults.Fault.TheVariants as fault
use Rattle.fd_pages.specs.fd_report.declared.faults.Scale.{Scale}
use Rattle.fd_pages.specs.fd_report.declared.faults.Scale.TheVariants as scale
use Rattle.fd_pages.specs.fd_outcome.Events.{Event, settle, waits}
use Rattle.fd_pages.specs.fd_outcome.Pages.{controls_of}
use Rattle.fd_pages.specs.fd_outcome.Settles.{Round, Settle, SettleEnd, round_of, settled, failed, without_certificate}
use Rattle.fd_pages.specs.fd_outcome.Work.{Step, goes, ends}
use Rattle.fd_pages.specs.Hours.{Kept, hour_settle}
use Rattle.fd_solving.specs.Steps.{StandingView, behind_events, standing, step_with}

-- ---- the machine

-- with what an hour begins, by what was kept
abbrev pub begun_by : CircuitView → ℕ → Kept → Kept
begun_by c hour l = record l { machine = resumed c hour l.machine }

-- what an hour's machine leaves to the next
abbrev pub kept_by : Kept → Machine → Kept
kept_by l m = record { machine = m; settled = l.settled + 1 }

-- a Solve starts with an empty queue, and no bank opened yet
abbrev pub kept_first : StandingView → Kept
kept_first s = record { machine = before_first s.circuit (start_from s.circuit s.at); settled = s.settled }

-- ---- faults

-- the ends of a sample are in whole microvolts or microamperes, and those of a reactive power in 10^-9 kvar
abbrev pub scale_by : ControlQuantity → Scale
scale_by quantity.Voltage = scale.Micro
scale_by quantity.Current = scale.Micro
scale_by quantity.Kvar = scale.Nano

abbrev pub scale_of : Element → Scale
scale_of (the.CapControl control) = scale_by control.kind
scale_of other = scale.Micro

-- (a control that is sampled is there)
abbrev pub nameless : ElementName
nameless = record { class = class.RegControl; name = [] }

abbrev pub undecided_by : Option (ElementName × Element) → Undecided → Fault
undecided_by None u = fault.Undecided nameless u.low u.high u.edge scale.Micro
undecided_by (Some e) u = fault.Undecided e.0 u.low u.high u.edge (scale_of e.1)

-- the fault of an undecided sample of the control of this number
abbrev pub undecided_at : CircuitView → ℕ → Undecided → Fault
undecided_at c k u = undecided_by (slice_get (controls_of c.elements) k) u

-- the name of the unknown at a place
abbrev pub unknown_of : CircuitView → ℕ → List ℕ
unknown_of c place = name_at (layout_of c.elements) place

-- ---- a state without a certificate

-- the point that the procedure gives, nothing where it gives none
abbrev pub point_or_nothing : {F : Type 0} → Result (List ℤ × List (List ℤ)) F → List ℤ × List (List ℤ)
point_or_nothing (Ok point) = point
point_or_nothing (Err f) = ([], [])

abbrev pub tried_by : NetworkView → List ℤ × List (List ℤ) → Round
tried_by v point = round_of (tried_claim v point.0 point.1) []

-- what would have been claimed of the point that the procedure reaches in a network, with radii 0
abbrev pub tried_round : NetworkView → Limits → Round
tried_round v limits = tried_by v (point_or_nothing (solution_of v limits))

-- ---- an hour

-- how a settle ends in the report where its computation ends so with this machine; the procedure's definition gives no
-- want of memory, so none comes of that
abbrev pub IsEndBy : CircuitView → ℕ → Ending → Machine → SettleEnd → Type 0
IsEndBy c hour (ended Open) n end = ⊥
IsEndBy c hour (ended Settled) n end = end ≡ settled
IsEndBy c hour (ended Limited) n end = end ≡ failed (fault.ControlLimit n.made)
IsEndBy c hour (ended (Undecidable k u)) n end = end ≡ failed (undecided_at c k u)
IsEndBy c hour (range blame) n end = end ≡ failed (fault.Script blame.place (cause.Model blame.cause))
IsEndBy c hour (stopped (computed.procedure (procedure.NoInverse column stop))) n end =
    end ≡ failed (fault.NoInverse (unknown_of c column) stop)
IsEndBy c hour (stopped (computed.procedure (procedure.OutOfRange place step))) n end =
    end ≡ failed (fault.OutOfRange (unknown_of c place) step)
IsEndBy c hour (stopped (computed.procedure (procedure.NotConverged place steps update))) n end =
    end ≡ failed (fault.NotConverged (unknown_of c place) steps update)
IsEndBy c hour (stopped (computed.procedure procedure.NoMemory)) n end = ⊥
IsEndBy c hour (stopped (uncertified (loose row mismatch))) n end =
    end ≡ failed (fault.Loose (unknown_of c row) mismatch)
IsEndBy c hour (stopped (uncertified (uncertain place bound))) n end =
    end
    ≡ without_certificate (tried_round ((plant_at c hour).network n.at) (limits_of c.options))
    (fault.NotCertified (unknown_of c place) (option_map nat_abs bound))

abbrev pub rounds_of : List (Claim × List Act) → List Round
rounds_of rounds = map (λ r. round_of r.0 r.1) rounds

-- The settle of an hour that starts with what was kept, and what it keeps: its rounds are computed one after the other,
-- each by the procedure and its certificate in the network at the positions that the acts before left, and its acts are
-- those of the queue machine over the samples of its ball.
pub record IsHour (c : CircuitView) (hour : ℕ) (l : Kept) (x : Settle) (k : Kept) : Type 0 where
  pub rounds : List (Claim × List Act)
  pub ending : Ending
  pub machine : Machine
  pub computed : IsComputedFrom (computed_of (limits_of c.options)) (plant_at c hour)
      (begun_by c hour l).machine rounds ending machine
  pub end : SettleEnd
  pub end_is : IsEndBy c hour ending machine end
  pub settle_is : x ≡ hour_settle c hour (begun_by c hour l) (rounds_of rounds) end machine.at
  pub kept : k ≡ kept_by l machine

-- ---- the hours

-- a step that begins with a settle, and goes on so
pub record After (x : Settle) (rest : Step StandingView → Type 0) (step : Step StandingView) : Type 0 where
  pub more : Step StandingView
  pub right : rest more
  pub step_is : step ≡ behind_events (settle x ∷ []) more

-- the run goes on where the settle ended well, and else ends with its fault
abbrev pub IsBehind : Settle → SettleEnd → (Step StandingView → Type 0) → Step StandingView → Type 0
IsBehind x settled rest step = After x rest step
IsBehind x (failed f) rest step = step ≡ ends (settle x ∷ []) f
IsBehind x (without_certificate r f) rest step = step ≡ ends (settle x ∷ []) f

-- a step that begins with an hour
pub record IsHourStep (c : CircuitView) (hour : ℕ) (l : Kept) (rest : Kept → Step StandingView → Type 0)
    (step : Step StandingView) : Type 0 where
  pub made : Settle
  pub kept : Kept
  pub is : IsHour c hour l made kept
  pub goes_on : IsBehind made made.end (rest kept) step

-- the hours that are left, one after the other, from what was kept; behind the last one the entries that still wait
abbrev pub IsHoursStep : CircuitView → List ℕ → Kept → Step StandingView → Type 0
IsHoursStep c [] l step = step ≡ goes (waits c l.machine.queue ∷ []) (standing c l.machine.at l.settled)
IsHoursStep c (hour ∷ hours) l step = IsHourStep c hour l (λ k s. IsHoursStep c hours k s) step

-- all hours of the Solve
unfoldable pub IsSolutionStep : StandingView → Step StandingView → Type 0
IsSolutionStep s step = IsHoursStep s.circuit (hours_of s.circuit.options) (kept_first s) step

-- with what stands behind its settles, where it leaves another state
pub record IsSolutionWith (beside : Settle → List Event) (leave : StandingView → StandingView) (s : StandingView)
    (step : Step StandingView) : Type 0 where
  pub solved : Step StandingView
  pub right : IsSolutionStep s solved
  pub step_is : step ≡ step_with beside leave solved

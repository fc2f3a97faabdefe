-- What stands behind a settle of the command line `ladder`: the sweep of its circuit, and what it comes to.
use Rattle.std.specs.Prelude.{List, [], ◌∷◌, slice_get, Option, Some, None, Result, Ok, Err}
use Rattle.fd_solving.specs.dss_model.declared.command.Blame.{Blame}
use Rattle.fd_solving.specs.dss_circuit.Circuit.{CircuitView}
use Rattle.fd_solving.specs.dss_layout.Layout.{layout_of}
use Rattle.fd_solving.specs.fd_daily.Underway.{no_positions, start_from}
use Rattle.fd_solving.specs.fd_settings.Hours.{hour_powers}
use Rattle.fd_solving.specs.fd_settle.Plant.{blame_at}
use Rattle.fd_solving.specs.fd_enclosure.Sound.{Claim}
use Rattle.fd_solving.specs.fd_pattern.Views.{NetworkView}
use Rattle.fd_solving.specs.fd_queue.Controls.{Positions}
use Rattle.fd_solving.specs.fd_report.declared.ladders.Ladder.{Ladder}
use Rattle.fd_solving.specs.fd_outcome.Calls.{Style, report_with}
use Rattle.fd_solving.specs.fd_outcome.Events.{Event, swept}
use Rattle.fd_solving.specs.fd_outcome.Settles.{Round, Settle, SettleEnd, claim_in, failed, settled}
use Rattle.fd_solving.specs.fd_outcome.Settles.{without_certificate}
use Rattle.fd_solving.specs.Headline.{hour_network}
use Rattle.fd_sweep.specs.fd_ladder.declared.fault.LadderFault.{LadderFault}
use Rattle.fd_sweep.specs.fd_rungs.declared.swept.Swept.{Swept}
use Rattle.fd_sweep.specs.Sweep.{sweep_result}
use Rattle.fd_sweeping.specs.Beside.{ladder_of}

-- what a sweep comes to; none where the circuit isn't radial or its network is out of range: no settle of either ends
-- well
abbrev pub unless_refused : (Swept → Ladder) → Option Blame → Result Swept LadderFault → Option Ladder
unless_refused beside None (Ok w) = Some (beside w)
unless_refused beside None (Err f) = None
unless_refused beside (Some b) result = None

-- ---- of a circuit in snapshot

module _ (c : CircuitView) where
  -- the positions that the script gives
  abbrev pub script_at : Positions
  script_at = start_from c no_positions

  -- the element to blame where the network there is out of range
  abbrev pub blame : Option Blame
  blame = blame_at c (hour_powers c.elements 0) script_at

  abbrev pub network : NetworkView
  network = hour_network c 0 script_at

  abbrev pub sweep : Result Swept LadderFault
  sweep = sweep_result c (record { taps = script_at.taps; closed = script_at.closed }) network c.options.maxiterations

  -- what its sweep comes to beside a certified state
  abbrev pub ladder_in : Claim → Swept → Ladder
  ladder_in m w = ladder_of (layout_of c.elements) network m w

  abbrev pub swept_beside : Claim → Option Ladder
  swept_beside m = unless_refused (ladder_in m) blame sweep

  -- its event, where there is one
  abbrev pub sweep_event : Claim → Option Ladder → List Event
  sweep_event m None = []
  sweep_event m (Some l) = swept c m l ∷ []

  -- beside the first round
  abbrev pub sweep_beside : Option Round → List Event
  sweep_beside None = []
  sweep_beside (Some r) = sweep_event (claim_in r) (swept_beside (claim_in r))

-- only where the settle ended well
abbrev pub sweep_behind : Settle → SettleEnd → List Event
sweep_behind s settled = sweep_beside s.circuit (slice_get s.rounds 0)
sweep_behind s (failed f) = []
sweep_behind s (without_certificate r f) = []

abbrev pub its_sweep : Settle → List Event
its_sweep s = sweep_behind s s.end

-- the report in which a settle is printed with it
abbrev pub ladder_report : Style
ladder_report = report_with its_sweep

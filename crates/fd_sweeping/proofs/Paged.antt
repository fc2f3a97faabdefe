-- What stands behind a settle of `ladder`, by its first round.
use Rattle.std.proofs.Common.{◌≡◌, ◌∙◌, List, [], slice_get, Option, Some, None, refl, ap}
use Rattle.fd_solving.specs.dss_circuit.Circuit.{CircuitView}
use Rattle.fd_solving.specs.fd_cert.declared.ball.Certified.{Certified}
use Rattle.fd_solving.specs.fd_outcome.Settles.{Settle}
use Rattle.fd_solving.specs.fd_pages.Hours.{end_with, round_in, rounds_in}
use Rattle.fd_solving.specs.fd_report.declared.faults.Fault.{Fault}
use Rattle.fd_solving.specs.fd_settle.declared.round.Round.{Round as Made}
use Rattle.fd_solving.proofs.CallerLemmas.{first_round}
use Rattle.fd_sweeping.specs.Pages.{sweep_behind, sweep_beside}

-- no sweep where a settle ends with a fault
pub no_sweep : (s : Settle) (f : Fault) (tried : Option Certified) → sweep_behind s (end_with f tried) ≡ []
no_sweep s f None = refl
no_sweep s f (Some tried) = refl

-- the sweep beside the first round, as it was made
pub sweep_of_first : (c : CircuitView) (rounds : List Made) (r : Made) → slice_get rounds 0 ≡ Some r
    → sweep_beside c (slice_get (rounds_in rounds) 0) ≡ sweep_beside c (Some (round_in r))
sweep_of_first c rounds r e = ap (sweep_beside c) (first_round rounds (Some r) e)

pub sweep_of_none : (c : CircuitView) (rounds : List Made) → slice_get rounds 0 ≡ None
    → sweep_beside c (slice_get (rounds_in rounds) 0) ≡ []
sweep_of_none c rounds e = ap (sweep_beside c) (first_round rounds None e)

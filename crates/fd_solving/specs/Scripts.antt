-- The history of `solve` and `cert` over the files that a library holds.
use Rattle.std.specs.Prelude.{◌≡◌, ℕ, List, [], Option, None}
use Rattle.fd_pages.specs.fd_outside.Files.{Files, held}
use Rattle.dss_commands.specs.dss_model.Names.{bytes}
use Rattle.dss_commands.specs.dss_circuit.Circuit.{empty_circuit}
use Rattle.fd_pages.specs.dss_script.Said.{Part, ended_by}
use Rattle.fd_daily.specs.Underway.{no_positions}
use Rattle.fd_pages.specs.fd_outcome.Events.{History, finishes}
use Rattle.fd_pages.specs.fd_outcome.History.{IsHistory}
use Rattle.fd_solving.specs.Commands.{IsStep}
use Rattle.fd_solving.specs.Steps.{StandingView, standing}

-- `solve` and `cert` ask for no name behind the last command, and do nothing there
abbrev pub no_name : StandingView → Option (List ℕ)
no_name s = None

abbrev pub IsDoneThere : StandingView → Option (List ℕ) → History → Type 0
IsDoneThere s found h = h ≡ finishes []

abbrev pub first_standing : StandingView
first_standing = standing empty_circuit no_positions 0

-- the history of the commands of a script, which begins with no circuit
abbrev pub IsScriptHistory : Files → Part → History → Type 0
IsScriptHistory files p h =
    IsHistory IsStep no_name IsDoneThere (λ n. held files (bytes n)) p.said (ended_by p.left) first_standing h

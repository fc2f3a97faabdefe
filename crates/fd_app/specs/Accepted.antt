-- The certificate of a script is accepted.
use Rattle.std.specs.Prelude.{◌≡◌, ℕ, List, [], ◌∷◌, ◌++◌, length, map, None, Some}
use Rattle.fd_bench.specs.fd_outside.Files.{Files}
use Rattle.fd_checking.specs.dss_model.Names.{bytes}
use Rattle.fd_checking.specs.dss_circuit.Circuit.{CircuitView}
use Rattle.fd_checking.specs.dss_script.Said.{said_of}
use Rattle.fd_checking.specs.fd_daily.Underway.{no_positions}
use Rattle.fd_checking.specs.fd_certfile.Verdict.{IsAnswer, accepted}
use Rattle.fd_checking.specs.fd_check.Checking.{after, due, open_solves}
use Rattle.fd_checking.specs.fd_outcome.Calls.{certificate}
use Rattle.fd_checking.specs.fd_report.Accepted.{accepted_fields}
use Rattle.fd_checking.specs.fd_outcome.Events.{History, asked, finishes, row}
use Rattle.fd_checking.specs.fd_solving.Scripts.{IsScriptHistory}
use Rattle.fd_app.specs.Printed.{all_rounds, bytes_by}
use Rattle.fd_app.specs.Solves.{solves_of}

-- the definitions of the checker accept these bytes for the Solves of these circuits, with so many blocks
abbrev pub AreAccepted : List ℕ → List CircuitView → ℕ → Type 0
AreAccepted bytes circuits count =
    IsAnswer due after (Some bytes) (open_solves circuits no_positions 0) (accepted count)

-- Where the history of a script's commands ends without a fault, the bytes that it is printed as in a certificate are
-- accepted for the Solves of that script, with a block for each round.
abbrev pub CertLaw : Type 0
CertLaw = (files : Files) (name : List ℕ) (h : History) → IsScriptHistory files (said_of files name) h → h.end ≡ None
    → AreAccepted (bytes_by certificate h) (solves_of (said_of files name)) (length (all_rounds h.events))

-- a sink took these bytes, which are accepted
pub record HaveTaken (written : List ℕ) (circuits : List CircuitView) (count : ℕ)
    (old new : List ℕ) : Type 0 where
  pub taken : new ≡ old ++ written
  pub are_accepted : AreAccepted written circuits count

-- what `check` comes to where it accepts a certificate of so many blocks: names are asked, and then comes the record
pub record HasAccepted (count : ℕ) (h : History) : Type 0 where
  pub names : List (List ℕ)
  pub h_is : h ≡ finishes (map asked names ++ row (accepted_fields count) ∷ [])

-- What is true of the histories of words that solve a circuit beside their script, and of words that judge a
-- certificate.
use Rattle.std.specs.Prelude.{◌≡◌, ◌↔◌, ℕ, List, length, None, Option, Some}
use Rattle.std.specs.Str.{chars}
use Rattle.fd_checking.specs.dss_model.Names.{bytes}
use Rattle.fd_checking.specs.dss_model.declared.command.Blame.{Blame}
use Rattle.fd_checking.specs.dss_circuit.Circuit.{CircuitView}
use Rattle.fd_checking.specs.dss_script.Said.{said_of}
use Rattle.fd_bench.specs.fd_outside.Files.{Files, held}
use Rattle.fd_checking.specs.fd_certfile.Verdict.{Answer, IsAnswer}
use Rattle.fd_checking.specs.fd_check.Checking.{after, due, open_solves}
use Rattle.fd_checking.specs.fd_daily.Underway.{no_positions}
use Rattle.fd_checking.specs.fd_outcome.Calls.{certificate, report}
use Rattle.fd_checking.specs.fd_outcome.Events.{Event, History}
use Rattle.fd_checking.specs.fd_solving.Headline.{EnclosesAll, EnclosesAllSizes, EnclosesOthers, EnclosesSizes}
use Rattle.fd_sweeping.specs.Agreements.{HaveSweeps}
use Rattle.fd_app.specs.Accepted.{AreAccepted}
use Rattle.fd_app.specs.Meaning.{IsCertificateOf}
use Rattle.fd_app.specs.Printed.{all_rounds, bytes_by}
use Rattle.fd_app.specs.Rounds.{EachRound, EnclosesLinear, IsExact, MeetsEquations}
use Rattle.fd_app.specs.Solves.{solves_of}

-- ---- words that solve

-- Of a short circuit: the printed state meets the equations of the circuit of the short circuit within the printed
-- mismatches; every state that meets them as closely, of whatever size and in no box, lies within the printed radii,
-- with sizes from low to high, those of the currents of the fault among them.
pub record AreStudied (events : List Event) : Type 0 where
  pub equations : EachRound MeetsEquations events
  pub enclosed : EachRound EnclosesAll events
  pub sizes : EachRound EnclosesAllSizes events
  pub exact : EachRound IsExact events

-- Of a script's Solves with a ladder sweep beside each: of each printed state as of a script's. Each settle that ended
-- well has its sweep behind it. Where that agrees, the sweep's state, for which no matrix is inverted, meets the
-- equations within the greater mismatches of both states, lies in the printed box, and is at every place within the
-- radius that these mismatches give of the printed state; where none of its mismatches is above the printed one, it is
-- within the printed radii.
pub record AreSwept (events : List Event) : Type 0 where
  pub equations : EachRound MeetsEquations events
  pub enclosed : EachRound EnclosesOthers events
  pub sizes : EachRound EnclosesSizes events
  pub linear : EachRound EnclosesLinear events
  pub exact : EachRound IsExact events
  pub sweeps : HaveSweeps events

-- ---- words that judge

-- what `cert` writes to its end is accepted for the Solves of the same script, with a block for each round
abbrev pub IsAccepted : Files → List ℕ → History → Type 0
IsAccepted files script h = h.end ≡ None
    → AreAccepted (bytes_by certificate h) (solves_of (said_of files script)) (length (all_rounds h.events))

-- what `check` accepts is a certificate of the script's Solves, whoever made it
abbrev pub IsCertificate : Files → List ℕ → List ℕ → History → Type 0
IsCertificate files script name h =
    h.end ≡ None → IsCertificateOf (solves_of (said_of files script)) (held files (bytes name))

-- a certificate that is held and these bytes have the same answer, whatever Solves they are judged on
abbrev pub AnswerAlike : Option (List ℕ) → List ℕ → Type 0
AnswerAlike old new = (solved : List CircuitView) (answer : Answer Blame)
    → IsAnswer due after old (open_solves solved no_positions 0) answer
    ↔ IsAnswer due after (Some new) (open_solves solved no_positions 0) answer

-- what `upgrade` writes to its end has the answer of what it read
abbrev pub IsUpgraded : Files → List ℕ → History → Type 0
IsUpgraded files name h = h.end ≡ None → AnswerAlike (held files (bytes name)) (bytes_by report h)

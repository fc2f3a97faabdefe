-- The settle of an hour, as the code made it, and what of it can be printed.
use Rattle.std.specs.Prelude.{◌≡◌, ◌<◌, ◌+◌, ◌^◌, ℕ, List, [], length, map, All, Option, Some, None}
use Rattle.fd_bases.specs.dss_layout.Layout.{layout_of, size_of}
use Rattle.fd_bases.specs.dss_circuit.Circuit.{CircuitView}
use Rattle.fd_outcome.specs.dss_ready.Ready.{HasPassed}
use Rattle.fd_outcome.specs.fd_cert.Claims.{claim_in}
use Rattle.fd_outcome.specs.fd_cert.declared.ball.Certified.{Certified}
use Rattle.fd_outcome.specs.fd_certfile.Rounds.{IsClaimOf, IsRoundOf}
use Rattle.fd_settings.specs.Hours.{hour_powers}
use Rattle.fd_outcome.specs.fd_queue.Controls.{Positions}
use Rattle.fd_outcome.specs.fd_queue.Machine.{Machine}
use Rattle.fd_outcome.specs.fd_report.Solutions.{IsOfSize}
use Rattle.fd_outcome.specs.fd_report.declared.faults.Fault.{Fault}
use Rattle.fd_outcome.specs.fd_settle.declared.round.Round.{Round as Made}
use Rattle.fd_outcome.specs.fd_settle.Rounds.{seen}
use Rattle.fd_outcome.specs.fd_settle.Start.{ArePositions}
use Rattle.fd_outcome.specs.Pages.{solution_in}
use Rattle.fd_outcome.specs.Settles.{Round, Settle, SettleEnd, failed, round_of, without_certificate}

-- ---- the settle

-- what is kept from hour to hour of a Solve: the machine, and how many settles there were so far
pub record Kept : Type 0 where
  pub machine : Machine
  pub settled : ℕ

-- the settle of an hour that begins with this machine: settles are numbered from 1 in the whole run
abbrev pub hour_settle : CircuitView → ℕ → Kept → List Round → SettleEnd → Positions → Settle
hour_settle c hour l rounds end left = record {
  number = l.settled + 1;
  hour = hour;
  circuit = c;
  begun = l.machine;
  rounds = rounds;
  end = end;
  left = left;
}

-- how the settle of an hour ends with this fault, and with this state where the last one has no certificate
abbrev pub end_with : Fault → Option Certified → SettleEnd
end_with f None = failed f
end_with f (Some tried) = without_certificate (round_of (claim_in tried) []) f

-- ---- as the code made it

abbrev pub round_in : Made → Round
round_in r = round_of (claim_in r.certified.value) (map seen r.acts.items)

abbrev pub rounds_in : List Made → List Round
rounds_in rounds = map round_in rounds

-- the settle of an hour as the code made it
abbrev pub settle_made : CircuitView → ℕ → Kept → List Made → SettleEnd → Positions → Settle
settle_made c hour l rounds end at = hour_settle c hour l (rounds_in rounds) end at

-- a settle of an hour of this circuit, by its number in the run
pub record IsSettleAt (circuit : CircuitView) (number hour : ℕ) (s : Settle) : Type 0 where
  pub circuit_is : s.circuit ≡ circuit
  pub number_is : s.number ≡ number
  pub hour_is : s.hour ≡ hour

-- ---- what can be printed

-- rounds of an hour that can be printed: numbers for each unknown in each of them, rounds that can be numbered, and the
-- positions that their acts left
pub record IsPrintable (c : CircuitView) (hour : ℕ) (rounds : List Made) (at : Positions) : Type 0 where
  pub ready : HasPassed c
  pub numbers : All (λ r. IsOfSize (size_of (layout_of c.elements)) (solution_in r)) (rounds_in rounds)
  pub claims : All (IsRoundOf (size_of (layout_of c.elements))) rounds
  pub few : length rounds < 2 ^ 32
  pub positions : ArePositions c (hour_powers c.elements hour) at

-- a state without a certificate can be printed
abbrev pub IsTriedOf : ℕ → Option Certified → Type 0
IsTriedOf size None = Unit {0}
IsTriedOf size (Some tried) = IsClaimOf size (claim_in tried)

-- A settle as data: where it started, its rounds, how it ended, and what it leaves.
use Rattle.std.specs.Prelude.{ℕ, ℤ, List}
use Rattle.fd_report.specs.dss_circuit.Circuit.{CircuitView}
use Rattle.fd_report.specs.fd_enclosure.Sound.{Claim, Support}
use Rattle.fd_report.specs.fd_queue.Controls.{Positions}
use Rattle.fd_report.specs.fd_queue.Machine.{Act, Machine}
use Rattle.fd_report.specs.declared.faults.Fault.{Fault}

-- A state that the procedure reaches, by place, in whole microvolts and microamperes, with its certificate: the radius
-- within which others lie of it, the half-width of the box of which these speak, the mismatch of each row, and what
-- shows these. And the acts of controls behind it, by the controls' numbers in the script's order.
pub record Round : Type 0 where
  pub centre : List ℤ
  pub radii : List ℕ
  pub boxes : List ℕ
  pub mismatches : List ℕ
  pub support : Support
  pub acts : List Act

-- a certified state, and the acts behind it
abbrev pub round_of : Claim → List Act → Round
round_of m acts = record {
  centre = m.centre;
  radii = m.radii;
  boxes = m.boxes;
  mismatches = m.mismatches;
  support = m.support;
  acts = acts;
}

-- the certificate of a round
abbrev pub claim_in : Round → Claim
claim_in r =
    record { centre = r.centre; radii = r.radii; mismatches = r.mismatches; boxes = r.boxes; support = r.support }

pub data SettleEnd : Type 0 where
  settled : SettleEnd
  failed : Fault → SettleEnd
  -- the last state has no certificate: what would have been claimed of it, with radii 0, and the fault
  without_certificate : Round → Fault → SettleEnd

-- of a circuit, by the number of its Solve in the run, from 1; the hour is 0 in a snapshot. It begins with this
-- machine: the positions of taps and banks, the last opening time of each bank, and where the time goes on with the
-- hours what the hour before left of the queue and of latest moves. It leaves the positions
pub record Settle : Type 0 where
  pub number : ℕ
  pub hour : ℕ
  pub circuit : CircuitView
  pub begun : Machine
  pub rounds : List Round
  pub end : SettleEnd
  pub left : Positions

use Rattle.std.proofs.Common.{◌≤◌, drop, map}
use Rattle.fd_pages.specs.fd_outcome.Settles.{Settle}
use Rattle.fd_pages.specs.Hours.{IsSettleAt, round_in}
use Rattle.fd_pages.specs.Rounds.{rounds_texts}
use Rattle.fd_solving.proofs.Parted.{IsWritten}
use Rattle.fd_solving.proofs.print.print_rounds.Given as goal

-- the texts of the rounds so far are written
abbrev pub invariant-loop-place : goal.invariant-loop-place
invariant-loop-place g l = record {
  later : g.S.Sink.faults l.initial.out ≤ g.S.Sink.faults l.out;
  written : (s : Settle) → IsSettleAt l.made.circuit.now l.made.number l.made.hour s
      → IsWritten g.S.Sink.taken g.S.Sink.calls g.P.Page.style.opening l.initial.begun l.initial.out l.out l.begun
      (rounds_texts g.P.Page.round_texts s l.place (map round_in (drop l.place l.made.rounds.now)))
      (rounds_texts g.P.Page.round_texts s 0 (map round_in l.made.rounds.now));
}

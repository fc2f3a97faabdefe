use Rattle.std.proofs.Common.{◌≡◌, ◌++◌, drop, map}
use Rattle.fd_outcome.specs.fd_outside.Emitted.{pieces_of}
use Rattle.fd_outcome.specs.fd_report.Lines.{lines_of}
use Rattle.fd_outcome.specs.Pages.{rounds_rows}
use Rattle.fd_outcome.specs.Settles.{Settle}
use Rattle.fd_pages.specs.Hours.{IsSettleAt, round_in}
use Rattle.fd_pages.proofs.records.add_rounds.Given as goal

-- the records so far and those of the rounds that are left
abbrev pub invariant-loop-place : goal.invariant-loop-place
invariant-loop-place l = (s : Settle) → IsSettleAt l.circuit l.number l.hour s →
    pieces_of l.into.items ++ lines_of (rounds_rows s l.place (map round_in (drop l.place l.rounds)))
    ≡ pieces_of l.fn.into.items ++ lines_of (rounds_rows s 0 (map round_in l.rounds))

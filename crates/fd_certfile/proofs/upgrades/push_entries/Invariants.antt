use Rattle.std.proofs.Common.{length}
use Rattle.std.specs.Option.{option_map}
use Rattle.fd_lines.specs.Cuts.{texts_of}
use Rattle.fd_certfile.proofs.UpgradedRows.{AreWritten}
use Rattle.fd_certfile.proofs.upgrades.push_entries.Given as goal

abbrev pub invariant-loop-rest : goal.invariant-loop-rest
invariant-loop-rest l =
    AreWritten l.fn.text.items l.text.items (texts_of (option_map (λ t. t.now) l.entries)) l.place l.count
    (texts_of (option_map (λ t. t.now) l.rest))

abbrev pub decreases-loop-rest : goal.decreases-loop-rest
decreases-loop-rest l = length (texts_of (option_map (λ t. t.now) l.rest))

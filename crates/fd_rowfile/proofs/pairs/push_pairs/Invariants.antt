use Rattle.std.specs.Option.{option_map}
use Rattle.fd_derived.specs.Rows.{entries_of}
use Rattle.fd_lines.specs.WordLines.{numbers_in}
use Rattle.fd_rowfile.specs.Held.{fits}
use Rattle.fd_rowfile.proofs.PairsTaken.{IsTaken}
use Rattle.fd_rowfile.proofs.pairs.push_pairs.Given as goal

abbrev pub invariant-loop-taken : goal.invariant-loop-taken
invariant-loop-taken l =
    IsTaken (fits l.fit) l.count (numbers_in (option_map (λ t. t.now) l.fn.fields)) (entries_of l.fn.entries.items) l._taken l.next
    (numbers_in (option_map (λ t. t.now) l.rest)) (entries_of l.entries.items)

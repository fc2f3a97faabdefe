use Rattle.std.specs.Option.{option_map}
use Rattle.fd_derived.specs.Rows.{entries_of}
use Rattle.fd_lines.specs.Cuts.{texts_of}
use Rattle.fd_lines.specs.WordLines.{numbers_in}
use Rattle.fd_lines.proofs.CallerLemmas.{first_some}
use Rattle.fd_rowfile.proofs.RowEnds.{row_past}
use Rattle.fd_rowfile.proofs.rows.row.Goals as goal

pub returns-in-Some-behind-clause-none : goal.returns-in-Some-behind-clause-none
returns-in-Some-behind-clause-none c =
    row_past c.args.below c.in-Some.height c.in-Some-behind.field-0.now (entries_of c.in-Some-2.equations.items)
    (entries_of c.in-Some-3.others.items) (entries_of c.in-Some-4.left.items)
    (numbers_in (option_map (λ t. t.now) c.args.fields)) (numbers_in (option_map (λ t. t.now) c.in-Some.lists))
    (numbers_in (option_map (λ t. t.now) c.in-Some-2.more)) (numbers_in (option_map (λ t. t.now) c.in-Some-3.last))
    (first_some (texts_of (option_map (λ t. t.now) c.args.fields)) c.in-Some.height (texts_of (option_map (λ t. t.now) c.in-Some.lists))
    c.in-Some.ensures)
    (rw c.in-Some-2.is at c.in_ok-equations.ensures.some) (rw c.in-Some-3.is at c.in_ok-others.ensures.some)
    (rw (c.in-Some-4.is, c.in-Some-behind.is) at c.in_ok-left.ensures.some)

use Rattle.fd_rowcert.proofs.CellRows.{entries_made, not_wide, small_cells, wide}
use Rattle.fd_rowcert.proofs.entries.row_entries.Goals as goal

pub returns-then-size_of-gt-SIZE_LIMIT-clause-wide : goal.returns-then-size_of-gt-SIZE_LIMIT-clause-wide
returns-then-size_of-gt-SIZE_LIMIT-clause-wide c = λ J h.
    wide c.args.matrix.now.size c.args.row h.at c.row-cells.result.now
    (c.row-cells.ensures h.at h.cells h.nothing) J h.entries
    c.size_of.result c.size_of.ensures c.if-size_of-gt-SIZE_LIMIT.true

pub entries-requires : goal.entries-requires
entries-requires c = small_cells c.row-cells.result.now c.size_of.result c.size_of.ensures
    c.if-size_of-gt-SIZE_LIMIT.false

pub returns-clause-wide : goal.returns-clause-wide
returns-clause-wide c = λ J h.
    not_wide c.args.matrix.now.size c.args.row h.at c.row-cells.result.now
    (c.row-cells.ensures h.at h.cells h.nothing) J h.entries
    c.size_of.result c.size_of.ensures c.if-size_of-gt-SIZE_LIMIT.false

pub returns-clause-entries : goal.returns-clause-entries
returns-clause-entries c = λ J h.
    entries_made c.args.matrix.now.size c.args.row h.at c.row-cells.result.now
    (c.row-cells.ensures h.at h.cells h.nothing) J h.entries
    (small_cells c.row-cells.result.now c.size_of.result c.size_of.ensures c.if-size_of-gt-SIZE_LIMIT.false)
    c.in_ok-entries.field-0.items c.in_ok-entries.ensures

use Rattle.std.proofs.Common.{get_or, ap, ◌∙◌}
use Rattle.fd_derived.specs.declared.entries.Row.{Row}
use Rattle.fd_lines.specs.WordLines.{line_bytes}
use Rattle.fd_lines.specs.fd_outside.Emitted.{pieces_of}
use Rattle.fd_rowfile.specs.Blocks.{row_line}
use Rattle.fd_rowfile.specs.Written.{made_row}
use Rattle.fd_rowfile.proofs.Writing.{pieces_pushed, zip_all, zip_pushed}
use Rattle.fd_rowfile.proofs.write.push_rows.Goals as goal

pub loop-place-preserved : goal.loop-place-preserved
loop-place-preserved c =
    zip_pushed row_line made_row (pieces_of c.args.records.now.items) (pieces_of c.loop-place.records.items)
    c.args.rows.now c.args.heights.now c.loop-place.place c.loop-place.invariant c.requires.long (pieces_of c.push.new.self.items)
    c.index-rows-place.result 0 c.in_ok-row_record.field-0.bytes
    (pieces_pushed c.loop-place.records.items c.push.new.self.items c.in_ok-row_record.field-0 c.in_ok-push.ensures.items)
    (c.in_ok-row_record.ensures
    ∙ ap (λ (r : Row). line_bytes (row_line c.loop-place.place (made_row (r, get_or c.args.heights.now c.loop-place.place 0)))) c.index-rows-place.is)
    c.loop-place-test.true

pub returns : goal.returns
returns c =
    zip_all row_line made_row (pieces_of c.args.records.now.items) (pieces_of c.loop-place.records.items)
    c.args.rows.now c.args.heights.now c.loop-place.place c.loop-place.invariant c.requires.long c.loop-place-test.false

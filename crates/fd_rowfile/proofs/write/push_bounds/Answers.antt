use Rattle.fd_lines.specs.fd_outside.Emitted.{pieces_of}
use Rattle.fd_rowfile.specs.Blocks.{bound_line}
use Rattle.fd_rowfile.specs.Written.{made_bound}
use Rattle.fd_rowfile.proofs.Writing.{pieces_pushed, zip_all, zip_pushed}
use Rattle.fd_rowfile.proofs.write.push_bounds.Goals as goal

pub loop-place-preserved : goal.loop-place-preserved
loop-place-preserved c =
    zip_pushed bound_line made_bound (pieces_of c.args.records.now.items) (pieces_of c.loop-place.records.items)
    c.args.bounding.now c.args.bounds.now c.loop-place.place c.loop-place.invariant c.requires.long (pieces_of c.push.new.self.items)
    0 0 c.in_ok-bound_record.field-0.bytes
    (pieces_pushed c.loop-place.records.items c.push.new.self.items c.in_ok-bound_record.field-0 c.in_ok-push.ensures.items)
    c.in_ok-bound_record.ensures c.loop-place-test.true

pub returns : goal.returns
returns c =
    zip_all bound_line made_bound (pieces_of c.args.records.now.items) (pieces_of c.loop-place.records.items)
    c.args.bounding.now c.args.bounds.now c.loop-place.place c.loop-place.invariant c.requires.long c.loop-place-test.false

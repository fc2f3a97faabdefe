use Rattle.fd_settle.specs.fd_cert.Claims.{claim_in}
use Rattle.fd_lines.specs.fd_outside.Emitted.{pieces_of}
use Rattle.fd_certfile.specs.Blocks.{part_line}
use Rattle.fd_certfile.specs.Lines.{line_bytes}
use Rattle.fd_certfile.specs.Rounds.{part_in}
use Rattle.fd_certfile.proofs.Writing.{list_pushed, pieces_pushed}
use Rattle.fd_certfile.proofs.write.push_parts.Goals as goal

pub loop-place-preserved : goal.loop-place-preserved
loop-place-preserved c =
    list_pushed (pieces_of c.args.records.now.items) (pieces_of c.loop-place.records.items)
    (pieces_of c.push.new.self.items) c.loop-place.place
    (λ i. line_bytes (part_line i (part_in (claim_in c.args.certified.now) i))) c.in_ok-part_record.field-0.bytes
    c.loop-place.invariant
    (pieces_pushed c.loop-place.records.items c.push.new.self.items c.in_ok-part_record.field-0 c.in_ok-push.ensures.items)
    c.in_ok-part_record.ensures

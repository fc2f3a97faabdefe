use Rattle.std.specs.Prelude.{map}
use Rattle.fd_lines.specs.WordLines.{lines_of}
use Rattle.fd_rowfile.specs.Blocks.{part_at}
use Rattle.fd_rowfile.specs.Views.{part}
use Rattle.fd_rowfile.proofs.ReadTo.{read_pushed, read_stopped}
use Rattle.fd_rowfile.proofs.block.parts.Goals as goal

pub returns-in-None : goal.returns-in-None
returns-in-None c =
    read_stopped part_at c.args.count (lines_of c.args.bytes.now) c.loop-place.place (map part c.loop-place.found.items)
    (lines_of c.loop-place.rest.now) c.loop-place.invariant c.loop-place-test.true (lines_of c.loop-place.rest.now)
    c.in-None.ensures.none

pub loop-place-preserved : goal.loop-place-preserved
loop-place-preserved c =
    read_pushed part_at part c.args.count (lines_of c.args.bytes.now) c.loop-place.place c.loop-place.found.items
    c.push.new.self.items c.in-Some.part (lines_of c.loop-place.rest.now) (lines_of c.in-Some.more.now) c.loop-place.invariant
    c.loop-place-test.true c.in-Some.ensures.some c.in_ok-push-in-Some.ensures.items

use Rattle.std.proofs.Common.{◌++◌, subst, rules}
use Rattle.std.specs.Prelude.{map}
use Rattle.fd_lines.specs.fd_outside.Emitted.{pieces_of}
use Rattle.fd_certfile.specs.Lines.{line_bytes, line_of, lines_of}
use Rattle.fd_certfile.specs.Upgrade.{AreKnown, upgraded}
use Rattle.fd_certfile.proofs.Lines.{of_last}
use Rattle.fd_certfile.proofs.Reading.{lines_cut}
use Rattle.fd_certfile.proofs.Upgrading.{line_pushed, lines_pushed}
use Rattle.fd_certfile.proofs.Writing.{pieces_pushed}
use Rattle.fd_certfile.proofs.upgrades.push_lines.Goals as goal

pub upgraded_line-requires : goal.upgraded_line-requires
upgraded_line-requires c =
    (subst AreKnown (lines_cut c.loop-text.rest.now c.in-Some.text.now c.in-Some.more.now c.in-Some.ensures.before c.in-Some.ensures.whole)
    c.loop-text.invariant.known).0

pub loop-text-preserved : goal.loop-text-preserved
loop-text-preserved c =
    let here = lines_cut c.loop-text.rest.now c.in-Some.text.now c.in-Some.more.now c.in-Some.ensures.before c.in-Some.ensures.whole in
    record {
      lines = line_pushed c.args.version
          (pieces_of c.args.records.now.items ++ map line_bytes (map (upgraded c.args.version) (lines_of c.args.bytes.now)))
          (pieces_of c.loop-text.records.items) (pieces_of c.push.new.self.items) (lines_of c.loop-text.rest.now)
          (line_of c.in-Some.text.now) (lines_of c.in-Some.more.now) c.in_ok-upgraded_line.field-0.bytes
          c.loop-text.invariant.lines here c.in_ok-upgraded_line.ensures
          (pieces_pushed c.loop-text.records.items c.push.new.self.items c.in_ok-upgraded_line.field-0 c.in_ok-push.ensures.items);
      known = (subst AreKnown here c.loop-text.invariant.known).1;
    }

pub returns : goal.returns
returns c =
    lines_pushed c.args.version
    (pieces_of c.args.records.now.items ++ map line_bytes (map (upgraded c.args.version) (lines_of c.args.bytes.now)))
    (pieces_of c.loop-text.records.items) (lines_of c.loop-text.rest.now) c.loop-text.rest.now
    c.loop-text.invariant.lines (of_last c.loop-text.rest.now (search rules)) c.loop-text.invariant.known

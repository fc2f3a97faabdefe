use Rattle.std.proofs.Common.{◌∙◌, sym}
use Rattle.fd_picture.proofs.LineSteps.{byte_read, last_read, line_read, none_read}
use Rattle.fd_picture.proofs.lines.next_line.Goals as goal

pub loop-i-init : goal.loop-i-init
loop-i-init c = none_read c.args.bytes.now

pub loop-i-preserved : goal.loop-i-preserved
loop-i-preserved c =
    byte_read c.args.bytes.now c.loop-i.i c.loop-i.quoted _ _ c.loop-i-test.true
    (sym c.ends_line.ensures ∙ c.if-ends_line.false) c.is_quoted_after-quoted.ensures c.loop-i.invariant

pub returns-then-ends_line : goal.returns-then-ends_line
returns-then-ends_line c = record {
  lines = line_read c.args.bytes.now c.loop-i.i c.loop-i.quoted _ c.loop-i-test.true
      (sym c.ends_line.ensures ∙ c.if-ends_line.true) c.loop-i.invariant;
}

pub returns : goal.returns
returns c = record { lines = last_read c.args.bytes.now c.loop-i.i c.loop-i.quoted _ c.requires c.loop-i-test.false c.loop-i.invariant }

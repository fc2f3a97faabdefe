use Rattle.std.proofs.Common.{◌∙◌, ◌<◌, arith, length, sym}
use Rattle.csv.specs.Records.{fields_of}
use Rattle.fd_picture.proofs.ReadSteps.{spaced_next}
use Rattle.fd_picture.proofs.fields.spaced.Goals as goal

pub loop-i-preserved : goal.loop-i-preserved
loop-i-preserved c =
    let within : c.loop-i.i < length (fields_of c.args.row.now) = omega (arith, c.loop-i-test.true, c.len-i-end.ensures) in
    c.in_ok-push_field.ensures ∙ rw (c.at.ensures, c.loop-i.invariant) (sym (spaced_next (fields_of c.args.row.now) c.loop-i.i within))

use Rattle.std.proofs.Common.{◌≡◌, take}
use Rattle.csv.specs.Records.{fields_of}
use Rattle.fd_picture.specs.Fields.{spaced}
use Rattle.fd_picture.proofs.fields.spaced.Given as goal

abbrev pub invariant-loop-i : goal.invariant-loop-i
invariant-loop-i l = l.text.items ≡ spaced (take l.i (fields_of l.row))

use Rattle.std.proofs.Common.{◌≡◌, take, drop}
use Rattle.fd_picture.specs.Lines.{lines_from, lines_of}
use Rattle.fd_picture.proofs.LineSteps.{before}
use Rattle.fd_picture.proofs.lines.next_line.Given as goal

abbrev pub invariant-loop-i : goal.invariant-loop-i
invariant-loop-i l = lines_of l.bytes ≡ before (take l.i l.bytes) (lines_from l.quoted (drop l.i l.bytes))

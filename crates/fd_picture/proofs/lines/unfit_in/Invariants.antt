use Rattle.std.proofs.Common.{◌≡◌}
use Rattle.fd_picture.specs.Lines.{first_unfit, lines_of, unfit_in}
use Rattle.fd_picture.proofs.lines.unfit_in.Given as goal

abbrev pub invariant-loop-number : goal.invariant-loop-number
invariant-loop-number l = unfit_in l.fn.bytes ≡ first_unfit l.number (lines_of l.rest)

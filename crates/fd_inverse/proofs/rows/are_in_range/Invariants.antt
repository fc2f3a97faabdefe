use Rattle.std.proofs.Common.{◌≡◌, true}
use Rattle.fd_arith.specs.fd_exact.States.{part}
use Rattle.fd_inverse.specs.Numbers.{each_below, in_range}
use Rattle.fd_inverse.proofs.rows.are_in_range.Given as goal

abbrev pub invariant-loop-entry : goal.invariant-loop-entry
invariant-loop-entry l = each_below (λ k. in_range (part l.row k)) l.entry-index ≡ true

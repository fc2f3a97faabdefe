use Rattle.std.proofs.Common.{◌≡◌, ◌+◌, take}
use Rattle.fd_substitution.specs.fd_derived.Rows.{number_at}
use Rattle.fd_substitution.specs.fd_derived.Sums.{capped}
use Rattle.fd_bounds.specs.Defects.{weighed}
use Rattle.fd_bounds.proofs.defects.plus_defects.Given as goal

abbrev pub invariant-loop-defect : goal.invariant-loop-defect
invariant-loop-defect l = l.whole ≡ capped (l.fn.total + weighed (take l.defect-index l.defects) (number_at l.bounds))

use Rattle.std.proofs.Common.{◌≡◌, Ok, false}
use Rattle.fd_equations.specs.fd_pattern.Conditions.{IsPoint}
use Rattle.fd_inject.specs.Procedure.{iterated}
use Rattle.fd_inject.proofs.procedure.iterate_from.Given as goal

abbrev pub invariant-loop-number : goal.invariant-loop-number
invariant-loop-number l = record {
  reached : iterated l.net l.limits l.inverse l.initial.x l.number ≡ Ok (record { number = l.number; x = l.x; is_last = false });
  point : IsPoint l.net l.x;
}

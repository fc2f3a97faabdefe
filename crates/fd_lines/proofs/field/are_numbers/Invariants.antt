use Rattle.std.proofs.Common.{◌≡◌, is_some, length}
use Rattle.std.specs.Option.{option_map}
use Rattle.fd_lines.specs.Cuts.{texts_of}
use Rattle.fd_lines.specs.Numbers.{numbers_of}
use Rattle.fd_lines.proofs.field.are_numbers.Given as goal

abbrev pub invariant-loop-rest : goal.invariant-loop-rest
invariant-loop-rest l = is_some (numbers_of (texts_of (option_map (λ t. t.now) l.fields)))
    ≡ is_some (numbers_of (texts_of (option_map (λ t. t.now) l.rest)))

abbrev pub decreases-loop-rest : goal.decreases-loop-rest
decreases-loop-rest l = length (texts_of (option_map (λ t. t.now) l.rest))

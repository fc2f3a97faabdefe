use Rattle.std.proofs.Common.{◌≡◌, ◌-◌}
use Rattle.fd_picture.specs.Scales.{step_for, step_from}
use Rattle.fd_picture.proofs.scale.step_for.Given as goal

abbrev pub invariant-loop-decade : goal.invariant-loop-decade
invariant-loop-decade l = step_for l.range ≡ step_from (19 - l.decade) l.decade l.range

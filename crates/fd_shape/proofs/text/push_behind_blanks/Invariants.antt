use Rattle.std.proofs.Common.{◌≡◌, ◌++◌, drop}
use Rattle.fd_shape.specs.Text.{behind_blanks}
use Rattle.fd_shape.proofs.text.push_behind_blanks.Given as goal

abbrev pub invariant-loop-value : goal.invariant-loop-value
invariant-loop-value l = l.text.items ++ behind_blanks (drop l.value-index l.values) ≡ l.initial.text.items ++ behind_blanks l.values

use Rattle.std.proofs.Common.{◌≡◌, None, fold, take}
use Rattle.fd_picture.specs.Scales.{widened_by}
use Rattle.fd_picture.proofs.scale.axis_of.Given as goal

abbrev pub invariant-loop-strip : goal.invariant-loop-strip
invariant-loop-strip l = l.axis ≡ fold (λ axis panel. widened_by l.bases l.per_unit axis panel.nodes) None (take l.strip-index l.strips)

use Rattle.std.proofs.Common.{◌≡◌, fold, take}
use Rattle.fd_picture.specs.Scales.{widened_near}
use Rattle.fd_picture.specs.Units.{span_of}
use Rattle.fd_picture.proofs.scale.widened_by.Given as goal

abbrev pub invariant-loop-node : goal.invariant-loop-node
invariant-loop-node l = l.axis ≡ fold (λ axis node. widened_near l.per_unit axis (span_of l.bases l.per_unit node)) l.fn.axis (take l.node-index l.nodes)

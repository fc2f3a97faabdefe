use Rattle.std.proofs.Common.{◌≡◌, take}
use Rattle.std.specs.List.{flat_map}
use Rattle.fd_picture.specs.Strips.{strips_of}
use Rattle.fd_picture.proofs.strips.drawn.Given as goal

abbrev pub invariant-loop-panel : goal.invariant-loop-panel
invariant-loop-panel l = l.strips.items ≡ flat_map strips_of (take l.panel-index l.panels)

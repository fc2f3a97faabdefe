use Rattle.std.proofs.Common.{◌≡◌, take, true}
use Rattle.std.specs.List.{list_all}
use Rattle.fd_picture.specs.Units.{have_bases}
use Rattle.fd_picture.proofs.units.is_per_unit.Given as goal

abbrev pub invariant-loop-strip : goal.invariant-loop-strip
invariant-loop-strip l = list_all (λ panel. have_bases l.bases panel.nodes) (take l.strip-index l.strips) ≡ true

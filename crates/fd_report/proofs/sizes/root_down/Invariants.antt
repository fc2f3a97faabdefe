use Rattle.std.proofs.Common.{◌+◌, ◌*◌, ◌<◌, ◌≤◌, ◌^◌}
use Rattle.fd_report.proofs.sizes.root_down.Given as goal

abbrev pub invariant-loop-root : goal.invariant-loop-root
invariant-loop-root l = record {
  small : l.root ≤ 2 ^ 42;
  -- it isn't below the root
  above : l.fn.n < (l.root + 1) * (l.root + 1);
}

abbrev pub decreases-loop-root : goal.decreases-loop-root
decreases-loop-root l = l.root

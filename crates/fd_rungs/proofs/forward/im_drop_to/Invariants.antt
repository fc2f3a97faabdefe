use Rattle.std.proofs.Common.{◌≡◌, ◌≤◌, ◌*◌, ◌^◌, nat_abs}
use Rattle.fd_pattern.specs.fd_load.fd_exact.Sums.{sum_z}
use Rattle.fd_rungs.specs.Passes.{im_drop_at}
use Rattle.fd_rungs.proofs.forward.im_drop_to.Given as goal

abbrev pub invariant-loop-m : goal.invariant-loop-m
invariant-loop-m l = record {
  value : l.drop ≡ sum_z (im_drop_at l.branch l.x) l.m;
  small : nat_abs l.drop ≤ l.m * 2 ^ 103;
}

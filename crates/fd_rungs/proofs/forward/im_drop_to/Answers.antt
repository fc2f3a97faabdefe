use Rattle.std.proofs.Common.{◌<◌, to_z, arith}
use Rattle.std.specs.Int.{w128}
use Rattle.fd_rungs.specs.Passes.{im_drop_at}
use Rattle.fd_rungs.proofs.Drops.{sum_fits, sum_small, sum_value}
use Rattle.fd_rungs.proofs.forward.im_drop_to.Goals as goal

pub overflow_add-drop : goal.overflow_add-drop
overflow_add-drop c =
    sum_fits c.loop-m.m (to_z w128 c.loop-m.drop-bits) c.im_drop_at-drop.result
    (omega (arith, c.loop-m-test.true, c.requires.few)) c.loop-m.invariant.small c.im_drop_at-drop.ensures.small

pub loop-m-preserved : goal.loop-m-preserved
loop-m-preserved c =
    let few : c.loop-m.m < 3 = omega (arith, c.loop-m-test.true, c.requires.few) in
    record {
      value = sum_value (im_drop_at c.args.branch.now c.args.x.now) c.loop-m.m (to_z w128 c.loop-m.drop-bits)
          c.im_drop_at-drop.result few c.loop-m.invariant.small c.im_drop_at-drop.ensures.small c.loop-m.invariant.value
          c.im_drop_at-drop.ensures.value;
      small = sum_small c.loop-m.m (to_z w128 c.loop-m.drop-bits) c.im_drop_at-drop.result few c.loop-m.invariant.small
          c.im_drop_at-drop.ensures.small;
    }

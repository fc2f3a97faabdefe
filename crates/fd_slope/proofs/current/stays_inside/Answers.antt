use Rattle.fd_load.proofs.CallerLemmas.{part_kept}
use Rattle.fd_slope.proofs.SquareSizes.{low_kept}
use Rattle.fd_slope.proofs.current.stays_inside.Goals as goal

pub above-low-requires : goal.above-low-requires
above-low-requires c =
    record { number = low_kept c.args.load.now c.requires.load; width = c.requires.around.widths.magnitude }

pub above-high-requires : goal.above-high-requires
above-high-requires c =
    let a = c.requires.around in
    record { number = part_kept c.args.b.now.m a.voltages.magnitude; width = a.widths.magnitude }

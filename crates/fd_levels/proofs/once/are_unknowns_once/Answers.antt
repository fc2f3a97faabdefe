use Rattle.std.proofs.Common.{map}
use Rattle.fd_levels.proofs.Taking.{free_once}
use Rattle.fd_levels.proofs.once.are_unknowns_once.Goals as goal

pub loop-pair-init : goal.loop-pair-init
loop-pair-init c =
    free_once c.args.size c.in_ok-taken.taken.items (map (λ p. p.unknown) c.args.pairs.now) (c.in_ok-taken.ensures.items_if_clones_equal (λ y h. h))

use Rattle.std.proofs.Common.{◌∷◌, ℤ, pos, get_or, FitsSigned, arith, refl}
use Rattle.std.proofs.lemmas.Int.{ints, to_z-of_z, fits_signed_from_abs}
use Rattle.std.specs.Int.{w128}
use Rattle.dss_layout.specs.fd_exact.Ranges.{IsBetween}
use Rattle.dss_layout.specs.dss_model.Ranges.{ones}
use Rattle.fd_bases.proofs.Chosen.{either, next_best, last_best}
use Rattle.fd_bases.proofs.nearest.nearest.Goals as goal

fits : (z : ℤ) → IsBetween (pos 1_000_000) (ones 1000) z → FitsSigned w128 z
fits z h = fits_signed_from_abs w128 z (omega (arith, ints, h.least, h.most))

pub loop-base-preserved : goal.loop-base-preserved
loop-base-preserved c =
    let xs = c.args.others.now in
    let i = c.loop-base.base-index in
    let b = get_or xs i (pos 0) in
    let in_range : IsBetween (pos 1_000_000) (ones 1000) b = c.requires.others_in_range i (pos 0) c.loop-base-test.true in
    let said = simp (to_z-of_z w128 b (fits b in_range)) at c.nearer-best.ensures in
    let r = c.nearer-best.result in
    let r_in_range : IsBetween (pos 1_000_000) (ones 1000) r =
    either (IsBetween (pos 1_000_000) (ones 1000)) _ b r said.one_of_them in_range c.loop-base.invariant.in_range in
    rw (to_z-of_z w128 r (fits r r_in_range)) (record {
      in_range = r_in_range;
      chosen = next_best c.args.nominal _ xs i _ b r c.loop-base-test.true refl said.one_of_them said.before_base
          said.before_other c.loop-base.invariant.chosen;
    })

pub returns : goal.returns
returns c =
    let so_far = simp (to_z-of_z w128 c.args.first (fits c.args.first c.requires.first_in_range)) at c.loop-base.invariant.chosen in
    last_best c.args.nominal (c.args.first ∷ c.args.others.now) c.args.others.now c.loop-base.base-index _ c.loop-base-test.false so_far

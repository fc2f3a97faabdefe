use Rattle.std.proofs.Common.{◌≡◌, ◌∙◌, ◌<◌, length, refl, arith, FitsSigned, to_z, of_z, rules}
use Rattle.std.specs.Int.{w64, w128}
use Rattle.std.proofs.lemmas.Int.{fits_signed_from_abs, to_z-of_z}
use Rattle.fd_mat.specs.Sparse.{held}
use Rattle.fd_inverse.proofs.HeldStarts.{left_more}
use Rattle.fd_inverse.proofs.cells.write_held.Goals as goal

pub loop-entry-preserved : goal.loop-entry-preserved
loop-entry-preserved c =
    let hs = c.args.entries.now in
    let k = c.loop-entry.entry-index in
    let l : k < length hs = omega (arith, c.loop-entry-test.true) in
    let wide : FitsSigned w128 (held hs k).value = search rules in
    let small = c.requires.small k l in
    let half : FitsSigned w64 (held hs k).value = fits_signed_from_abs w64 (held hs k).value (omega arith) in
    left_more c.args.n c.loop-entry.cells hs k (held hs k) (to_z w64 (of_z w64 (to_z w128 (of_z w128 (held hs k).value)))) (c.loop-entry.auto.cells ∙ c.requires.shape) c.requires.rising l refl
    (c.requires.inside k l) (rw (to_z-of_z w128 (held hs k).value wide) (to_z-of_z w64 (held hs k).value half)) c.loop-entry.invariant

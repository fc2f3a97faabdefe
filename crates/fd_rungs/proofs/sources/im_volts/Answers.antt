use Rattle.std.proofs.Common.{◌≡◌, ◌∙◌, ◌+◌, ◌*◌, ◌≤◌, ◌^◌, nat_abs, ap, arith}
use Rattle.fd_pattern.specs.fd_load.fd_exact.States.{part}
use Rattle.fd_source.specs.Phasors.{volts_im}
use Rattle.fd_rungs.proofs.Drops.{kept_by}
use Rattle.fd_rungs.proofs.Volts.{im_is, im_most}
use Rattle.fd_rungs.proofs.sources.im_volts.Goals as goal

pub returns : goal.returns
returns c =
    let s = c.args._source.now in
    let value : c.part.result ≡ volts_im s c.args.k =
    c.part.ensures.value ∙ ap (λ xs. part xs (2 * c.args.k + 1)) c.requires.volts ∙ im_is s c.args.k c.requires.k_in in
    let small : nat_abs c.part.result ≤ 2 ^ 41 = rw value (im_most s c.args.k c.requires.source) in
    let kept = kept_by c.part.result (omega (arith, small)) in
    record { value = kept ∙ value; small = rw kept small }

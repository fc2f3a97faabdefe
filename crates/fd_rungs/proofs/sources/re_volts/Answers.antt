use Rattle.std.proofs.Common.{◌≡◌, ◌∙◌, ◌+◌, ◌*◌, ◌≤◌, ◌^◌, nat_abs, ap, arith}
use Rattle.fd_pattern.specs.fd_load.fd_exact.States.{part}
use Rattle.fd_source.specs.Phasors.{volts_re}
use Rattle.fd_rungs.proofs.Drops.{kept_by}
use Rattle.fd_rungs.proofs.Volts.{re_is, re_most}
use Rattle.fd_rungs.proofs.sources.re_volts.Goals as goal

pub returns : goal.returns
returns c =
    let s = c.args._source.now in
    let value : c.part.result ≡ volts_re s c.args.k =
    c.part.ensures.value ∙ ap (λ xs. part xs (2 * c.args.k)) c.requires.volts ∙ re_is s c.args.k c.requires.k_in in
    let small : nat_abs c.part.result ≤ 2 ^ 41 = rw value (re_most s c.args.k c.requires.source) in
    let kept = kept_by c.part.result (omega (arith, small)) in
    record { value = kept ∙ value; small = rw kept small }

use Rattle.std.proofs.Common.{◌≡◌, ◌∙◌, ◌*◌, ◌^◌, pos, ◌*ℤ◌, Some, arith, ap, rules, to_z, of_z, nat_abs}
use Rattle.std.specs.Int.{w128}
use Rattle.std.proofs.lemmas.Int.{to_z_pos}
use Rattle.fd_load.specs.fd_exact.Quotients.{ceil_nat_least}
use Rattle.fd_load.specs.fd_exact.Rounding.{ceil_div}
use Rattle.fd_load.specs.fd_arith.Limits.{bounded}
use Rattle.fd_slope.specs.Radii.{at_scale}
use Rattle.fd_slope.proofs.Bounded.{quotient_some, read_natural, same_value}
use Rattle.fd_slope.proofs.rounding.at_scale.Goals as goal
use Rattle.fd_slope.proofs.rounding.at_scale.Goals.{After-unwrap}

pub unwrap-requires : goal.unwrap-requires
unwrap-requires c =
    let n = to_z_pos w128 c.args.n (omega (arith, c.requires.number)) in
    let d = to_z_pos w128 c.args.d (omega (arith, c.requires.divisor)) in
    let k : c.ceil_at.result ≡ Some (pos (at_scale c.args.n c.args.d)) =
    c.ceil_at.ensures ∙ (λ i. bounded (ceil_div (n i *ℤ pos (2 ^ 40)) (nat_abs (d i))))
    ∙ quotient_some c.args.n c.args.d c.requires.positive c.requires.small in
    rw k (search rules)

value : (c : After-unwrap) → nat_abs (to_z w128 (of_z w128 c.unwrap.result)) ≡ at_scale c.args.n c.args.d
value c =
    let n = to_z_pos w128 c.args.n (omega (arith, c.requires.number)) in
    let d = to_z_pos w128 c.args.d (omega (arith, c.requires.divisor)) in
    let k : c.ceil_at.result ≡ Some (pos (at_scale c.args.n c.args.d)) =
    c.ceil_at.ensures ∙ (λ i. bounded (ceil_div (n i *ℤ pos (2 ^ 40)) (nat_abs (d i))))
    ∙ quotient_some c.args.n c.args.d c.requires.positive c.requires.small in
    let u : c.unwrap.result ≡ pos (at_scale c.args.n c.args.d) = same_value c.unwrap.ensures k in
    let most = ceil_nat_least (c.args.n * 2 ^ 40) c.args.d (2 ^ 99) c.requires.positive c.requires.small in
    ap (λ z. nat_abs (to_z w128 (of_z w128 z))) u ∙ ap nat_abs (read_natural (at_scale c.args.n c.args.d) (omega (arith, most)))

pub returns-clause-value : goal.returns-clause-value
returns-clause-value c = value c

pub returns-clause-within : goal.returns-clause-within
returns-clause-within c = λ k h. rw (value c) (ceil_nat_least (c.args.n * 2 ^ 40) c.args.d k c.requires.positive h)

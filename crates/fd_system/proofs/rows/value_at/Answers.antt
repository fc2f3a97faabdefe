use Rattle.std.proofs.Common.{rules, ◌∙◌, ◌*ℤ◌, ◌^◌, pos, get_or}
use Rattle.std.specs.Int.{w128}
use Rattle.std.specs.Int.RustNames.{unsigned_abs}
use Rattle.std.proofs.lemmas.Int.{to_z-of_z}
use Rattle.fd_arith.specs.Interval.{product, capped, outward}
use Rattle.fd_system.proofs.rows.value_at.Goals as goal

pub returns : goal.returns
returns c =
    let t = c.args.term.now in
    let x = get_or c.args.x.now t.col (pos 0) in
    let p = to_z-of_z w128 x (search rules) in
    let n = to_z-of_z w128 t.num (search rules) in
    let d = to_z-of_z w128 t.den (search rules) in
    let a = c.exact-at.ensures in
    let f = c.factor.ensures in
    c.times.ensures ∙ (λ i. product (a i) (f i)) ∙ (λ i. product (capped (p i) (p i)) (outward (n i *ℤ pos (2 ^ 40)) (unsigned_abs (d i))))

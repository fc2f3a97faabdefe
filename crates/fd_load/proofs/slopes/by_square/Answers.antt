use Rattle.std.proofs.Common.{◌≡◌, ◌∙◌, ◌*◌, ◌≤◌, ◌^◌, pos, ◌*ℤ◌, nat_abs, arith, ap, refl, FitsSigned}
use Rattle.std.specs.Int.{w128}
use Rattle.std.proofs.lemmas.Int.{to_z-of_z, fits_signed_from_abs}
use Rattle.fd_load.specs.Current.{clamped_square, largest}
use Rattle.fd_load.specs.Slopes.{fine_current, near_units, square_is_inside}
use Rattle.fd_load.proofs.Bounds.{product_most, taken}
use Rattle.fd_system.specs.fd_exact.ReadBack.{read_back}
use Rattle.fd_load.proofs.slopes.by_square.Goals as goal

pub by_part-requires-clause-product : goal.by_part-requires-clause-product
by_part-requires-clause-product c =
    let a = largest c.args.p c.args.q in
    let p : FitsSigned w128 c.args.p = c.ranges.p in
    let q : FitsSigned w128 c.args.q = c.ranges.q in
    let most = simp to_z-of_z at c.current_over-current.ensures.most in
    let i : FitsSigned w128 c.current_over-current.result =
    fits_signed_from_abs w128 c.current_over-current.result (omega (arith, c.current_over-current.ensures.small)) in
    let inside = simp to_z-of_z at (c.if-not-square_is_inside.ensures.inside refl) in
    let d = simp to_z-of_z at c.clamped_square-c.ensures.value in
    let h : a * a ≤ c.clamped_square-c.result = rw d inside in
    simp to_z-of_z (product_most (nat_abs c.args.p) (nat_abs c.current_over-current.result) a c.clamped_square-c.result (omega arith) most h)

pub by_part-requires-2-clause-product : goal.by_part-requires-2-clause-product
by_part-requires-2-clause-product c =
    let a = largest c.args.p c.args.q in
    let p : FitsSigned w128 c.args.p = c.ranges.p in
    let q : FitsSigned w128 c.args.q = c.ranges.q in
    let most = simp to_z-of_z at c.current_over-current.ensures.most in
    let i : FitsSigned w128 c.current_over-current.result =
    fits_signed_from_abs w128 c.current_over-current.result (omega (arith, c.current_over-current.ensures.small)) in
    let inside = simp to_z-of_z at (c.if-not-square_is_inside.ensures.inside refl) in
    let d = simp to_z-of_z at c.clamped_square-c.ensures.value in
    let h : a * a ≤ c.clamped_square-c.result = rw d inside in
    simp to_z-of_z (product_most (nat_abs c.args.q) (nat_abs c.current_over-current.result) a c.clamped_square-c.result (omega arith) most h)

pub returns-clause-p : goal.returns-clause-p
returns-clause-p c =
    let w = c.args.load.now in
    let p : FitsSigned w128 c.args.p = c.ranges.p in
    let q : FitsSigned w128 c.args.q = c.ranges.q in
    let n : FitsSigned w128 c.args.n = c.ranges.n in
    let i : FitsSigned w128 c.current_over-current.result =
    fits_signed_from_abs w128 c.current_over-current.result (omega (arith, c.current_over-current.ensures.small)) in
    let same = read_back c.by_part.result (2 ^ 53) c.by_part.ensures.most (omega arith) in
    let e = simp to_z-of_z at c.by_part.ensures.value in
    let f : c.current_over-current.result ≡ fine_current c.args.n c.clamped_square-c.result = simp to_z-of_z at c.current_over-current.ensures.value in
    let g : c.clamped_square-c.result ≡ clamped_square w c.args.p c.args.q = simp to_z-of_z at c.clamped_square-c.ensures.value in
    let t = simp to_z-of_z at c.if-not-square_is_inside.ensures.value in
    same ∙ e
    ∙ ap (λ z. near_units (pos 2 *ℤ c.args.p *ℤ z) (2 ^ 20 * c.clamped_square-c.result)) f
    ∙ ap (λ k. near_units (pos 2 *ℤ c.args.p *ℤ fine_current c.args.n k) (2 ^ 20 * k)) g
    ∙ taken (square_is_inside w c.args.p c.args.q) _ _ t

pub returns-clause-q : goal.returns-clause-q
returns-clause-q c =
    let w = c.args.load.now in
    let p : FitsSigned w128 c.args.p = c.ranges.p in
    let q : FitsSigned w128 c.args.q = c.ranges.q in
    let n : FitsSigned w128 c.args.n = c.ranges.n in
    let i : FitsSigned w128 c.current_over-current.result =
    fits_signed_from_abs w128 c.current_over-current.result (omega (arith, c.current_over-current.ensures.small)) in
    let same = read_back c.by_part-2.result (2 ^ 53) c.by_part-2.ensures.most (omega arith) in
    let e = simp to_z-of_z at c.by_part-2.ensures.value in
    let f : c.current_over-current.result ≡ fine_current c.args.n c.clamped_square-c.result = simp to_z-of_z at c.current_over-current.ensures.value in
    let g : c.clamped_square-c.result ≡ clamped_square w c.args.p c.args.q = simp to_z-of_z at c.clamped_square-c.ensures.value in
    let t = simp to_z-of_z at c.if-not-square_is_inside.ensures.value in
    same ∙ e
    ∙ ap (λ z. near_units (pos 2 *ℤ c.args.q *ℤ z) (2 ^ 20 * c.clamped_square-c.result)) f
    ∙ ap (λ k. near_units (pos 2 *ℤ c.args.q *ℤ fine_current c.args.n k) (2 ^ 20 * k)) g
    ∙ taken (square_is_inside w c.args.p c.args.q) _ _ t

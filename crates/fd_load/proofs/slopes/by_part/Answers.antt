use Rattle.std.proofs.Common.{◌∙◌, ℕ, ◌*◌, ◌≤◌, ◌^◌, ℤ, pos, ◌*ℤ◌, nat_abs, arith, FitsSigned}
use Rattle.std.specs.Int.{w128}
use Rattle.std.proofs.lemmas.Int.{to_z-of_z, fits_signed_from_abs, unsigned_abs-mul}
use Rattle.fd_load.proofs.Bounds.{part_most}
use Rattle.fd_system.specs.fd_exact.ReadBack.{read_back}
use Rattle.fd_load.proofs.slopes.by_part.Goals as goal

module _ (v i : ℤ) (k : ℕ) (hv : nat_abs v ≤ 2 ^ 41) (hk : k ≤ 4 * 10 ^ 24)
    (h : nat_abs v * nat_abs i ≤ 2 ^ 32 * k) where
  double_fits : FitsSigned w128 (pos 2 *ℤ v)
  double_fits = fits_signed_from_abs w128 (pos 2 *ℤ v) (omega (arith, unsigned_abs-mul (pos 2) v))

  product_fits : FitsSigned w128 (pos 2 *ℤ v *ℤ i)
  product_fits = fits_signed_from_abs w128 (pos 2 *ℤ v *ℤ i) (omega (arith, part_most v i k h))

  product_small : nat_abs (pos 2 *ℤ v *ℤ i) * 2 ^ 40 ≤ 2 ^ 53 * (2 ^ 20 * k)
  product_small = omega (arith, part_most v i k h)

pub overflow_mul-v-2 : goal.overflow_mul-v-2
overflow_mul-v-2 c =
    let v : FitsSigned w128 c.args.v = c.ranges.v in
    let i : FitsSigned w128 c.args.current = c.ranges.current in
    let d = double_fits c.args.v c.args.current c.args.c c.requires.v_most c.requires.c_most c.requires.product in
    simp to_z-of_z (product_fits c.args.v c.args.current c.args.c c.requires.v_most c.requires.c_most c.requires.product)

pub near_units-requires-clause-small : goal.near_units-requires-clause-small
near_units-requires-clause-small c =
    let v : FitsSigned w128 c.args.v = c.ranges.v in
    let i : FitsSigned w128 c.args.current = c.ranges.current in
    let d = double_fits c.args.v c.args.current c.args.c c.requires.v_most c.requires.c_most c.requires.product in
    let n = product_fits c.args.v c.args.current c.args.c c.requires.v_most c.requires.c_most c.requires.product in
    let s = product_small c.args.v c.args.current c.args.c c.requires.v_most c.requires.c_most c.requires.product in
    simp to_z-of_z (omega arith)

pub returns : goal.returns
returns c =
    let v : FitsSigned w128 c.args.v = c.ranges.v in
    let i : FitsSigned w128 c.args.current = c.ranges.current in
    let d = double_fits c.args.v c.args.current c.args.c c.requires.v_most c.requires.c_most c.requires.product in
    let n = product_fits c.args.v c.args.current c.args.c c.requires.v_most c.requires.c_most c.requires.product in
    let s = product_small c.args.v c.args.current c.args.c c.requires.v_most c.requires.c_most c.requires.product in
    let e = simp to_z-of_z at c.near_units.ensures.value in
    let within = simp to_z-of_z at c.near_units.ensures.within in
    let most = within (2 ^ 53) s in
    let same = read_back c.near_units.result (2 ^ 53) most (omega arith) in
    record { value = same ∙ e; most = rw same most }

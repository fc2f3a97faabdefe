use Rattle.std.proofs.Common.{◌≤◌, ℕ, arith, subst, FitsSigned}
use Rattle.std.specs.Int.{w128}
use Rattle.std.proofs.lemmas.Int.{ints, to_z-of_z}
use Rattle.fd_arith.specs.Limits.{IsRoot, IsRootUp, non_negative}
use Rattle.fd_arith.specs.Roots.{roots_in_order, root_from}
use Rattle.fd_arith.proofs.divide.Interval+Square.root.Goals as goal

roots : (c : goal.After-root_up-high)
    → IsRoot (non_negative c.in-Some.lo) c.isqrt-low.result × IsRootUp (non_negative c.in-Some.hi) c.root_up-high.result
roots c =
    let lo : FitsSigned w128 c.in-Some.lo = omega (arith, ints, c.in-Some.ensures) in
    let hi : FitsSigned w128 c.in-Some.hi = omega (arith, ints, c.in-Some.ensures) in
    let u = simp to_z-of_z at c.non_negative.ensures in
    let v = simp to_z-of_z at c.non_negative-2.ensures in (
      subst (λ (n : ℕ). IsRoot n c.isqrt-low.result) u
          (c.isqrt-low.ensures.square_le, c.isqrt-low.ensures.next_square_gt),
      subst (λ (n : ℕ). IsRootUp n c.root_up-high.result) v c.root_up-high.ensures.root,
    )

pub known-requires-clause-order : goal.known-requires-clause-order
known-requires-clause-order c =
    let r = roots c in
    let order : c.isqrt-low.result ≤ c.root_up-high.result = roots_in_order c.in-Some.lo c.in-Some.hi _ _ c.in-Some.ensures.valid.1.1 r.0 r.1 in
    omega (arith, ints)

pub returns : goal.returns
returns c =
    let r = roots c.before in
    root_from c.isqrt-low.result c.root_up-high.result _ _ c.in-Some.ensures.ends c.known.ensures (omega (arith, ints)) (omega (arith, ints)) r.0 r.1

use Rattle.std.proofs.Common.{◌≡◌, ◌∙◌, ◌≤◌, ◌^◌, ℤ, pos, ◌*ℤ◌, nat_abs, Some, Option, arith, rules, FitsSigned}
use Rattle.std.specs.Int.{w128}
use Rattle.std.proofs.lemmas.Int.{to_z-of_z, to_z_pos}
use Rattle.fd_exact.specs.Rounding.{near_div}
use Rattle.fd_arith.specs.Nearest.{near_size, near_some}
use Rattle.fd_exact.specs.ReadBack.{read_back}
use Rattle.fd_arith.proofs.rounding.near_units.Goals as goal

pub unwrap-requires : goal.unwrap-requires
unwrap-requires c =
    let n : FitsSigned w128 c.args.n = c.ranges.n in
    let d = to_z_pos w128 c.args.d (omega (arith, c.requires.most)) in
    let e = simp (to_z-of_z, d) at c.near_at.ensures in
    let k : c.near_at.result ≡ Some (near_div (c.args.n *ℤ pos (2 ^ 40)) c.args.d) = e ∙ near_some c.args.n c.args.d c.requires.positive c.requires.small in
    rw k (search rules)

inside : {o : Option ℤ} {u z : ℤ} → o ≡ Some u → o ≡ Some z → u ≡ z
inside e f = cc

pub returns : goal.returns
returns c =
    let n : FitsSigned w128 c.args.n = c.ranges.n in
    let d = to_z_pos w128 c.args.d (omega (arith, c.requires.most)) in
    let e = simp (to_z-of_z, d) at c.near_at.ensures in
    let k : c.near_at.result ≡ Some (near_div (c.args.n *ℤ pos (2 ^ 40)) c.args.d) = e ∙ near_some c.args.n c.args.d c.requires.positive c.requires.small in
    let u : c.unwrap.result ≡ near_div (c.args.n *ℤ pos (2 ^ 40)) c.args.d = inside c.unwrap.ensures k in
    let most : nat_abs c.unwrap.result ≤ 2 ^ 100 = rw u (near_size c.args.n c.args.d (2 ^ 100) c.requires.positive c.requires.small) in
    let same = read_back c.unwrap.result (2 ^ 100) most (omega arith) in
    record {
      value = same ∙ u;
      within = λ j h. rw (same, u) (near_size c.args.n c.args.d j c.requires.positive h);
    }

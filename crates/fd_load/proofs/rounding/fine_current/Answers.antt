use Rattle.std.proofs.Common.{◌∙◌, ◌^◌, nat_abs, arith, FitsSigned}
use Rattle.std.specs.Int.{w128}
use Rattle.std.proofs.lemmas.Int.{to_z-of_z}
use Rattle.fd_load.proofs.Nearest.{near_scaled, scaled_bound}
use Rattle.fd_system.specs.fd_exact.ReadBack.{read_back}
use Rattle.fd_load.proofs.rounding.fine_current.Goals as goal

pub returns : goal.returns
returns c =
    let n : FitsSigned w128 c.args.n = c.ranges.n in
    let e = simp to_z-of_z at c.near_units.ensures.value in
    let within = simp to_z-of_z at c.near_units.ensures.within in
    let small = within (2 ^ 100) (scaled_bound (nat_abs c.args.n) (2 ^ 100) c.args.d c.requires.small) in
    let same = read_back c.near_units.result (2 ^ 100) small (omega arith) in
    record {
      value = same ∙ e ∙ near_scaled c.args.n c.args.d;
      within = λ k h. rw same (within k (scaled_bound (nat_abs c.args.n) k c.args.d h));
    }

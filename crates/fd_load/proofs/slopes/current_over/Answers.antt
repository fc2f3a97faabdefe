use Rattle.std.proofs.Common.{◌∙◌, ◌*◌, ◌≤◌, ◌^◌, nat_abs, arith, FitsSigned}
use Rattle.std.specs.Int.{w128}
use Rattle.std.proofs.lemmas.Int.{to_z-of_z}
use Rattle.fd_load.specs.Current.{largest, power_sum}
use Rattle.fd_load.proofs.Bounds.{current_most, current_small}
use Rattle.fd_system.specs.fd_exact.ReadBack.{read_back}
use Rattle.fd_load.proofs.slopes.current_over.Goals as goal

pub fine_current-requires-clause-small : goal.fine_current-requires-clause-small
fine_current-requires-clause-small c =
    let n : FitsSigned w128 c.args.n = c.ranges.n in
    let w = c.args.load.now in
    let a = largest c.args.p c.args.q in
    let most = current_most (nat_abs c.args.n) (power_sum w) a (nat_abs w.vlo * nat_abs w.vlo) c.args.d
    c.requires.n_most c.requires.load.admittance c.requires.least in
    let small : a ≤ 2 ^ 41 = omega (arith, c.requires.p_most, c.requires.q_most) in
    simp to_z-of_z (current_small (nat_abs c.args.n * 2 ^ 20) a c.args.d most small)

pub returns : goal.returns
returns c =
    let n : FitsSigned w128 c.args.n = c.ranges.n in
    let w = c.args.load.now in
    let a = largest c.args.p c.args.q in
    let most = current_most (nat_abs c.args.n) (power_sum w) a (nat_abs w.vlo * nat_abs w.vlo) c.args.d
    c.requires.n_most c.requires.load.admittance c.requires.least in
    let small : a ≤ 2 ^ 41 = omega (arith, c.requires.p_most, c.requires.q_most) in
    let e = simp to_z-of_z at c.fine_current.ensures.value in
    let within = simp to_z-of_z at c.fine_current.ensures.within in
    let size : nat_abs c.fine_current.result ≤ 2 ^ 32 * a = within (2 ^ 32 * a) most in
    let short : nat_abs c.fine_current.result ≤ 2 ^ 73 = omega (arith, size, small) in
    let same = read_back c.fine_current.result (2 ^ 73) short (omega arith) in
    record { value = same ∙ e; most = rw same size; small = rw same short }

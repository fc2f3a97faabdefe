use Rattle.std.proofs.Common.{◌≡◌, ◌∙◌, ◌<◌, ◌≤◌, ◌^◌, ◌+◌, ◌-ℤ◌, pos, nat_abs, length, arith, ap, sym, subst}
use Rattle.std.proofs.lemmas.Int.{ints}
use Rattle.std.proofs.lemmas.List.{length-set}
use Rattle.fd_enclosure.specs.fd_exact.States.{part}
use Rattle.fd_cert.specs.Totals.{IsTotal, left_total, sizes_total, weighted_total}
use Rattle.fd_cert.proofs.RowBounds.{bound_is}
use Rattle.fd_cert.proofs.RowTotals.{left_is_weighted}
use Rattle.fd_cert.proofs.Units.{kept_by}
use Rattle.fd_cert.proofs.bounds.bound_of_sums.Goals as goal

pub returns-clause-bound : goal.returns-clause-bound
returns-clause-bound c = λ J R w h.
    let n = c.args.slopes.now.jacobian.matrix.now.size in
    let i = c.args.row in
    let ws = c.args.slopes.now.weights.now in
    let rows = c.args.slopes.now.radii.items in
    let fs = c.args.factors.now in
    let ss = c.args.sums.now in
    let columns = c.requires.sums J h.jacobian in
    let long : length ss ≡ n = c.requires.long in
    let ts = c.take_unit.new.sums in
    let result = c.row_total-total.result in
    let inside : i < length ss = subst (λ m. i < m) (sym long) c.requires.row in
    let size : length ts ≡ n = ap length c.take_unit.ensures ∙ length-set ss i (part ss i -ℤ pos (2 ^ 80)) ∙ long in
    let total = left_total n i ws ss + sizes_total n fs rows in
    let left : left_total n i ws ss ≡ weighted_total n ws ts = left_is_weighted n i ws ss inside ∙ ap (weighted_total n ws) (sym c.take_unit.ensures) in
    let is : IsTotal total result =
    subst (λ k. IsTotal (k + sizes_total n fs rows) result) (sym left)
    (subst (λ k. IsTotal (weighted_total k ws ts + sizes_total n fs rows) result) size
    (subst (λ k. IsTotal (weighted_total (length ts) ws ts + sizes_total k fs rows) result) c.requires.slopes.radii
    c.row_total-total.ensures)) in
    let value : part ws i ≡ pos (w i) = h.weights i c.requires.row in
    let few : nat_abs (part ws i) ≤ 2 ^ 126 =
    let most = c.requires.slopes.weights.most i c.requires.row in
    let least = c.requires.slopes.weights.least i c.requires.row in
    omega (arith, ints) in
    c.over_weight.ensures total is
    ∙ bound_is n (λ _. part fs) J R w i ss rows ws columns h.radii h.weights
    (λ j l. let least = c.requires.slopes.weights.least j l in let v = h.weights j l in omega (arith, ints))
    (ap nat_abs (kept_by (part ws i) few ∙ value))

use Rattle.std.proofs.Common.{◌≡◌, ◌∙◌, ◌*◌, ◌+◌, ◌<◌, ◌^◌, nat_abs, arith, sym, subst, FitsSigned, rules}
use Rattle.std.specs.Int.{w128}
use Rattle.std.proofs.lemmas.Int.{to_z-of_z}
use Rattle.fd_enclosure.specs.fd_exact.States.{part}
use Rattle.fd_enclosure.specs.fd_equations.Amounts.{cell_at, empty}
use Rattle.fd_enclosure.specs.fd_equations.declared.cells.Cell.{Cell}
use Rattle.fd_enclosure.proofs.CallerLemmas.fd_equations.{list_n_more}
use Rattle.fd_cert.proofs.RowTotals.{past_take}
use Rattle.fd_cert.proofs.bounds.row_by_weight.Goals as goal

pub returns-in-None : goal.returns-in-None
returns-in-None c =
    let k = c.loop-cell.cell-index in
    let cell = cell_at c.args.cells.now k in
    let f : FitsSigned w128 (part c.args.weights.now cell.col) = search rules in
    let g : FitsSigned w128 cell.units = search rules in
    let weight : c.unsigned_abs-weight.result ≡ nat_abs (part c.args.weights.now cell.col) = simp to_z-of_z at c.unsigned_abs-weight.ensures.value in
    let units : c.unsigned_abs.result ≡ nat_abs cell.units = simp to_z-of_z at c.unsigned_abs.ensures.value in
    let past = past_take (λ (c' : Cell). nat_abs c'.units * nat_abs (part c.args.weights.now c'.col)) c.args.cells.now
    k empty c.loop-cell.total c.loop-cell-test.true c.loop-cell.invariant.sum
    (subst (λ n. 2 ^ 120 < c.loop-cell.total + n) (λ i. units i * weight i) c.in-None.ensures) in
    record { same = λ h. absurd (omega arith); past = λ h. omega arith }

pub loop-cell-preserved : goal.loop-cell-preserved
loop-cell-preserved c =
    let k = c.loop-cell.cell-index in
    let cell = cell_at c.args.cells.now k in
    let f : FitsSigned w128 (part c.args.weights.now cell.col) = search rules in
    let g : FitsSigned w128 cell.units = search rules in
    let weight : c.unsigned_abs-weight.result ≡ nat_abs (part c.args.weights.now cell.col) = simp to_z-of_z at c.unsigned_abs-weight.ensures.value in
    let units : c.unsigned_abs.result ≡ nat_abs cell.units = simp to_z-of_z at c.unsigned_abs.ensures.value in
    record {
      sum = c.in-Some.ensures.0
          ∙ (λ i. c.loop-cell.invariant.sum i + units i * weight i)
          ∙ sym (list_n_more (λ (c' : Cell). nat_abs c'.units * nat_abs (part c.args.weights.now c'.col))
          c.args.cells.now k empty c.loop-cell-test.true);
      small = c.in-Some.ensures.1;
    }

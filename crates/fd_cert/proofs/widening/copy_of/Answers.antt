use Rattle.std.proofs.Common.{◌≡◌, ◌∙◌, ℕ, ◌+◌, ◌*◌, ◌≤◌, List, ℤ, length, ap, sym, subst, arith}
use Rattle.fd_enclosure.specs.fd_mat.Rows.{square}
use Rattle.fd_cert.proofs.Copies.{AreRows, all_rows, more_rows, no_rows}
use Rattle.fd_cert.proofs.widening.copy_of.Goals as goal

pub loop-row-init : goal.loop-row-init
loop-row-init c = subst (AreRows c.args.square.now 0) (sym c.in_ok-cells.ensures.items) (no_rows c.args.square.now)

pub loop-row-preserved : goal.loop-row-preserved
loop-row-preserved c =
    let m = c.args.square.now in
    subst (AreRows m (c.loop-row.row + 1)) (sym c.in_ok-extend_from_slice.ensures.items)
    (more_rows m c.loop-row.row c.loop-row.cells.items c.row.result.now c.loop-row.invariant c.row.ensures.numbers c.row.ensures.long)

-- the loop has gone over all rows
at_end : (m : List (List ℤ)) (size row : ℕ) (cells : List ℤ) → size ≡ length m → size ≤ row → row ≤ size → AreRows m row cells
    → AreRows m (length m) cells
at_end m size row cells e low high h = let same : row ≡ length m = omega (arith, e, low, high) in subst (λ k. AreRows m k cells) same h

pub from_cells-requires : goal.from_cells-requires
from_cells-requires c =
    let m = c.args.square.now in
    let e = c.size-size.ensures.size in
    let long = (at_end m c.size-size.result c.loop-row.row c.loop-row.cells.items e c.loop-row-test.false c.loop-row.auto.row-end c.loop-row.invariant).long in
    long ∙ ap (λ k. k * length m) (sym e) ∙ ap (λ k. c.size-size.result * k) (sym e)

pub returns : goal.returns
returns c =
    let m = c.args.square.now in
    let e = c.size-size.ensures.size in
    c.from_cells.ensures ∙ ap (λ k. square k c.loop-row.cells.items) e
    ∙ all_rows m c.loop-row.cells.items
    (at_end m c.size-size.result c.loop-row.row c.loop-row.cells.items e c.loop-row-test.false c.loop-row.auto.row-end c.loop-row.invariant)

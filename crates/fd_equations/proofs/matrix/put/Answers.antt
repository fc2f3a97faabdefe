use Rattle.std.proofs.Common.{◌<◌, length, pos, refl, FitsSigned, to_z, of_z, rules, arith}
use Rattle.std.specs.Int.{w128}
use Rattle.std.proofs.lemmas.Int.{to_z-of_z}
use Rattle.std.proofs.lemmas.List.Elements.{All-get_or}
use Rattle.fd_equations.specs.Amounts.{cell_at}
use Rattle.fd_pattern.specs.Patterns.{IsInside}
use Rattle.fd_equations.proofs.Writing.{all_here, all_none, nothing_written, one_put}
use Rattle.fd_equations.proofs.matrix.put.Goals as goal

pub loop-k-init : goal.loop-k-init
loop-k-init c = record {
  at = λ row col. pos 0;
  rows_are = c.requires.zero;
  written = nothing_written (length c.args.rows.now) c.args.places.now c.args.cells.now (λ row col. pos 0) (λ row col. refl);
}

pub loop-k-preserved : goal.loop-k-preserved
loop-k-preserved c =
    let ps = c.args.places.now in
    let k = c.loop-k.k in
    let l : k < length ps = omega (arith, c.loop-k-test.true) in
    let is = All-get_or (IsInside (length c.args.rows.now)) ps k (0, 0) l c.requires.inside in
    let units = (cell_at c.args.cells.now k).units in
    let fits : FitsSigned w128 (cell_at c.args.cells.now k).units = search rules in
    rw c.in_ok-set.ensures.set (one_put (length c.args.rows.now) ps c.args.cells.now k c.requires.rising l is.row is.col c.loop-k.rows
    (to_z w128 (of_z w128 units)) (to_z-of_z w128 units fits) c.loop-k.invariant)

pub returns : goal.returns
returns c =
    let n = length c.args.rows.now in
    let put = c.loop-k.invariant in
    record {
      at = put.at;
      rows_are = put.rows_are;
      here = all_here n c.args.places.now c.args.cells.now put.at c.loop-k.k (omega (arith, c.loop-k-test.false)) put.written;
      none = all_none n c.args.places.now c.args.cells.now put.at c.loop-k.k put.written;
    }

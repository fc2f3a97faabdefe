-- Lemmas that callers cite.
pub use Rattle.fd_triangles.proofs.CallerLemmas.fd_derived as fd_derived
pub use Rattle.fd_triangles.proofs.CallerLemmas as fd_triangles
pub use Rattle.fd_substitution.proofs.Filling.{filled_here, filled_kept, filled_more, filled_start, filled_there}
use Rattle.std.proofs.Common.{◌≡◌, ◌∙◌, ◌<◌, ◌≤◌, ◌^◌, nat_abs, List, length, drop, arith, ap, subst, sym}
use Rattle.fd_triangles.specs.Elimination.{pivot_of}
use Rattle.fd_triangles.specs.Factors.{AreFactors, AreOrdered}
use Rattle.fd_triangles.specs.Rows.{entry_at}
use Rattle.fd_triangles.specs.declared.pair.Pair.{Pair}
use Rattle.fd_triangles.specs.fd_derived.declared.entries.Equation.{Equation}
use Rattle.fd_triangles.specs.fd_derived.declared.entries.Row.{Row}
use Rattle.fd_substitution.specs.Sums.{IsInside}
use Rattle.fd_substitution.specs.Substitution.{CanStep, pivot_at}

-- factors of equations make steps
pub factors_step : (es : List Equation) (order : List Pair) (rows : List Row)
    → AreOrdered es order → AreFactors es order rows → CanStep rows order
factors_step es order rows ordered are = record {
  long = are.long;
  unknowns = λ t l. omega (arith, ordered.unknowns t l, ordered.long);
  equations = λ t l. omega (arith, ordered.equations t l, ordered.long);
  others = λ t l. (are.each t l).others.is_row.inside;
  rest = λ t l.
      let left = (are.each t l).left in
      subst (IsInside (length order)) (sym (ap (drop 1) left.row_is))
      (subst (λ n. IsInside n left.rest) (sym ordered.long) left.rest_is.is_row.inside);
  pivots = λ t l.
      let left = (are.each t l).left in
      let e : pivot_at rows t ≡ pivot_of es order t = ap (λ row. (entry_at row 0).units) left.row_is ∙ left.pivot_is in
      let large : 2 ^ 8 ≤ nat_abs (pivot_of es order t) = are.fine.pivots t l in
      subst (λ z. 0 < nat_abs z) (sym e) (omega (arith, large));
}

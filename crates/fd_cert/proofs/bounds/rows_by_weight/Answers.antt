use Rattle.std.proofs.Common.{◌≡◌, ◌∙◌, ◌+◌, length, arith, ap, sym, subst, inl, inr}
use Rattle.std.proofs.lemmas.Bool.{cases_lt}
use Rattle.std.proofs.lemmas.List.{get_or_append_left, get_or_push, length_push}
use Rattle.fd_enclosure.specs.Sound.{number_at}
use Rattle.fd_cert.specs.Columns.{AreColumns}
use Rattle.fd_cert.specs.Totals.{IsUpTo, weighted_radius}
use Rattle.fd_cert.proofs.RowTotals.{row_weighted}
use Rattle.fd_cert.proofs.Units.{row_columns}
use Rattle.fd_cert.proofs.bounds.rows_by_weight.Goals as goal

pub row_by_weight-requires : goal.row_by_weight-requires
row_by_weight-requires c =
    let h = c.requires.radii.has in
    subst (λ n. AreColumns n c.row.result.now) (sym c.requires.weights)
    (row_columns c.args.radii.now.size c.loop-row.row h.at c.row.result.now (c.row.ensures h.at h.cells h.nothing))

pub loop-row-preserved : goal.loop-row-preserved
loop-row-preserved c =
    let row = c.loop-row.row in
    let m = c.args.radii.now in
    let old = c.loop-row.rows.items in
    let value = c.row_by_weight.result in
    let items = c.in_ok-push.ensures.items in
    record {
      long = ap length items ∙ length_push old value ∙ ap (λ n. n + 1) c.loop-row.invariant.long;
      each = λ R w h ws k l. elim (cases_lt k row) [
        | inl lt ↦
            let same = ap (λ xs. number_at xs k) items ∙ get_or_append_left old _ 0 k (omega (arith, c.loop-row.invariant.long)) in
            subst (IsUpTo (weighted_radius m.size R w k)) (sym same) (c.loop-row.invariant.each R w h ws k lt)
        | inr ge ↦
            let here : row ≡ k = omega arith in
            let same = ap (λ xs. number_at xs k) items ∙ get_or_push old value 0 k (c.loop-row.invariant.long ∙ here) in
            let total = row_weighted m.size row h.at c.row.result.now R w c.args.weights.now (c.row.ensures h.at h.cells h.nothing) h.entries ws in
            subst (IsUpTo (weighted_radius m.size R w k)) (sym same)
            (subst (λ n. IsUpTo (weighted_radius m.size R w n) value) here
            (subst (λ n. IsUpTo n value) total c.row_by_weight.ensures))
      ];
    }

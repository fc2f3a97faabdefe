use Rattle.std.proofs.Common.{◌≡◌, ◌∙◌, length, pos, All, ap, sym, subst}
use Rattle.fd_mat.specs.fd_exact.States.{table}
use Rattle.fd_mat.specs.fd_exact.Tables.{length-table}
use Rattle.fd_pattern.specs.Patterns.{IsInside, IsRising}
use Rattle.fd_equations.proofs.WrittenOut.{out_entries, out_small}
use Rattle.fd_equations.proofs.matrix.Matrix.to_rows.Goals as goal

pub put-requires-clause-zero : goal.put-requires-clause-zero
put-requires-clause-zero c =
    let long = ap length c.zero-rows.ensures ∙ length-table c.size.result c.size.result (λ _ _. pos 0) in
    c.zero-rows.ensures ∙ ap (λ n. table n n (λ _ _. pos 0)) (sym long)

pub put-requires-clause-inside : goal.put-requires-clause-inside
put-requires-clause-inside c =
    let p = c.self.inside.pattern.now in
    let long = ap length c.zero-rows.ensures ∙ length-table c.size.result c.size.result (λ _ _. pos 0) ∙ c.size.ensures.size in
    subst (λ n. All (IsInside n) c.places.result.now) (sym long)
    (subst (All (IsInside p.size)) (sym c.places.ensures.value) c.places.ensures.sound.inside)

pub put-requires-clause-rising : goal.put-requires-clause-rising
put-requires-clause-rising c = subst IsRising (sym c.places.ensures.value) c.places.ensures.sound.rising

pub returns-clause-entries : goal.returns-clause-entries
returns-clause-entries c = λ at is.
    let put = c.in_ok-put.ensures in
    let n = ap length c.zero-rows.ensures ∙ length-table c.size.result c.size.result (λ _ _. pos 0) ∙ c.size.ensures.size in
    out_entries c.args.self.now c.self.inside.pattern.now c.self.inside.cells.items c.deref.result.now
    c.places.result.now put.at (length c.zero-rows.result) c.self.view_is c.deref.ensures.value
    c.places.ensures.value n (record { here = put.here; none = put.none }) c.put.new.rows put.rows_are at is

pub returns-clause-small : goal.returns-clause-small
returns-clause-small c = λ at is.
    let put = c.in_ok-put.ensures in
    let n = ap length c.zero-rows.ensures ∙ length-table c.size.result c.size.result (λ _ _. pos 0) ∙ c.size.ensures.size in
    out_small c.args.self.now c.self.inside.pattern.now c.self.inside.cells.items c.deref.result.now
    c.places.result.now put.at (length c.zero-rows.result) c.self.view_is c.deref.ensures.value
    c.places.ensures.value n (record { here = put.here; none = put.none }) c.put.new.rows put.rows_are at is

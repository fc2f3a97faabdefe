use Rattle.std.proofs.Common.{◌≡◌, ◌∙◌, ◌+◌, ◌<◌, ◌≤◌, ◌^◌, [], length, ap, subst, sym}
use Rattle.fd_derived.specs.fd_factors.Factors.{HasPlaces, sum_at}
use Rattle.fd_derived.specs.Rows.{coefficients_at, coefficients_of, entries_of}
use Rattle.fd_derived.specs.Sums.{size_of}
use Rattle.fd_triangles.specs.Elimination.{pair_at}
use Rattle.fd_triangles.specs.Factors.{AreLoaded}
use Rattle.fd_triangles.proofs.Lists.{at_read}
use Rattle.fd_triangles.proofs.Starting.{loaded_more}
use Rattle.fd_triangles.proofs.loading.first_rows.Goals as goal

pub first_row-requires-clause-placed : goal.first_row-requires-clause-placed
first_row-requires-clause-placed c =
    let es = c.args.equations.now in
    let l = (pair_at c.args.order.now c.loop-place.place).equation in
    let l_in : l < length es = c.requires.ordered.equations c.loop-place.place c.loop-place-test.true in
    let read : coefficients_at es l ≡ entries_of c.deref.result.now =
    at_read coefficients_of [] es l c.index-equations-equation.result l_in ∙ ap entries_of (sym c.deref.ensures.value) in
    subst (λ n. HasPlaces n (entries_of c.deref.result.now)) (sym (c.loop-place.auto.columns ∙ c.requires.long))
    (subst (HasPlaces (length es)) read (c.requires.ordered.placed l l_in))

pub first_row-requires-clause-small : goal.first_row-requires-clause-small
first_row-requires-clause-small c =
    let es = c.args.equations.now in
    let l = (pair_at c.args.order.now c.loop-place.place).equation in
    let l_in : l < length es = c.requires.ordered.equations c.loop-place.place c.loop-place-test.true in
    let read : coefficients_at es l ≡ entries_of c.deref.result.now =
    at_read coefficients_of [] es l c.index-equations-equation.result l_in ∙ ap entries_of (sym c.deref.ensures.value) in
    subst (λ row. size_of row ≤ 2 ^ 62) read (c.requires.ordered.small l l_in)

pub loop-place-preserved : goal.loop-place-preserved
loop-place-preserved c =
    let es = c.args.equations.now in
    let order = c.args.order.now in
    let i = c.loop-place.place in
    let l = (pair_at order i).equation in
    let l_in : l < length es = c.requires.ordered.equations i c.loop-place-test.true in
    let read : coefficients_at es l ≡ entries_of c.deref.result.now =
    at_read coefficients_of [] es l c.index-equations-equation.result l_in ∙ ap entries_of (sym c.deref.ensures.value) in
    subst (λ work. AreLoaded es order (i + 1) work c.first_row.new.columns) (sym c.in_ok-push.ensures.items)
    (loaded_more es order i c.loop-place.work.items c.loop-place.columns c.first_row.new.columns c.in_ok-row.row
    c.deref.result.now c.loop-place.invariant c.in_ok-row.ensures.first (λ p. ap (λ row. sum_at row p) (sym read))
    c.in_ok-row.ensures.noted)

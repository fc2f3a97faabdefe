use Rattle.std.proofs.Common.{◌≡◌, ◌∙◌, ◌^◌, nat_abs, nat_le, true, length, ap, refl, sym, FitsSigned, rules}
use Rattle.std.specs.Int.{w64, w128}
use Rattle.std.proofs.lemmas.Int.{to_z-of_z}
use Rattle.fd_triangles.specs.Elimination.{multiple}
use Rattle.fd_triangles.specs.Steps.{factor_of, parts_of}
use Rattle.fd_triangles.proofs.Cleared.{cleared_from_lost, match_on, noted_taken, ok_on, past_from_lost}
use Rattle.fd_triangles.proofs.Sizes.{narrow, small_from}
use Rattle.fd_triangles.proofs.clearing.clear.Goals as goal

pub lose-requires-clause-row : goal.lose-requires-clause-row
lose-requires-clause-row c = c.take_out-units.ensures.row (length c.args.columns.now) c.requires.row

pub returns-clause-noted : goal.returns-clause-noted
returns-clause-noted c =
    ok_on c.lose.result _ _
    (noted_taken c.args.columns.now c.lose.new.columns c.args.row.now.left.items c.take_out-units.new.row.items
    c.lose.new.row.left.items c.args.pivot.now.place c.args.index c.take_out-units.ensures.numbers)
    c.lose.ensures.noted

pub returns-clause-cleared : goal.returns-clause-cleared
returns-clause-cleared c =
    let left = c.args.row.now.left.items in
    let pivot = c.args.pivot.now in
    let fu : FitsSigned w64 c.take_out-units.result = search rules in
    let fp : FitsSigned w64 pivot.units = search rules in
    let fm : FitsSigned w128 c.multiple-f.result = search rules in
    let multiple_is : c.multiple-f.result ≡ multiple c.take_out-units.result pivot.units = simp to_z-of_z at c.multiple-f.ensures in
    let f_is : c.multiple-f.result ≡ factor_of left pivot =
    multiple_is ∙ ap (λ z. multiple z pivot.units) c.take_out-units.ensures.number in
    let tested : nat_le (nat_abs c.multiple-f.result) (2 ^ 62) ≡ true =
    ap (λ z. nat_le (nat_abs z) (2 ^ 62)) (sym (to_z-of_z w128 c.multiple-f.result fm)) ∙ sym c.is_in_range.ensures
    ∙ c.if-not-is_in_range.false in
    let small = small_from c.multiple-f.result tested in
    let sz : FitsSigned w64 c.multiple-f.result = narrow c.multiple-f.result small in
    let lost = simp to_z-of_z at c.lose.ensures.lost in
    match_on c.lose.result _ _ _ _
    (cleared_from_lost left c.take_out-units.new.row.items pivot c.args.others.now c.multiple-f.result
    c.take_out-units.ensures.numbers c.requires.apart f_is (length c.args.columns.now) c.args.t (parts_of c.args.row.now) _
    (parts_of c.lose.new.row) refl refl refl refl small)
    (past_from_lost left c.take_out-units.new.row.items pivot c.args.others.now c.multiple-f.result
    c.take_out-units.ensures.numbers c.requires.apart f_is)
    lost

use Rattle.std.proofs.Common.{◌≡◌, ◌∙◌, ◌^◌, ◌+◌, nat_abs, nat_le, true, false, take, ap, sym, subst, arith, FitsSigned, to_z, of_z, rules}
use Rattle.std.specs.Int.{w64, w128}
use Rattle.std.proofs.lemmas.Int.{to_z-of_z}
use Rattle.std.proofs.lemmas.List.{take_all}
use Rattle.fd_triangles.specs.Elimination.{less}
use Rattle.fd_triangles.specs.Rows.{IsRow, WithNumber, entry_at, number}
use Rattle.fd_triangles.specs.Steps.{HasLost}
use Rattle.fd_triangles.proofs.Losing.{lost_more, lost_past, lost_start}
use Rattle.fd_triangles.proofs.Noted.{none_noted, noted_on}
use Rattle.fd_triangles.proofs.Sizes.{narrow, past_from, small_from}
use Rattle.fd_triangles.proofs.changes.subtract.Goals as goal

pub loop-entry-init : goal.loop-entry-init
loop-entry-init c = record {
  row = c.requires.row;
  numbers = lost_start c.args.row.now.items (to_z w64 (of_z w64 c.args.f));
  noted = none_noted c.args.columns.now c.args.row.now.items c.args.row.now.items c.args.index (λ p ne. ne);
}

pub loop-entry-preserved : goal.loop-entry-preserved
loop-entry-preserved c =
    let k = c.loop-entry.entry-index in
    let others = c.args.others.now in
    let row = c.loop-entry.row.items in
    let e = entry_at others k in
    let fu : FitsSigned w64 e.units = search rules in
    let ff : FitsSigned w64 c.args.f = c.ranges.f in
    let fn : FitsSigned w64 c.number_at.result = search rules in
    let fz : FitsSigned w128 c.less-left.result = search rules in
    let number_is : c.number_at.result ≡ number row e.place =
    c.number_at.ensures ∙ ap (λ l. number l e.place) c.deref.ensures.value in
    let less_is : c.less-left.result ≡ less c.number_at.result c.args.f e.units = simp to_z-of_z at c.less-left.ensures in
    let z_is : c.less-left.result ≡ less (number row e.place) c.args.f e.units =
    less_is ∙ ap (λ x. less x c.args.f e.units) number_is in
    let tested : nat_le (nat_abs c.less-left.result) (2 ^ 62) ≡ true =
    ap (λ z. nat_le (nat_abs z) (2 ^ 62)) (sym (to_z-of_z w128 c.less-left.result fz)) ∙ sym c.is_in_range.ensures
    ∙ c.if-not-is_in_range.false in
    let sz : FitsSigned w64 c.less-left.result = narrow c.less-left.result (small_from c.less-left.result tested) in
    let gf = to_z-of_z w64 c.args.f ff in
    let w : WithNumber row c.write.new.row.items e.place c.less-left.result = simp to_z-of_z at c.in_ok-write.ensures.numbers in
    let lost = subst (λ f. HasLost c.args.row.now.items row f (take k others)) gf c.loop-entry.invariant.numbers in
    let more : HasLost c.args.row.now.items c.write.new.row.items c.args.f (take (k + 1) others) =
    lost_more c.args.row.now.items row c.args.f others k c.requires.others.rising c.loop-entry-test.true lost
    c.write.new.row.items c.less-left.result z_is w in
    record {
      row = subst (λ n. IsRow n c.write.new.row.items) c.loop-entry.auto.columns c.in_ok-write.ensures.row;
      numbers = subst (λ f. HasLost c.args.row.now.items c.write.new.row.items f (take (k + 1) others)) (sym gf) more;
      noted = noted_on c.args.columns.now c.loop-entry.columns c.write.new.columns c.args.row.now.items row
          c.write.new.row.items c.args.index c.loop-entry.invariant.noted c.in_ok-write.ensures.noted;
    }

pub returns-then-not-is_in_range-clause-numbers : goal.returns-then-not-is_in_range-clause-numbers
returns-then-not-is_in_range-clause-numbers c =
    let k = c.loop-entry.entry-index in
    let others = c.args.others.now in
    let row = c.loop-entry.row.items in
    let e = entry_at others k in
    let fu : FitsSigned w64 e.units = search rules in
    let ff : FitsSigned w64 c.args.f = c.ranges.f in
    let fn : FitsSigned w64 c.number_at.result = search rules in
    let fz : FitsSigned w128 c.less-left.result = search rules in
    let number_is : c.number_at.result ≡ number row e.place =
    c.number_at.ensures ∙ ap (λ l. number l e.place) c.deref.ensures.value in
    let less_is : c.less-left.result ≡ less c.number_at.result c.args.f e.units = simp to_z-of_z at c.less-left.ensures in
    let z_is : c.less-left.result ≡ less (number row e.place) c.args.f e.units =
    less_is ∙ ap (λ x. less x c.args.f e.units) number_is in
    let tested : nat_le (nat_abs c.less-left.result) (2 ^ 62) ≡ false =
    ap (λ z. nat_le (nat_abs z) (2 ^ 62)) (sym (to_z-of_z w128 c.less-left.result fz)) ∙ sym c.is_in_range.ensures
    ∙ c.if-not-is_in_range.true in
    let gf = to_z-of_z w64 c.args.f ff in
    let lost = subst (λ f. HasLost c.args.row.now.items row f (take k others)) gf c.loop-entry.invariant.numbers in
    lost_past c.args.row.now.items row c.args.f others k c.requires.others.rising c.loop-entry-test.true lost
    c.less-left.result z_is (past_from c.less-left.result tested)

pub returns-clause-numbers : goal.returns-clause-numbers
returns-clause-numbers c =
    let ff : FitsSigned w64 c.args.f = c.ranges.f in
    let whole = take_all c.loop-entry.entry-index c.args.others.now (omega (arith, c.loop-entry.auto.entry-index-end, c.loop-entry-test.false)) in
    let lost = subst (λ f. HasLost c.args.row.now.items c.loop-entry.row.items f (take c.loop-entry.entry-index c.args.others.now))
    (to_z-of_z w64 c.args.f ff) c.loop-entry.invariant.numbers in
    subst (λ l. HasLost c.args.row.now.items c.loop-entry.row.items c.args.f l) whole lost

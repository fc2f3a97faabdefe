use Rattle.std.proofs.Common.{◌≡◌, ◌∙◌, ◌+◌, ◌-◌, ◌<◌, ◌≤◌, ◌^◌, nat_abs, [], length, get_or, set, take, drop, ap, subst, sym}
use Rattle.std.proofs.lemmas.List.{length-set}
use Rattle.fd_derived.specs.declared.entries.Entry.{Entry}
use Rattle.fd_triangles.specs.Columns.{rows_in, rows_of}
use Rattle.fd_triangles.specs.Elimination.{IsPast}
use Rattle.fd_triangles.specs.Factors.{AreRows, Clearing, Running, no_parts, parts_in}
use Rattle.fd_triangles.specs.Rows.{IsRow, number}
use Rattle.fd_triangles.specs.Steps.{IfRange, IsPutFirst, Parts, parts_of}
use Rattle.fd_triangles.proofs.Lists.{at_read}
use Rattle.fd_triangles.proofs.Losing.{empty_row}
use Rattle.fd_triangles.proofs.Stages.{clearing_start, ends_at_pivot, ends_at_range, has_pivot, is_on, large_from, listed_inside, rest_is, row_taken, rows_more, running_more, same_pivot, small_from, still_held}
use Rattle.fd_triangles.proofs.elimination.eliminate.Goals as goal

pub put_first-requires : goal.put_first-requires
put_first-requires c =
    let work = c.args.work.now in
    let taken : parts_of c.replace-row.result ≡ parts_in work c.args.t =
    row_taken work c.args.t c.index-work-t.result c.replace-row.result c.requires.place c.replace-row.ensures.value in
    let row_is : IsRow (length c.args.columns.now) c.replace-row.result.left.items =
    subst (λ (p : Parts). IsRow (length c.args.columns.now) p.left) (sym taken) (c.requires.rows c.args.t c.requires.place) in
    row_is.rising

pub returns-then-not-branch-clause-stage : goal.returns-then-not-branch-clause-stage
returns-then-not-branch-clause-stage c = λ es order is on.
    let work = c.args.work.now in
    let taken : parts_of c.replace-row.result ≡ parts_in work c.args.t =
    row_taken work c.args.t c.index-work-t.result c.replace-row.result c.requires.place c.replace-row.ensures.value in
    let read : number c.replace-row.result.left.items c.args.unknown ≡ number (parts_in work c.args.t).left c.args.unknown =
    ap (λ (p : Parts). number p.left c.args.unknown) taken in
    let small : nat_abs (number (parts_in work c.args.t).left c.args.unknown) < 2 ^ 8 =
    subst (λ z. nat_abs z < 2 ^ 8) read (small_from c.in_ok-put_first.field-0 _ c.if-not-branch.true c.in_ok-put_first.ensures.large) in
    ends_at_pivot es order c.args.t work c.args.columns.now c.args.done.now.items on c.requires.place c.args.unknown is small

pub clear_rows-requires-clause-rows : goal.clear_rows-requires-clause-rows
clear_rows-requires-clause-rows c =
    let work = c.args.work.now in
    let columns = c.args.columns.now in
    let column = c.take_rows-holding.new.column in
    let column_is : rows_of column ≡ [] = c.take_rows-holding.ensures.none in
    let dest = c.replace-row.new.dest in
    let empty_is : parts_of dest ≡ no_parts = ap parts_of c.replace-row.ensures.after ∙ c.no_row.ensures in
    let nothing : IsRow (length columns) (parts_of dest).left =
    subst (λ (p : Parts). IsRow (length columns) p.left) (sym empty_is) (empty_row (length columns)) in
    subst (λ n. AreRows n (set work c.args.t dest)) (sym (length-set columns c.args.unknown column))
    (rows_more work c.args.t dest c.requires.place (length columns) c.requires.rows nothing)

pub clear_rows-requires-clause-inside : goal.clear_rows-requires-clause-inside
clear_rows-requires-clause-inside c =
    let work = c.args.work.now in
    let columns = c.args.columns.now in
    let holding : c.deref.result.now ≡ rows_in columns c.args.unknown =
    c.deref.ensures.value ∙ c.take_rows-holding.ensures.taken
    ∙ sym (at_read rows_of [] columns c.args.unknown c.index-columns-unknown.result c.requires.unknown) in
    λ k d h. subst (λ n. get_or c.deref.result.now k d < n) (sym (length-set work c.args.t c.replace-row.new.dest))
    (listed_inside columns c.args.unknown (length work) c.deref.result.now holding c.requires.inside k d h)

pub clear_rows-requires-clause-noted : goal.clear_rows-requires-clause-noted
clear_rows-requires-clause-noted c =
    let work = c.args.work.now in
    let columns = c.args.columns.now in
    let column = c.take_rows-holding.new.column in
    let column_is : rows_of column ≡ [] = c.take_rows-holding.ensures.none in
    λ p i h. subst (λ n. i < n) (sym (length-set work c.args.t c.replace-row.new.dest))
    (c.requires.inside p i (still_held columns c.args.unknown column c.requires.unknown column_is p i h))

pub clear_rows-requires-clause-others : goal.clear_rows-requires-clause-others
clear_rows-requires-clause-others c =
    let work = c.args.work.now in
    let taken : parts_of c.replace-row.result ≡ parts_in work c.args.t =
    row_taken work c.args.t c.index-work-t.result c.replace-row.result c.requires.place c.replace-row.ensures.value in
    let columns = c.args.columns.now in
    let column = c.take_rows-holding.new.column in
    let column_is : rows_of column ≡ [] = c.take_rows-holding.ensures.none in
    let found : IsPutFirst c.replace-row.result.left.items c.put_first.new.row.items c.args.unknown =
    is_on c.in_ok-put_first.field-0 _ c.if-not-branch.false c.in_ok-put_first.ensures.first in
    let first : IsPutFirst (parts_in work c.args.t).left c.put_first.new.row.items c.args.unknown =
    subst (λ (p : Parts). IsPutFirst p.left c.put_first.new.row.items c.args.unknown) taken found in
    let entry : Entry = record { place = c.args.unknown; units = number (parts_in work c.args.t).left c.args.unknown } in
    let others : take (length c.deref-2.result.now - 1) (drop 1 c.deref-2.result.now) ≡ first.rest =
    rest_is c.deref-2.result.now first.rest entry (c.deref-2.ensures.value ∙ first.new_is) in
    let rest : IsRow (length columns) first.rest = first.row (length columns) (c.requires.rows c.args.t c.requires.place) in
    subst (λ n. IsRow n (take (length c.deref-2.result.now - 1) (drop 1 c.deref-2.result.now))) (sym (length-set columns c.args.unknown column))
    (subst (IsRow (length columns)) (sym others) rest)

pub returns-in-Err-Range-clause-stage : goal.returns-in-Err-Range-clause-stage
returns-in-Err-Range-clause-stage c = λ es order is on.
    let work = c.args.work.now in
    let taken : parts_of c.replace-row.result ≡ parts_in work c.args.t =
    row_taken work c.args.t c.index-work-t.result c.replace-row.result c.requires.place c.replace-row.ensures.value in
    let read : number c.replace-row.result.left.items c.args.unknown ≡ number (parts_in work c.args.t).left c.args.unknown =
    ap (λ (p : Parts). number p.left c.args.unknown) taken in
    let columns = c.args.columns.now in
    let column = c.take_rows-holding.new.column in
    let column_is : rows_of column ≡ [] = c.take_rows-holding.ensures.none in
    let dest = c.replace-row.new.dest in
    let empty_is : parts_of dest ≡ no_parts = ap parts_of c.replace-row.ensures.after ∙ c.no_row.ensures in
    let holding : c.deref.result.now ≡ rows_in columns c.args.unknown =
    c.deref.ensures.value ∙ c.take_rows-holding.ensures.taken
    ∙ sym (at_read rows_of [] columns c.args.unknown c.index-columns-unknown.result c.requires.unknown) in
    let found : IsPutFirst c.replace-row.result.left.items c.put_first.new.row.items c.args.unknown =
    is_on c.in_ok-put_first.field-0 _ c.if-not-branch.false c.in_ok-put_first.ensures.first in
    let first : IsPutFirst (parts_in work c.args.t).left c.put_first.new.row.items c.args.unknown =
    subst (λ (p : Parts). IsPutFirst p.left c.put_first.new.row.items c.args.unknown) taken found in
    let large : 2 ^ 8 ≤ nat_abs (number (parts_in work c.args.t).left c.args.unknown) =
    subst (λ z. 2 ^ 8 ≤ nat_abs z) read (large_from c.in_ok-put_first.field-0 _ c.if-not-branch.false c.in_ok-put_first.ensures.large) in
    let entry : Entry = record { place = c.args.unknown; units = number (parts_in work c.args.t).left c.args.unknown } in
    let pivot : c.index.result.now ≡ entry = c.index.ensures ∙ ap (λ l. get_or l 0 c.index.result.now) first.new_is in
    let others : take (length c.deref-2.result.now - 1) (drop 1 c.deref-2.result.now) ≡ first.rest =
    rest_is c.deref-2.result.now first.rest entry (c.deref-2.ensures.value ∙ first.new_is) in
    let has = same_pivot es order c.args.t c.index.result.now entry _ first.rest pivot others
    (has_pivot es order c.args.t work columns c.args.done.now.items on c.requires.place c.put_first.new.row.items c.args.unknown first is) in
    let start : Clearing es order c.args.t c.deref.result.now 0 (set work c.args.t dest) (set columns c.args.unknown column) =
    subst (λ l. Clearing es order c.args.t l 0 (set work c.args.t dest) (set columns c.args.unknown column)) (sym holding)
    (clearing_start es order c.args.t work columns c.args.done.now.items on c.requires.place dest column empty_is column_is
    c.args.unknown is c.requires.unknown) in
    let past : IsPast es order c.args.t =
    subst (λ stop. IfRange stop (IsPast es order c.args.t)) c.in-Err-Range.field-0-is (c.in-Err-Range.ensures.stage es order has start) in
    ends_at_range es order c.args.t work columns c.args.done.now.items on c.requires.place c.args.unknown is large past

pub returns-clause-stage : goal.returns-clause-stage
returns-clause-stage c = λ es order is on.
    let work = c.args.work.now in
    let taken : parts_of c.replace-row.result ≡ parts_in work c.args.t =
    row_taken work c.args.t c.index-work-t.result c.replace-row.result c.requires.place c.replace-row.ensures.value in
    let read : number c.replace-row.result.left.items c.args.unknown ≡ number (parts_in work c.args.t).left c.args.unknown =
    ap (λ (p : Parts). number p.left c.args.unknown) taken in
    let columns = c.args.columns.now in
    let column = c.take_rows-holding.new.column in
    let column_is : rows_of column ≡ [] = c.take_rows-holding.ensures.none in
    let dest = c.replace-row.new.dest in
    let empty_is : parts_of dest ≡ no_parts = ap parts_of c.replace-row.ensures.after ∙ c.no_row.ensures in
    let holding : c.deref.result.now ≡ rows_in columns c.args.unknown =
    c.deref.ensures.value ∙ c.take_rows-holding.ensures.taken
    ∙ sym (at_read rows_of [] columns c.args.unknown c.index-columns-unknown.result c.requires.unknown) in
    let found : IsPutFirst c.replace-row.result.left.items c.put_first.new.row.items c.args.unknown =
    is_on c.in_ok-put_first.field-0 _ c.if-not-branch.false c.in_ok-put_first.ensures.first in
    let first : IsPutFirst (parts_in work c.args.t).left c.put_first.new.row.items c.args.unknown =
    subst (λ (p : Parts). IsPutFirst p.left c.put_first.new.row.items c.args.unknown) taken found in
    let large : 2 ^ 8 ≤ nat_abs (number (parts_in work c.args.t).left c.args.unknown) =
    subst (λ z. 2 ^ 8 ≤ nat_abs z) read (large_from c.in_ok-put_first.field-0 _ c.if-not-branch.false c.in_ok-put_first.ensures.large) in
    let entry : Entry = record { place = c.args.unknown; units = number (parts_in work c.args.t).left c.args.unknown } in
    let pivot : c.index.result.now ≡ entry = c.index.ensures ∙ ap (λ l. get_or l 0 c.index.result.now) first.new_is in
    let others : take (length c.deref-2.result.now - 1) (drop 1 c.deref-2.result.now) ≡ first.rest =
    rest_is c.deref-2.result.now first.rest entry (c.deref-2.ensures.value ∙ first.new_is) in
    let has = same_pivot es order c.args.t c.index.result.now entry _ first.rest pivot others
    (has_pivot es order c.args.t work columns c.args.done.now.items on c.requires.place c.put_first.new.row.items c.args.unknown first is) in
    let start : Clearing es order c.args.t c.deref.result.now 0 (set work c.args.t dest) (set columns c.args.unknown column) =
    subst (λ l. Clearing es order c.args.t l 0 (set work c.args.t dest) (set columns c.args.unknown column)) (sym holding)
    (clearing_start es order c.args.t work columns c.args.done.now.items on c.requires.place dest column empty_is column_is
    c.args.unknown is c.requires.unknown) in
    let row_is = ap (λ (p : Parts). record {
      equations = p.equations;
      others = p.others;
      left = c.put_first.new.row.items;
    }) taken in
    subst (λ l. Running es order (c.args.t + 1) c.clear_rows.new.work c.clear_rows.new.columns l) (sym c.in_ok-push-in-Ok.ensures.items)
    (running_more es order c.args.t work columns c.args.done.now.items on c.requires.place c.put_first.new.row.items c.args.unknown
    first is c.deref.result.now c.clear_rows.new.work c.clear_rows.new.columns
    (record {
      equations = c.replace-row.result.equations;
      others = c.replace-row.result.others;
      left = c.put_first.new.row;
    }) large (c.in-Ok.ensures.stage es order has start) row_is)

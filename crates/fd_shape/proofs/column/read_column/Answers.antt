use Rattle.std.proofs.Common.{◌≡◌, ◌∙◌, ◌<◌, All, unsigned_abs, FitsSigned, Some, ap, rules, sym, true}
use Rattle.std.proofs.lemmas.Int.{to_z-of_z}
use Rattle.std.specs.Int.{w128}
use Rattle.csv.specs.Records.{fields_of}
use Rattle.fd_shape.specs.Column.{column_from, column_of, first_number}
use Rattle.fd_shape.proofs.Columns.{after, after_nothing, after_some, sizes_after}
use Rattle.fd_shape.proofs.column.read_column.Goals as goal

pub loop-number-init : goal.loop-number-init
unfolding column_of
loop-number-init c =
    let none : All (λ n. unsigned_abs n < 1_000_000_000_000_000_000) c.new-values.result.items = search rules in
    (c.reader_of-reader.ensures.plain, rw (c.new-values.ensures.items, c.reader_of-reader.ensures.left) (sym (after_nothing _)), none)

pub loop-number-preserved : goal.loop-number-preserved
loop-number-preserved c =
    let inv = c.loop-number.invariant in
    let found : c.in_ok-next_record.field-0 ≡ true = search rules in
    let fits : FitsSigned w128 c.in-Some.value = search rules in
    let items = simp (to_z-of_z w128 c.in-Some.value fits) at c.in_ok-keep-in-Some.ensures in
    let left = rw found at c.in_ok-next_record.ensures.left in
    let value : first_number (fields_of c.next_record.new.row) ≡ Some c.in-Some.value = sym c.in-Some.ensures.value in (
      c.in_ok-next_record.ensures.plain found,
      rw items (inv.1 ∙ ap (λ rows. after c.loop-number.values.items (column_from c.loop-number.number rows)) left
          ∙ after_some c.loop-number.number c.loop-number.values.items _ _ c.in-Some.value value),
      rw items (sizes_after c.loop-number.values.items c.in-Some.value inv.2 c.in-Some.ensures.size),
    )

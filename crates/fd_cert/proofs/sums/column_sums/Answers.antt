use Rattle.std.proofs.Common.{◌∙◌, ◌<◌, arith, sym, subst, FitsSigned, rules}
use Rattle.std.specs.Int.{w64}
use Rattle.fd_enclosure.specs.fd_exact.States.{part}
use Rattle.fd_cert.specs.Columns.{AreColumns}
use Rattle.fd_cert.proofs.Units.{row_columns, row_entries, summed_all, summed_more, summed_past, summed_start, weaker_some, when_none, widened_is}
use Rattle.fd_cert.proofs.sums.column_sums.Goals as goal

pub add_products-past-requires-clause-columns : goal.add_products-past-requires-clause-columns
add_products-past-requires-clause-columns c =
    let h = c.requires.made.has in
    subst (λ n. AreColumns n c.row.result.now) (sym c.loop-row.invariant.long)
    (row_columns c.args.matrix.now.size c.loop-row.row h.at c.row.result.now (c.row.ensures h.at h.cells h.nothing))

pub returns-then-is_some-clause-past : goal.returns-then-is_some-clause-past
returns-then-is_some-clause-past c = λ J has.
    let row = c.loop-row.row in
    let m = c.args.matrix.now in
    let ff : FitsSigned w64 (part c.args.factors.now row) = search rules in
    let f = widened_is (part c.args.factors.now row) ff in
    let entries = row_entries m.size row has.at c.row.result.now J (c.row.ensures has.at has.cells has.nothing) has.entries in
    weaker_some c.add_products-past.result _ _ (λ j h. (
      subst (λ n. j < n) c.loop-row.invariant.long h.0,
      summed_past m c.args.factors.now c.loop-row.sums row _ c.row.result.now j J f c.row.ensures c.loop-row.invariant
          (omega arith) has h.1,
    )) (c.add_products-past.ensures.past (J row) entries)

pub loop-row-init : goal.loop-row-init
loop-row-init c = summed_start c.args.matrix.now c.args.factors.now c.args.sums.now c.requires.sums c.requires.zero

pub loop-row-preserved : goal.loop-row-preserved
loop-row-preserved c =
    let row = c.loop-row.row in
    let ff : FitsSigned w64 (part c.args.factors.now row) = search rules in
    let f = widened_is (part c.args.factors.now row) ff in
    summed_more c.args.matrix.now c.args.factors.now c.loop-row.sums c.add_products-past.new.sums row _
    c.row.result.now f c.row.ensures c.loop-row.invariant c.add_products-past.ensures.long
    c.add_products-past.ensures.units (λ at r.
    when_none c.add_products-past.result (c.add_products-past.ensures.sums at r)
    (sym c.is_some.ensures ∙ c.if-is_some.false))

pub returns-clause-sums : goal.returns-clause-sums
returns-clause-sums c = summed_all c.args.matrix.now c.args.factors.now c.loop-row.sums c.loop-row.row (omega arith) c.loop-row.invariant

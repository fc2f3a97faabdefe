use Rattle.std.proofs.Common.{Bool, ◌∷◌, sym, subst, ◌∙◌, ap, refl}
use Rattle.fd_certfile.specs.Lines.{lines_of}
use Rattle.fd_certfile.specs.Blocks.{row_at}
use Rattle.fd_certfile.specs.Readings.{PushesRow, cells_of}
use Rattle.fd_certfile.specs.Views.{view}
use Rattle.fd_certfile.proofs.Lines.{of_last}
use Rattle.fd_certfile.proofs.Reading.{cells_more, kept_start, kept_more, kept_all, line_refused, end_refused, lines_cut}
use Rattle.fd_certfile.proofs.block.rows.Goals as goal

pub loop-place-init : goal.loop-place-init
loop-place-init c = kept_start (row_at c.args.version c.args.count) cells_of c.args.keep c.args.count (lines_of c.args.bytes.now)
    c.in_ok-cells.cells c.in_ok-cells.ensures refl

pub loop-place-preserved : goal.loop-place-preserved
loop-place-preserved c =
    let r = subst (λ (ok : Bool). PushesRow c.args.keep c.loop-place.cells c.push_row.new.cells ok
    (row_at c.args.version c.args.count c.loop-place.place (view c.read_line.result)))
    c.if-not-branch.false c.in_ok-push_row-in-Some.ensures in
    kept_more (row_at c.args.version c.args.count) cells_of c.args.keep c.args.count (lines_of c.args.bytes.now)
    c.loop-place.place c.loop-place.cells (lines_of c.loop-place.rest.now) c.loop-place.invariant
    c.loop-place-test.true (view c.read_line.result) (lines_of c.in-Some.more.now) r.entries r.entries
    c.push_row.new.cells (lines_cut c.loop-place.rest.now c.in-Some.text.now c.in-Some.more.now
    c.in-Some.ensures.before c.in-Some.ensures.whole
    ∙ ap (λ l. l ∷ lines_of c.in-Some.more.now) (sym c.read_line.ensures))
    (sym r.same) (cells_more c.loop-place.invariant.front r.entries) r.added

pub returns-then-not-branch : goal.returns-then-not-branch
returns-then-not-branch c =
    let none = subst (λ (ok : Bool). PushesRow c.args.keep c.loop-place.cells c.push_row.new.cells ok
    (row_at c.args.version c.args.count c.loop-place.place (view c.read_line.result)))
    c.if-not-branch.true c.in_ok-push_row-in-Some.ensures in
    line_refused (row_at c.args.version c.args.count) cells_of c.args.keep c.args.count (lines_of c.args.bytes.now)
    c.loop-place.place c.loop-place.cells (lines_of c.loop-place.rest.now) c.loop-place.invariant
    c.loop-place-test.true (view c.read_line.result) (lines_of c.in-Some.more.now)
    (lines_cut c.loop-place.rest.now c.in-Some.text.now c.in-Some.more.now c.in-Some.ensures.before
    c.in-Some.ensures.whole
    ∙ ap (λ l. l ∷ lines_of c.in-Some.more.now) (sym c.read_line.ensures))
    (sym none)

pub returns-in-None : goal.returns-in-None
returns-in-None c =
    end_refused (row_at c.args.version c.args.count) cells_of c.args.keep c.args.count (lines_of c.args.bytes.now)
    c.loop-place.place c.loop-place.cells (lines_of c.loop-place.rest.now) c.loop-place.invariant
    c.loop-place-test.true
    c.loop-place.rest.now (λ j. refl) (of_last c.loop-place.rest.now c.in-None.ensures.none)

pub returns : goal.returns
returns c = kept_all (row_at c.args.version c.args.count) cells_of c.args.keep c.args.count (lines_of c.args.bytes.now)
    c.loop-place.place c.loop-place.cells (lines_of c.loop-place.rest.now) c.loop-place.invariant
    c.loop-place-test.false

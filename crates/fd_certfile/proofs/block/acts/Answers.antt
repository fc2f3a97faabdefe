use Rattle.std.proofs.Common.{List, ◌∷◌, sym, ◌∙◌, ap, arith, rules}
use Rattle.fd_certfile.specs.Blocks.{Act}
use Rattle.fd_certfile.specs.Lines.{Line, lines_of}
use Rattle.fd_certfile.specs.Views.{act, view}
use Rattle.fd_certfile.proofs.Lines.{of_last}
use Rattle.fd_certfile.proofs.Acts.{counted_start, one_act, no_act, no_line, counts}
use Rattle.fd_certfile.proofs.BlockReading.{length-lines_of}
use Rattle.fd_certfile.proofs.Reading.{lines_cut}
use Rattle.fd_certfile.proofs.block.acts.Goals as goal

pub loop-text-init : goal.loop-text-init
loop-text-init c = counted_start (lines_of c.args.bytes.now)

pub overflow_add-count : goal.overflow_add-count
overflow_add-count c = omega (arith, c.loop-text.invariant.lines, length-lines_of c.args.bytes.now)

pub loop-text-preserved : goal.loop-text-preserved
loop-text-preserved c =
    one_act (lines_of c.args.bytes.now) c.loop-text.count (lines_of c.loop-text.rest.now) c.loop-text.invariant
    (view c.read_line.result) (lines_of c.in-Some.more.now) (act c.in-Some-act_of._act)
    (lines_cut c.loop-text.rest.now c.in-Some.text.now c.in-Some.more.now c.in-Some.ensures.before
    c.in-Some.ensures.whole
    ∙ ap (λ l. l ∷ lines_of c.in-Some.more.now) (sym c.read_line.ensures))
    c.in-Some-act_of.ensures

pub returns-in-None-clause-count : goal.returns-in-None-clause-count
returns-in-None-clause-count c =
    let here = lines_cut c.loop-text.rest.now c.in-Some.text.now c.in-Some.more.now c.in-Some.ensures.before c.in-Some.ensures.whole
    ∙ ap (λ l. l ∷ lines_of c.in-Some.more.now) (sym c.read_line.ensures) in
    counts (lines_of c.args.bytes.now) c.loop-text.count (lines_of c.loop-text.rest.now) c.loop-text.invariant
    (no_act (lines_of c.args.bytes.now) c.loop-text.count (lines_of c.loop-text.rest.now) c.loop-text.invariant
    (view c.read_line.result) (lines_of c.in-Some.more.now) here c.in-None.ensures)

pub returns-in-None-clause-rest : goal.returns-in-None-clause-rest
returns-in-None-clause-rest c =
    let here = lines_cut c.loop-text.rest.now c.in-Some.text.now c.in-Some.more.now c.in-Some.ensures.before c.in-Some.ensures.whole
    ∙ ap (λ l. l ∷ lines_of c.in-Some.more.now) (sym c.read_line.ensures) in
    ap (λ (p : List Act × List Line). p.1)
    (no_act (lines_of c.args.bytes.now) c.loop-text.count (lines_of c.loop-text.rest.now) c.loop-text.invariant
    (view c.read_line.result) (lines_of c.in-Some.more.now) here c.in-None.ensures)

pub returns-clause-count : goal.returns-clause-count
returns-clause-count c =
    counts (lines_of c.args.bytes.now) c.loop-text.count (lines_of c.loop-text.rest.now) c.loop-text.invariant
    (no_line (lines_of c.args.bytes.now) c.loop-text.count (lines_of c.loop-text.rest.now) c.loop-text.invariant
    c.loop-text.rest.now (of_last c.loop-text.rest.now (search rules)))

pub returns-clause-rest : goal.returns-clause-rest
returns-clause-rest c =
    ap (λ (p : List Act × List Line). p.1)
    (no_line (lines_of c.args.bytes.now) c.loop-text.count (lines_of c.loop-text.rest.now) c.loop-text.invariant
    c.loop-text.rest.now (of_last c.loop-text.rest.now (search rules)))

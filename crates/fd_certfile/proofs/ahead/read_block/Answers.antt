use Rattle.std.proofs.Common.{List, ◌∷◌, sym, ◌∙◌, ap, subst}
use Rattle.fd_certfile.specs.Ahead.{GivesAhead}
use Rattle.fd_certfile.specs.Blocks.{block_at}
use Rattle.fd_certfile.specs.Lines.{Line, lines_of}
use Rattle.fd_certfile.specs.Readings.{RefusedBehind}
use Rattle.fd_certfile.specs.Views.{view}
use Rattle.fd_certfile.proofs.Lines.{of_last}
use Rattle.fd_certfile.proofs.Reading.{lines_cut}
use Rattle.fd_certfile.proofs.BlockReading.{due_line, none_refused, rest_refused}
use Rattle.fd_certfile.proofs.ahead.read_block.Goals as goal

pub returns-in-Some-head_of : goal.returns-in-Some-head_of
returns-in-Some-head_of c =
    let h = c.in-Some-head_of.head in
    let lines = ap (λ l. l ∷ lines_of c.in-Some.more.now)
    (due_line (view c.read_line.result) h.number h.hour h.round h.size c.in-Some-head_of.ensures)
    ∙ sym (lines_cut c.args.bytes.now c.in-Some.text.now c.in-Some.more.now c.in-Some.ensures.before
    c.in-Some.ensures.whole
    ∙ ap (λ l. l ∷ lines_of c.in-Some.more.now) (sym c.read_line.ensures)) in
    subst (λ (ls : List Line). GivesAhead c.args.version c.args.due c.body.result ls) lines c.body.ensures

pub returns-in-None-head_of : goal.returns-in-None-head_of
returns-in-None-head_of c =
    let lines = lines_cut c.args.bytes.now c.in-Some.text.now c.in-Some.more.now c.in-Some.ensures.before c.in-Some.ensures.whole
    ∙ ap (λ l. l ∷ lines_of c.in-Some.more.now) (sym c.read_line.ensures) in
    subst (λ (ls : List Line). RefusedBehind 0 ls (block_at c.args.version ls)) (sym lines)
    (none_refused c.args.version (view c.read_line.result) (lines_of c.in-Some.more.now) c.in-None-head_of.ensures)

pub returns-in-None : goal.returns-in-None
returns-in-None c = rest_refused c.args.version (lines_of c.args.bytes.now) c.args.bytes.now (of_last c.args.bytes.now c.in-None.ensures.none)

use Rattle.std.proofs.Common.{◌∷◌, sym, ◌∙◌, ap}
use Rattle.fd_certfile.specs.Lines.{lines_of}
use Rattle.fd_certfile.specs.Views.{act, view}
use Rattle.fd_certfile.proofs.ClaimedActs.{act_here, none_behind, none_here}
use Rattle.fd_certfile.proofs.Lines.{of_last}
use Rattle.fd_certfile.proofs.Reading.{lines_cut}
use Rattle.fd_certfile.proofs.claimed_acts.next_act.Goals as goal

pub returns-in-Some-act_of-clause-some : goal.returns-in-Some-act_of-clause-some
returns-in-Some-act_of-clause-some c =
    act_here (lines_of c.args.bytes.now) (view c.read_line.result) (lines_of c.in-Some.more.now)
    (act c.in-Some-act_of.act)
    (lines_cut c.args.bytes.now c.in-Some.text.now c.in-Some.more.now c.in-Some.ensures.before c.in-Some.ensures.whole
    ∙ ap (λ l. l ∷ lines_of c.in-Some.more.now) (sym c.read_line.ensures))
    c.in-Some-act_of.ensures

pub returns-in-None-act_of-clause-none : goal.returns-in-None-act_of-clause-none
returns-in-None-act_of-clause-none c =
    none_here (lines_of c.args.bytes.now) (view c.read_line.result) (lines_of c.in-Some.more.now)
    (lines_cut c.args.bytes.now c.in-Some.text.now c.in-Some.more.now c.in-Some.ensures.before c.in-Some.ensures.whole
    ∙ ap (λ l. l ∷ lines_of c.in-Some.more.now) (sym c.read_line.ensures))
    c.in-None-act_of.ensures

pub returns-in-None-clause-none : goal.returns-in-None-clause-none
returns-in-None-clause-none c = none_behind (lines_of c.args.bytes.now) c.args.bytes.now (of_last c.args.bytes.now c.in-None.ensures.none)

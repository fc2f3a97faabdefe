use Rattle.std.proofs.Common.{◌∙◌, slice_get, ap, subst, sym}
use Rattle.std.proofs.lemmas.Option.{slice_get_within}
use Rattle.fd_sweep.specs.Ladders.{IsTapped}
use Rattle.fd_sweep.proofs.Ready.{ready_here}
use Rattle.fd_sweep.proofs.ladder.rung_at.Goals as goal

pub branches_of-requires-clause-ready : goal.branches_of-requires-clause-ready
branches_of-requires-clause-ready c =
    let circuit = c.args.circuit.now in
    let here = ap (λ es. slice_get es c.args.number) (sym c.elements.ensures.entries)
    ∙ ap (λ es. slice_get es c.args.number) (sym c.as_slice.ensures.entries)
    ∙ sym c.in-Some.ensures.entry in
    ready_here circuit c.requires.ready c.elements.ensures.in_range c.args.number (c.in-Some.field-0-0.now, c.in-Some.element.now)
    (slice_get_within circuit.elements c.args.number (c.in-Some.field-0-0.now, c.in-Some.element.now) here) here

pub branches_of-requires-clause-taps : goal.branches_of-requires-clause-taps
branches_of-requires-clause-taps c =
    let here = ap (λ es. slice_get es c.args.number) (sym c.elements.ensures.entries)
    ∙ ap (λ es. slice_get es c.args.number) (sym c.as_slice.ensures.entries)
    ∙ sym c.in-Some.ensures.entry in
    subst (IsTapped c.in-Some.element.now) (sym c.taps_at.ensures)
    (c.requires.taps c.args.number (c.in-Some.field-0-0.now, c.in-Some.element.now) here)

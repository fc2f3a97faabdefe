use Rattle.std.proofs.Common.{◌∙◌, ◌++◌, ap}
use Rattle.std.proofs.lemmas.List.{map-append}
use Rattle.fd_solving.specs.fd_outside.Emitted.{pieces_of}
use Rattle.fd_solving.specs.fd_outcome.Settles.{settled}
use Rattle.fd_solving.specs.fd_pages.Hours.{settle_made}
use Rattle.fd_solving.specs.fd_sample.Probes.{positions_in}
use Rattle.fd_shorting.specs.Pages.{short_rows}
use Rattle.fd_shorting.proofs.Paged.{row_lines}
use Rattle.fd_shorting.proofs.page.ShortReportPage.settled.Goals as goal

pub returns : goal.returns
returns c l number =
    let first = c.in_ok-records.ensures l number in
    let made = c.args.made.now in
    let s = settle_made made.circuit.now made.hour l made.rounds.now settled (positions_in c.args.at.now) in
    let phases = c.in_ok-phases.ensures ∙ row_lines (short_rows s) in
    ap pieces_of c.in_ok-append.ensures.items
    ∙ map-append _ c.in_ok-records.records.items c.in_ok-phases.phases.items
    ∙ (λ i. first i ++ phases i)

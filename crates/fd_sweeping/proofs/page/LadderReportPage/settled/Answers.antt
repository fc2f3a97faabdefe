use Rattle.std.proofs.Common.{◌∙◌, ◌++◌, ap}
use Rattle.std.proofs.lemmas.List.{map-append}
use Rattle.fd_solving.specs.fd_outside.Emitted.{pieces_of}
use Rattle.fd_sweeping.proofs.page.LadderReportPage.settled.Goals as goal

pub returns : goal.returns
returns c l number =
    let first = c.in_ok-records.ensures l number in
    let behind = c.in_ok-behind.ensures in
    ap pieces_of c.in_ok-append.ensures.items
    ∙ map-append _ c.in_ok-records.records.items c.in_ok-behind.behind.items
    ∙ (λ i. first i ++ behind i)

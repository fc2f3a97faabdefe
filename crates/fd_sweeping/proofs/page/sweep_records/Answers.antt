use Rattle.std.proofs.Common.{◌≡◌, ◌∙◌, ap, Some, length, slice_get, rules}
use Rattle.fd_solving.specs.dss_layout.Layout.{layout_of, size_of}
use Rattle.fd_solving.specs.fd_cert.declared.ball.Certified.{Certified}
use Rattle.fd_solving.specs.fd_outcome.Pages.{solution_in}
use Rattle.fd_solving.specs.fd_outcome.Settles.{Round}
use Rattle.fd_solving.specs.fd_report.Solutions.{IsOfSize}
use Rattle.fd_solving.proofs.CallerLemmas.{of_first_round}
use Rattle.fd_sweeping.proofs.page.sweep_records.Goals as goal

pub swept_beside-requires-clause-boxes : goal.swept_beside-requires-clause-boxes
swept_beside-requires-clause-boxes c =
    let first : slice_get c.args.made.now.rounds.now 0 ≡ Some c.in-Some.round.now = search rules in
    ap (λ (m : Certified). length m.boxes.items) c.as_ref.ensures
    ∙ (of_first_round (λ (r : Round). IsOfSize (size_of (layout_of c.args.made.now.circuit.now.elements)) (solution_in r))
    c.args.made.now.rounds.now c.in-Some.round.now first c.requires.numbers).boxes

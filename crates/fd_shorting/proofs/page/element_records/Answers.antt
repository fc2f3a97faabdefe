use Rattle.std.proofs.Common.{◌≡◌, ◌∙◌, length, Some, slice_get, ap, subst, sym, arith, rules}
use Rattle.fd_fault.specs.dss_layout.Layout.{LayoutView, branch_phases, layout_of, size_of}
use Rattle.fd_fault.proofs.CallerLemmas.dss_layout.{length-sums_before}
use Rattle.fd_solving.specs.fd_outcome.Pages.{solution_in}
use Rattle.fd_solving.specs.fd_outcome.Settles.{Round}
use Rattle.fd_solving.specs.fd_pages.Hours.{round_in}
use Rattle.fd_solving.specs.fd_report.Solutions.{IsOfSize}
use Rattle.fd_solving.proofs.CallerLemmas.{of_first_round}
use Rattle.fd_shorting.proofs.page.element_records.Goals as goal

pub bus_records-requires-clause-place : goal.bus_records-requires-clause-place
bus_records-requires-clause-place c =
    let same = c.layout.ensures ∙ c.requires.network.layout in
    let count = ap (λ (l : LayoutView). length l.branches_before) same
    ∙ length-sums_before branch_phases 0 c.args.made.now.circuit.now.elements in
    omega (arith, count, c.requires.place)

pub bus_records-requires-clause-numbers : goal.bus_records-requires-clause-numbers
bus_records-requires-clause-numbers c =
    let same = c.layout.ensures ∙ c.requires.network.layout in
    let first : slice_get c.args.made.now.rounds.now 0 ≡ Some c.in-Some-first.round.now = search rules in
    subst (λ (l : LayoutView). IsOfSize (size_of l) (solution_in (round_in c.in-Some-first.round.now))) (sym same)
    (of_first_round (λ (r : Round). IsOfSize (size_of (layout_of c.args.made.now.circuit.now.elements)) (solution_in r))
    c.args.made.now.rounds.now c.in-Some-first.round.now first c.requires.numbers)

use Rattle.std.proofs.Common.{◌≡◌, ◌∙◌, true, [], ◌∷◌, None, ap, subst}
use Rattle.fd_solving.specs.fd_outcome.Behind.{last_calls}
use Rattle.fd_solving.specs.fd_outcome.Calls.{writes}
use Rattle.fd_solving.specs.fd_outcome.Events.{finishes, line}
use Rattle.fd_solving.specs.fd_outcome.Parts.{Finishes}
use Rattle.fd_solving.proofs.CallerLemmas.fd_outcome.{cut_before, untold_first, untold_last}
use Rattle.fd_solving.specs.fd_pages.Lines.{lines_of_text}
use Rattle.fd_bench.specs.Bench.{tally_text}
use Rattle.fd_bench.specs.Benching.{BenchView}
use Rattle.fd_solving.proofs.CallerLemmas.{printed_as, printed_cut}
use Rattle.fd_bench.proofs.Benched.{bench_finishes, last_line, no_last}
use Rattle.fd_bench.proofs.benching.BenchStateLine.finish.Goals as goal

pub returns-in_default-clause-told : goal.returns-in_default-clause-told
returns-in_default-clause-told g c files told =
    let text = tally_text c.self.inside.sections c.self.inside.tally in
    let done = bench_finishes g.L.Library.answers g.S.Sink.taken g.S.Sink.calls c.args._lib.now
    c.args.out.now c.args.out.now c.args._begun text 1 (printed_cut g.S.Sink.taken g.S.Sink.calls true c.args.out.now
    c.args.out.now _ None 1 (λ told none. no_last c.args._begun text none) (cut_before g.S.Sink.taken g.S.Sink.calls c.args.out.now _)) in
    subst (λ (v : BenchView).
    Finishes lines_of_text true (λ h. h ≡ finishes (line (tally_text v.sections v.tally) ∷ []))
    g.L.Library.answers g.S.Sink.taken g.S.Sink.calls c.args._lib.now c.args._lib.now c.args.out.now c.args.out.now
    c.args._begun 1)
    c.self.view_is done

pub returns-in_default-clause-untold : goal.returns-in_default-clause-untold
returns-in_default-clause-untold g c =
    untold_first g.L.Library.answers g.L.Library.holds g.S.Sink.faults g.S.Sink.taken g.S.Sink.calls c.args._lib.now
    c.args.out.now

pub returns-clause-told : goal.returns-clause-told
returns-clause-told g c files told =
    let text = tally_text c.self.inside.sections c.self.inside.tally in
    let printed = printed_as g.S.Sink.taken g.S.Sink.calls true c.args.out.now c.print_end.new.out _
    (last_calls lines_of_text c.args._begun (line text ∷ []) None) None c.print_end.result
    (ap (λ t. writes t ∷ []) c.in-Ok.ensures ∙ last_line c.args._begun text)
    (c.print_end.ensures.prints true (λ told none. cc none)) in
    let done = bench_finishes g.L.Library.answers g.S.Sink.taken g.S.Sink.calls c.args._lib.now
    c.args.out.now c.print_end.new.out c.args._begun text c.print_end.result printed in
    subst (λ (v : BenchView).
    Finishes lines_of_text true (λ h. h ≡ finishes (line (tally_text v.sections v.tally) ∷ []))
    g.L.Library.answers g.S.Sink.taken g.S.Sink.calls c.args._lib.now c.args._lib.now c.args.out.now
    c.print_end.new.out c.args._begun c.print_end.result)
    c.self.view_is done

pub returns-clause-untold : goal.returns-clause-untold
returns-clause-untold g c =
    untold_last g.L.Library.answers g.L.Library.holds g.S.Sink.faults g.S.Sink.taken g.S.Sink.calls true
    c.args._lib.now c.args.out.now c.print_end.new.out _ c.print_end.result
    (c.print_end.ensures.prints true (λ told none. cc none)) c.print_end.ensures.write

use Rattle.std.proofs.Common.{subst}
use Rattle.fd_solving.specs.fd_outcome.Parts.{EndsAt, GoesOn}
use Rattle.fd_solving.specs.fd_pages.Lines.{lines_of_text}
use Rattle.fd_bench.specs.Benching.{BenchView, IsBenchStep, bench_at}
use Rattle.fd_solving.proofs.CallerLemmas.{if_some_weaker}
use Rattle.fd_bench.proofs.Benched.{bench_ends, bench_goes}
use Rattle.fd_bench.proofs.benching.BenchStateLine.take.Goals as goal

pub returns-clause-goes : goal.returns-clause-goes
returns-clause-goes g c none =
    let s = bench_at c.self.inside.sections c.self.inside.tally c.self.inside.standing in
    let now = bench_at c.self.inside.sections c.take_command.new.tally c.take_command.new.standing in
    let goes = bench_goes g.S.Sink.taken g.S.Sink.calls c.args.command s c.take_command.new.standing
    c.take_command.new.tally c.args.out.now c.take_command.new.out c.args.begun.now c.take_command.new.begun
    (c.take_command.ensures.goes none) in
    subst (λ (v : BenchView).
    GoesOn lines_of_text (IsBenchStep c.args.command v) now g.S.Sink.taken g.S.Sink.calls c.args.out.now
    c.take_command.new.out c.args.begun.now c.take_command.new.begun)
    c.self.view_is goes

pub returns-clause-ends : goal.returns-clause-ends
returns-clause-ends g c =
    let s = bench_at c.self.inside.sections c.self.inside.tally c.self.inside.standing in
    if_some_weaker c.take_command.result _ _ (λ code ends.
    subst (λ (v : BenchView).
    EndsAt lines_of_text (IsBenchStep c.args.command v) g.S.Sink.taken g.S.Sink.calls c.args.out.now
    c.take_command.new.out c.args.begun.now code) c.self.view_is (bench_ends g.S.Sink.taken g.S.Sink.calls
    c.args.command s c.args.out.now c.take_command.new.out c.args.begun.now code ends))
    c.take_command.ensures.ends

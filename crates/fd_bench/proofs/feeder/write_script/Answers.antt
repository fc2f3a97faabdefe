use Rattle.std.proofs.Common.{◌∙◌, true, None, map, ap, sym}
use Rattle.fd_gen.specs.fd_outside.Emitted.{pieces_of}
use Rattle.fd_solving.specs.fd_outcome.Calls.{writes}
use Rattle.fd_solving.proofs.CallerLemmas.fd_outcome.{cut_before}
use Rattle.fd_solving.proofs.CallerLemmas.{printed_as, printed_cut}
use Rattle.fd_bench.proofs.Alone.{no_script, script_calls, some_line}
use Rattle.fd_bench.proofs.feeder.write_script.Goals as goal

pub returns-in_default-clause-prints : goal.returns-in_default-clause-prints
returns-in_default-clause-prints g c =
    printed_cut g.S.Sink.taken g.S.Sink.calls true c.args.out.now c.args.out.now _ None 1
    (λ told none. no_script c.args.number c.args.sections none)
    (cut_before g.S.Sink.taken g.S.Sink.calls c.args.out.now _)

pub returns-clause-prints : goal.returns-clause-prints
returns-clause-prints g c =
    printed_as g.S.Sink.taken g.S.Sink.calls true c.args.out.now c.print_end.new.out
    (map writes (pieces_of c.as_slice.result.now)) _ None c.print_end.result
    (ap (λ rs. map writes (pieces_of rs)) c.as_slice.ensures.value
    ∙ ap (map writes) c.in-Ok.ensures ∙ script_calls c.args.number c.args.sections)
    (c.print_end.ensures.prints true (λ told none. some_line c.args.number c.args.sections
    (sym (ap pieces_of c.as_slice.ensures.value ∙ c.in-Ok.ensures) ∙ none)))

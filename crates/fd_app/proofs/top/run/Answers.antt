use Rattle.std.specs.Prelude.{map, string_bytes}
use Rattle.fd_words.specs.Words.{form_of}
use Rattle.fd_app.proofs.Promised.{promised}
use Rattle.fd_app.proofs.top.run.Goals as goal

pub returns-clause-promise : goal.returns-clause-promise
returns-clause-promise g c files agrees =
    promised c.swept_law.ensures c.studied_law.ensures c.solved_law.ensures c.passed_law.ensures c.rule_law.ensures
    c.certificate_law.ensures c.accepted_law.ensures
    g.L.Library.answers g.S.Sink.taken g.S.Sink.calls files (form_of (map string_bytes c.args.words.now)) c.args.lib.now
    c.perform.new.lib c.args.out.now c.perform.new.out c.perform.result (c.perform.ensures.run files agrees)

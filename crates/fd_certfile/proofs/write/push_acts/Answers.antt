use Rattle.std.proofs.Common.{◌∙◌, All, ap, subst}
use Rattle.std.proofs.lemmas.List.{take_all}
use Rattle.fd_lines.specs.fd_outside.Emitted.{pieces_of}
use Rattle.fd_settle.specs.declared.round.Act.{Act as Made}
use Rattle.fd_certfile.specs.Blocks.{act_line}
use Rattle.fd_certfile.specs.Lines.{line_bytes}
use Rattle.fd_certfile.specs.Rounds.{AreNumbers, act_of}
use Rattle.fd_certfile.proofs.Writing.{acts_pushed, all_pushed, pieces_pushed}
use Rattle.fd_certfile.proofs.write.push_acts.Goals as goal

pub loop-act-preserved : goal.loop-act-preserved
loop-act-preserved c =
    let act = c.act-item.result in
    record {
      lines = acts_pushed (pieces_of c.args.records.now.items) (pieces_of c.loop-act.records.items)
          (pieces_of c.push.new.self.items) c.args.acts.now c.loop-act.act-index act c.in_ok-act_record.field-0.bytes
          c.loop-act.invariant.lines
          (pieces_pushed c.loop-act.records.items c.push.new.self.items c.in_ok-act_record.field-0 c.in_ok-push.ensures.items)
          (c.in_ok-act_record.ensures.line ∙ ap (λ (a : Made). line_bytes (act_line (act_of a))) c.act-item.is) c.loop-act-test.true;
      small = all_pushed (λ a. AreNumbers (act_of a)) c.args.acts.now c.loop-act.act-index act
          (subst (λ (a : Made). AreNumbers (act_of a)) c.act-item.is c.act_record.ensures.small) c.loop-act.invariant.small c.loop-act-test.true;
    }

pub returns-clause-small : goal.returns-clause-small
returns-clause-small c = subst (All (λ a. AreNumbers (act_of a)))
    (take_all c.loop-act.act-index c.args.acts.now c.loop-act-test.false) c.loop-act.invariant.small

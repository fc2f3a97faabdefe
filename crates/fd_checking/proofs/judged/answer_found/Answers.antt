use Rattle.fd_solving.specs.dss_script.Sessions.{found_bytes}
use Rattle.fd_checking.specs.Checks.{gathered}
use Rattle.fd_checking.specs.Gathered.{solved_by}
use Rattle.fd_checking.proofs.Judging.{answered_short}
use Rattle.fd_checking.proofs.judged.answer_found.Goals as goal

pub returns-in-Ok-clause-answers : goal.returns-in-Ok-clause-answers
returns-in-Ok-clause-answers g c circuit name = record {
  judged = c.in-Ok.judged;
  right = c.in-Ok.ensures.judged circuit name;
  of_check = c.in-Ok.ensures.command;
  prints = c.print_judged.ensures.prints;
}

pub returns-in-Err-clause-answers : goal.returns-in-Err-clause-answers
returns-in-Err-clause-answers g c circuit name =
    answered_short g.S.Sink.taken g.S.Sink.calls c.args.out.now
    (gathered circuit (solved_by c.args.commands.now) name) (found_bytes c.args.found)

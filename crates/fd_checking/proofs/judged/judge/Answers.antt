use Rattle.std.proofs.Common.{◌∙◌, List, Option, Some, ℕ, ap, subst, sym}
use Rattle.std.specs.Prelude.{IfErr, IfOk}
use Rattle.std.proofs.lemmas.Result.{IfOk-weaker}
use Rattle.fd_solving.specs.dss_script.Sessions.{found_bytes}
use Rattle.fd_check.specs.fd_daily.Underway.{no_positions}
use Rattle.fd_check.specs.fd_certfile.Verdict.{IsAnswer, accepted}
use Rattle.fd_check.specs.Checking.{after, due, open_solves}
use Rattle.fd_check.specs.Comes.{Tells}
use Rattle.fd_checking.specs.Checks.{gathered}
use Rattle.fd_checking.specs.Gathered.{solved_by}
use Rattle.fd_checking.proofs.Judging.{absent_is, judged_is}
use Rattle.fd_checking.proofs.judged.judge.Goals as goal

pub returns-in-Bytes-clause-judged : goal.returns-in-Bytes-clause-judged
returns-in-Bytes-clause-judged c circuit name =
    let g = gathered circuit (solved_by c.args.commands.now) name in
    let s = open_solves (solved_by c.args.commands.now) no_positions 0 in
    let same = ap (λ (bs : List ℕ). Some bs) c.as_slice.ensures.value ∙ sym (ap found_bytes c.in-Bytes.is) in
    let ok =
    subst (λ (f : Option (List ℕ)). IfOk c.check_script.result (λ count. IsAnswer due after f s (accepted count)))
    same c.check_script.ensures.accepted in
    let err = subst (λ (f : Option (List ℕ)). IfErr c.check_script.result (λ e. Tells e (IsAnswer due after f s))) same c.check_script.ensures.refused in
    IfOk-weaker c.judged_by.result _ _ (λ j is. judged_is g (found_bytes c.args.found) c.check_script.result j ok err is) c.judged_by.ensures

pub returns-in-Absent-clause-judged : goal.returns-in-Absent-clause-judged
returns-in-Absent-clause-judged c circuit name =
    let g = gathered circuit (solved_by c.args.commands.now) name in
    IfOk-weaker c.judged_by-in-Absent.result _ _
    (λ j is. absent_is g (found_bytes c.args.found) j (ap found_bytes c.in-Absent.is) is)
    c.judged_by-in-Absent.ensures

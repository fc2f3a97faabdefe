use Rattle.std.proofs.Common.{rules, subst}
use Rattle.fd_fault.specs.dss_ready.Ready.{IsToBlame}
use Rattle.fd_shorting.specs.Shorting.{ShortingView}
use Rattle.fd_shorting.proofs.Ended.{blamed_end}
use Rattle.fd_shorting.proofs.shorting.Shorting.tested.Goals as goal

pub returns-in-Err-Blame : goal.returns-in-Err-Blame
returns-in-Err-Blame c =
    let told = rw c.in-Err-Blame.field-0-is at c.in-Err-Blame.ensures in
    blamed_end c.args.self.now c.in-Err-Blame.blame (search rules)
    (subst (λ (v : ShortingView). IsToBlame v.circuit c.in-Err-Blame.blame) c.self.view_is told)

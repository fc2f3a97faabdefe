use Rattle.std.proofs.Common.{ap}
use Rattle.dss_script.proofs.Steps.{tells_ended, with_ended}
use Rattle.dss_script.proofs.session.Session.next.Goals as goal

pub returns-clause-told : goal.returns-clause-told
returns-clause-told g c =
    λ files told.
    tells_ended files _ c.go_on-result.new.self _ c.is_err-self-inside.result c.go_on-result.result
    (ap (λ s. with_ended s c.is_err-self-inside.result) c.self-2.view_is) (c.go_on-result.ensures.told files told)

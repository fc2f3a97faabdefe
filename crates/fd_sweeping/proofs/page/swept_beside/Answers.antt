use Rattle.std.proofs.lemmas.Result.{IfOk-weaker}
use Rattle.std.proofs.Common.{◌∙◌}
use Rattle.fd_solving.specs.fd_cert.Claims.{claim_in}
use Rattle.fd_sweeping.proofs.Started.{beside_is, none_refused}
use Rattle.fd_sweeping.proofs.page.swept_beside.Goals as goal

pub returns-in-Err-Range : goal.returns-in-Err-Range
returns-in-Err-Range c =
    none_refused c.args.circuit.now c.in_ok-at.at c.no_positions.result c.in_ok-powers.powers
    c.no_positions.ensures.none
    c.in_ok-at.ensures.taps c.in_ok-at.ensures.closed c.in_ok-powers.ensures.powers (claim_in c.args.certified.now)
    c.in-Err-Range.field-0 _ c.in-Err-Range.field-0-is c.in-Err-Range.ensures.fault

pub returns : goal.returns
returns c =
    let m = claim_in c.args.certified.now in
    let same =
    beside_is c.args.circuit.now c.in_ok-at.at c.no_positions.result c.in_ok-powers.powers
    c.no_positions.ensures.none
    c.in_ok-at.ensures.taps c.in_ok-at.ensures.closed c.in_ok-powers.ensures.powers m c.in-Ok.net.rows
    c.in-Ok.ensures.network
    c.in-Ok.ensures.no_blame in
    IfOk-weaker c.beside_network.result _ _ (λ l is. is ∙ same) c.beside_network.ensures

use Rattle.fd_rowcert.proofs.Firsts.{all_wide}
use Rattle.fd_rowcert.proofs.rechecking.rows_broken.Goals as goal

pub returns-in-None-clause-wide : goal.returns-in-None-clause-wide
returns-in-None-clause-wide c = λ e.
    all_wide c.args.rows.now.claim.bounds.items c.deref.result.now c.args.radius.now c.deref.ensures.value
    c.first_narrow.result
    c.first_narrow.ensures c.in-None.is

use Rattle.std.proofs.Common.{◌∙◌, sym}
use Rattle.fd_sweeping.proofs.Besides.{is_loose, is_tight}
use Rattle.fd_sweeping.proofs.beside.tight_mismatches.Goals as goal

pub returns-in-Some : goal.returns-in-Some
returns-in-Some c =
    is_loose c.args.net.now c.args.x.now c.deref.result.now
    (c.deref.ensures.value ∙ c.in_ok-mismatch.ensures.mismatches)
    c.in-Some.row c.in-Some.ensures.first c.in-Some.ensures.inside

pub returns-in-None : goal.returns-in-None
returns-in-None c =
    is_tight c.args.net.now c.args.x.now c.deref.result.now
    (c.deref.ensures.value ∙ c.in_ok-mismatch.ensures.mismatches)
    c.in_ok-mismatch.mismatch.items (sym c.deref.ensures.value) c.in-None.ensures.first c.in-None.ensures.tight

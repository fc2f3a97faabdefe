use Rattle.std.proofs.Common.{sym, subst}
use Rattle.fd_system.specs.System.{Represents}
use Rattle.fd_source.specs.Equations.{stamp_from, source_constants, source_parts}
use Rattle.fd_source.proofs.Rows.{source_is}
use Rattle.fd_source.proofs.terms.source_terms.Goals as goal

pub returns-clause-represents : goal.returns-clause-represents
returns-clause-represents c =
    let s = c.args.source.now in
    let at = c.args.at.now in
    let terms = c.in_ok-terms.ensures.list in
    let constants = c.in_ok-constants.ensures in
    let r = subst (λ ts. Represents (stamp_from at (source_constants s) ts) (source_parts s at)) (sym terms) (source_is s at).represents in
    subst (λ cs. Represents (stamp_from at cs c.in_ok-terms.terms.items) (source_parts s at)) (sym constants) r

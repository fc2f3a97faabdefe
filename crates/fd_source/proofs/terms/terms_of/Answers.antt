use Rattle.std.proofs.Common.{◌≡◌, sym, subst, arith}
use Rattle.std.proofs.lemmas.Grind.{common_steps}
use Rattle.std.specs.List.{All}
use Rattle.fd_system.specs.Contributions.{IsDivided}
use Rattle.fd_source.specs.Equations.{source_list}
use Rattle.fd_source.proofs.Rows.{source_is}
use Rattle.fd_source.proofs.terms.terms_of.Goals as goal

pub returns-clause-divided : goal.returns-clause-divided
returns-clause-divided c =
    let e : c.loop-k.terms.items ≡ source_list c.args.source.now c.args.at.now = grind (arith, common_steps) in
    subst (All IsDivided) (sym e) (source_is c.args.source.now c.args.at.now).divided

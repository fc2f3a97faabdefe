use Rattle.std.proofs.Common.{◌≡◌, sym, subst, arith}
use Rattle.std.proofs.lemmas.Grind.{common_steps}
use Rattle.std.specs.List.{All}
use Rattle.fd_system.specs.Contributions.{IsDivided}
use Rattle.fd_system.specs.Equations.{AddsUp}
use Rattle.fd_line.specs.Line.{line_list, line_parts}
use Rattle.fd_line.proofs.Line.{line_is}
use Rattle.fd_line.proofs.terms.terms_of.Goals as goal

pub returns-clause-adds_up : goal.returns-clause-adds_up
returns-clause-adds_up c =
    let e : c.loop-k.terms.items ≡ line_list c.args.line.now c.args.at.now = grind (arith, common_steps) in
    subst (λ ts. AddsUp ts (line_parts c.args.line.now c.args.at.now)) (sym e) (line_is c.args.line.now c.args.at.now).adds_up

pub returns-clause-divided : goal.returns-clause-divided
returns-clause-divided c =
    let e : c.loop-k.terms.items ≡ line_list c.args.line.now c.args.at.now = grind (arith, common_steps) in
    subst (All IsDivided) (sym e) (line_is c.args.line.now c.args.at.now).divided

use Rattle.std.proofs.Common.{◌≤◌, length, sym, subst}
use Rattle.std.specs.List.{All}
use Rattle.fd_system.specs.Contributions.{IsDivided}
use Rattle.fd_system.specs.Equations.{AddsUp}
use Rattle.fd_cap.specs.Capacitor.{cap_parts}
use Rattle.fd_cap.proofs.Capacitor.{cap_is}
use Rattle.fd_cap.proofs.terms.add_terms.Goals as goal

pub returns-clause-adds_up : goal.returns-clause-adds_up
returns-clause-adds_up c =
    let a = c.args in
    let e = c.add_where_closed.ensures.list in
    subst (λ ts. AddsUp ts (cap_parts a.cap.now a.closed a.at.now)) (sym e) (cap_is a.cap.now a.closed a.at.now c.requires.cap).adds_up

pub returns-clause-divided : goal.returns-clause-divided
returns-clause-divided c =
    let a = c.args in
    let e = c.add_where_closed.ensures.list in
    subst (All IsDivided) (sym e) (cap_is a.cap.now a.closed a.at.now c.requires.cap).divided

pub returns-clause-few : goal.returns-clause-few
returns-clause-few c =
    let a = c.args in
    let e = c.add_where_closed.ensures.list in
    subst (λ ts. length ts ≤ 24) (sym e) (cap_is a.cap.now a.closed a.at.now c.requires.cap).few

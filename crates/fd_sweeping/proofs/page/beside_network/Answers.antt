use Rattle.std.proofs.Common.{◌≡◌, sym, subst}
use Rattle.fd_solving.specs.dss_layout.Layout.{LayoutView}
use Rattle.fd_solving.specs.fd_cert.Claims.{claim_in}
use Rattle.fd_solving.specs.fd_pattern.Views.{NetworkView}
use Rattle.fd_sweeping.specs.Stepping.{IsClaimed, IsLayoutOf, IsPointIfSettled}
use Rattle.fd_sweeping.proofs.Started.{claimed, settled_fits, stands}
use Rattle.fd_sweeping.proofs.page.beside_network.Goals as goal

pub ladder_of-requires-clause-layout : goal.ladder_of-requires-clause-layout
ladder_of-requires-clause-layout c =
    let net = c.args.net.now in
    rw (c.layout.ensures, c.rows-rows.ensures)
    (stands net c.args.circuit.now c.size-size.ensures.valid c.requires.built)

pub ladder_of-requires-clause-claim : goal.ladder_of-requires-clause-claim
ladder_of-requires-clause-claim c =
    let net = c.args.net.now in
    rw (c.rows-rows.ensures)
    (claimed net c.args.circuit.now c.size-size.ensures.valid c.requires.built
    (claim_in c.args.certified.now) c.requires.claim c.requires.boxes)

pub ladder_of-requires-clause-swept : goal.ladder_of-requires-clause-swept
ladder_of-requires-clause-swept c =
    let rows = c.args.net.now.rows in
    rw (c.rows-rows.ensures)
    (settled_fits c.args.circuit.now c.args.at.now rows c.options.result.now.maxiterations c.in-Ok.swept
    c.in-Ok.ensures)

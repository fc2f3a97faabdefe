use Rattle.std.proofs.Common.{is_some, sym, ap}
use Rattle.fd_bases.proofs.Noting.{place_noted}
use Rattle.fd_bases.proofs.touching.note.Goals as goal

pub returns-in-Some : goal.returns-in-Some
returns-in-Some c =
    let found = sym c.in-Some.ensures.value in
    place_noted _ _ c.args.bus.now c.args.place _ _ found c.in_ok-push.ensures.items
    ((c.get_mut.follows.holds c.push.new.self).3 (ap is_some found)).0

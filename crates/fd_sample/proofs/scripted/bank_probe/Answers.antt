use Rattle.std.proofs.Common.{pos, neg_ℤ, ◌*◌, arith}
use Rattle.std.proofs.lemmas.Int.{ints}
use Rattle.fd_sample.proofs.Signed.{back}
use Rattle.fd_sample.proofs.Sites.{cap_places}
use Rattle.fd_sample.proofs.scripted.bank_probe.Goals as goal

pub returns-clause-probe : goal.returns-clause-probe
returns-clause-probe c =
    let s = c.args.control.now in
    let on = back (neg_ℤ (pos (1_000_000 * 1_000_000_000))) (pos (1_000_000 * 1_000_000_000)) s.onsetting
    c.requires.control.onsetting (omega (arith, ints)) (omega (arith, ints)) in
    let off = back (neg_ℤ (pos (1_000_000 * 1_000_000_000))) (pos (1_000_000 * 1_000_000_000)) s.offsetting
    c.requires.control.offsetting (omega (arith, ints)) (omega (arith, ints)) in
    λ i. record {
      bank = c.args.bank;
      measured = c.measured.ensures i;
      on = on i;
      off = off i;
      delay = s.delay;
      delayoff = s.delayoff;
      deadtime = s.deadtime;
    }

pub returns-clause-places : goal.returns-clause-places
returns-clause-places c = λ n places h.
    cap_places c.args.control.now c.args.line.now c.args.at.now c.args.bank n places _ (returns-clause-probe c)
    c.requires.control c.requires.line.phases.most c.requires.current_phase h

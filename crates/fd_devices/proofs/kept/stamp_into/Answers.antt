use Rattle.std.proofs.Common.{◌∙◌, ◌<◌, ◌^◌, length, arith, ap, refl, sym, subst}
use Rattle.fd_xfmr.specs.fd_system.System.{StampView}
use Rattle.fd_xfmr.proofs.CallerLemmas.fd_system.{first_beside, room_then}
use Rattle.fd_devices.specs.Kept.{AreFewOf}
use Rattle.fd_devices.proofs.Keeping.{fixed_few, kept_small, unmoved}
use Rattle.std.proofs.lemmas.Result.{on_ok_weaker}
use Rattle.fd_devices.specs.Settings.{settings_in}
use Rattle.fd_devices.proofs.Settling.{transformer_here, capacitor_here, load_here}
use Rattle.fd_devices.proofs.kept.stamp_into.Goals as goal

pub load_into-requires-clause-magnitude : goal.load_into-requires-clause-magnitude
load_into-requires-clause-magnitude c = subst (λ m. m < 2 ^ 31) (sym c.first_magnitude.ensures) c.requires.place.first

pub returns-in-Transformer-clause-settled : goal.returns-in-Transformer-clause-settled
returns-in-Transformer-clause-settled c =
    on_ok_weaker c.transformer_into.result
    (transformer_here c.args.layout.now c.args.hertz c.args.place c.args.element.now (settings_in c.args.own.now)
    c.args.kept.now.at c.requires.kept.at c.requires.ready.sited c.in-Transformer.xfmr _ c.in-Transformer.is refl)
    c.transformer_into.ensures.settled

pub returns-in-Capacitor-clause-settled : goal.returns-in-Capacitor-clause-settled
returns-in-Capacitor-clause-settled c =
    on_ok_weaker c.capacitor_into.result
    (capacitor_here c.args.layout.now c.args.hertz c.args.place c.args.element.now (settings_in c.args.own.now)
    c.args.kept.now.at c.requires.kept.at c.requires.ready.sited c.in-Capacitor.bank _ c.in-Capacitor.is refl)
    c.capacitor_into.ensures.settled

pub returns-in-Load-clause-settled : goal.returns-in-Load-clause-settled
returns-in-Load-clause-settled c =
    on_ok_weaker c.load_into.result (load_here c.args.layout.now c.args.hertz c.args.place c.args.element.now
    (settings_in c.args.own.now) c.args.kept.now.at c.requires.kept.at c.requires.ready.sited c.in-Load.load
    c.args.kept.now.at.first c.first_magnitude.result c.in-Load.is refl c.first_magnitude.ensures)
    c.load_into.ensures.settled

pub append_reserved-requires : goal.append_reserved-requires
append_reserved-requires c =
    let none = unmoved c.args.element.now c.in_default.not-Transformer c.in_default.not-Capacitor c.in_default.not-Load in
    let small = kept_small c.args.layout.now c.args.hertz c.args.place c.args.element.now (settings_in c.args.own.now)
    c.args.kept.now c.requires.kept none c.requires.ready.in_range in
    let a = c.clear.ensures.stamp in
    let t = ap (λ (x : StampView). length x.terms) a in
    let l = ap (λ (x : StampView). length x.loads) a in
    let k = ap (λ (x : StampView). length x.constants) a in
    let d = ap (λ (x : StampView). x.draw) a in
    let room = c.clear.ensures.room in
    record {
      draw = omega (arith, d, small.draw);
      terms = omega (arith, t, small.terms, room.terms, c.requires.room.terms);
      loads = omega (arith, l, small.loads, room.loads, c.requires.room.loads);
      constants = omega (arith, k, small.constants, room.constants, c.requires.room.constants);
    }

pub returns-in_default : goal.returns-in_default
returns-in_default c =
    let none = unmoved c.args.element.now c.in_default.not-Transformer c.in_default.not-Capacitor c.in_default.not-Load in
    let s = settings_in c.args.own.now in
    let stamp = c.append_reserved.ensures.stamp ∙ first_beside _ _ c.clear.ensures.stamp ∙ c.requires.kept.stamp none s in
    let settled = c.requires.kept.settled none s in
    record {
      stamp = stamp;
      settled = settled;
      few = subst (AreFewOf c.args.element.now) (sym stamp) (fixed_few c.args.layout.now c.args.hertz c.args.place c.args.element.now s none settled);
      range = tt;
      room = room_then _ _ _ c.clear.ensures.room c.append_reserved.ensures.room;
    }

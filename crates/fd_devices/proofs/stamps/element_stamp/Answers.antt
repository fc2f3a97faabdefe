use Rattle.std.proofs.Common.{◌≡◌, ◌<◌, ◌^◌, refl, sym, subst}
use Rattle.std.proofs.lemmas.Result.{IfOk-weaker}
use Rattle.std.specs.Prelude.{IfOk}
use Rattle.fd_xfmr.specs.fd_system.Stamps.{stamp_of}
use Rattle.fd_devices.specs.Devices.{device_stamp}
use Rattle.fd_devices.specs.Settings.{settings_in}
use Rattle.fd_devices.proofs.Settling.{source_here, line_here, transformer_here, capacitor_here, load_here, load_is, other_here}
use Rattle.fd_devices.proofs.stamps.element_stamp.Goals as goal

pub load_stamp-requires-clause-magnitude : goal.load_stamp-requires-clause-magnitude
load_stamp-requires-clause-magnitude c = subst (λ m. m < 2 ^ 31) (sym c.first_magnitude.ensures) c.requires.place.magnitudes.first

pub returns-in_ok-at-in-Vsource-clause-settled : goal.returns-in_ok-at-in-Vsource-clause-settled
returns-in_ok-at-in-Vsource-clause-settled c =
    IfOk-weaker c.source_stamp.result _ _ (λ p.
    source_here c.args.layout.now c.args.hertz c.args.place c.args.element.now (settings_in c.args.own.now)
    c.in_ok-at-in-Vsource.at c.in_ok-at-in-Vsource.ensures c.requires.ready.sited c.in-Vsource.source c.in-Vsource.is)
    c.source_stamp.ensures.settled

pub returns-in_ok-at-in-Line-clause-settled : goal.returns-in_ok-at-in-Line-clause-settled
returns-in_ok-at-in-Line-clause-settled c =
    IfOk-weaker c.line_stamp.result _ _ (λ p.
    line_here c.args.layout.now c.args.hertz c.args.place c.args.element.now (settings_in c.args.own.now)
    c.in_ok-at-in-Line.at c.in_ok-at-in-Line.ensures c.requires.ready.sited c.in-Line.line c.in-Line.is)
    c.line_stamp.ensures.settled

pub returns-in_ok-at-in-Load-clause-settled : goal.returns-in_ok-at-in-Load-clause-settled
returns-in_ok-at-in-Load-clause-settled c =
    IfOk-weaker c.load_stamp.result _ _ (λ p.
    load_here c.args.layout.now c.args.hertz c.args.place c.args.element.now (settings_in c.args.own.now)
    c.in_ok-at-in-Load.at c.in_ok-at-in-Load.ensures c.requires.ready.sited c.in-Load.load c.in_ok-at-in-Load.at.first
    c.first_magnitude.result c.in-Load.is refl c.first_magnitude.ensures)
    c.load_stamp.ensures.settled

pub returns-in_ok-at-in-Load-clause-stamp : goal.returns-in_ok-at-in-Load-clause-stamp
returns-in_ok-at-in-Load-clause-stamp c =
    let is = load_is c.args.layout.now c.args.hertz c.args.place c.args.element.now (settings_in c.args.own.now)
    c.in_ok-at-in-Load.at c.in_ok-at-in-Load.ensures c.requires.ready.sited c.in-Load.load c.in_ok-at-in-Load.at.first
    c.first_magnitude.result c.in-Load.is refl c.first_magnitude.ensures in
    subst (λ d. IfOk c.load_stamp.result (λ s. stamp_of s ≡ device_stamp d)) is c.load_stamp.ensures.stamp

pub returns-in_ok-at-in-Transformer-clause-settled : goal.returns-in_ok-at-in-Transformer-clause-settled
returns-in_ok-at-in-Transformer-clause-settled c =
    IfOk-weaker c.transformer_stamp.result _ _ (λ p.
    transformer_here c.args.layout.now c.args.hertz c.args.place c.args.element.now (settings_in c.args.own.now)
    c.in_ok-at-in-Transformer.at c.in_ok-at-in-Transformer.ensures c.requires.ready.sited c.in-Transformer.xfmr _
    c.in-Transformer.is refl)
    c.transformer_stamp.ensures.settled

pub returns-in_ok-at-in-Capacitor-clause-settled : goal.returns-in_ok-at-in-Capacitor-clause-settled
returns-in_ok-at-in-Capacitor-clause-settled c =
    IfOk-weaker c.capacitor_stamp.result _ _ (λ p.
    capacitor_here c.args.layout.now c.args.hertz c.args.place c.args.element.now (settings_in c.args.own.now)
    c.in_ok-at-in-Capacitor.at c.in_ok-at-in-Capacitor.ensures c.requires.ready.sited c.in-Capacitor.bank _
    c.in-Capacitor.is refl)
    c.capacitor_stamp.ensures.settled

pub returns-in_default-clause-settled : goal.returns-in_default-clause-settled
returns-in_default-clause-settled c =
    other_here c.args.layout.now c.args.hertz c.args.place (settings_in c.args.own.now) c.args.element.now
    c.in_default.not-Vsource c.in_default.not-Line c.in_default.not-Transformer c.in_default.not-Capacitor
    c.in_default.not-Load

use Rattle.std.proofs.Common.{◌≡◌, ◌∙◌, ℕ, ◌*◌, IfSome, Some, ap, subst, sym}
use Rattle.dss_ready.specs.dss_layout.Layout.{complex_count}
use Rattle.fd_devices.specs.fd_system.Contributions.{AreSmall}
use Rattle.fd_devices.specs.fd_system.Stamps.{stamp_of}
use Rattle.fd_devices.specs.fd_system.System.{StampView, stamp_with}
use Rattle.fd_equations.specs.fd_pattern.Coefficients.{linear_entry}
use Rattle.fd_equations.specs.fd_pattern.Conditions.{AreApart, IsNetwork}
use Rattle.fd_equations.specs.fd_pattern.Views.{network_of}
use Rattle.fd_devices.specs.Devices.{AgreesWith, parts_of_all, stamp_of_all}
use Rattle.fd_devices.specs.Scripted.{devices_from, layout_counts}
use Rattle.fd_devices.specs.Settings.{settings_in}
use Rattle.fd_devices.specs.Building.{has_small_sums}
use Rattle.fd_network.specs.Faults.{first_without}
use Rattle.fd_network.specs.Former.{AreFormerFrom}
use Rattle.fd_network.proofs.Apart.{apart}
use Rattle.fd_network.proofs.Assembling.{is_network, sum_first}
use Rattle.fd_network.proofs.Filling.{can_hold}
use Rattle.fd_network.proofs.Before.{known_at}
use Rattle.fd_network.proofs.assembly.assemble.Goals as goal

pub collect-requires-clause-former : goal.collect-requires-clause-former
collect-requires-clause-former c =
    let P = AreFormerFrom c.args.layout.now c.args.hertz 0 c.args.elements.now.entries in
    subst (λ o. IfSome o P) (sym c.former_of-former.ensures) (known_at P c.args.parts.now c.args.before c.requires.before)

pub exchange-requires : goal.exchange-requires
exchange-requires c =
    let ds = devices_from c.args.layout.now c.args.hertz 0 c.args.elements.now.entries (settings_in c.args.settings.now) in
    can_hold c.args.layout.now c.args.elements.now.entries ds (stamp_of c.collect.new.stamps.all)
    c.args.parts.now.rows c.requires.size c.in_ok-collect.ensures.collected c.reach_law.ensures
    (c.requires.reaches (settings_in c.args.settings.now)) c.requires.few c.requires.few_branches
    c.requires.few_complexes c.requires.few_magnitudes

pub returns-in-Ok-clause-valid : goal.returns-in-Ok-clause-valid
returns-in-Ok-clause-valid c =
    let layout = c.args.layout.now in
    let ds = devices_from layout c.args.hertz 0 c.args.elements.now.entries (settings_in c.args.settings.now) in
    let collected = c.in_ok-collect.ensures.collected in
    let a = stamp_of c.collect.new.stamps.all in
    let x = c.exchange.ensures.exchanged in
    let sums = subst (λ s. (row col : ℕ) → AreSmall (linear_entry s row col))
    (sym (ap (λ (x : StampView). x.terms) collected.stamp)) c.in-Ok.ensures.small.sums in
    let far = subst AreApart (sym (ap (λ (x : StampView). x.loads) collected.stamp)) (apart layout c.args.hertz
    (2 * complex_count layout) c.args.elements.now.entries (settings_in c.args.settings.now) c.requires.magnitudes) in
    let net = is_network layout c.args.elements.now.entries ds a collected sums far c.requires.few
    c.requires.few_branches c.requires.few_complexes c.requires.few_magnitudes in
    let constants = sym x.constants in
    let terms = sym x.terms in
    let loads = sym x.loads in
    let draw = sym x.draw in
    subst IsNetwork (λ i. network_of (layout_counts layout) (stamp_with (constants i).items (terms i) (loads i) (draw i))) net

pub returns-in-Ok-clause-agrees : goal.returns-in-Ok-clause-agrees
returns-in-Ok-clause-agrees c =
    let ds = devices_from c.args.layout.now c.args.hertz 0 c.args.elements.now.entries (settings_in c.args.settings.now) in
    let collected = c.in_ok-collect.ensures.collected in
    let x = c.exchange.ensures.exchanged in
    let constants = x.constants in
    let terms = x.terms in
    let loads = x.loads in
    let draw = x.draw in
    let stamp : stamp_with c.exchange.new.parts.constants.items c.exchange.new.parts.rows.terms
    c.exchange.new.parts.rows.loads c.exchange.new.parts.draw
    ≡ stamp_of_all ds =
    (λ i. stamp_with (constants i).items (terms i) (loads i) (draw i)) ∙ collected.stamp in
    subst (λ s. AgreesWith s (parts_of_all ds)) (sym stamp) (c.device_law.ensures ds collected.good)

pub returns-in-Err-clause-fault : goal.returns-in-Err-clause-fault
returns-in-Err-clause-fault c =
    let ds = devices_from c.args.layout.now c.args.hertz 0 c.args.elements.now.entries (settings_in c.args.settings.now) in
    let collected = c.in_ok-collect.ensures.collected in
    let terms = c.exchange.ensures.exchanged.terms ∙ ap (λ (a : StampView). a.terms) collected.stamp in
    sum_first ds c.in-Err.fault.0 collected.fits (subst (λ ts. first_without (has_small_sums ts) ds ≡ Some c.in-Err.fault.0) terms c.in-Err.ensures.fault)

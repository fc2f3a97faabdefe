use Rattle.std.proofs.Common.{List, ◌^◌, length, ap, subst, arith}
use Rattle.std.specs.List.{All, flat_map}
use Rattle.std.proofs.lemmas.Result.{on_ok_weaker}
use Rattle.fd_xfmr.specs.fd_system.declared.loads.LoadAt.{LoadAt}
use Rattle.fd_devices.specs.Devices.{loads}
use Rattle.fd_devices.specs.Building.{DeviceFits, IsUsable}
use Rattle.fd_xfmr.specs.fd_system.Loads.{linear_list}
use Rattle.fd_xfmr.specs.fd_system.System.{StampView}
use Rattle.fd_devices.proofs.PartLoads.{all_among, count_parts, nine_parts, parts_few}
use Rattle.fd_devices.proofs.Settling.{phases_settled}
use Rattle.fd_devices.proofs.writers.load_into.Goals as goal

pub returns-clause-settled : goal.returns-clause-settled
returns-clause-settled c =
    let is = c.load_phases_into.ensures.phases in
    let usable = subst (All IsUsable) is c.load_phases_into.ensures.usable in
    on_ok_weaker c.write_loads.result (λ fits.
    phases_settled c.args.load.now c.args.nodes.now c.args.magnitude c.args.powers.now c.requires.range usable
    (subst (λ (us : List LoadAt). DeviceFits (loads us)) is fits))
    c.write_loads.ensures.fits

pub write_loads-requires-clause-few : goal.write_loads-requires-clause-few
write_loads-requires-clause-few c =
    let load = c.args.load.now in
    let count = count_parts load c.args.nodes.now c.args.magnitude c.args.powers.now in
    let nine = nine_parts load.model load.phases c.requires.range.phases in
    omega (arith, ap length c.load_phases_into.ensures.phases, count, nine)

pub returns-clause-few_terms : goal.returns-clause-few_terms
returns-clause-few_terms c =
    let load = c.args.load.now in
    let few = parts_few load c.args.nodes.now c.args.magnitude c.args.powers.now (2 ^ 31) (all_among c.args.nodes.now c.requires.nodes.small) in
    let terms = ap (λ (us : List LoadAt). length (flat_map linear_list us)) c.load_phases_into.ensures.phases in
    on_ok_weaker c.write_loads.result (λ stamp. omega (arith, ap (λ (x : StampView). length x.terms) stamp, terms, few)) c.write_loads.ensures.stamp

pub returns-clause-few_loads : goal.returns-clause-few_loads
returns-clause-few_loads c =
    let load = c.args.load.now in
    let count = count_parts load c.args.nodes.now c.args.magnitude c.args.powers.now in
    on_ok_weaker c.write_loads.result (λ stamp. omega (arith, ap (λ (x : StampView). length x.loads) stamp, ap length c.load_phases_into.ensures.phases, count)) c.write_loads.ensures.stamp

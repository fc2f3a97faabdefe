use Rattle.std.proofs.Common.{◌∙◌, ap, sym, subst}
use Rattle.std.specs.List.{All, flat_map}
use Rattle.std.proofs.lemmas.List.{take_all}
use Rattle.fd_xfmr.specs.fd_system.Contributions.{IsDivided}
use Rattle.fd_xfmr.specs.fd_system.Loads.{linear_list}
use Rattle.fd_devices.proofs.Bounded.{loads_divided}
use Rattle.fd_devices.proofs.phase_loads.linear_terms_into.Goals as goal

pub returns-clause-divided : goal.returns-clause-divided
returns-clause-divided c =
    let all = c.loop-phase.invariant.terms ∙ ap (flat_map linear_list) (take_all c.loop-phase.phase-index c.args.phases.now c.loop-phase-test.false) in
    subst (All IsDivided) (sym all) (loads_divided c.args.phases.now c.requires.usable)

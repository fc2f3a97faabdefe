use Rattle.std.proofs.Common.{rules, subst}
use Rattle.std.specs.List.{All}
use Rattle.fd_xfmr.specs.fd_system.Contributions.{IsWithin}
use Rattle.fd_cap.specs.Capacitor.{cap_list}
use Rattle.fd_devices.specs.Building.{DeviceFits}
use Rattle.fd_devices.specs.Devices.{capacitor}
use Rattle.fd_devices.proofs.Fitting.{fit_terms}
use Rattle.fd_devices.proofs.Capacitors.{capacitor_settled}
use Rattle.fd_devices.proofs.writers.capacitor_data_into.Goals as goal

pub returns-clause-settled : goal.returns-clause-settled
returns-clause-settled c = λ m n size side.
    capacitor_settled m n size c.args.bank.now c.args.closed c.args.at.now c.requires.bank side
    (subst (All IsWithin) c.in_ok-cap_terms_into.ensures.list c.in_ok-cap_terms_into.ensures.within)

pub returns-in_err-cap_terms_into-clause-range : goal.returns-in_err-cap_terms_into-clause-range
returns-in_err-cap_terms_into-clause-range c =
    let far : ¬ (All IsWithin (cap_list c.args.bank.now c.args.closed c.args.at.now)) = search rules in
    let misfit : ¬ (DeviceFits (capacitor c.args.bank.now c.args.closed c.args.at.now)) =
    λ f. far (fit_terms (capacitor c.args.bank.now c.args.closed c.args.at.now) f) in
    search rules

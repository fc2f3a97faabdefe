use Rattle.std.proofs.Common.{rules, subst}
use Rattle.std.specs.List.{All}
use Rattle.fd_xfmr.specs.fd_system.Contributions.{IsWithin}
use Rattle.fd_xfmr.specs.Transformer.{xfmr_list}
use Rattle.fd_devices.specs.Building.{DeviceFits}
use Rattle.fd_devices.specs.Devices.{transformer}
use Rattle.fd_devices.proofs.Fitting.{fit_terms}
use Rattle.fd_devices.proofs.Transformers.{transformer_settled}
use Rattle.fd_devices.proofs.writers.transformer_data_into.Goals as goal

pub returns-clause-settled : goal.returns-clause-settled
returns-clause-settled c = λ m n size first second branches.
    transformer_settled m n size c.args.xfmr.now c.args.taps c.args.at.now c.requires.xfmr c.requires.taps first
    second branches (subst (All IsWithin) c.in_ok-xfmr_terms_into.ensures.list c.in_ok-xfmr_terms_into.ensures.within)

pub returns-in_err-xfmr_terms_into-clause-range : goal.returns-in_err-xfmr_terms_into-clause-range
returns-in_err-xfmr_terms_into-clause-range c =
    let far : ¬ (All IsWithin (xfmr_list c.args.xfmr.now c.args.taps c.args.at.now)) = search rules in
    let misfit : ¬ (DeviceFits (transformer c.args.xfmr.now c.args.taps c.args.at.now)) =
    λ f. far (fit_terms (transformer c.args.xfmr.now c.args.taps c.args.at.now) f) in
    search rules

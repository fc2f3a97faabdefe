use Rattle.std.proofs.Common.{◌≡◌, ◌∙◌, ◌*◌, Err, ap, subst, rules}
use Rattle.std.specs.List.{All}
use Rattle.dss_layout.specs.fd_arith.declared.terms.TermFault.TheVariants as fault
use Rattle.fd_xfmr.specs.fd_system.Contributions.{IsWithin}
use Rattle.fd_elements.specs.fd_source.Equations.{constants_from}
use Rattle.fd_devices.specs.Devices.{source}
use Rattle.fd_devices.proofs.Bounded.{source_settled}
use Rattle.fd_devices.proofs.Fitting.{fit_terms}
use Rattle.fd_devices.proofs.stamps.source_at.Goals as goal

pub returns-in_err-terms-clause-range : goal.returns-in_err-terms-clause-range
returns-in_err-terms-clause-range c = λ e f.
    let r : c.source_terms.result ≡ Err fault.Range = search rules in
    c.source_terms.ensures.range r (fit_terms (source c.args.source.now c.args.at.now) f)

pub returns-clause-stamp : goal.returns-clause-stamp
returns-clause-stamp c =
    let rows = c.in_ok-rows_from.ensures ∙ ap (constants_from (2 * c.args.at.now.branch)) (c.deref.ensures.value ∙ c.in_ok-terms.ensures.constants) in
    let terms = c.in_ok-terms.ensures.terms in
    let none = c.new.ensures.items in
    λ i. record { constants = rows i; terms = terms i; loads = none i; draw = 0 }

pub returns-clause-settled : goal.returns-clause-settled
returns-clause-settled c = λ m n size first branches.
    source_settled m n size c.args.source.now c.args.at.now c.requires.source.few c.requires.source.volts first branches
    (subst (All IsWithin) c.in_ok-terms.ensures.terms c.in_ok-terms.ensures.within)

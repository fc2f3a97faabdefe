use Rattle.fd_settings.specs.dss_model.declared.element.Element.{Element}
use Rattle.fd_settings.specs.dss_model.declared.names.ElementName.{ElementName}
use Rattle.fd_settings.specs.fd_devices.Settings.{bank_count}
use Rattle.fd_daily.proofs.Banks.{banks_kept}
use Rattle.fd_daily.proofs.day.no_openings.Goals as goal

pub loop-name-preserved : goal.loop-name-preserved
loop-name-preserved c =
    banks_kept (λ (e : ElementName × Element). bank_count e.1) c.loop-name.opened.items c.add_bank.new.opened.items _
    c.loop-name._name-iterator c.next.new.self (c.in-Some._name.now, c.in-Some.element.now) c.in-Some.ensures.steps
    c.in_ok-add_bank.ensures c.loop-name.invariant

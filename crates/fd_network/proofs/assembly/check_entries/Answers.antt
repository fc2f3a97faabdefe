use Rattle.std.proofs.Common.{subst}
use Rattle.std.specs.List.{All}
use Rattle.std.proofs.lemmas.Result.{on_ok_weaker}
use Rattle.fd_devices.specs.Building.{HasSmallSums}
use Rattle.fd_devices.specs.Scripted.{devices_from}
use Rattle.fd_devices.specs.Settings.{settings_in}
use Rattle.fd_network.proofs.Sums.{sums_small}
use Rattle.fd_network.proofs.assembly.check_entries.Goals as goal

pub returns-clause-small : goal.returns-clause-small
returns-clause-small c =
    let ds = devices_from c.args.layout.now c.args.hertz 0 c.args.elements.now.entries (settings_in c.args.settings.now) in
    on_ok_weaker c.check_sums.result (λ h. record {
      each = c.requires.fits;
      sums = sums_small ds (subst (λ ts. All (HasSmallSums ts) ds) c.requires.terms h);
    }) c.check_sums.ensures.small

use Rattle.std.proofs.Common.{ℕ, subst}
use Rattle.std.specs.Prelude.{OnOk}
use Rattle.fd_xfmr.specs.fd_system.Terminals.{node_count}
use Rattle.fd_devices.specs.Devices.{capacitor}
use Rattle.fd_devices.specs.Building.{IsSettled}
use Rattle.fd_devices.specs.Sound.{IsSideOf}
use Rattle.fd_devices.proofs.writers.capacitor_into.Goals as goal

pub returns-clause-settled : goal.returns-clause-settled
returns-clause-settled c =
    subst (λ d.
    OnOk c.capacitor_data_into.result ((m n size : ℕ) → IsSideOf n (node_count d.phases) c.args.at.now.first
    → IsSettled m n size 0 (capacitor d c.args.closed c.args.at.now)))
    c.cap_data.ensures.value c.capacitor_data_into.ensures.settled

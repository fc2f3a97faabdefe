use Rattle.std.proofs.Common.{ℕ, subst}
use Rattle.std.specs.Prelude.{OnOk}
use Rattle.fd_xfmr.specs.fd_system.Terminals.{node_count}
use Rattle.fd_devices.specs.Devices.{transformer}
use Rattle.fd_devices.specs.Building.{IsSettled}
use Rattle.fd_devices.specs.Sound.{HasBranches, IsSideOf}
use Rattle.fd_devices.proofs.writers.transformer_into.Goals as goal

pub returns-clause-settled : goal.returns-clause-settled
returns-clause-settled c =
    subst (λ d.
    OnOk c.transformer_data_into.result ((m n size : ℕ) → IsSideOf n (node_count d.phases) c.args.at.now.first
    → IsSideOf n (node_count d.phases) c.args.at.now.second
    → HasBranches n d.phases c.args.at.now → IsSettled m n size d.phases (transformer d c.args.taps c.args.at.now)))
    c.xfmr_data.ensures.value c.transformer_data_into.ensures.settled

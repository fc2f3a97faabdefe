use Rattle.std.proofs.Common.{ℕ, subst}
use Rattle.std.specs.Prelude.{IfOk}
use Rattle.fd_devices.specs.Devices.{line}
use Rattle.fd_devices.specs.Building.{IsSettled}
use Rattle.fd_devices.specs.Sound.{HasBranches, IsSideOf}
use Rattle.fd_devices.proofs.stamps.line_stamp.Goals as goal

pub returns-clause-settled : goal.returns-clause-settled
returns-clause-settled c =
    subst (λ d.
    IfOk c.line_at.result (λ p.
    (m n size : ℕ) → IsSideOf n d.phases c.args.at.now.first → IsSideOf n d.phases c.args.at.now.second
    → HasBranches n d.phases c.args.at.now → IsSettled m n size d.phases (line d c.args.at.now)))
    c.in_ok-data.ensures.value c.line_at.ensures.settled

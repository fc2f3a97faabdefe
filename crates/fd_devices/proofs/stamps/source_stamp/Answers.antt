use Rattle.std.proofs.Common.{◌≡◌, ℕ, Err, subst}
use Rattle.std.specs.Prelude.{IfOk}
use Rattle.dss_layout.specs.fd_arith.declared.terms.TermFault.TheVariants as fault
use Rattle.fd_xfmr.specs.fd_system.Stamps.{stamp_of}
use Rattle.fd_devices.specs.Devices.{device_stamp, source}
use Rattle.fd_devices.specs.Building.{DeviceFits, IsSettled}
use Rattle.fd_devices.specs.Sound.{HasBranches, IsSideOf}
use Rattle.fd_devices.proofs.stamps.source_stamp.Goals as goal

pub returns-clause-stamp : goal.returns-clause-stamp
returns-clause-stamp c =
    let is = c.in_ok-data.ensures.value in
    subst (λ d. IfOk c.source_at.result (λ s. stamp_of s ≡ device_stamp (source d c.args.at.now))) is c.source_at.ensures.stamp

pub returns-clause-settled : goal.returns-clause-settled
returns-clause-settled c =
    let is = c.in_ok-data.ensures.value in
    subst (λ d.
    IfOk c.source_at.result (λ p. (m n size : ℕ) → IsSideOf n d.phases c.args.at.now.first
    → HasBranches n d.phases c.args.at.now → IsSettled m n size d.phases (source d c.args.at.now)))
    is c.source_at.ensures.settled

pub returns-clause-range : goal.returns-clause-range
returns-clause-range c =
    let is = c.in_ok-data.ensures.value in
    subst (λ d. c.source_at.result ≡ Err fault.Range → ¬ (DeviceFits (source d c.args.at.now))) is c.source_at.ensures.range

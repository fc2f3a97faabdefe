-- Lemmas that callers cite.
use Rattle.std.proofs.Common.{◌≡◌, List}
use Rattle.fd_sample.proofs.CallerLemmas.fd_queue.{counted}
use Rattle.fd_sample.specs.fd_queue.Machine.{Act, Machine, Setup}
use Rattle.fd_sample.specs.fd_queue.MachineLaws.{IsCounted}
use Rattle.fd_settle.specs.Computed.{ComputationLaw}
use Rattle.fd_settle.specs.Sampling.{Sampling}
use Rattle.fd_settle.specs.Settle.{Moves, outcome_of}
use Rattle.fd_settle.proofs.Computations.{one_computation}
use Rattle.fd_settle.proofs.Going.{round_counts}
pub use Rattle.fd_settle.proofs.Computations.{computed}
pub use Rattle.fd_settle.proofs.Computing.{its_certificate, its_fault}
pub use Rattle.fd_settle.proofs.Ended.{nothing_due}
pub use Rattle.fd_settle.proofs.Histories.{history, whole}
pub use Rattle.fd_settle.proofs.KeptRounds.{hour_can_start, none_early, solve_can_start}
pub use Rattle.fd_sample.proofs.CallerLemmas.dss_ready as dss_ready
pub use Rattle.fd_inject.proofs.CallerLemmas.fd_equations as fd_equations
pub use Rattle.fd_inject.proofs.CallerLemmas.fd_inverse as fd_inverse
pub use Rattle.fd_inject.proofs.CallerLemmas as fd_inject
pub use Rattle.fd_cert.proofs.CallerLemmas.fd_enclosure as fd_enclosure
pub use Rattle.fd_cert.proofs.CallerLemmas as fd_cert
pub use Rattle.fd_sample.proofs.CallerLemmas as fd_sample

-- a settle whose states are computed has one computation
pub has_one_computation : ComputationLaw
has_one_computation = one_computation counted

-- a round that goes on is one act more, of those that are allowed
pub round_counted : (s : Setup) (m : Machine) (w : Sampling) (acts : List Act) (after : Machine)
    → outcome_of s m w ≡ Moves acts after → IsCounted s m after
round_counted = round_counts counted

-- Lemmas that the crates above use.
use Rattle.std.proofs.Common.{◌≡◌, ℕ, Ok}
use Rattle.fd_regctl.specs.fd_arith.Limits.{IsRoot}
use Rattle.fd_regctl.specs.fd_queue.Decisions.{Decision}
use Rattle.fd_regctl.specs.fd_queue.Verdicts.{decision}
use Rattle.fd_regctl.specs.fd_queue.declared.verdict.Verdict.{Verdict}
use Rattle.fd_regctl.specs.fd_queue.declared.verdict.Verdict.TheVariants as verdict
use Rattle.fd_sample.specs.Circuits.{ProbesLaw}
use Rattle.fd_sample.specs.Decided.{SampleLaw, sample_of}
use Rattle.fd_sample.specs.Roots.{root_down}
use Rattle.fd_sample.proofs.Decided.{every_state}
use Rattle.fd_sample.proofs.Kept.{are_probes}
use Rattle.fd_sample.proofs.SquareRoots.{root_of}
pub use Rattle.fd_sample.proofs.SquareRoots.{is_root, is_root_up}
pub use Rattle.fd_network.proofs.CallerLemmas.dss_ready as dss_ready
pub use Rattle.fd_regctl.proofs.CallerLemmas.fd_queue as fd_queue

-- ---- square roots

-- the one rounded down is that which the definition counts up to, and so is the one rounded up
pub root_is : (n r : ℕ) → IsRoot n r → r ≡ root_down n
root_is n r h = root_of n r h

-- ---- samples

-- what a sample over a ball decides, its control wants at every state of the ball
pub sample_wanted : SampleLaw
sample_wanted = every_state

-- a verdict whose sample decides is that decision
pub decision_told : (v : Verdict) (d : Decision) → sample_of v ≡ Ok d → decision v ≡ d
decision_told (verdict.Raise n) d h = cc
decision_told verdict.Hold d h = cc
decision_told (verdict.Lower n) d h = cc
decision_told (verdict.Undecided low high edge) d h = absurd (cc)

-- ---- the controls of a circuit

-- what the controls of a circuit that passed the tests of Solve keep to
pub probes_kept : ProbesLaw
probes_kept = are_probes

-- Lemmas that the crates above use.
use Rattle.std.proofs.Common.{◌≢◌, inl, ℕ}
use Rattle.fd_queue.specs.Quantities.{Quantity}
use Rattle.fd_queue.specs.Decisions.{IsOfAll, IsEdge}
use Rattle.fd_queue.proofs.CallerLemmas.{decided_everywhere}
use Rattle.fd_regctl.specs.Regulator.{Regulator, regulator_verdict, regulator_edge}
use Rattle.fd_regctl.specs.Settings.{RegSettings, regulator_at}
use Rattle.fd_regctl.proofs.Regulators.{regulator_along}
use Rattle.fd_regctl.proofs.Edges.{regulator_edges}
use Rattle.fd_regctl.proofs.SettingSteps.{settings_steps}
pub use Rattle.fd_queue.proofs.CallerLemmas as fd_queue

-- what a regulator decides over an interval, it decides at every quantity between
pub regulator_decided : (r : Regulator) → IsOfAll (regulator_verdict r)
regulator_decided r = decided_everywhere (regulator_verdict r) (inl (regulator_along r))

-- the edge of its undecided interval, by its settings at a tap
pub settings_edge : (s : RegSettings) (tap : ℕ) (low high : Quantity) →
    regulator_verdict (regulator_at s tap) low ≢ regulator_verdict (regulator_at s tap) high →
    IsEdge (regulator_verdict (regulator_at s tap)) low high
    (regulator_edge (regulator_at s tap) (regulator_verdict (regulator_at s tap) low))
settings_edge s tap low high d = regulator_edges (regulator_at s tap) low high (settings_steps s tap) d

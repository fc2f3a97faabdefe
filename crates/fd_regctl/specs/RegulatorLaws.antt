-- The laws of regulators.
use Rattle.std.specs.Prelude.{◌≡◌, ◌≢◌, ℕ, Bool, true, false, ◌+◌, ◌*◌, ◌≤◌, ◌<◌}
use Rattle.fd_queue.specs.Quantities.{Quantity}
use Rattle.fd_queue.specs.Decisions.{Decision, GoesAlong, IsOfAll, IsEdge, Raise, Hold, Lower}
use Rattle.fd_regctl.specs.Regulator.{Regulator, AreSteps, regulator_verdict, regulator_edge, capped, greatest_within}
use Rattle.fd_regctl.specs.Settings.{RegSettings, regulator_at}

-- from a low quantity to a high one a regulator's verdicts never go back
abbrev pub RegulatorLaw : Type 0
RegulatorLaw = (r : Regulator) → GoesAlong (regulator_verdict r)

-- so what is decided over an interval is so at every quantity that it holds
abbrev pub RegulatorDecidedLaw : Type 0
RegulatorDecidedLaw = (r : Regulator) → IsOfAll (regulator_verdict r)

abbrev pub RegulatorEdgeLaw : Type 0
RegulatorEdgeLaw = (r : Regulator) (low high : Quantity) → AreSteps r →
    regulator_verdict r low ≢ regulator_verdict r high → IsEdge (regulator_verdict r) low high (regulator_edge r (regulator_verdict r low))

-- the greatest n at which p holds, where p holds at all smaller ones
pub record IsGreatest (p : ℕ → Bool) (n : ℕ) : Type 0 where
  pub holds : 0 < n → p n ≡ true
  pub none : (k : ℕ) → n < k → p k ≡ false

-- it doesn't matter that steps are counted up to the most at once alone
abbrev pub StepsLaw : Type 0
StepsLaw = (p : ℕ → Bool) (n most room : ℕ) → IsGreatest p n → ((j k : ℕ) → j ≤ k → p k ≡ true → p j ≡ true) →
    capped most room n ≡ capped most room (greatest_within p most)

-- the steps of a regulator's settings fall and rise
abbrev pub SettingsLaw : Type 0
SettingsLaw = (s : RegSettings) (tap : ℕ) → AreSteps (regulator_at s tap)

-- a decision moves a tap by no more steps than are allowed at once, and not past its end; a tap past that end stays
pub record StepsUp (s : RegSettings) (tap n : ℕ) : Type 0 where
  pub few : n ≤ s.most
  pub within : tap ≤ s.max_tap → tap + n * s.changer.tap_step ≤ s.max_tap
  pub none : s.max_tap ≤ tap → n ≡ 0

pub record StepsDown (s : RegSettings) (tap n : ℕ) : Type 0 where
  pub few : n ≤ s.most
  pub within : s.min_tap ≤ tap → s.min_tap + n * s.changer.tap_step ≤ tap
  pub none : tap ≤ s.min_tap → n ≡ 0

abbrev pub StaysWithin : RegSettings → ℕ → Decision → Type 0
StaysWithin s tap (Raise n) = StepsUp s tap n
StaysWithin s tap Hold = Unit {0}
StaysWithin s tap (Lower n) = StepsDown s tap n

abbrev pub TapLaw : Type 0
TapLaw = (s : RegSettings) (tap : ℕ) (q : Quantity) → StaysWithin s tap (regulator_verdict (regulator_at s tap) q)

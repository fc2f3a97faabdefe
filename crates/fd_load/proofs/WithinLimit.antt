-- A phase that isn't past its limit.
use Rattle.std.proofs.Common.{ℕ, ◌*◌, ◌<◌, ◌^◌, ◌⊎◌, inl, inr, ⊎_elim, nat_abs, Decides}
use Rattle.std.proofs.lemmas.Bool.{cases_lt}
use Rattle.std.proofs.lemmas.Bool.Decides.{Decides-ltb, Decides-or}
use Rattle.fd_system.specs.declared.loads.LoadPhase.{LoadPhase}
use Rattle.fd_load.specs.Current.{AreLoadVoltages, IsLoadPhase, IsPast, is_past, power_sum}

abbrev siemens_limit : LoadPhase → ℕ
siemens_limit w = 2 ^ 12 * (nat_abs w.vlo * nat_abs w.vlo)

past_decides : (w : LoadPhase)
    → Decides (is_past w) ((10 ^ 11 < power_sum w) ⊎ (siemens_limit w < power_sum w * 10 ^ 9))
past_decides w = Decides-or _ _ (Decides-ltb (10 ^ 11) (power_sum w)) (Decides-ltb (siemens_limit w) (power_sum w * 10 ^ 9))

pub within_limit : (w : LoadPhase) → AreLoadVoltages w → ¬ (IsPast w) → IsLoadPhase w
within_limit w v n =
    let d = (past_decides w).1 in
    record {
      nominal_least = v.nominal_least;
      nominal_most = v.nominal_most;
      low_least = v.low_least;
      low_most = v.low_most;
      high_least = v.high_least;
      high_most = v.high_most;
      power = ⊎_elim (λ p. absurd (n (d (inl p)))) (λ q. q) (cases_lt (10 ^ 11) (power_sum w));
      admittance = ⊎_elim (λ p. absurd (n (d (inr p)))) (λ q. q) (cases_lt (siemens_limit w) (power_sum w * 10 ^ 9));
    }

-- The power of a phase of a load, in whole thousandths of a volt-ampere.
use Rattle.std.specs.Prelude.{◌≡◌, ℕ, ◌+◌, ◌-◌, ◌*◌, ◌^◌, ◌≤◌, ◌<◌, ℤ, pos, ◌*ℤ◌, nat_abs}
use Rattle.std.specs.Option.{unwrap_or}
use Rattle.dss_model.specs.fd_exact.Rounding.{near_div, signed, differ}
use Rattle.dss_model.specs.declared.words.ReactiveRule.{ReactiveRule}
use Rattle.dss_model.specs.declared.words.ReactiveRule.TheVariants as rule
use Rattle.dss_model.specs.declared.load.Load.{Load}
use Rattle.fd_elements.specs.declared.powers.LoadPower.{LoadPower}

-- a power of all phases, in 10^-9 kW, times the point of a load shape, in 10^-9, for one phase and rounded once: 10^-3 VA are
-- 10^3 of the one and 10^9 of the other
abbrev pub phase_power : ℤ → ℤ → ℕ → ℤ
phase_power total point phases = near_div (total *ℤ point) (10 ^ 12 * phases)

abbrev pub square : ℤ → ℕ
square z = nat_abs z * nat_abs z

-- Q by P and the power factor pf, in 10^-9: in size the root of P^2 (1 - pf^2) / pf^2, rounded down, and negative where just one of P and pf is
pub record IsByPowerFactor (p pf q : ℤ) : Type 0 where
  pub sign : q ≡ signed (differ p pf) (nat_abs q)
  pub least : nat_abs q * nat_abs q * square pf ≤ square p * (10 ^ 18 - square pf)
  pub most : square p * (10 ^ 18 - square pf) < (nat_abs q + 1) * (nat_abs q + 1) * square pf

abbrev pub IsReactive : ReactiveRule → Load → ℤ → ℤ → ℤ → Type 0
IsReactive rule.PowerFactor load point p q = IsByPowerFactor p load.pf q
IsReactive rule.Kvar load point p q = q ≡ phase_power (unwrap_or load.kvar (pos 0)) point load.phases

-- the power of one phase at a point of the load's shape
pub record IsLoadPower (load : Load) (point : ℤ) (power : LoadPower) : Type 0 where
  pub p : power.p ≡ phase_power load.kw point load.phases
  pub q : IsReactive load.reactive load point power.p power.q

-- at most 3 x 10^5 kW, and a hundred times as many kvar
pub record ArePowers (power : LoadPower) : Type 0 where
  pub p : nat_abs power.p ≤ 3 * 10 ^ 14
  pub q : nat_abs power.q ≤ 3 * 10 ^ 16

-- The powers of a load by function are those that their relation allows.
use Rattle.std.proofs.Common.{◌≡◌, ℕ, ◌+◌, ◌-◌, ◌*◌, ◌^◌, ◌<◌, ◌≤◌, ◌⊎◌, inl, inr, ℤ, nat_abs, Bool, true, leb, arith, sym, refl, subst}
use Rattle.std.proofs.lemmas.Bool.{cases_lt, leb-true, le-leb}
use Rattle.std.proofs.lemmas.Int.{ints}
use Rattle.std.proofs.Math.Nat.{mul-le-mul, mul-le-mul_left}
use Rattle.fd_devices.specs.fd_exact.Rounding.{signed, differ}
use Rattle.fd_devices.specs.dss_model.declared.words.ReactiveRule.{ReactiveRule}
use Rattle.fd_devices.specs.dss_model.declared.words.ReactiveRule.TheVariants as rule
use Rattle.fd_devices.specs.dss_model.Ranges.{IsPowerFactor}
use Rattle.fd_devices.specs.dss_model.declared.load.Load.{Load}
use Rattle.fd_devices.specs.fd_elements.declared.powers.LoadPower.{LoadPower}
use Rattle.fd_devices.specs.fd_elements.Powers.{IsByPowerFactor, IsLoadPower, IsReactive, phase_power, square}
use Rattle.fd_devices.proofs.CallerLemmas.fd_elements.{by_sign, same_power}
use Rattle.fd_settings.specs.Snapshot.{power_of, reactive_by, reactive_size}
use Rattle.fd_devices.proofs.CallerLemmas.fd_source.{greatest_holds, greatest_most}

-- q^2 pf^2 <= p^2 (1 - pf^2) at most where q <= 10^9 p, and then among the numbers that are looked at
root_within : (p d q : ℕ) → 1 ≤ d → q * q * d ≤ p * p * (10 ^ 18 - d) → q ≤ 10 ^ 9 * p
root_within p d q least h = by (cases_lt (10 ^ 9 * p) q)
  where
    by : (10 ^ 9 * p < q) ⊎ (q ≤ 10 ^ 9 * p) → q ≤ 10 ^ 9 * p
    by (inl l) =
        let bound : p * p * (10 ^ 18 - d) ≤ p * p * 10 ^ 18 = mul-le-mul_left (p * p) (omega arith) in
        let more : (10 ^ 9 * p + 1) * (10 ^ 9 * p + 1) ≤ q * q = mul-le-mul (omega arith) (omega arith) in
        let scaled : q * q * 1 ≤ q * q * d = mul-le-mul_left (q * q) least in
        let square : (10 ^ 9 * p + 1) * (10 ^ 9 * p + 1) ≡ 10 ^ 18 * (p * p) + 2 * (10 ^ 9 * p) + 1 = grind arith in
        absurd (omega arith)
    by (inr l) = l

module _ (p pf : ℤ) (least : 1 ≤ square pf) where
  abbrev Keeps : ℕ → Type 0
  Keeps q = q * q * square pf ≤ square p * (10 ^ 18 - square pf)

  abbrev keeps : ℕ → Bool
  keeps q = leb (q * q * square pf) (square p * (10 ^ 18 - square pf))

  size_keeps : (n : ℕ) → (keeps n ≡ true) ⊎ (n ≡ 0) → Keeps n
  size_keeps n (inl t) = leb-true _ _ t
  size_keeps n (inr e) = subst Keeps (sym e) (omega arith)

  size_most : square p * (10 ^ 18 - square pf) < (reactive_size p pf + 1) * (reactive_size p pf + 1) * square pf
  size_most = by (cases_lt (square p * (10 ^ 18 - square pf)) ((reactive_size p pf + 1) * (reactive_size p pf + 1) * square pf))
    where
      by : (square p * (10 ^ 18 - square pf) < (reactive_size p pf + 1) * (reactive_size p pf + 1) * square pf)
          ⊎ ((reactive_size p pf + 1) * (reactive_size p pf + 1) * square pf ≤ square p * (10 ^ 18 - square pf))
          → square p * (10 ^ 18 - square pf) < (reactive_size p pf + 1) * (reactive_size p pf + 1) * square pf
      by (inl l) = l
      by (inr l) =
          let within = root_within (nat_abs p) (square pf) (reactive_size p pf + 1) least l in
          let more : reactive_size p pf + 1 ≤ reactive_size p pf = greatest_most keeps (10 ^ 9 * nat_abs p) (reactive_size p pf + 1) (le-leb _ _ l) within in
          absurd (omega (arith, more))

  pub is_by_power_factor : IsByPowerFactor p pf (signed (differ p pf) (reactive_size p pf))
  is_by_power_factor =
      by_sign p pf (signed (differ p pf) (reactive_size p pf)) (reactive_size p pf) refl
      (size_keeps (reactive_size p pf) (greatest_holds keeps (10 ^ 9 * nat_abs p))) size_most

one_at_least : (pf : ℤ) → IsPowerFactor pf → 1 ≤ nat_abs pf
one_at_least pf (inl h) = omega (arith, ints, h.least)
one_at_least pf (inr h) = omega (arith, ints, h.most)

square_least : (pf : ℤ) → 1 ≤ nat_abs pf → 1 ≤ square pf
square_least pf h = let m : 1 * 1 ≤ nat_abs pf * nat_abs pf = mul-le-mul h h in m

is_reactive : (f : ReactiveRule) (load : Load) (point p : ℤ) → 1 ≤ square load.pf → IsReactive f load point p (reactive_by f load point p)
is_reactive rule.PowerFactor load point p h = is_by_power_factor p load.pf h
is_reactive rule.Kvar load point p h = refl

pub is_load_power : (load : Load) (point : ℤ) → IsPowerFactor load.pf → IsLoadPower load point (power_of load point)
is_load_power load point h = record {
  p = refl;
  q = is_reactive load.reactive load point (phase_power load.kw point load.phases) (square_least load.pf (one_at_least load.pf h));
}

-- powers that are allowed are those by function
pub power_is : (load : Load) (point : ℤ) (power : LoadPower) → IsPowerFactor load.pf → IsLoadPower load point power → power ≡ power_of load point
power_is load point power h is = same_power load point power (power_of load point) is (is_load_power load point h)

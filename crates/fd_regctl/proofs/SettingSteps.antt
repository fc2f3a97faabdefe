-- The steps of a regulator's settings fall and rise.
use Rattle.std.proofs.Common.{ℕ, suc, ◌+◌, ◌*◌, ◌/◌, ◌≤◌, ◌<◌, lit<, ℤ, pos, negsuc, ◌+ℤ◌, ◌-ℤ◌, ◌≤ℤ◌, arith}
use Rattle.std.proofs.Math.Nat.{mul-le-mul_right, div-mul-le_self}
use Rattle.std.proofs.lemmas.Nat.{le-div}
use Rattle.std.proofs.lemmas.Int.{ints}
use Rattle.fd_queue.specs.fd_exact.Rounding.{near_div}
use Rattle.fd_regctl.specs.Regulator.{AreSteps}
use Rattle.fd_regctl.specs.Settings.{RegSettings, volt_step, regulator_at}

near_nat : (a b d : ℕ) → 0 < d → a ≤ b → (2 * a + d) / (2 * d) ≤ (2 * b + d) / (2 * d)
near_nat a b d o h =
    let here : (2 * a + d) / (2 * d) * (2 * d) ≤ 2 * a + d = div-mul-le_self (2 * a + d) (2 * d) in
    le-div ((2 * a + d) / (2 * d)) (2 * b + d) (2 * d) (omega arith) (omega arith)

near_monotone : (a b : ℤ) (d : ℕ) → 0 < d → a ≤ℤ b → near_div a d ≤ℤ near_div b d
near_monotone (pos a) (pos b) d o h = let le = near_nat a b d o (omega (arith, ints)) in omega (arith, ints)
near_monotone (negsuc a) (pos b) d o h = omega (arith, ints)
near_monotone (pos a) (negsuc b) d o h = absurd (omega (arith, ints))
near_monotone (negsuc a) (negsuc b) d o h = let le =
    near_nat (suc b) (suc a) d o (omega (arith, ints)) in omega (arith, ints)

more_steps : (j k s : ℕ) → j ≤ k → 1000 * (j * s) ≤ 1000 * (k * s)
more_steps j k s h = omega (arith, mul-le-mul_right s h)

under_by : (v a b : ℕ) → a ≤ b → (pos v -ℤ pos b) ≤ℤ (pos v -ℤ pos a)
under_by v a b h = omega (arith, ints)

over_by : (v a b : ℕ) → a ≤ b → (pos v +ℤ pos a) ≤ℤ (pos v +ℤ pos b)
over_by v a b h = omega (arith, ints)

pub settings_steps : (s : RegSettings) (tap : ℕ) → AreSteps (regulator_at s tap)
settings_steps s tap = record {
  falls = λ j k h. near_monotone (pos s.vreg -ℤ pos (1000 * (k * volt_step s)))
      (pos s.vreg -ℤ pos (1000 * (j * volt_step s))) 1000 (lit< tt)
      (under_by s.vreg (1000 * (j * volt_step s)) (1000 * (k * volt_step s)) (more_steps j k (volt_step s) h));
  rises = λ j k h. near_monotone (pos s.vreg +ℤ pos (1000 * (j * volt_step s)))
      (pos s.vreg +ℤ pos (1000 * (k * volt_step s))) 1000 (lit< tt)
      (over_by s.vreg (1000 * (j * volt_step s)) (1000 * (k * volt_step s)) (more_steps j k (volt_step s) h));
}

-- The greatest number at which a test holds, from above.
use Rattle.std.proofs.Common.{◌≡◌, ℕ, zero, suc, ◌-◌, ◌<◌, Bool, true, false, cond, ap, ◌∙◌, arith}
use Rattle.fd_regctl.specs.Regulator.{greatest_within}

-- where the last test holds, and where it doesn't
pub greatest_at : (p : ℕ → Bool) (n : ℕ) → 0 < n → p n ≡ true → greatest_within p n ≡ n
greatest_at p zero h e = absurd (omega arith)
greatest_at p (suc n) h e = ap (λ t. cond t (suc n) (greatest_within p n)) e

pub greatest_before : (p : ℕ → Bool) (n : ℕ) → 0 < n → p n ≡ false → greatest_within p n ≡ greatest_within p (n - 1)
greatest_before p zero h e = absurd (omega arith)
greatest_before p (suc n) h e = ap (λ t. cond t (suc n) (greatest_within p n)) e ∙ ap (greatest_within p) (less n)
  where
    less : (n : ℕ) → n ≡ suc n - 1
    less n = omega arith

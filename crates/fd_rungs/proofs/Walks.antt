-- The nodes of a state, one after another.
use Rattle.std.proofs.Common.{◌≡◌, ◌∙◌, ℕ, zero, suc, ◌<◌, ◌≤◌, List, ℤ, Bool, true, false, ◌&&◌, ◌⊎◌, inl, inr, ⊎_elim, refl, sym, ap, arith}
use Rattle.fd_rungs.specs.Sweeps.{are_still, is_still_at}

last_or : (k n : ℕ) → k < suc n → (k < n) ⊎ (k ≡ n)
last_or k n h = grind arith

and_false : (b : Bool) → (b && false) ≡ false
and_false true = refl
and_false false = refl

pub moving : (x y : List ℤ) (k n : ℕ) → k < n → is_still_at x y k ≡ false → are_still x y n ≡ false
moving x y k zero h e = absurd (omega (arith, h))
moving x y k (suc n) h e =
    ⊎_elim (λ less. ap (λ b. b && is_still_at x y n) (moving x y k n less e))
    (λ same. ap (λ m. are_still x y n && is_still_at x y m) (sym same) ∙ ap (λ b. are_still x y n && b) e ∙ and_false (are_still x y n))
    (last_or k n h)

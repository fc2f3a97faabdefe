-- The sweeps, one after another.
use Rattle.std.proofs.Common.{◌≡◌, ◌∙◌, ℕ, zero, suc, ◌+◌, ◌-◌, ◌<◌, ◌≤◌, ℤ, List, Result, Ok, Err, Bool, true, false, if◌then◌else◌, sym, ap, refl, arith}
use Rattle.fd_pattern.specs.fd_system.declared.loads.LoadAt.{LoadAt}
use Rattle.fd_rungs.specs.declared.swept.Swept.{Swept}
use Rattle.fd_rungs.specs.declared.swept.Swept.TheVariants.{Settled, NotConverged, OutOfRange}
use Rattle.fd_rungs.specs.Sweeps.{LadderView, after_start, after_sweep, are_still, started, sweeps_from, sweeps_of, swept_once}

module _ (l : LadderView) (us : List LoadAt) (nodes : ℕ) where
  -- the sweep behind the first k, of n
  next : (n k : ℕ) (x : List ℤ) (r : Result (List ℤ) ℕ) → k < n → swept_once l us x ≡ r
      → sweeps_from l us nodes (n - k) k x ≡ after_sweep nodes (k + 1) x (sweeps_from l us nodes (n - (k + 1)) (k + 1)) r
  next n k x r h is =
      let left : n - k ≡ suc (n - (k + 1)) = omega (arith, h) in
      let more : suc k ≡ k + 1 = omega arith in
      ap (λ m. sweeps_from l us nodes m k x) left
      ∙ ap (after_sweep nodes (suc k) x (sweeps_from l us nodes (n - (k + 1)) (suc k))) is
      ∙ ap (λ j. after_sweep nodes j x (sweeps_from l us nodes (n - (k + 1)) j) r) more

  pub past : (n k : ℕ) (x : List ℤ) (p : ℕ) (all : Swept) → k < n → swept_once l us x ≡ Err p
      → sweeps_from l us nodes (n - k) k x ≡ all → OutOfRange p (k + 1) ≡ all
  past n k x p all h is so_far = sym (next n k x (Err p) h is) ∙ so_far

  pub still : (n k : ℕ) (x y : List ℤ) (all : Swept) → k < n → swept_once l us x ≡ Ok y → are_still x y nodes ≡ true
      → sweeps_from l us nodes (n - k) k x ≡ all → Settled y (k + 1) ≡ all
  still n k x y all h is e so_far =
      sym (next n k x (Ok y) h is ∙ ap (λ b. if b then Settled y (k + 1) else sweeps_from l us nodes (n - (k + 1)) (k + 1) y) e) ∙ so_far

  pub moves : (n k : ℕ) (x y : List ℤ) (all : Swept) → k < n → swept_once l us x ≡ Ok y → are_still x y nodes ≡ false
      → sweeps_from l us nodes (n - k) k x ≡ all → sweeps_from l us nodes (n - (k + 1)) (k + 1) y ≡ all
  moves n k x y all h is e so_far =
      sym (next n k x (Ok y) h is ∙ ap (λ b. if b then Settled y (k + 1) else sweeps_from l us nodes (n - (k + 1)) (k + 1) y) e) ∙ so_far

  pub ends : (n k : ℕ) (x : List ℤ) (all : Swept) → k ≡ n → sweeps_from l us nodes (n - k) k x ≡ all → NotConverged n ≡ all
  ends n k x all same so_far =
      let none : n - k ≡ 0 = omega (arith, same) in
      sym (ap (λ m. sweeps_from l us nodes m k x) none ∙ ap NotConverged same) ∙ so_far

  pub begins : (size n : ℕ) (x : List ℤ) → started l us size ≡ Ok x → sweeps_from l us nodes n 0 x ≡ sweeps_of l us nodes size n
  begins size n x is = sym (ap (after_start (sweeps_from l us nodes n 0)) is)

  pub begins_past : (size n p : ℕ) → started l us size ≡ Err p → OutOfRange p 0 ≡ sweeps_of l us nodes size n
  begins_past size n p is = sym (ap (after_start (sweeps_from l us nodes n 0)) is)

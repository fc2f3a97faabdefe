-- One step more.
use Rattle.std.proofs.Common.{◌≡◌, ◌≢◌, ◌∙◌, ℕ, ◌+◌, ◌<◌, ◌≤◌, ℤ, true, false, nat_lt, List, None, add-one, ap, arith, refl, subst, sym, below_more}
use Rattle.fd_cert.specs.fd_enclosure.Sound.{mismatches_of}
use Rattle.fd_inject.specs.Procedure.{first_moving}
use Rattle.fd_inject.specs.declared.fault.SolveFault.{SolveFault}
use Rattle.fd_inject.specs.declared.fault.SolveFault.TheVariants.{NoInverse, OutOfRange, NotConverged, NoMemory}
use Rattle.fd_inject.specs.declared.limits.Limits.{Limits}
use Rattle.fd_inject.specs.fd_equations.fd_exact.Sums.{list_n}
use Rattle.fd_inject.specs.fd_equations.fd_pattern.Views.{NetworkView}
use Rattle.fd_substitution.specs.fd_triangles.declared.pair.Pair.{Pair}
use Rattle.fd_substitution.specs.fd_triangles.fd_derived.declared.entries.Row.{Row}
use Rattle.fd_search.specs.Stages.{HasNoTest, IsLastAllowed, IsTested}
use Rattle.fd_search.specs.States.{AreMoving, ComeToRest, Fall, HasNoFall, HasNoStep, HaveNoRest, IsFine, StepEnds, mismatch_sum, next_state, state_after, update_at}

lt_is : (a b : ℕ) → nat_lt a b ≡ true → a < b
lt_is a b e = grind arith

ge_is : (a b : ℕ) → nat_lt a b ≡ false → b ≤ a
ge_is a b e = grind arith

pub not_false : true ≡ false → ⊥
not_false e = cc

pub not_true : false ≡ true → ⊥
not_true e = cc

pub sum_falls : (v : NetworkView) (x y : List ℤ) (old new : List ℕ) → old ≡ mismatches_of v x → new ≡ mismatches_of v y
    → nat_lt (list_n (λ n. n) new) (list_n (λ n. n) old) ≡ true → mismatch_sum v y < mismatch_sum v x
unfolding mismatch_sum
sum_falls v x y old new o n e =
    lt_is _ _ (subst (λ m. nat_lt (list_n (λ n. n) (mismatches_of v y)) (list_n (λ n. n) m) ≡ true) o
    (subst (λ m. nat_lt (list_n (λ n. n) m) (list_n (λ n. n) old) ≡ true) n e))

pub sum_stays : (v : NetworkView) (x y : List ℤ) (old new : List ℕ) → old ≡ mismatches_of v x → new ≡ mismatches_of v y
    → nat_lt (list_n (λ n. n) new) (list_n (λ n. n) old) ≡ false → mismatch_sum v x ≤ mismatch_sum v y
unfolding mismatch_sum
sum_stays v x y old new o n e =
    ge_is _ _ (subst (λ m. nat_lt (list_n (λ n. n) (mismatches_of v y)) (list_n (λ n. n) m) ≡ false) o
    (subst (λ m. nat_lt (list_n (λ n. n) m) (list_n (λ n. n) old) ≡ false) n e))

module _ (v : NetworkView) (order : List Pair) (rows : List Row) (x : List ℤ) (k : ℕ) (y z : List ℤ)
    (here : y ≡ state_after v order rows x k) where
  pub next_after : z ≡ next_state v order rows y → z ≡ state_after v order rows x (k + 1)
  next_after e = e ∙ ap (next_state v order rows) here ∙ ap (state_after v order rows x) (sym (add-one k))

  pub fine_after : IsFine v order rows y → IsFine v order rows (state_after v order rows x k)
  fine_after h = subst (IsFine v order rows) here h

  -- ---- until one moves nothing far

  module _ (limits : Limits) where
    pub moving_more : AreMoving v order rows x limits k → IsTested v order rows limits y z k false
        → AreMoving v order rows x limits (k + 1)
    moving_more are tested = record {
      fine = below_more _ _ are.fine (fine_after tested.fine);
      moving = below_more _ _ are.moving (subst
          (λ s. first_moving v limits (next_state v order rows s) (update_at v order rows s) ≢ None) here
          (tested.moving refl));
    }

    pub at_rest : k < limits.max_iterations → AreMoving v order rows x limits k
        → IsTested v order rows limits y z k true → ComeToRest v order rows x limits (k + 1)
    at_rest few are tested = record {
      before = k;
      steps_are = refl;
      few = few;
      are_moving = are;
      fine = fine_after tested.fine;
      still = subst (λ s. first_moving v limits (next_state v order rows s) (update_at v order rows s) ≡ None) here
          (tested.still refl);
    }

    pub no_rest : (f : SolveFault) → k < limits.max_iterations → AreMoving v order rows x limits k
        → HasNoTest v order rows limits y k f → HaveNoRest v order rows x limits f
    no_rest (NoInverse q cause) few are h = h
    no_rest (OutOfRange place step) few are h = record {
      before = k;
      few = few;
      are_moving = are;
      ends = subst (λ s. StepEnds v order rows s k place step) here h;
    }
    no_rest (NotConverged place steps update) few are h =
        let at = subst (λ s. IsLastAllowed v order rows limits s k place steps update) here h in
        record {
          before = k;
          steps_are = at.steps_are;
          all = omega (arith, at.steps_are, at.all, few);
          are_moving = are;
          fine = at.fine;
          place_is = at.place_is;
          update_is = at.update_is;
        }
    no_rest NoMemory few are h = tt

  -- ---- as long as the sum falls

  pub fall_more : Fall v order rows x k → IsFine v order rows y
      → mismatch_sum v (next_state v order rows y) < mismatch_sum v y → Fall v order rows x (k + 1)
  fall_more fall fine less = record {
    fine = below_more _ _ fall.fine (fine_after fine);
    falls = below_more _ _ fall.falls (subst (λ s. mismatch_sum v (next_state v order rows s) < mismatch_sum v s) here less);
  }

  pub no_fall : (number : ℕ) (f : SolveFault) → k < 16 → Fall v order rows x k
      → HasNoStep v order rows y (number + k) f → HasNoFall v order rows x number f
  no_fall number (NoInverse q cause) few fall h = h
  no_fall number (OutOfRange place step) few fall h = record {
    before = k;
    few = few;
    fall = fall;
    ends = subst (λ s. StepEnds v order rows s (number + k) place step) here h;
  }
  no_fall number (NotConverged place steps update) few fall h = h
  no_fall number NoMemory few fall h = tt

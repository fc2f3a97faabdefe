-- Steps in order.
use Rattle.std.proofs.Common.{◌≡◌, ◌∙◌, ℕ, zero, suc, ◌+◌, ◌-◌, ◌<◌, ◌≤◌, ◌^◌, ℤ, pos, ◌≤ℤ◌, nat_abs, nat_lt, List, [], ◌∷◌, length, set, Bool, true, false, cond, Option, Some, None, Result, Ok, Err, arith, ap, sym, refl, add-one, add-zero, add-suc}
use Rattle.std.specs.List.{fold}
use Rattle.std.specs.Option.{option_map_or}
use Rattle.std.proofs.lemmas.Int.{ints}
use Rattle.std.proofs.lemmas.List.{length-set}
use Rattle.fd_equations.specs.fd_exact.States.{part}
use Rattle.fd_equations.specs.fd_exact.Tables.{length-table}
use Rattle.fd_equations.specs.fd_exact.Results.{and_then}
use Rattle.fd_equations.specs.fd_exact.FirstLaws.{first_none, first_some}
use Rattle.fd_equations.specs.fd_system.declared.loads.LoadAt.{LoadAt}
use Rattle.fd_equations.specs.Rounded.{constant_sum, constants_of, jacobian_entry, jacobian_of, rounded_residual_of, rounded_row, start_entry, start_matrix_of}
use Rattle.fd_equations.specs.fd_pattern.Views.{NetworkView}
use Rattle.fd_equations.specs.Weights.{weight_at, weights_of}
use Rattle.fd_equations.proofs.CallerLemmas.{length-list_of}
use Rattle.fd_inject.specs.Procedure.{IsLimits, Iterate, after, first_moving, is_moving_at, iterated, judged, last_from, last_of, next_iterate, polished, solution_of, start_of, stepped, with_nominal}
use Rattle.fd_inject.specs.Ranges.{in_range, inverse_at}
use Rattle.fd_inject.specs.Updates.{moved, update_for}
use Rattle.fd_inject.specs.declared.fault.SolveFault.{SolveFault}
use Rattle.fd_inject.specs.declared.fault.SolveFault.TheVariants.{NotConverged}
use Rattle.fd_inject.specs.declared.limits.Limits.{Limits}

-- a step on what is known
pub then_ok : {A B E : Type 0} (r : Result A E) (g : A → Result B E) (a : A) (b : Result B E) → r ≡ Ok a → g a ≡ b
    → and_then r g ≡ b
then_ok r g a b e h = ap (λ r. and_then r g) e ∙ h

pub then_err : {A B E : Type 0} (r : Result A E) (g : A → Result B E) (f : E) → r ≡ Err f → and_then r g ≡ Err f
then_err r g f e = ap (λ r. and_then r g) e

-- ---- the end test

module _ (v : NetworkView) (limits : Limits) (y u : List ℤ) where
  pub moving_some : (k : ℕ) → k < v.size → ((j : ℕ) → j < k → is_moving_at v limits y u j ≡ false)
      → is_moving_at v limits y u k ≡ true → first_moving v limits y u ≡ Some k
  unfolding first_moving
  moving_some k l before here = first_some (is_moving_at v limits y u) v.size k l before here

  pub moving_none : ((j : ℕ) → j < v.size → is_moving_at v limits y u j ≡ false) → first_moving v limits y u ≡ None
  unfolding first_moving
  moving_none before = first_none (is_moving_at v limits y u) v.size before

pub tolerance_size : (limits : Limits) → IsLimits limits → nat_abs limits.tolerance ≤ 10 ^ 8
tolerance_size limits h = omega (arith, ints, h.least, h.most)

pub weight_size : (z : ℤ) → (pos (10 ^ 6) ≤ℤ z) × (z ≤ℤ pos (2 ^ 66)) → nat_abs z ≤ 2 ^ 66
weight_size z h = omega (arith, ints, h.0, h.1)

-- ---- lengths

pub start_long : (v : NetworkView) (m : List (List ℤ)) → m ≡ start_matrix_of v → length m ≡ v.size
start_long v m e = ap length e ∙ length-table v.size v.size (start_entry v)

pub jacobian_long : (v : NetworkView) (x : List ℤ) (m : List (List ℤ)) → m ≡ jacobian_of v x → length m ≡ v.size
jacobian_long v x m e = ap length e ∙ length-table v.size v.size (jacobian_entry v x)

pub residual_long : (v : NetworkView) (x rs : List ℤ) → rs ≡ rounded_residual_of v x → length rs ≡ v.size
residual_long v x rs e = ap length e ∙ length-list_of v.size (rounded_row v x)

pub constants_long : (v : NetworkView) (rs : List ℤ) → rs ≡ constants_of v → length rs ≡ v.size
constants_long v rs e = ap length e ∙ length-list_of v.size (constant_sum v.stamp.constants)

pub weights_long : (v : NetworkView) (x ws : List ℤ) → ws ≡ weights_of v x → length ws ≡ v.size
weights_long v x ws e = ap length e ∙ length-list_of v.size (λ place. pos (weight_at v x place))

-- ---- one step

module _ (v : NetworkView) (c : List (List ℤ)) (number : ℕ) (x : List ℤ) where
  pub step_ok : (u y : List ℤ) → update_for c number (rounded_residual_of v x) ≡ Ok u → y ≡ moved x u
      → in_range (2 ^ 40) (number + 1) y ≡ Ok y → stepped v c number x ≡ Ok (y, u)
  unfolding stepped
  step_ok u y e is r =
      then_ok (update_for c number (rounded_residual_of v x)) _ u (Ok (y, u)) e
      (then_ok (in_range (2 ^ 40) (number + 1) (moved x u)) _ y (Ok (y, u))
      (ap (in_range (2 ^ 40) (number + 1)) (sym is) ∙ r) refl)

  pub step_past : (u y : List ℤ) (f : SolveFault) → update_for c number (rounded_residual_of v x) ≡ Ok u → y ≡ moved x u
      → in_range (2 ^ 40) (number + 1) y ≡ Err f → stepped v c number x ≡ Err f
  unfolding stepped
  step_past u y f e is r =
      then_ok (update_for c number (rounded_residual_of v x)) _ u (Err f) e
      (then_err (in_range (2 ^ 40) (number + 1) (moved x u)) _ f (ap (in_range (2 ^ 40) (number + 1)) (sym is) ∙ r))

  pub step_fault : (f : SolveFault) → update_for c number (rounded_residual_of v x) ≡ Err f
      → stepped v c number x ≡ Err f
  unfolding stepped
  step_fault f e = then_err (update_for c number (rounded_residual_of v x)) _ f e

  pub next_still : (limits : Limits) (y u : List ℤ) → stepped v c number x ≡ Ok (y, u)
      → first_moving v limits y u ≡ None
      → next_iterate v limits c number x ≡ Ok (record { number = number + 1; x = y; is_last = true })
  unfolding next_iterate
  next_still limits y u e m =
      then_ok (stepped v c number x) (λ s. judged limits (number + 1) s (first_moving v limits s.0 s.1)) (y, u) _ e
      (ap (judged limits (number + 1) (y, u)) m)

  pub next_moving : (limits : Limits) (y u : List ℤ) (place : ℕ) (r : Result Iterate SolveFault)
      → stepped v c number x ≡ Ok (y, u) → first_moving v limits y u ≡ Some place
      → judged limits (number + 1) (y, u) (Some place) ≡ r → next_iterate v limits c number x ≡ r
  unfolding next_iterate
  next_moving limits y u place r e m j =
      then_ok (stepped v c number x) (λ s. judged limits (number + 1) s (first_moving v limits s.0 s.1)) (y, u) r e
      (ap (judged limits (number + 1) (y, u)) m ∙ j)

  pub next_fault : (limits : Limits) (f : SolveFault) → stepped v c number x ≡ Err f
      → next_iterate v limits c number x ≡ Err f
  unfolding next_iterate
  next_fault limits f e = then_err (stepped v c number x) _ f e

pub judged_on : (limits : Limits) (number place : ℕ) (y u : List ℤ) → number < limits.max_iterations
    → judged limits number (y, u) (Some place) ≡ Ok (record { number = number; x = y; is_last = false })
judged_on limits number place y u h =
    ap (λ b.
    cond b (Ok (record { number = number; x = y; is_last = false })) (Err (NotConverged place number (part u place))))
    (below number limits.max_iterations h)
  where
    below : (a b : ℕ) → a < b → nat_lt a b ≡ true
    below a b h = grind arith

pub judged_out : (limits : Limits) (number place : ℕ) (y u : List ℤ) → limits.max_iterations ≤ number
    → judged limits number (y, u) (Some place) ≡ Err (NotConverged place number (part u place))
judged_out limits number place y u h =
    ap (λ b.
    cond b (Ok (record { number = number; x = y; is_last = false })) (Err (NotConverged place number (part u place))))
    (above number limits.max_iterations h)
  where
    above : (a b : ℕ) → b ≤ a → nat_lt a b ≡ false
    above a b h = grind arith

-- ---- many steps

module _ (v : NetworkView) (limits : Limits) (c : List (List ℤ)) (x : List ℤ) where
  pub iterated_more : (k number : ℕ) (y : List ℤ) (r : Result Iterate SolveFault)
      → iterated v limits c x k ≡ Ok (record { number = number; x = y; is_last = false })
      → next_iterate v limits c number y ≡ r → iterated v limits c x (k + 1) ≡ r
  iterated_more k number y r e n =
      ap (iterated v limits c x) (add-one k)
      ∙ then_ok (iterated v limits c x k) (after v limits c) (record { number = number; x = y; is_last = false }) r e
      n

  stays : (k j number : ℕ) (y : List ℤ)
      → iterated v limits c x k ≡ Ok (record { number = number; x = y; is_last = true })
      → iterated v limits c x (k + j) ≡ Ok (record { number = number; x = y; is_last = true })
  stays k zero number y e = rw add-zero e
  stays k (suc j) number y e =
      ap (iterated v limits c x) (add-suc k j)
      ∙ then_ok (iterated v limits c x (k + j)) (after v limits c) (record { number = number; x = y; is_last = true })
      _ (stays k j number y e) refl

  fault_stays : (k j : ℕ) (f : SolveFault) → iterated v limits c x k ≡ Err f → iterated v limits c x (k + j) ≡ Err f
  fault_stays k zero f e = rw add-zero e
  fault_stays k (suc j) f e = ap (iterated v limits c x) (add-suc k j) ∙ then_err (iterated v limits c x (k + j)) (after v limits c) f (fault_stays k j f e)

  -- the iteration ended early, came to its last step, or failed
  pub last_still : (k number : ℕ) (y : List ℤ) → k ≤ limits.max_iterations
      → iterated v limits c x k ≡ Ok (record { number = number; x = y; is_last = true })
      → last_from v limits c x ≡ Ok (number, y)
  unfolding last_from
  last_still k number y h e =
      let all : k + (limits.max_iterations - k) ≡ limits.max_iterations = omega arith in
      then_ok (iterated v limits c x limits.max_iterations) (λ i. Ok (i.number, i.x))
      (record { number = number; x = y; is_last = true }) _
      (ap (iterated v limits c x) (sym all) ∙ stays k (limits.max_iterations - k) number y e) refl

  pub last_whole : (k number : ℕ) (y : List ℤ) (b : Bool) → k ≡ limits.max_iterations
      → iterated v limits c x k ≡ Ok (record { number = number; x = y; is_last = b })
      → last_from v limits c x ≡ Ok (number, y)
  unfolding last_from
  last_whole k number y b h e =
      then_ok (iterated v limits c x limits.max_iterations) (λ i. Ok (i.number, i.x))
      (record { number = number; x = y; is_last = b }) _ (ap (iterated v limits c x) (sym h) ∙ e) refl

  pub last_fault : (k : ℕ) (f : SolveFault) → k ≤ limits.max_iterations → iterated v limits c x k ≡ Err f
      → last_from v limits c x ≡ Err f
  unfolding last_from
  last_fault k f h e =
      let all : k + (limits.max_iterations - k) ≡ limits.max_iterations = omega arith in
      then_err (iterated v limits c x limits.max_iterations) (λ i. Ok (i.number, i.x)) f
      (ap (iterated v limits c x) (sym all) ∙ fault_stays k (limits.max_iterations - k) f e)

-- ---- the start

length-placed : (x : List ℤ) (z : ℤ) (o : Option ℕ) → length (option_map_or (λ place. set x place z) o x) ≡ length x
length-placed x z None = refl
length-placed x z (Some place) = length-set x place z

pub length-nominal : (x : List ℤ) (u : LoadAt) → length (with_nominal x u) ≡ length x
unfolding with_nominal
length-nominal x u = length-placed x u.load.vn u.magnitude

pub nominal_at : (x : List ℤ) (u : LoadAt) (place : ℕ) → u.magnitude ≡ Some place
    → with_nominal x u ≡ set x place u.load.vn
unfolding with_nominal
nominal_at x u place e = ap (λ o. option_map_or (λ place. set x place u.load.vn) o x) e

pub nominal_none : (x : List ℤ) (u : LoadAt) → u.magnitude ≡ None → with_nominal x u ≡ x
unfolding with_nominal
nominal_none x u e = ap (λ o. option_map_or (λ place. set x place u.load.vn) o x) e

pub length-started : (x : List ℤ) (us : List LoadAt) → length (fold with_nominal x us) ≡ length x
length-started x [] = refl
length-started x (u ∷ us) = length-started (with_nominal x u) us ∙ length-nominal x u

module _ (v : NetworkView) (c : List (List ℤ)) where
  pub start_ok : (u x : List ℤ) → update_for c 0 (constants_of v) ≡ Ok u → x ≡ fold with_nominal u v.stamp.loads
      → in_range (2 ^ 40) 0 x ≡ Ok x → start_of v c ≡ Ok x
  unfolding start_of
  start_ok u x e is r =
      then_ok (update_for c 0 (constants_of v)) (λ x. in_range (2 ^ 40) 0 (fold with_nominal x v.stamp.loads)) u
      (Ok x) e (ap (in_range (2 ^ 40) 0) (sym is) ∙ r)

  pub start_past : (u x : List ℤ) (f : SolveFault) → update_for c 0 (constants_of v) ≡ Ok u
      → x ≡ fold with_nominal u v.stamp.loads → in_range (2 ^ 40) 0 x ≡ Err f → start_of v c ≡ Err f
  unfolding start_of
  start_past u x f e is r =
      then_ok (update_for c 0 (constants_of v)) (λ x. in_range (2 ^ 40) 0 (fold with_nominal x v.stamp.loads)) u
      (Err f) e (ap (in_range (2 ^ 40) 0) (sym is) ∙ r)

  pub start_fault : (f : SolveFault) → update_for c 0 (constants_of v) ≡ Err f → start_of v c ≡ Err f
  unfolding start_of
  start_fault f e = then_err (update_for c 0 (constants_of v)) (λ x. in_range (2 ^ 40) 0 (fold with_nominal x v.stamp.loads)) f e

-- ---- the whole

module _ (v : NetworkView) (limits : Limits) where
  pub last_at : (c : List (List ℤ)) (x : List ℤ) (r : Result (ℕ × List ℤ) SolveFault)
      → inverse_at (start_matrix_of v) ≡ Ok c → start_of v c ≡ Ok x → last_from v limits c x ≡ r → last_of v limits ≡ r
  unfolding last_of
  last_at c x r e s l =
      then_ok (inverse_at (start_matrix_of v)) (λ c. and_then (start_of v c) (last_from v limits c)) c r e
      (then_ok (start_of v c) (last_from v limits c) x r s l)

  pub no_start : (c : List (List ℤ)) (f : SolveFault) → inverse_at (start_matrix_of v) ≡ Ok c → start_of v c ≡ Err f
      → last_of v limits ≡ Err f
  unfolding last_of
  no_start c f e s =
      then_ok (inverse_at (start_matrix_of v)) (λ c. and_then (start_of v c) (last_from v limits c)) c (Err f) e
      (then_err (start_of v c) (last_from v limits c) f s)

  pub no_start_inverse : (f : SolveFault) → inverse_at (start_matrix_of v) ≡ Err f → last_of v limits ≡ Err f
  unfolding last_of
  no_start_inverse f e = then_err (inverse_at (start_matrix_of v)) (λ c. and_then (start_of v c) (last_from v limits c)) f e

  pub solved : (number : ℕ) (x : List ℤ) (c : List (List ℤ)) (r : Result (List ℤ × List (List ℤ)) SolveFault)
      → last_of v limits ≡ Ok (number, x) → inverse_at (jacobian_of v x) ≡ Ok c → polished v number x c ≡ r
      → solution_of v limits ≡ r
  unfolding solution_of
  solved number x c r l e p =
      then_ok (last_of v limits) (λ i. and_then (inverse_at (jacobian_of v i.1)) (polished v i.0 i.1)) (number, x) r l
      (then_ok (inverse_at (jacobian_of v x)) (polished v number x) c r e p)

  pub no_inverse_there : (number : ℕ) (x : List ℤ) (f : SolveFault) → last_of v limits ≡ Ok (number, x)
      → inverse_at (jacobian_of v x) ≡ Err f → solution_of v limits ≡ Err f
  unfolding solution_of
  no_inverse_there number x f l e =
      then_ok (last_of v limits) (λ i. and_then (inverse_at (jacobian_of v i.1)) (polished v i.0 i.1)) (number, x)
      (Err f) l (then_err (inverse_at (jacobian_of v x)) (polished v number x) f e)

  pub no_last : (f : SolveFault) → last_of v limits ≡ Err f → solution_of v limits ≡ Err f
  unfolding solution_of
  no_last f e = then_err (last_of v limits) (λ i. and_then (inverse_at (jacobian_of v i.1)) (polished v i.0 i.1)) f e

module _ (v : NetworkView) (number : ℕ) (x : List ℤ) (c : List (List ℤ)) where
  pub polish_ok : (y u z w : List ℤ) → stepped v c number x ≡ Ok (y, u) → stepped v c (number + 1) y ≡ Ok (z, w)
      → polished v number x c ≡ Ok (z, c)
  unfolding polished
  polish_ok y u z w e s =
      then_ok (stepped v c number x) (λ s. and_then (stepped v c (number + 1) s.0) (λ t. Ok (t.0, c))) (y, u)
      (Ok (z, c)) e (then_ok (stepped v c (number + 1) y) (λ t. Ok (t.0, c)) (z, w) (Ok (z, c)) s refl)

  pub polish_second : (y u : List ℤ) (f : SolveFault) → stepped v c number x ≡ Ok (y, u)
      → stepped v c (number + 1) y ≡ Err f → polished v number x c ≡ Err f
  unfolding polished
  polish_second y u f e s =
      then_ok (stepped v c number x) (λ s. and_then (stepped v c (number + 1) s.0) (λ t. Ok (t.0, c))) (y, u)
      (Err f) e (then_err (stepped v c (number + 1) y) (λ t. Ok (t.0, c)) f s)

  pub polish_first : (f : SolveFault) → stepped v c number x ≡ Err f → polished v number x c ≡ Err f
  unfolding polished
  polish_first f e = then_err (stepped v c number x) (λ s. and_then (stepped v c (number + 1) s.0) (λ t. Ok (t.0, c))) f e

-- A fault names a place or a column inside the network.
use Rattle.std.proofs.Common.{◌≡◌, ◌∙◌, ℕ, zero, suc, ◌+◌, ◌<◌, ◌^◌, ℤ, nat_abs, nat_lt, List, length, Bool, true, false, cond, Option, Some, None, Result, Ok, Err, MatchResult, refl, subst}
use Rattle.std.specs.List.{fold}
use Rattle.fd_equations.specs.fd_exact.States.{part}
use Rattle.fd_equations.specs.fd_exact.Results.{and_then}
use Rattle.fd_equations.specs.fd_exact.FirstLaws.{place_below}
use Rattle.fd_equations.specs.Rounded.{constants_of, jacobian_of, rounded_residual_of, start_matrix_of}
use Rattle.fd_equations.specs.fd_pattern.Views.{NetworkView}
use Rattle.fd_equations.proofs.CallerLemmas.{length-list_of}
use Rattle.fd_equations.specs.fd_mat.Rows.{first_column_past}
use Rattle.fd_inverse.specs.Elimination.{inverse_of}
use Rattle.fd_inverse.specs.declared.fault.Stop.{Stop}
use Rattle.fd_inverse.proofs.CallerLemmas.{fault_column, inverse_size}
use Rattle.fd_inject.specs.Faults.{IsInside, UnlessMemory}
use Rattle.fd_inject.specs.Procedure.{Iterate, after, first_moving, is_moving_at, iterated, judged, last_from, last_of, next_iterate, polished, solution_of, start_of, stepped, with_nominal}
use Rattle.fd_inject.specs.Ranges.{first_past, in_range, inverse_at, inverse_unless, unless_past, without_inverse}
use Rattle.fd_inject.specs.Updates.{moved, update_at, update_for, update_of}
use Rattle.fd_inject.specs.declared.fault.SolveFault.{SolveFault}
use Rattle.fd_inject.specs.declared.fault.SolveFault.TheVariants.{NoInverse, OutOfRange, NotConverged, NoMemory}
use Rattle.fd_inject.specs.declared.limits.Limits.{Limits}
use Rattle.fd_inject.proofs.Iterates.{constants_long, jacobian_long, length-started, residual_long, start_long}
use Rattle.fd_inject.proofs.Products.{length-moved}

-- what a step on a result keeps
then_match : {A B E : Type 0} (P : A → Type 0) (R : B → Type 0) (Q : E → Type 0) (r : Result A E) (f : A → Result B E)
    → MatchResult r P Q → ((a : A) → P a → MatchResult (f a) R Q) → MatchResult (and_then r f) R Q
then_match P R Q (Ok a) f h g = g a h
then_match P R Q (Err e) f h g = h

-- ---- lists and matrices past a limit

past_inside : (xs : List ℤ) (step : ℕ) (o : Option ℕ) → ((k : ℕ) → o ≡ Some k → k < length xs)
    → MatchResult (unless_past xs step o) (λ ys. length ys ≡ length xs) (IsInside (length xs))
past_inside xs step None h = refl
past_inside xs step (Some k) h = h k refl

range_inside : (limit step n : ℕ) (xs : List ℤ) → length xs ≡ n
    → MatchResult (in_range limit step xs) (λ ys. length ys ≡ n) (IsInside n)
unfolding in_range
range_inside limit step n xs e = subst (λ n. MatchResult (unless_past xs step (first_past limit xs)) (λ ys. length ys ≡ n) (IsInside n)) e
    (past_inside xs step (first_past limit xs) (place_below (λ k. nat_lt limit (nat_abs (part xs k))) (length xs)))

without_inside : (m : List (List ℤ)) (r : Result (List (List ℤ)) (ℕ × Stop)) → inverse_of m ≡ r
    → MatchResult (without_inverse r) (λ c. length c ≡ length m) (IsInside (length m))
without_inside m (Ok c) e = inverse_size m c e
without_inside m (Err e) h = fault_column m e h

unless_inside : (m : List (List ℤ)) (o : Option ℕ) → ((k : ℕ) → o ≡ Some k → k < length m)
    → MatchResult (inverse_unless m o) (λ c. length c ≡ length m) (IsInside (length m))
unless_inside m None h = without_inside m (inverse_of m) refl
unless_inside m (Some col) h = h col refl

inverse_inside : (n : ℕ) (m : List (List ℤ)) → length m ≡ n
    → MatchResult (inverse_at m) (λ c. length c ≡ n) (IsInside n)
unfolding inverse_at
inverse_inside n m e = subst (λ n. MatchResult (inverse_unless m (first_column_past (2 ^ 62) m)) (λ c. length c ≡ n) (IsInside n)) e
    (unless_inside m (first_column_past (2 ^ 62) m) (place_below _ (length m)))

length-update : (c : List (List ℤ)) (residual : List ℤ) → length (update_of c residual) ≡ length c
unfolding update_of
length-update c residual = length-list_of (length c) (update_at c residual)

update_inside : (n : ℕ) (c : List (List ℤ)) (step : ℕ) (residual : List ℤ) → length residual ≡ n
    → MatchResult (update_for c step residual) (λ u. length u ≡ length c) (IsInside n)
unfolding update_for
update_inside n c step residual e =
    then_match _ _ _ (in_range (2 ^ 58) step residual) (λ r. Ok (update_of c r))
    (range_inside (2 ^ 58) step n residual e) (λ r l. length-update c r)

-- ---- steps

module _ (v : NetworkView) where
  stepped_inside : (c : List (List ℤ)) (number : ℕ) (x : List ℤ) → length x ≡ v.size
      → MatchResult (stepped v c number x) (λ s. length s.0 ≡ v.size) (IsInside v.size)
  unfolding stepped
  stepped_inside c number x long =
      then_match _ _ _ (update_for c number (rounded_residual_of v x))
      (λ update. and_then (in_range (2 ^ 40) (number + 1) (moved x update)) (λ y. Ok (y, update)))
      (update_inside v.size c number (rounded_residual_of v x) (residual_long v x (rounded_residual_of v x) refl))
      (λ u _.
      then_match _ _ _ (in_range (2 ^ 40) (number + 1) (moved x u)) (λ y. Ok (y, u))
      (range_inside (2 ^ 40) (number + 1) v.size (moved x u) (length-moved x u ∙ long)) (λ y l. l))

  judged_inside : (limits : Limits) (number : ℕ) (s : List ℤ × List ℤ) (o : Option ℕ)
      → ((k : ℕ) → o ≡ Some k → k < v.size) → length s.0 ≡ v.size
      → MatchResult (judged limits number s o) (λ i. length i.x ≡ v.size) (IsInside v.size)
  judged_inside limits number s None h long = long
  judged_inside limits number s (Some place) h long = one (nat_lt number limits.max_iterations) (record { number = number; x = s.0; is_last = false }) long
    where
      one : (b : Bool) (i : Iterate) → length i.x ≡ v.size
          → MatchResult (cond b (Ok i) (Err (NotConverged place number (part s.1 place)))) (λ i. length i.x ≡ v.size) (IsInside v.size)
      one true i l = l
      one false i l = h place refl

  moving_below : (limits : Limits) (y u : List ℤ) (k : ℕ) → first_moving v limits y u ≡ Some k → k < v.size
  unfolding first_moving
  moving_below limits y u k e = place_below (is_moving_at v limits y u) v.size k e

  next_inside : (limits : Limits) (c : List (List ℤ)) (number : ℕ) (x : List ℤ) → length x ≡ v.size
      → MatchResult (next_iterate v limits c number x) (λ i. length i.x ≡ v.size) (IsInside v.size)
  unfolding next_iterate
  next_inside limits c number x long =
      then_match _ _ _ (stepped v c number x) (λ s. judged limits (number + 1) s (first_moving v limits s.0 s.1))
      (stepped_inside c number x long)
      (λ s l. judged_inside limits (number + 1) s (first_moving v limits s.0 s.1) (moving_below limits s.0 s.1) l)

  after_inside : (limits : Limits) (c : List (List ℤ)) (i : Iterate) → length i.x ≡ v.size
      → MatchResult (after v limits c i) (λ i. length i.x ≡ v.size) (IsInside v.size)
  after_inside limits c i long = one i.is_last
    where
      one : (b : Bool)
          → MatchResult (cond b (Ok i) (next_iterate v limits c i.number i.x)) (λ i. length i.x ≡ v.size) (IsInside v.size)
      one true = long
      one false = next_inside limits c i.number i.x long

  iterated_inside : (limits : Limits) (c : List (List ℤ)) (x : List ℤ) (k : ℕ) → length x ≡ v.size
      → MatchResult (iterated v limits c x k) (λ i. length i.x ≡ v.size) (IsInside v.size)
  iterated_inside limits c x zero long = long
  iterated_inside limits c x (suc k) long =
      then_match _ _ _ (iterated v limits c x k) (after v limits c) (iterated_inside limits c x k long)
      (after_inside limits c)

  last_inside : (limits : Limits) (c : List (List ℤ)) (x : List ℤ) → length x ≡ v.size
      → MatchResult (last_from v limits c x) (λ i. length i.1 ≡ v.size) (IsInside v.size)
  unfolding last_from
  last_inside limits c x long =
      then_match _ _ _ (iterated v limits c x limits.max_iterations) (λ i. Ok (i.number, i.x))
      (iterated_inside limits c x limits.max_iterations long) (λ i l. l)

  -- ---- the whole

  start_inside : (c : List (List ℤ)) → length c ≡ v.size
      → MatchResult (start_of v c) (λ x. length x ≡ v.size) (IsInside v.size)
  unfolding start_of
  start_inside c long = then_match _ _ _ (update_for c 0 (constants_of v)) (λ x. in_range (2 ^ 40) 0 (fold with_nominal x v.stamp.loads))
      (update_inside v.size c 0 (constants_of v) (constants_long v (constants_of v) refl))
      (λ u l. range_inside (2 ^ 40) 0 v.size (fold with_nominal u v.stamp.loads) (length-started u v.stamp.loads ∙ l ∙ long))

  last_of_inside : (limits : Limits) → MatchResult (last_of v limits) (λ i. length i.1 ≡ v.size) (IsInside v.size)
  unfolding last_of
  last_of_inside limits = then_match _ _ _ (inverse_at (start_matrix_of v)) (λ c. and_then (start_of v c) (last_from v limits c))
      (inverse_inside v.size (start_matrix_of v) (start_long v (start_matrix_of v) refl))
      (λ c long. then_match _ _ _ (start_of v c) (last_from v limits c) (start_inside c long) (last_inside limits c))

  polished_inside : (number : ℕ) (x : List ℤ) (c : List (List ℤ)) → length x ≡ v.size
      → MatchResult (polished v number x c) (λ _. Unit {0}) (IsInside v.size)
  unfolding polished
  polished_inside number x c long =
      then_match _ _ _ (stepped v c number x) (λ s. and_then (stepped v c (number + 1) s.0) (λ t. Ok (t.0, c)))
      (stepped_inside c number x long) (λ s l.
      then_match _ _ _ (stepped v c (number + 1) s.0) (λ t. Ok (t.0, c)) (stepped_inside c (number + 1) s.0 l) (λ t _.
      tt))

  solution_inside : (limits : Limits) → MatchResult (solution_of v limits) (λ _. Unit {0}) (IsInside v.size)
  unfolding solution_of
  solution_inside limits =
      then_match _ _ _ (last_of v limits) (λ i. and_then (inverse_at (jacobian_of v i.1)) (polished v i.0 i.1))
      (last_of_inside limits) (λ i l.
      then_match _ _ _ (inverse_at (jacobian_of v i.1)) (polished v i.0 i.1)
      (inverse_inside v.size (jacobian_of v i.1) (jacobian_long v i.1 (jacobian_of v i.1) refl)) (λ c _.
      polished_inside i.0 i.1 c l))

-- a fault of the procedure names a place or a column inside
pub fault_inside : (v : NetworkView) (limits : Limits) (f : SolveFault) → UnlessMemory f (solution_of v limits ≡ Err f)
    → IsInside v.size f
fault_inside v limits f = by_fault f (at f)
  where
    at : (f : SolveFault) → solution_of v limits ≡ Err f → IsInside v.size f
    at f e = subst (λ r. MatchResult r (λ _. Unit {0}) (IsInside v.size)) e (solution_inside v limits)

    by_fault : (f : SolveFault) {P : Type 0} → (P → IsInside v.size f) → UnlessMemory f P → IsInside v.size f
    by_fault (NoInverse column cause) g p = g p
    by_fault (OutOfRange place step) g p = g p
    by_fault (NotConverged place steps update) g p = g p
    by_fault NoMemory g p = tt

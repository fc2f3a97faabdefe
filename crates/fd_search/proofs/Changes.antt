-- What a step changes for right sides, and states that it leads to.
use Rattle.std.proofs.Common.{◌≡◌, ◌∙◌, ℕ, ◌<◌, ◌≤◌, ◌^◌, ℤ, pos, neg_ℤ, ◌+ℤ◌, ◌-ℤ◌, nat_abs, List, length, Option, Some, None, Err, inl, inr, ◌+◌, refl, ap, sym, subst, arith, FitsSigned}
use Rattle.std.specs.Int.{w64}
use Rattle.std.proofs.lemmas.Int.{ints}
use Rattle.std.proofs.lemmas.List.{ext_get_or}
use Rattle.fd_inject.specs.Ranges.{first_past, in_range, unless_past}
use Rattle.std.specs.List.{fold}
use Rattle.fd_inject.specs.Procedure.{with_nominal}
use Rattle.fd_inject.specs.Updates.{moved}
use Rattle.fd_inject.specs.fd_equations.Rounded.{constants_of, rounded_residual_of}
use Rattle.fd_inject.specs.fd_equations.fd_pattern.Views.{NetworkView}
use Rattle.fd_inject.proofs.CallerLemmas.{length-moved, length-started}
use Rattle.fd_inject.specs.declared.fault.SolveFault.{SolveFault}
use Rattle.fd_inject.specs.declared.fault.SolveFault.TheVariants.{NoInverse, OutOfRange, NotConverged, NoMemory}
use Rattle.fd_inject.specs.fd_equations.fd_exact.States.{part}
use Rattle.fd_inject.proofs.CallerLemmas.fd_equations.{get_or-list_of, length-list_of, list_of-ext}
use Rattle.fd_substitution.specs.Substitution.{AreMoves}
use Rattle.fd_substitution.specs.fd_triangles.declared.pair.Pair.{Pair}
use Rattle.fd_substitution.specs.fd_triangles.fd_derived.declared.entries.Row.{Row}
use Rattle.fd_search.specs.Moves.{CanMove, HasNoMoves, change_at, changes}
use Rattle.fd_search.specs.States.{HasNoStart, HasNoStep, first_state, next_state, update_at}

-- ---- what a refused test of ranges says

module _ (limit step : ℕ) (xs : List ℤ) where
  at_first : (o : Option ℕ) (f : SolveFault) → first_past limit xs ≡ o → unless_past xs step o ≡ Err f
      → (place : ℕ) × ((first_past limit xs ≡ Some place) × (OutOfRange place step ≡ f))
  at_first None f e h = let no : ⊥ = cc in absurd no
  at_first (Some place) f e h = let is : OutOfRange place step ≡ f = cc in (place, (e, is))

  pub past_at : (f : SolveFault) → in_range limit step xs ≡ Err f
      → (place : ℕ) × ((first_past limit xs ≡ Some place) × (OutOfRange place step ≡ f))
  unfolding in_range
  past_at f h = at_first (first_past limit xs) f refl h

pub move_past : (rows : List Row) (order : List Pair) (right : List ℤ) (number : ℕ) (f : SolveFault)
    → in_range (2 ^ 42) number right ≡ Err f → HasNoMoves rows order right number f
move_past rows order right number f h =
    let p = past_at (2 ^ 42) number right f h in
    subst (HasNoMoves rows order right number) p.1.1 (inl p.1.0, refl)

-- ---- changes

pub changes_are : (rows : List Row) (order : List Pair) (right new moves : List ℤ) → AreMoves rows order right moves
    → length new ≡ length right → length right ≡ length order
    → ((k : ℕ) → k < length right → part new k ≡ neg_ℤ (part moves k)) → new ≡ changes rows order right
unfolding changes
changes_are rows order right new moves are e l each =
    list_of-ext new (length order) (change_at rows order right) (pos 0) (e ∙ l)
    (λ i h. each i (omega (arith, h, l)) ∙ ap neg_ℤ (are.each i h))

pub length-changes : (rows : List Row) (order : List Pair) (right : List ℤ)
    → length (changes rows order right) ≡ length order
unfolding changes
length-changes rows order right = length-list_of (length order) (change_at rows order right)

pub turned_small : (z : ℤ) → FitsSigned w64 z → nat_abs (neg_ℤ z) ≤ 2 ^ 86
turned_small z f = omega (arith, ints, f)

-- ---- an update taken back

moved_part : (y u : List ℤ) (i : ℕ) → i < length y → part (moved y u) i ≡ (part y i +ℤ part u i)
unfolding moved
moved_part y u i h = get_or-list_of (length y) (λ k. part y k +ℤ part u k) i (pos 0) h

less_again : (a b : ℤ) → ((a +ℤ b) -ℤ b) ≡ a
less_again a b = omega (arith, ints)

pub taken_back : (x old u y : List ℤ) → length x ≡ length old → length y ≡ length old → old ≡ moved y u
    → ((i : ℕ) → i < length old → part x i ≡ (part old i -ℤ part u i)) → x ≡ y
taken_back x old u y lx ly is each =
    ext_get_or (pos 0) x y (lx ∙ sym ly) (λ i h.
    each i (omega (arith, h, lx)) ∙ ap (λ xs. part xs i -ℤ part u i) is
    ∙ ap (λ z. z -ℤ part u i) (moved_part y u i (omega (arith, h, lx, ly))) ∙ less_again (part y i) (part u i))

-- ---- steps of a network

pub update_is : (v : NetworkView) (order : List Pair) (rows : List Row) (x u : List ℤ)
    → u ≡ changes rows order (rounded_residual_of v x) → u ≡ update_at v order rows x
unfolding update_at
update_is v order rows x u e = e

pub length-update : (v : NetworkView) (order : List Pair) (rows : List Row) (x : List ℤ)
    → length (update_at v order rows x) ≡ length order
unfolding update_at
length-update v order rows x = length-changes rows order (rounded_residual_of v x)

pub next_is : (v : NetworkView) (order : List Pair) (rows : List Row) (x u y : List ℤ)
    → u ≡ update_at v order rows x → y ≡ moved x u → y ≡ next_state v order rows x
unfolding next_state
next_is v order rows x u y e is = is ∙ ap (moved x) e

pub moved_next : (v : NetworkView) (order : List Pair) (rows : List Row) (x u y : List ℤ)
    → u ≡ update_at v order rows x → y ≡ next_state v order rows x → y ≡ moved x u
unfolding next_state
moved_next v order rows x u y e is = is ∙ ap (moved x) (sym e)

pub length-next : (v : NetworkView) (order : List Pair) (rows : List Row) (x : List ℤ)
    → length (next_state v order rows x) ≡ length x
unfolding next_state
length-next v order rows x = length-moved x (update_at v order rows x)

pub first_is : (v : NetworkView) (order : List Pair) (rows : List Row) (x : List ℤ)
    → x ≡ fold with_nominal (changes rows order (constants_of v)) v.stamp.loads → x ≡ first_state v order rows
unfolding first_state
first_is v order rows x e = e

pub length-first : (v : NetworkView) (order : List Pair) (rows : List Row)
    → length (first_state v order rows) ≡ length order
unfolding first_state
length-first v order rows =
    length-started (changes rows order (constants_of v)) v.stamp.loads ∙ length-changes rows order (constants_of v)

-- a step that leads past the range
pub step_past : (v : NetworkView) (order : List Pair) (rows : List Row) (x y : List ℤ) (number : ℕ) (f : SolveFault)
    → CanMove rows order (rounded_residual_of v x) → y ≡ next_state v order rows x
    → in_range (2 ^ 40) (number + 1) y ≡ Err f → HasNoStep v order rows x number f
step_past v order rows x y number f can is h =
    let p = past_at (2 ^ 40) (number + 1) y f h in
    subst (HasNoStep v order rows x number) p.1.1
    (inr (can, (ap (first_past (2 ^ 40)) (sym is) ∙ p.1.0, refl)))

-- moves that end a step
pub step_ended : (v : NetworkView) (order : List Pair) (rows : List Row) (x : List ℤ) (number : ℕ) (f : SolveFault)
    → HasNoMoves rows order (rounded_residual_of v x) number f → HasNoStep v order rows x number f
step_ended v order rows x number (NoInverse q cause) h = h
step_ended v order rows x number (OutOfRange place step) h = inl h
step_ended v order rows x number (NotConverged place steps update) h = h
step_ended v order rows x number NoMemory h = tt

pub start_past : (v : NetworkView) (order : List Pair) (rows : List Row) (x : List ℤ) (f : SolveFault)
    → CanMove rows order (constants_of v) → x ≡ first_state v order rows
    → in_range (2 ^ 40) 0 x ≡ Err f → HasNoStart v order rows f
start_past v order rows x f can is h =
    let p = past_at (2 ^ 40) 0 x f h in
    subst (HasNoStart v order rows) p.1.1 (inr (can, ap (first_past (2 ^ 40)) (sym is) ∙ p.1.0), refl)

pub start_ended : (v : NetworkView) (order : List Pair) (rows : List Row) (f : SolveFault)
    → HasNoMoves rows order (constants_of v) 0 f → HasNoStart v order rows f
start_ended v order rows (NoInverse q cause) h = h
start_ended v order rows (OutOfRange place step) h = (inl h.0, h.1)
start_ended v order rows (NotConverged place steps update) h = h
start_ended v order rows NoMemory h = tt

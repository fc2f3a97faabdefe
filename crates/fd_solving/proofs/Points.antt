-- What the procedure reaches is a point of the network, with a square inverse of small entries.
use Rattle.std.proofs.Common.{◌≡◌, ◌∙◌, ℕ, zero, suc, ◌+◌, ◌<◌, ◌≤◌, ◌^◌, ℤ, pos, nat_abs, nat_lt, Bool, true, false}
use Rattle.std.proofs.Common.{if◌then◌else◌, List, [], ◌∷◌, length, Option, Some, None, Result, Ok, Err, refl, sym, ap}
use Rattle.std.proofs.Common.{subst, arith, inl, inr}
use Rattle.std.specs.List.{fold}
use Rattle.std.proofs.lemmas.Bool.{cases_lt, leb-true, ltb-false}
use Rattle.std.proofs.lemmas.Int.{ints}
use Rattle.std.proofs.lemmas.List.Elements.{All-from_get_or}
use Rattle.std.proofs.lemmas.List.FromFn.{length-map-range_with_len}
use Rattle.dss_commands.specs.fd_exact.FirstLaws.{none_holds}
use Rattle.dss_commands.specs.fd_exact.Results.{and_then}
use Rattle.dss_commands.specs.fd_exact.States.{entry, part, table}
use Rattle.dss_commands.specs.fd_exact.Tables.{entry-table, length-table, row-table}
use Rattle.fd_daily.specs.fd_mat.Rows.{first_column_past, row_of}
use Rattle.fd_daily.specs.fd_system.declared.loads.LoadAt.{LoadAt}
use Rattle.fd_daily.specs.fd_pattern.Conditions.{IsPart, IsPoint}
use Rattle.fd_daily.specs.fd_equations.Rounded.{constants_of, jacobian_entry, jacobian_of, rounded_residual_of}
use Rattle.fd_daily.specs.fd_equations.Rounded.{start_entry, start_matrix_of}
use Rattle.fd_daily.specs.fd_pattern.Views.{NetworkView}
use Rattle.fd_daily.proofs.CallerLemmas.fd_equations.{length-list_of}
use Rattle.fd_daily.specs.fd_inverse.Elimination.{Augmented, after_columns, fitting, inverse_of, row_fits}
use Rattle.fd_daily.specs.fd_inverse.Elimination as elimination
use Rattle.fd_daily.specs.fd_inverse.declared.fault.Stop.{Stop}
use Rattle.fd_daily.specs.fd_inverse.declared.fault.Stop.TheVariants.{Range}
use Rattle.fd_daily.proofs.CallerLemmas.fd_inverse.{each_below-at}
use Rattle.fd_daily.specs.fd_enclosure.Sound.{IsInverse}
use Rattle.fd_daily.specs.fd_inject.Procedure.{Iterate, after, first_moving, iterated, judged, last_from, last_of}
use Rattle.fd_daily.specs.fd_inject.Procedure.{next_iterate, polished, solution_of, start_of, stepped, with_nominal}
use Rattle.fd_daily.specs.fd_inject.Ranges.{first_past, in_range, inverse_at, inverse_unless, unless_past}
use Rattle.fd_daily.specs.fd_inject.Ranges.{without_inverse}
use Rattle.fd_daily.specs.fd_inject.Updates.{moved, update_for, update_of, update_at}
use Rattle.fd_daily.specs.fd_inject.declared.fault.SolveFault.TheVariants.{NotConverged}
use Rattle.fd_daily.specs.fd_inject.declared.limits.Limits.{Limits}
use Rattle.fd_daily.proofs.CallerLemmas.fd_inject.{length-moved, length-nominal}

-- ---- steps that went well

pub and_ok : {A B E : Type 0} (r : Result A E) (f : A → Result B E) (y : B) → and_then r f ≡ Ok y
    → (x : A) × (r ≡ Ok x) × (f x ≡ Ok y)
and_ok (Ok x) f y h = (x, refl, h)
and_ok (Err e) f y h = absurd (let no : ⊥ = cc in no)

-- a list whose numbers are at most this in size
abbrev SmallTo : ℕ → List ℤ → Type 0
SmallTo limit xs = (k : ℕ) → k < length xs → nat_abs (part xs k) ≤ limit

unless_ok : (xs ys : List ℤ) (step : ℕ) (o : Option ℕ) → unless_past xs step o ≡ Ok ys → (o ≡ None) × (xs ≡ ys)
unless_ok xs ys step None h = (refl, cc)
unless_ok xs ys step (Some k) h = absurd (let no : ⊥ = cc in no)

range_ok : (limit step : ℕ) (xs ys : List ℤ) → in_range limit step xs ≡ Ok ys → (xs ≡ ys) × SmallTo limit xs
unfolding in_range
range_ok limit step xs ys h =
    let a = unless_ok xs ys step (first_past limit xs) h in (
      a.1,
      λ k l. ltb-false limit (nat_abs (part xs k))
          (none_holds (λ j. nat_lt limit (nat_abs (part xs j))) (length xs) k a.0 l),
    )

-- ---- iterates

abbrev pub IsReached : ℕ → List ℤ → Type 0
IsReached n y = (length y ≡ n) × SmallTo (2 ^ 40) y

stepped_ok : (v : NetworkView) (c : List (List ℤ)) (number : ℕ) (x : List ℤ) (s : List ℤ × List ℤ)
    → stepped v c number x ≡ Ok s → IsReached (length x) s.0
unfolding stepped
stepped_ok v c number x s h =
    let a = and_ok (update_for c number (rounded_residual_of v x))
    (λ u. and_then (in_range (2 ^ 40) (number + 1) (moved x u)) (λ y. Ok (y, u))) s h in
    let b = and_ok (in_range (2 ^ 40) (number + 1) (moved x a.0)) (λ y. Ok (y, a.0)) s a.2 in
    let r = range_ok (2 ^ 40) (number + 1) (moved x a.0) b.0 b.1 in
    let pair : (b.0, a.0) ≡ s = cc in
    let same : moved x a.0 ≡ s.0 = r.0 ∙ ap (λ (q : List ℤ × List ℤ). q.0) pair in
    subst (IsReached (length x)) same (length-moved x a.0, r.1)

judged_ok : (limits : Limits) (number : ℕ) (s : List ℤ × List ℤ) (o : Option ℕ) (i : Iterate)
    → judged limits number s o ≡ Ok i → i.x ≡ s.0
judged_ok limits number s None i h = let e : record { number = number; x = s.0; is_last = true } ≡ i =
    cc in sym (ap (λ (k : Iterate). k.x) e)
judged_ok limits number s (Some place) i h = by (nat_lt number limits.max_iterations) h
  where
    by : (b : Bool) → (if b then Ok (record { number = number; x = s.0; is_last = false }) else Err
        (NotConverged place number (part s.1 place))) ≡ Ok i → i.x ≡ s.0
    by true e = let k : record { number = number; x = s.0; is_last = false } ≡ i =
        cc in sym (ap (λ (k : Iterate). k.x) k)
    by false e = absurd (let no : ⊥ = cc in no)

next_ok : (v : NetworkView) (limits : Limits) (c : List (List ℤ)) (number : ℕ) (x : List ℤ) (i : Iterate)
    → next_iterate v limits c number x ≡ Ok i → length i.x ≡ length x
unfolding next_iterate
next_ok v limits c number x i h =
    let a = and_ok (stepped v c number x) (λ s. judged limits (number + 1) s (first_moving v limits s.0 s.1)) i h in
    ap length (judged_ok limits (number + 1) a.0 (first_moving v limits a.0.0 a.0.1) i a.2)
    ∙ (stepped_ok v c number x a.0 a.1).0

after_ok : (v : NetworkView) (limits : Limits) (c : List (List ℤ)) (i j : Iterate) → after v limits c i ≡ Ok j
    → length j.x ≡ length i.x
after_ok v limits c i j h = by i.is_last h
  where
    by : (b : Bool) → (if b then Ok i else next_iterate v limits c i.number i.x) ≡ Ok j → length j.x ≡ length i.x
    by true e = let k : i ≡ j = cc in ap (λ (q : Iterate). length q.x) (sym k)
    by false e = next_ok v limits c i.number i.x j e

iterated_ok : (v : NetworkView) (limits : Limits) (c : List (List ℤ)) (x : List ℤ) (n : ℕ) (i : Iterate)
    → iterated v limits c x n ≡ Ok i
    → length i.x ≡ length x
iterated_ok v limits c x zero i h = let k : record { number = 0; x = x; is_last = false } ≡ i =
    cc in ap (λ (q : Iterate). length q.x) (sym k)
iterated_ok v limits c x (suc n) i h =
    let a = and_ok (iterated v limits c x n) (after v limits c) i h in
    after_ok v limits c a.0 i a.2 ∙ iterated_ok v limits c x n a.0 a.1

last_ok : (v : NetworkView) (limits : Limits) (c : List (List ℤ)) (x : List ℤ) (i : ℕ × List ℤ)
    → last_from v limits c x ≡ Ok i → length i.1 ≡ length x
unfolding last_from
last_ok v limits c x i h =
    let a = and_ok (iterated v limits c x limits.max_iterations) (λ k. Ok (k.number, k.x)) i h in
    let k : (a.0.number, a.0.x) ≡ i = cc in
    ap (λ (q : ℕ × List ℤ). length q.1) (sym k) ∙ iterated_ok v limits c x limits.max_iterations a.0 a.1

-- ---- the start

all_nominal : (us : List LoadAt) (x : List ℤ) → length (fold with_nominal x us) ≡ length x
all_nominal [] x = refl
all_nominal (u ∷ us) x = all_nominal us (with_nominal x u) ∙ length-nominal x u

update_long : (c : List (List ℤ)) (step : ℕ) (r u : List ℤ) → update_for c step r ≡ Ok u → length u ≡ length c
unfolding update_for update_of
update_long c step r u h =
    let a = and_ok (in_range (2 ^ 58) step r) (λ q. Ok (update_of c q)) u h in
    let k : update_of c a.0 ≡ u = cc in
    ap length (sym k) ∙ length-list_of (length c) (update_at c a.0)

start_long : (v : NetworkView) (c : List (List ℤ)) (x : List ℤ) → start_of v c ≡ Ok x → length x ≡ length c
unfolding start_of
start_long v c x h =
    let a = and_ok (update_for c 0 (constants_of v))
    (λ u. in_range (2 ^ 40) 0 (fold with_nominal u v.stamp.loads)) x h in
    let r = range_ok (2 ^ 40) 0 (fold with_nominal a.0 v.stamp.loads) x a.2 in
    ap length (sym r.0) ∙ all_nominal v.stamp.loads a.0 ∙ update_long c 0 (constants_of v) a.0 a.1

-- ---- an inverse

abbrev pub if_fits : ℕ → Bool → List (List ℤ) → Result (List (List ℤ)) (ℕ × Stop)
if_fits row fits inverse = if fits then Ok inverse else Err (row, Range)

if_ok : (row : ℕ) (fits : Bool) (inverse c : List (List ℤ)) → if_fits row fits inverse ≡ Ok c
    → (fits ≡ true) × (inverse ≡ c)
if_ok row true inverse c e = (refl, cc)
if_ok row false inverse c e = absurd (let no : ⊥ = cc in no)

fitting_ok : (s : Augmented) (n row : ℕ) (c : List (List ℤ)) → fitting s n row ≡ Ok c
    → (c ≡ table n n (elimination.inverse_at s n)) × ((i : ℕ) → i < row → row_fits s n i ≡ true)
fitting_ok s n zero c h =
    let k : table n n (elimination.inverse_at s n) ≡ c = cc in
    (sym k, λ i l. absurd (omega (arith, l)))
fitting_ok s n (suc row) c h =
    let a = and_ok (fitting s n row) (if_fits row (row_fits s n row)) c h in
    let b = fitting_ok s n row a.0 a.1 in
    let d = if_ok row (row_fits s n row) a.0 c a.2 in (
      sym d.1 ∙ b.0,
      λ i l. elim (cases_lt i row) [
        | inl m ↦ b.1 i m
        | inr m ↦ let e : i ≡ row = omega (arith, l, m) in ap (row_fits s n) e ∙ d.0
      ],
    )

-- n rows of n entries, each at most 2^56 in size
pub record IsSquare (n : ℕ) (c : List (List ℤ)) : Type 0 where
  pub inverse : IsInverse n c
  pub wide : (i : ℕ) → i < n → length (row_of c i) ≡ n

module _ (s : Augmented) (n : ℕ) where
  abbrev at : ℕ → ℕ → ℤ
  at = elimination.inverse_at s n

  long : length (table n n at) ≡ n
  long = length-table n n at

  square_table : ((i : ℕ) → i < n → row_fits s n i ≡ true) → IsSquare n (table n n at)
  square_table fits = record {
    inverse = record {
      long = long;
      small = λ i j k l. subst (λ (z : ℤ). nat_abs z ≤ 2 ^ 56)
          (sym (entry-table n n at i j (omega (arith, k, long)) (omega (arith, l, long))))
          (leb-true (nat_abs (at i j)) (2 ^ 56)
          (each_below-at _ n j (fits i (omega (arith, k, long))) (omega (arith, l, long))));
    };
    wide = λ i l. ap length (row-table n n at i l) ∙ length-map-range_with_len (at i) 0 n;
  }

inverse_square : (m c : List (List ℤ)) → inverse_of m ≡ Ok c → IsSquare (length m) c
unfolding inverse_of
inverse_square m c h =
    let n = length m in
    let a = and_ok (after_columns (entry m) n n) (λ s. fitting s n n) c h in
    let b = fitting_ok a.0 n n c a.2 in
    subst (IsSquare n) (sym b.0) (square_table a.0 n b.1)

with_inverse : (r : Result (List (List ℤ)) (ℕ × Stop)) (c : List (List ℤ)) → without_inverse r ≡ Ok c → r ≡ Ok c
with_inverse (Ok d) c h = let k : d ≡ c = cc in ap Ok k
with_inverse (Err e) c h = absurd (let no : ⊥ = cc in no)

unless_past_ok : (m c : List (List ℤ)) (o : Option ℕ) → inverse_unless m o ≡ Ok c → inverse_of m ≡ Ok c
unless_past_ok m c None h = with_inverse (inverse_of m) c h
unless_past_ok m c (Some k) h = absurd (let no : ⊥ = cc in no)

square_at : (m c : List (List ℤ)) → inverse_at m ≡ Ok c → IsSquare (length m) c
unfolding inverse_at
square_at m c h = inverse_square m c (unless_past_ok m c (first_column_past (2 ^ 62) m) h)

-- ---- the point

last_long : (v : NetworkView) (limits : Limits) (i : ℕ × List ℤ) → last_of v limits ≡ Ok i → length i.1 ≡ v.size
unfolding last_of
last_long v limits i h =
    let a = and_ok (inverse_at (start_matrix_of v)) (λ c. and_then (start_of v c) (last_from v limits c)) i h in
    let b = and_ok (start_of v a.0) (last_from v limits a.0) i a.2 in
    last_ok v limits a.0 b.0 i b.2 ∙ start_long v a.0 b.0 b.1 ∙ (square_at (start_matrix_of v) a.0 a.1).inverse.long
    ∙ start_size v
  where
    start_size : (v : NetworkView) → length (start_matrix_of v) ≡ v.size
    start_size v = length-table v.size v.size (start_entry v)

jacobian_size : (v : NetworkView) (x : List ℤ) → length (jacobian_of v x) ≡ v.size
jacobian_size v x = length-table v.size v.size (jacobian_entry v x)

part_within : (z : ℤ) → nat_abs z ≤ 2 ^ 40 → IsPart z
part_within z h = (omega (arith, ints, h), omega (arith, ints, h))

reached_point : (v : NetworkView) (x : List ℤ) → IsReached v.size x → IsPoint v x
reached_point v x h =
    record { long = h.0; parts = All-from_get_or IsPart x (pos 0) (λ i l. part_within (part x i) (h.1 i l)) }

polished_ok : (v : NetworkView) (number : ℕ) (x : List ℤ) (c : List (List ℤ)) (p : List ℤ × List (List ℤ))
    → length x ≡ v.size
    → polished v number x c ≡ Ok p → IsPoint v p.0 × (c ≡ p.1)
unfolding polished
polished_ok v number x c p long h =
    let a = and_ok (stepped v c number x) (λ s. and_then (stepped v c (number + 1) s.0) (λ t. Ok (t.0, c))) p h in
    let b = and_ok (stepped v c (number + 1) a.0.0) (λ t. Ok (t.0, c)) p a.2 in
    let k : (b.0.0, c) ≡ p = cc in
    let first = stepped_ok v c number x a.0 a.1 in
    let second = stepped_ok v c (number + 1) a.0.0 b.0 b.1 in
    let there : IsReached v.size b.0.0 = (second.0 ∙ first.0 ∙ long, second.1) in (
      reached_point v p.0 (subst (IsReached v.size) (ap (λ (q : List ℤ × List (List ℤ)). q.0) k) there),
      ap
          (λ (q : List ℤ × List (List ℤ)). q.1) k,
    )

pub record IsSolutionPoint (v : NetworkView) (x : List ℤ) (c : List (List ℤ)) : Type 0 where
  pub point : IsPoint v x
  pub square : IsSquare v.size c

pub solution_point : (v : NetworkView) (limits : Limits) (x : List ℤ) (c : List (List ℤ))
    → solution_of v limits ≡ Ok (x, c) → IsSolutionPoint v x c
unfolding solution_of
solution_point v limits x c h =
    let a = and_ok (last_of v limits) (λ i. and_then (inverse_at (jacobian_of v i.1)) (polished v i.0 i.1)) (x, c) h in
    let b = and_ok (inverse_at (jacobian_of v a.0.1)) (polished v a.0.0 a.0.1) (x, c) a.2 in
    let d = polished_ok v a.0.0 a.0.1 b.0 (x, c) (last_long v limits a.0 a.1) b.2 in
    let square : IsSquare v.size b.0 =
    subst (λ n. IsSquare n b.0) (jacobian_size v a.0.1) (square_at (jacobian_of v a.0.1) b.0 b.1) in
    record { point = d.0; square = subst (IsSquare v.size) d.1 square }

-- Updates.
use Rattle.std.proofs.Common.{◌≡◌, ◌∙◌, ℕ, ◌<◌, ◌≤◌, ◌^◌, ℤ, pos, ◌+ℤ◌, nat_abs, List, [], ◌∷◌, ◌++◌, length, Ok, Err, arith, ap, sym, subst, inl, inr}
use Rattle.std.proofs.lemmas.Bool.{cases_lt}
use Rattle.std.proofs.lemmas.Int.{ints}
use Rattle.std.proofs.Math.Seq.{get_or-append_seam}
use Rattle.std.proofs.lemmas.List.{get_or_append_left, length-append}
use Rattle.std.proofs.lemmas.List.Elements.{All-from_get_or, All-get_or}
use Rattle.fd_equations.specs.fd_exact.States.{part}
use Rattle.fd_equations.specs.fd_exact.Results.{and_then}
use Rattle.fd_equations.specs.fd_mat.Rows.{EntriesWithin, row_of}
use Rattle.fd_equations.specs.fd_pattern.Conditions.{IsPart, IsPoint}
use Rattle.fd_equations.specs.Rounded.{list_of}
use Rattle.fd_equations.specs.fd_pattern.Views.{NetworkView}
use Rattle.fd_equations.proofs.CallerLemmas.{length-list_of, list_of-ext}
use Rattle.fd_inject.specs.Ranges.{SizesWithin, in_range}
use Rattle.fd_inject.specs.Updates.{moved, update_at, update_for, update_of}
use Rattle.fd_inject.specs.declared.fault.SolveFault.{SolveFault}

pub update_done : (c : List (List ℤ)) (step : ℕ) (r : List ℤ) → in_range (2 ^ 58) step r ≡ Ok r
    → update_for c step r ≡ Ok (update_of c r)
unfolding update_for
update_done c step r e = ap (λ o. and_then o (λ r. Ok (update_of c r))) e

pub update_past : (c : List (List ℤ)) (step : ℕ) (r : List ℤ) (f : SolveFault) → in_range (2 ^ 58) step r ≡ Err f
    → update_for c step r ≡ Err f
unfolding update_for
update_past c step r f e = ap (λ o. and_then o (λ r. Ok (update_of c r))) e

pub update_is : (c : List (List ℤ)) (r u : List ℤ) (n : ℕ) → n ≡ length c → u ≡ list_of n (update_at c r)
    → u ≡ update_of c r
unfolding update_of
update_is c r u n e is = is ∙ ap (λ n. list_of n (update_at c r)) e

pub row_small : (c : List (List ℤ)) (row : ℕ) (limit : ℕ) (xs : List ℤ) → EntriesWithin c limit → row < length c
    → xs ≡ row_of c row → length xs ≡ length c → SizesWithin limit xs
row_small c row limit xs h l e long = λ k m. subst (λ ys. nat_abs (part ys k) ≤ limit) (sym e) (h row k l (subst (λ n. k < n) long m))

pub small_none : (limit : ℕ) → SizesWithin limit []
small_none limit = λ k l. absurd (omega arith)

pub small_more : (limit : ℕ) (xs ys : List ℤ) (z : ℤ) → ys ≡ xs ++ z ∷ [] → nat_abs z ≤ limit → SizesWithin limit xs
    → SizesWithin limit ys
small_more limit xs ys z e h small = λ k l. subst (λ ys. nat_abs (part ys k) ≤ limit) (sym e) (grown k (subst (λ ys. k < length ys) e l))
  where
    grown : (k : ℕ) → k < length (xs ++ z ∷ []) → nat_abs (part (xs ++ z ∷ []) k) ≤ limit
    grown k l = elim (cases_lt k (length xs)) [
      | inl m ↦ subst (λ y. nat_abs y ≤ limit) (sym (get_or_append_left xs (z ∷ []) (pos 0) k m)) (small k m)
      | inr ge ↦ let same : length xs ≡ k = omega (arith, l, length-append xs (z ∷ [])) in
          subst (λ y. nat_abs y ≤ limit) (sym (ap (part (xs ++ z ∷ [])) (sym same) ∙ get_or-append_seam xs z [] (pos 0))) h
    ]

-- ---- an iterate with an update added

pub moved_is : (old new update : List ℤ) (n : ℕ) → length new ≡ length old → length old ≡ n
    → ((k : ℕ) → k < n → part new k ≡ (part old k +ℤ part update k)) → new ≡ moved old update
unfolding moved
moved_is old new update n e long h = list_of-ext new (length old) (λ k. part old k +ℤ part update k) (pos 0) e (λ i l. h i (subst (λ m. i < m) long l))

pub length-moved : (x update : List ℤ) → length (moved x update) ≡ length x
unfolding moved
length-moved x update = length-list_of (length x) (λ k. part x k +ℤ part update k)

-- ---- points

part_from : (z : ℤ) → nat_abs z ≤ 2 ^ 40 → IsPart z
part_from z h = (omega (arith, ints), omega (arith, ints))

size_from : (z : ℤ) → IsPart z → nat_abs z ≤ 2 ^ 40
size_from z h = omega (arith, ints, h.0, h.1)

pub point_from : (v : NetworkView) (x : List ℤ) → length x ≡ v.size → SizesWithin (2 ^ 40) x → IsPoint v x
point_from v x e h = record { long = e; parts = All-from_get_or IsPart x (pos 0) (λ i l. part_from (part x i) (h i l)) }

pub point_small : (v : NetworkView) (x : List ℤ) → IsPoint v x → SizesWithin (2 ^ 40) x
point_small v x p = λ k l. size_from (part x k) (All-get_or IsPart x k (pos 0) l p.parts)

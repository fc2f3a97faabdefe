-- Sums of a row's front, one entry more at a time.
use Rattle.std.proofs.Common.{◌≡◌, ◌∙◌, inl, inr, ℕ, ◌+◌, ◌<◌, ◌≤◌, ◌^◌, ℤ, pos, ◌+ℤ◌, ◌-ℤ◌, ◌*ℤ◌, nat_abs, List, [], ◌∷◌, length, take, drop, ◌-◌, Option, Some, None, MatchOption, arith, ap, subst, sym}
use Rattle.std.proofs.lemmas.Bool.{cases_lt}
use Rattle.std.proofs.lemmas.Int.{ints}
use Rattle.std.proofs.lemmas.List.{length-drop, take_all, take_more}
use Rattle.fd_triangles.specs.Rows.{entry_at}
use Rattle.fd_triangles.specs.fd_derived.fd_factors.fd_exact.SumLaws.{list_z-append}
use Rattle.fd_triangles.specs.fd_derived.declared.entries.Entry.{Entry}
use Rattle.fd_substitution.specs.Sums.{IsMade, SumsAreWithin, left_after, weighted}

abbrev none : Entry
none = record { place = 0; units = pos 0 }

one_more : (a b : ℤ) → a +ℤ (b +ℤ pos 0) ≡ a +ℤ b
one_more a b = omega (arith, ints)

module _ (z : ℤ) (row : List Entry) (x : ℕ → ℤ) where
  weighted_more : (k : ℕ) → k < length row
      → weighted (take (k + 1) row) x ≡ weighted (take k row) x +ℤ (entry_at row k).units *ℤ x (entry_at row k).place
  weighted_more k h =
      ap (λ l. weighted l x) (take_more row k none h)
      ∙ list_z-append (λ (e : Entry). e.units *ℤ x e.place) (take k row) (entry_at row k ∷ [])
      ∙ one_more (weighted (take k row) x) ((entry_at row k).units *ℤ x (entry_at row k).place)

  pub left_more : (k : ℕ) → k < length row
      → left_after z row x (k + 1) ≡ left_after z row x k -ℤ (entry_at row k).units *ℤ x (entry_at row k).place
  left_more k h = let m = weighted_more k h in omega (arith, ints, m)

  pub left_start : left_after z row x 0 ≡ z
  left_start = omega (arith, ints)

  pub left_whole : (k : ℕ) → length row ≤ k → left_after z row x k ≡ z -ℤ weighted row x
  left_whole k h = ap (λ l. z -ℤ weighted l x) (take_all k row h)

  -- what is left behind the next entry
  pub next_left : (k : ℕ) → k < length row → (was now : ℤ) → was ≡ left_after z row x k
      → now ≡ was -ℤ (entry_at row k).units *ℤ x (entry_at row k).place → now ≡ left_after z row x (k + 1)
  next_left k h was now e f =
      f ∙ ap (λ y. y -ℤ (entry_at row k).units *ℤ x (entry_at row k).place) e ∙ sym (left_more k h)

  -- no front but those of the row itself
  pub sums_within : (m : ℕ) → length row ≤ m → ((k : ℕ) → k ≤ m → nat_abs (left_after z row x k) ≤ 2 ^ 120)
      → SumsAreWithin z row x
  sums_within m long h k = elim (cases_lt m k) [
    | inl l ↦ subst (λ y. nat_abs y ≤ 2 ^ 120)
        (left_whole m long ∙ sym (left_whole k (omega arith))) (h m (omega arith))
    | inr l ↦ h k (omega arith)
  ]

  -- one entry more
  pub within_more : (i : ℕ) → ((k : ℕ) → k ≤ i → nat_abs (left_after z row x k) ≤ 2 ^ 120)
      → nat_abs (left_after z row x (i + 1)) ≤ 2 ^ 120 → (k : ℕ) → k ≤ i + 1 → nat_abs (left_after z row x k) ≤ 2 ^ 120
  within_more i h here k l = elim (cases_lt i k) [
    | inl b ↦ let e : i + 1 ≡ k = omega arith in subst (λ j. nat_abs (left_after z row x j) ≤ 2 ^ 120) e here
    | inr b ↦ h k (omega arith)
  ]

-- the entries behind the first
pub rest_whole : (row : List Entry) → take (length row - 1) (drop 1 row) ≡ drop 1 row
rest_whole row = take_all (length row - 1) (drop 1 row) (omega (arith, length-drop 1 row))

-- a number that is made of a sum
pub made_of : (z : ℤ) (row : List Entry) (x : ℕ → ℤ) (made v : ℤ) (result : Option ℤ) → SumsAreWithin z row x → v ≡ made
    → MatchOption result (2 ^ 62 < nat_abs v) (λ number. (number ≡ v) × (nat_abs v ≤ 2 ^ 62))
    → IsMade z row x made result
made_of z row x made v None sums e h = inr (subst (λ u. 2 ^ 62 < nat_abs u) e h)
made_of z row x made v (Some n) sums e h =
    (h.0 ∙ e, record { sums = sums; number = subst (λ u. nat_abs u ≤ 2 ^ 62) e h.1 })

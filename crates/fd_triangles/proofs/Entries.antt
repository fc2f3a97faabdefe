-- Rows by their entries: what stands at a place, and what an edit leaves.
use Rattle.std.proofs.Common.{◌≡◌, ℕ, zero, suc, ◌+◌, ◌-◌, ◌<◌, ◌≤◌, ◌^◌, ◌≢◌, ◌⊎◌, inl, inr, ℤ, pos, ◌+ℤ◌, nat_abs, cond, eqb, List, [], ◌∷◌, ◌++◌, length, set, take, drop, nat_lt, if◌then◌else◌, ◌==◌, Result, Ok, Err, IfOk, IfErr, arith, refl, ap, sym, ◌∙◌, subst}
use Rattle.std.proofs.lemmas.Bool.{cases_lt}
use Rattle.std.proofs.lemmas.Int.{ints}
use Rattle.std.specs.List.{insert, remove}
use Rattle.std.specs.List.Sorted.{IsSearchInRange, IsBinarySearchResult, IsNonDecreasingBy}
use Rattle.std.specs.Ordering.{nat_cmp, ordering_index}
use Rattle.std.proofs.lemmas.Cmp.{ranked}
use Rattle.std.proofs.lemmas.List.{map-append, take-append-drop, drop_more}
use Rattle.std.proofs.lemmas.List.Sorted.{IsNonDecreasingBy-from_default}
use Rattle.std.proofs.lemmas.List.Edits.{length-insert, length-remove, get_or-insert_below, get_or-insert_at, get_or-insert_above, get_or-remove_below, get_or-remove_above}
use Rattle.std.proofs.lemmas.Bool.Decides.{nat_tests}
use Rattle.std.proofs.lemmas.Grind.{common_steps}
use Rattle.fd_derived.specs.fd_factors.fd_exact.SumLaws.{list_z-append}
use Rattle.fd_derived.specs.fd_factors.fd_exact.Sums.{list_z}
use Rattle.fd_derived.specs.Rows.{entries_of, entry_of}
use Rattle.fd_derived.specs.declared.entries.Entry.{Entry}
use Rattle.fd_triangles.specs.Rows.{IsAt, IsGap, IsRising, IsRow, WithNumber, entry_at, number}

abbrev none : Entry
none = record { place = 0; units = pos 0 }

-- what an entry counts for at a place
abbrev pub piece : Entry → ℕ → ℤ
piece e c = cond (eqb e.place c) e.units (pos 0)

pub number_cons : (e : Entry) (row : List Entry) (c : ℕ) → number (e ∷ row) c ≡ piece e c +ℤ number row c
number_cons e row c = refl

pub number_append : (xs ys : List Entry) (c : ℕ) → number (xs ++ ys) c ≡ number xs c +ℤ number ys c
number_append xs ys c =
    ap (list_z (λ t. cond (eqb t.0 c) t.1 (pos 0))) (map-append entry_of xs ys)
    ∙ list_z-append (λ t. cond (eqb t.0 c) t.1 (pos 0)) (entries_of xs) (entries_of ys)

number_split : (row : List Entry) (i c : ℕ) → number row c ≡ number (take i row) c +ℤ number (drop i row) c
number_split row i c =
    ap (λ l. number l c) (sym (take-append-drop i row)) ∙ number_append (take i row) (drop i row) c

pub number-insert : (row : List Entry) (i : ℕ) (e : Entry) (c : ℕ) → number (insert row i e) c ≡ piece e c +ℤ number row c
number-insert row i e c =
    let a = number_append (take i row) (e ∷ drop i row) c in
    let b = number_cons e (drop i row) c in
    let d = number_split row i c in
    omega (arith, ints, a, b, d)

pub number-remove : (row : List Entry) (i c : ℕ) → i < length row → number row c ≡ piece (entry_at row i) c +ℤ number (remove row i) c
number-remove row i c h =
    let a = number_append (take i row) (drop (i + 1) row) c in
    let b = number_split row i c in
    let e = ap (λ l. number l c) (drop_more row i none h) in
    let f = number_cons (entry_at row i) (drop (i + 1) row) c in
    let g : number (remove row i) c ≡ number (take i row ++ drop (i + 1) row) c =
    ap (λ k. number (take i row ++ drop k row) c) (after i) in
    omega (arith, ints, a, b, e, f, g)
  where
    after : (i : ℕ) → suc i ≡ i + 1
    after i = omega arith

pub number-set : (row : List Entry) (i : ℕ) (e : Entry) (c : ℕ) → i < length row
    → number (set row i e) c +ℤ piece (entry_at row i) c ≡ number row c +ℤ piece e c
number-set [] i e c h = absurd (omega arith)
number-set (x ∷ row) zero e c h = omega (arith, ints)
number-set (x ∷ row) (suc i) e c h = let r = number-set row i e c (omega arith) in omega (arith, ints, r)

-- no entry has the place
pub number_absent : (row : List Entry) (c : ℕ) → ((i : ℕ) → i < length row → (entry_at row i).place ≢ c) → number row c ≡ pos 0
number_absent [] c l = refl
number_absent (e ∷ row) c l =
    grind (
      arith,
      nat_tests,
      l 0 (omega arith),
      number_absent row c (λ i b. l (suc i) (omega arith)),
    )

pub piece_same : (e : Entry) (c : ℕ) → e.place ≡ c → piece e c ≡ e.units
piece_same e c h = grind (arith, nat_tests)

pub piece_other : (e : Entry) (c : ℕ) → e.place ≢ c → piece e c ≡ pos 0
piece_other e c h = grind (arith, nat_tests)

pub choose_same : (place c : ℕ) (u v : ℤ) → place ≡ c → (if place == c then u else v) ≡ u
choose_same place c u v h = grind arith

pub choose_other : (place c : ℕ) (u v : ℤ) → place ≢ c → (if place == c then u else v) ≡ v
choose_other place c u v h = grind arith

pub near_or : (k c : ℕ) → (k ≡ c) ⊎ (k ≢ c)
near_or k c = grind arith

-- ---- a search

module _ (row : List Entry) (rising : IsRising row) (place : ℕ) where
  comparisons_rise : IsNonDecreasingBy (λ e. ordering_index (nat_cmp e.place place)) row
  comparisons_rise = IsNonDecreasingBy-from_default (λ e. ordering_index (nat_cmp e.place place)) row none
      (λ i j le in_range.
      let rise : (entry_at row i).place ≤ (entry_at row j).place =
      grind (arith, rising i j, λ (same : i ≡ j). ap (λ k. (entry_at row k).place) same) in
      grind (arith, nat_tests))

  pub searched : (r : Result ℕ ℕ) → IsSearchInRange r (length row) →
      IsBinarySearchResult (λ e. nat_cmp e.place place) row r
      → record { found : IfOk r (IsAt row place); gap : IfErr r (IsGap row place) }
  searched (Ok at) in_range equal = record {
    found = record {
      in_range = in_range;
      place_is =
          ranked _ place _ (sym (equal none));
    };
    gap = tt;
  }
  searched (Err at) in_range parted = record {
    found = tt;
    gap = record {
      in_range = in_range;
      before = λ j lt. ranked _ place _ (sym ((parted comparisons_rise).0 j none (omega arith) lt));
      behind = λ j le lt. ranked _ place _ (sym ((parted comparisons_rise).1 j none le lt));
    };
  }

-- ---- an entry that is held

module _ (row : List Entry) (rising : IsRising row) (place at : ℕ) (is_at : IsAt row place at) where
  removed_apart : (i : ℕ) → i < length (remove row at) → (entry_at (remove row at) i).place ≢ place
  removed_apart i h same = elim (cases_lt i at) [
    | inl low ↦ let e = ap (λ (x : Entry). x.place) (get_or-remove_below row at none i low is_at.in_range) in
        omega (arith, rising i at low is_at.in_range, is_at.place_is, e, same)
    | inr high ↦ let e = ap (λ (x : Entry). x.place) (get_or-remove_above row at none i high is_at.in_range) in
        omega (
          arith,
          rising at (i + 1) (omega arith) (omega (arith, h, length-remove row at is_at.in_range)),
          is_at.place_is,
          e,
          same,
        )
  ]

  pub number_removed : number (remove row at) place ≡ pos 0
  number_removed = number_absent (remove row at) place removed_apart

  pub number_here : number row place ≡ (entry_at row at).units
  number_here =
      let a = number-remove row at place is_at.in_range in
      let b = piece_same (entry_at row at) place is_at.place_is in
      let d = number_removed in
      omega (arith, ints, a, b, d)

  pub with_set : (units : ℤ) → WithNumber row (set row at (record { place = place; units = units })) place units
  with_set units c =
      let new : Entry = record { place = place; units = units } in
      let a = number-set row at new c is_at.in_range in
      elim (near_or place c) [
        | inl same ↦
            let b = piece_same (entry_at row at) c (is_at.place_is ∙ same) in
            let d = piece_same new c same in
            let e = ap (number row) (sym same) ∙ number_here in
            let f = choose_same place c units (number row c) same in
            omega (arith, ints, a, b, d, e, f)
        | inr apart ↦
            let b = piece_other (entry_at row at) c (λ e. apart (sym is_at.place_is ∙ e)) in
            let d = piece_other new c apart in
            let f = choose_other place c units (number row c) apart in
            omega (arith, ints, a, b, d, f)
      ]

  pub with_remove : WithNumber row (remove row at) place (pos 0)
  with_remove c =
      let a = number-remove row at c is_at.in_range in
      elim (near_or place c) [
        | inl same ↦
            let e = ap (number (remove row at)) (sym same) ∙ number_removed in
            let f = choose_same place c (pos 0) (number row c) same in
            omega (arith, ints, e, f)
        | inr apart ↦
            let b = piece_other (entry_at row at) c (λ e. apart (sym is_at.place_is ∙ e)) in
            let f = choose_other place c (pos 0) (number row c) apart in
            omega (arith, ints, a, b, f)
      ]

module _ (n : ℕ) (row : List Entry) (is : IsRow n row) (place at : ℕ) (is_at : IsAt row place at) where
  pub row_set : (units : ℤ) → units ≢ pos 0 → nat_abs units ≤ 2 ^ 62
      → IsRow n (set row at (record { place = place; units = units }))
  row_set units ne low = record {
    rising = λ i j lt in_range. grind (
      arith,
      common_steps,
      is.rising i j,
      is.rising i at,
      is.rising at j,
      is_at.in_range,
      is_at.place_is,
    );
    inside = λ k in_range. grind (arith, common_steps, is.inside k, is.inside at, is_at.in_range, is_at.place_is);
    other = λ k in_range. grind (arith, common_steps, is.other k, ne, is_at.in_range);
    small = λ k in_range. grind (arith, common_steps, is.small k, low, is_at.in_range);
  }

  -- where an entry that is left stood before
  skip : ℕ → ℕ
  skip k = if nat_lt k at then k else (k + 1)

  skips : (k : ℕ) → entry_at (remove row at) k ≡ entry_at row (skip k)
  unfolding skip
  skips k = elim (cases_lt k at) [
    | inl low ↦ get_or-remove_below row at none k low is_at.in_range ∙ ap (entry_at row) (sym (low_skip k low))
    | inr high ↦ get_or-remove_above row at none k high is_at.in_range ∙ ap (entry_at row) (sym (high_skip k high))
  ]
    where
      low_skip : (k : ℕ) → k < at → (if nat_lt k at then k else (k + 1)) ≡ k
      low_skip k low = grind arith

      high_skip : (k : ℕ) → at ≤ k → (if nat_lt k at then k else (k + 1)) ≡ k + 1
      high_skip k high = grind arith

  skip_rises : (i j : ℕ) → i < j → skip i < skip j
  unfolding skip
  skip_rises i j l = grind arith

  skip_few : (k : ℕ) → skip k ≤ k + 1
  unfolding skip
  skip_few k = grind arith

  pub row_remove : IsRow n (remove row at)
  row_remove =
      let long = length-remove row at is_at.in_range in
      let inside : (k : ℕ) → k < length (remove row at) → skip k < length row = λ k l. omega (arith, skip_few k, long) in
      record {
        rising = λ i j l m. rw (skips i, skips j) (is.rising (skip i) (skip j) (skip_rises i j l) (inside j m));
        inside = λ k l. rw (skips k) (is.inside (skip k) (inside k l));
        other = λ k l. rw (skips k) (is.other (skip k) (inside k l));
        small = λ k l. rw (skips k) (is.small (skip k) (inside k l));
      }

module _ (row : List Entry) (place at : ℕ) (gap : IsGap row place at) where
  pub number_nowhere : number row place ≡ pos 0
  number_nowhere = number_absent row place (λ i b same. grind (arith, gap.before i, gap.behind i))

  pub with_insert : (units : ℤ) → WithNumber row (insert row at (record { place = place; units = units })) place units
  with_insert units c =
      let new : Entry = record { place = place; units = units } in
      let a = number-insert row at new c in
      elim (near_or place c) [
        | inl same ↦
            let d = piece_same new c same in
            let e = ap (number row) (sym same) ∙ number_nowhere in
            let f = choose_same place c units (number row c) same in
            omega (arith, ints, a, d, e, f)
        | inr apart ↦
            let d = piece_other new c apart in
            let f = choose_other place c units (number row c) apart in
            omega (arith, ints, a, d, f)
      ]

  pub with_nothing : WithNumber row row place (pos 0)
  with_nothing c = elim (near_or place c) [
    | inl same ↦ ap (number row) (sym same) ∙ number_nowhere ∙ sym (choose_same place c (pos 0) (number row c) same)
    | inr apart ↦ sym (choose_other place c (pos 0) (number row c) apart)
  ]

  pub row_insert : (n : ℕ) (units : ℤ) → units ≢ pos 0 → nat_abs units ≤ 2 ^ 62 → place < n → IsRow n row
      → IsRow n (insert row at (record { place = place; units = units }))
  row_insert n units ne low in_row is =
      let new : Entry = record { place = place; units = units } in
      let long = length-insert row at new gap.in_range in
      let below : (i : ℕ) → i < at → entry_at (insert row at new) i ≡ entry_at row i =
      λ i l. get_or-insert_below row at new none i l gap.in_range in
      let here : (i : ℕ) → i ≡ at → entry_at (insert row at new) i ≡ new =
      λ i e. rw e (get_or-insert_at row at new none gap.in_range) in
      let above : (i : ℕ) → at < i → entry_at (insert row at new) i ≡ entry_at row (i - 1) =
      λ i l. subst (λ q. entry_at (insert row at new) q ≡ entry_at row (i - 1)) {x = i - 1 + 1} (omega arith)
      (get_or-insert_above row at new none (i - 1) (omega arith) gap.in_range) in
      record {
        rising = λ i j l m. grind (
          arith,
          below i,
          here i,
          above i,
          below j,
          here j,
          above j,
          is.rising i j,
          is.rising i (j - 1),
          is.rising (i - 1) (j - 1),
          gap.before i,
          gap.behind (j - 1),
        );
        inside = λ k l. grind (arith, below k, here k, above k, is.inside k, is.inside (k - 1));
        other = λ k l. grind (arith, below k, here k, above k, is.other k, is.other (k - 1), ne);
        small = λ k l. grind (arith, below k, here k, above k, is.small k, is.small (k - 1), low);
      }

-- Entries in rising places: what is found among them, and what an edit leaves.
use Rattle.std.proofs.Common.{◌≡◌, ℕ, zero, suc, ◌+◌, ◌-◌, ◌*◌, ◌/◌, ◌%◌, ◌<◌, ◌≤◌, ◌≢◌, ◌⊎◌, inl, inr, ℤ, pos, nat_abs, Bool, true, false, ◌&&◌, Some, List, [], ◌∷◌, length, get_or, set, take, FitsSigned, to_z, of_z, nat_lt, if◌then◌else◌, ◌==◌, Result, Ok, Err, IfOk, IfErr, arith, refl, ap, sym, ◌∙◌, subst}
use Rattle.std.proofs.Math.Nat.{mul_comm, div-add-mod}
use Rattle.std.proofs.lemmas.Nat.{div_below, mod_below, same_from_place}
use Rattle.std.proofs.lemmas.Bool.{cases_lt}
use Rattle.fd_exact.specs.States.{entry}
use Rattle.fd_exact.specs.Tables.{entry-table, length-table, room}
use Rattle.std.specs.Ordering.{int_eq}
use Rattle.fd_mat.specs.Rows.{with_entry, EntriesWithin, first_column_past}
use Rattle.fd_mat.proofs.Columns.{column_some}
use Rattle.fd_mat.specs.Squares.{with_entry-table}
use Rattle.std.specs.Int.{w128}
use Rattle.std.proofs.lemmas.Int.{to_z-of_z}
use Rattle.std.specs.List.{insert, remove}
use Rattle.std.specs.List.Sorted.{IsSearchInRange, IsBinarySearchResult, IsNonDecreasingBy}
use Rattle.std.specs.Ordering.{nat_cmp, ordering_index}
use Rattle.std.proofs.lemmas.Cmp.{ranked}
use Rattle.std.proofs.lemmas.List.{get_or-take, length-take-le, take_more}
use Rattle.std.proofs.lemmas.List.Sorted.{IsNonDecreasingBy-from_default}
use Rattle.std.proofs.lemmas.List.Edits.{insert_end, length-insert, length-remove, get_or-insert_below, get_or-insert_at, get_or-insert_above, get_or-remove_below, get_or-remove_above}
use Rattle.std.proofs.lemmas.Bool.Decides.{nat_tests, Decides-eqb, Decides-int_eq}
use Rattle.std.proofs.lemmas.Grind.{common_steps}
use Rattle.fd_mat.specs.declared.sparse.Held.{Held}
use Rattle.fd_mat.specs.Sparse.{AreHeld, IsAt, IsGap, IsHeld, IsRising, held, rows_held, value_at}

near_or : (k c : ℕ) → (k ≡ c) ⊎ (k ≢ c)
near_or k c = grind arith

abbrev none : Held
none = record { place = 0; value = pos 0 }

-- none of these from k on, and below n, has the place
abbrev Lacks : List Held → ℕ → ℕ → ℕ → Type 0
Lacks hs place from n = (i : ℕ) → from ≤ i → i < n → (held hs i).place ≢ place

-- what is found at each place where one has this value and the others stay
abbrev pub WithValue : List Held → List Held → ℕ → ℤ → Type 0
WithValue old new place value = (q : ℕ) → value_at new q ≡ (if place == q then value else value_at old q)

lacks_tail : (h : Held) (hs : List Held) (place from n : ℕ) → Lacks (h ∷ hs) place (suc from) (suc n) →
    Lacks hs place from n
lacks_tail h hs place from n l i f b = l (suc i) (omega arith) (omega arith)

at_tail : (h : Held) (hs : List Held) (place i : ℕ) → IsAt (h ∷ hs) place (suc i) → IsAt hs place i
at_tail h hs place i a = record { in_range = omega (arith, a.in_range); place_is = a.place_is }

pub value_absent : (hs : List Held) (place : ℕ) → Lacks hs place 0 (length hs) → value_at hs place ≡ pos 0
value_absent [] place l = refl
value_absent (h ∷ hs) place l =
    grind (
      arith,
      nat_tests,
      l 0 (omega arith) (omega arith),
      value_absent hs place (λ i f b. l (suc i) (omega arith) (omega arith)),
    )

value_present : (hs : List Held) (place i : ℕ) → IsAt hs place i → Lacks hs place 0 i → value_at hs place
    ≡ (held hs i).value
value_present [] place i a l = absurd (omega (arith, a.in_range))
value_present (h ∷ hs) place zero a l = grind (arith, nat_tests, a.place_is)
value_present (h ∷ hs) place (suc i) a l =
    grind (
      arith,
      nat_tests,
      l 0 (omega arith) (omega arith),
      value_present hs place i (at_tail h hs place i a)
          (λ j f b. l (suc j) (omega arith) (omega arith)),
    )

value_set : (hs : List Held) (place : ℕ) (value : ℤ) (i : ℕ) → IsAt hs place i → Lacks hs place 0 i
    → WithValue hs (set hs i (record { place = place; value = value })) place value
value_set [] place value i a l q = absurd (omega (arith, a.in_range))
value_set (h ∷ hs) place value zero a l q = grind (arith, nat_tests, a.place_is)
value_set (h ∷ hs) place value (suc i) a l q =
    grind (
      arith,
      nat_tests,
      l 0 (omega arith) (omega arith),
      value_set hs place value i (at_tail h hs place i a)
          (λ j f b. l (suc j) (omega arith) (omega arith)) q,
    )

value-insert : (hs : List Held) (place : ℕ) (value : ℤ) (i : ℕ) → Lacks hs place 0 i
    → WithValue hs (insert hs i (record { place = place; value = value })) place value
value-insert hs place value zero l q = refl
value-insert [] place value (suc i) l q = refl
value-insert (h ∷ hs) place value (suc i) l q =
    grind (
      arith,
      nat_tests,
      l 0 (omega arith) (omega arith),
      value-insert hs place value i (λ j f b. l (suc j) (omega arith) (omega arith)) q,
    )

value-remove : (hs : List Held) (place i : ℕ) → IsAt hs place i → Lacks hs place 0 i →
    Lacks hs place (suc i) (length hs)
    → WithValue hs (remove hs i) place (pos 0)
value-remove [] place i a l m q = absurd (omega (arith, a.in_range))
value-remove (h ∷ hs) place zero a l m q =
    grind (arith, nat_tests, a.place_is, value_absent hs place (λ j f b. m (suc j) (omega arith) (omega arith)))
value-remove (h ∷ hs) place (suc i) a l m q =
    grind (
      arith,
      nat_tests,
      l 0 (omega arith) (omega arith),
      value-remove hs place i (at_tail h hs place i a)
          (λ j f b. l (suc j) (omega arith) (omega arith)) (λ j f b. m (suc j) (omega arith) (omega arith)) q,
    )

-- ---- a search

module _ (hs : List Held) (rising : IsRising hs) (place : ℕ) where
  comparisons_rise : IsNonDecreasingBy (λ h. ordering_index (nat_cmp h.place place)) hs
  comparisons_rise = IsNonDecreasingBy-from_default (λ h. ordering_index (nat_cmp h.place place)) hs none
      (λ i j le in_range.
      let rise : (held hs i).place ≤ (held hs j).place =
      grind (arith, rising i j, λ (same : i ≡ j). ap (λ k. (held hs k).place) same) in
      grind (arith, nat_tests))

  pub searched : (r : Result ℕ ℕ) → IsSearchInRange r (length hs) →
      IsBinarySearchResult (λ h. nat_cmp h.place place) hs r
      → record { found : IfOk r (IsAt hs place); gap : IfErr r (IsGap hs place) }
  searched (Ok at) in_range equal = record {
    found = record {
      in_range = in_range;
      place_is =
          ranked _ place _ (sym (equal none));
    };
    gap = tt;
  }
  searched (Err at) in_range parted = record {
    found = tt;
    gap = record {
      in_range = in_range;
      before = λ j lt. ranked _ place _ (sym ((parted comparisons_rise).0 j none (omega arith) lt));
      behind = λ j le lt. ranked _ place _ (sym ((parted comparisons_rise).1 j none le lt));
    };
  }

-- ---- an entry that is held

module _ (hs : List Held) (rising : IsRising hs) (place at : ℕ) (is_at : IsAt hs place at) where
  lacks_before : Lacks hs place 0 at
  lacks_before i f b same = omega (arith, rising i at b is_at.in_range, is_at.place_is)

  lacks_behind : Lacks hs place (suc at) (length hs)
  lacks_behind i f b same = omega (arith, rising at i (omega arith) b, is_at.place_is)

  pub value_here : value_at hs place ≡ (held hs at).value
  value_here = value_present hs place at is_at lacks_before

  pub with_set : (value : ℤ) → WithValue hs (set hs at (record { place = place; value = value })) place value
  with_set value = value_set hs place value at is_at lacks_before

  pub with_remove : WithValue hs (remove hs at) place (pos 0)
  with_remove = value-remove hs place at is_at lacks_before lacks_behind

module _ (n : ℕ) (hs : List Held) (are : AreHeld n hs) (place at : ℕ) (is_at : IsAt hs place at) where
  pub held_set : (value : ℤ) → value ≢ pos 0 → AreHeld n (set hs at (record { place = place; value = value }))
  held_set value ne = record {
    rising = λ i j lt in_range. grind (
      arith,
      common_steps,
      are.rising i j,
      are.rising i at,
      are.rising at j,
      is_at.in_range,
      is_at.place_is,
    );
    inside = λ k in_range. grind (arith, common_steps, are.inside k, are.inside at, is_at.in_range, is_at.place_is);
    other = λ k in_range. grind (arith, common_steps, are.other k, ne, is_at.in_range);
  }

  -- where an entry that is left stood before
  skip : ℕ → ℕ
  skip k = if nat_lt k at then k else (k + 1)

  skips : (k : ℕ) → held (remove hs at) k ≡ held hs (skip k)
  unfolding skip
  skips k = elim (cases_lt k at) [
    | inl low ↦ get_or-remove_below hs at none k low is_at.in_range ∙ ap (held hs) (sym (low_skip k low))
    | inr high ↦ get_or-remove_above hs at none k high is_at.in_range ∙ ap (held hs) (sym (high_skip k high))
  ]
    where
      low_skip : (k : ℕ) → k < at → (if nat_lt k at then k else (k + 1)) ≡ k
      low_skip k low = grind arith

      high_skip : (k : ℕ) → at ≤ k → (if nat_lt k at then k else (k + 1)) ≡ k + 1
      high_skip k high = grind arith

  skip_rises : (i j : ℕ) → i < j → skip i < skip j
  unfolding skip
  skip_rises i j l = grind arith

  skip_few : (k : ℕ) → skip k ≤ k + 1
  unfolding skip
  skip_few k = grind arith

  pub held_remove : AreHeld n (remove hs at)
  held_remove =
      let long = length-remove hs at is_at.in_range in
      let inside : (k : ℕ) → k < length (remove hs at) → skip k < length hs = λ k l. omega (arith, skip_few k, long) in
      record {
        rising = λ i j l m. rw (skips i, skips j) (are.rising (skip i) (skip j) (skip_rises i j l) (inside j m));
        inside = λ k l. rw (skips k) (are.inside (skip k) (inside k l));
        other = λ k l. rw (skips k) (are.other (skip k) (inside k l));
      }

module _ (hs : List Held) (place at : ℕ) (gap : IsGap hs place at) where
  pub value_nowhere : value_at hs place ≡ pos 0
  value_nowhere = value_absent hs place (λ i _ b same. grind (arith, gap.before i, gap.behind i))

  pub with_insert : (value : ℤ) → WithValue hs (insert hs at (record { place = place; value = value })) place value
  with_insert value = value-insert hs place value at (λ i _ b same. omega (arith, gap.before i b))

  pub with_nothing : WithValue hs hs place (pos 0)
  with_nothing q = elim (near_or place q) [
    | inl same ↦ ap (value_at hs) (sym same) ∙ value_nowhere ∙ sym (here q same)
    | inr ne ↦ sym (off q ne)
  ]
    where
      here : (q : ℕ) → place ≡ q → (if place == q then pos 0 else value_at hs q) ≡ pos 0
      here q same = grind arith

      off : (q : ℕ) → place ≢ q → (if place == q then pos 0 else value_at hs q) ≡ value_at hs q
      off q ne = grind arith

  pub held_insert : (n : ℕ) (value : ℤ) → value ≢ pos 0 → place < n * n → AreHeld n hs
      → AreHeld n (insert hs at (record { place = place; value = value }))
  held_insert n value ne in_square are =
      let new : Held = record { place = place; value = value } in
      let long = length-insert hs at new gap.in_range in
      let below : (i : ℕ) → i < at → held (insert hs at new) i ≡ held hs i =
      λ i l. get_or-insert_below hs at new none i l gap.in_range in
      let here : (i : ℕ) → i ≡ at → held (insert hs at new) i ≡ new =
      λ i e. rw e (get_or-insert_at hs at new none gap.in_range) in
      let above : (i : ℕ) → at < i → held (insert hs at new) i ≡ held hs (i - 1) =
      λ i l. subst (λ q. held (insert hs at new) q ≡ held hs (i - 1)) {x = i - 1 + 1} (omega arith)
      (get_or-insert_above hs at new none (i - 1) (omega arith) gap.in_range) in
      record {
        rising = λ i j l m. grind (
          arith,
          below i,
          here i,
          above i,
          below j,
          here j,
          above j,
          are.rising i j,
          are.rising i (j - 1),
          are.rising (i - 1) (j - 1),
          gap.before i,
          gap.behind (j - 1),
        );
        inside = λ k l. grind (arith, below k, here k, above k, are.inside k, are.inside (k - 1));
        other = λ k l. grind (arith, below k, here k, above k, are.other k, are.other (k - 1), ne);
      }

-- ---- the square

pub size_held : (n : ℕ) (hs : List Held) (rows : List (List ℤ)) → rows_held n hs ≡ rows → n ≡ length rows
size_held n hs rows e = sym (length-table n n (λ row col. value_at hs (row * n + col))) ∙ ap length e

pub place_in : (n : ℕ) (hs : List Held) (rows : List (List ℤ)) (row col : ℕ) → rows_held n hs ≡ rows
    → row < length rows → col < length rows → row * length rows + col < n * n
place_in n hs rows row col e l m = let s = size_held n hs rows e in rw s (room (length rows) (length rows) row col l m)

pub is_held : (n : ℕ) (hs : List Held) (rows : List (List ℤ)) → rows_held n hs ≡ rows → AreHeld n hs → IsHeld rows hs
is_held n hs rows e are =
    let s = size_held n hs rows e in
    record { are = subst (λ m. AreHeld m hs) s are; rows_are = sym e ∙ ap (λ m. rows_held m hs) s }

pub entry_held : (n : ℕ) (hs : List Held) (rows : List (List ℤ)) (row col : ℕ) → rows_held n hs ≡ rows
    → row < length rows → col < length rows → entry rows row col ≡ value_at hs (row * length rows + col)
entry_held n hs rows row col e l m =
    let s = size_held n hs rows e in
    ap (λ t. entry t row col) (sym e)
    ∙ entry-table n n (λ row col. value_at hs (row * n + col)) row col (omega arith) (omega arith)
    ∙ ap (λ k. value_at hs (row * k + col)) s

pub written : (n : ℕ) (hs new : List Held) (rows : List (List ℤ)) (row col : ℕ) (value : ℤ) → rows_held n hs ≡ rows
    → row < length rows → col < length rows → WithValue hs new (row * length rows + col) value
    → rows_held n new ≡ with_entry rows row col value
written n hs new rows row col value e l m w =
    let s = size_held n hs rows e in
    with_entry-table n (λ row col. value_at hs (row * n + col)) (λ row col. value_at new (row * n + col)) row col value
    (omega arith) (omega arith)
    (w (row * n + col) ∙ here n s)
    (λ i k i_in k_in ne. w (i * n + k) ∙ off n i k s (λ e. let p = same_from_place i k row col n k_in (omega arith) e in
    ne p.0 p.1))
    ∙ ap (λ t. with_entry t row col value) e
  where
    here : (n : ℕ) → n ≡ length rows → (if (row * length rows + col) == (row * n + col) then value else
        value_at hs (row * n + col)) ≡ value
    here n s = let e : row * length rows + col ≡ row * n + col = ap (λ k. row * k + col) (sym s) in grind (arith, e)

    off : (n i k : ℕ) → n ≡ length rows → (i * n + k) ≢ (row * n + col)
        → (if (row * length rows + col) == (i * n + k) then value else value_at hs (i * n + k))
        ≡ value_at hs (i * n + k)
    off n i k s ne =
        let e : row * length rows + col ≡ row * n + col = ap (λ k. row * k + col) (sym s) in
        let d : (row * length rows + col) ≢ (i * n + k) = λ f. ne (sym f ∙ e) in
        grind (arith, d)

-- ---- one list for one square

head_value : (h : Held) (hs : List Held) (place : ℕ) → place ≡ h.place → value_at (h ∷ hs) place ≡ h.value
head_value h hs place e = grind (arith, e)

tail_value : (h : Held) (hs : List Held) (place : ℕ) → place ≢ h.place → value_at (h ∷ hs) place ≡ value_at hs place
tail_value h hs place ne = grind (arith, ne)

tail_held : (n : ℕ) (h : Held) (hs : List Held) → AreHeld n (h ∷ hs) → AreHeld n hs
tail_held n h hs are = record {
  rising = λ i j l m. are.rising (suc i) (suc j) (omega arith) (omega arith);
  inside = λ k l. are.inside (suc k) (omega arith);
  other = λ k l. are.other (suc k) (omega arith);
}

-- nothing is held before the first
low_value : (n : ℕ) (h : Held) (hs : List Held) (place : ℕ) → AreHeld n (h ∷ hs) → place < h.place
    → value_at (h ∷ hs) place ≡ pos 0
low_value n h hs place are l = value_absent (h ∷ hs) place lacks
  where
    lacks : Lacks (h ∷ hs) place 0 (length (h ∷ hs))
    lacks zero f b same = omega (arith, same)
    lacks (suc i) f b same = omega (arith, same, are.rising 0 (suc i) (omega arith) b)

-- nor is the first once more
again : (n : ℕ) (h : Held) (hs : List Held) → AreHeld n (h ∷ hs) → value_at hs h.place ≡ pos 0
again n h hs are = value_absent hs h.place (λ i f b same. omega (
  arith,
  same,
  are.rising 0 (suc i) (omega arith) (omega arith),
))

pub one_list : (n : ℕ) (xs ys : List Held) → AreHeld n xs → AreHeld n ys
    → ((p : ℕ) → p < n * n → value_at xs p ≡ value_at ys p) → xs ≡ ys
one_list n [] [] a b same = refl
one_list n [] (y ∷ ys) a b same =
    absurd (b.other 0 (omega arith) (sym (head_value y ys y.place refl)
    ∙ sym (same y.place (b.inside 0 (omega arith)))))
one_list n (x ∷ xs) [] a b same =
    absurd (a.other 0 (omega arith) (sym (head_value x xs x.place refl) ∙ same x.place (a.inside 0 (omega arith))))
one_list n (x ∷ xs) (y ∷ ys) a b same =
    let low : x.place < y.place → ⊥ = λ l.
    a.other 0 (omega arith) (sym (head_value x xs x.place refl) ∙ same x.place (a.inside 0 (omega arith))
    ∙ low_value n y ys x.place b l) in
    let high : y.place < x.place → ⊥ = λ l.
    b.other 0 (omega arith) (sym (head_value y ys y.place refl) ∙ sym (same y.place (b.inside 0 (omega arith)))
    ∙ low_value n x xs y.place a l) in
    let place : x.place ≡ y.place = grind (arith, low, high) in
    let value : x.value ≡ y.value = sym (head_value x xs x.place refl) ∙ same x.place (a.inside 0 (omega arith))
    ∙ head_value y ys x.place place in
    let rest = one_list n xs ys (tail_held n x xs a) (tail_held n y ys b) (λ p l. elim (near_or p x.place) [
      | inl here ↦ ap (value_at xs) here ∙ again n x xs a ∙ sym (again n y ys b) ∙ ap (value_at ys) (sym (here ∙ place))
      | inr ne ↦ sym (tail_value x xs p ne) ∙ same p l ∙ tail_value y ys p (λ e. ne (e ∙ sym place))
    ]) in
    λ i. record { place = place i; value = value i } ∷ rest i

-- equal squares hold equal entries
pub same_held : (n m : ℕ) (xs ys : List Held) → AreHeld n xs → AreHeld m ys → rows_held n xs ≡ rows_held m ys
    → (n ≡ m) × (xs ≡ ys)
same_held n m xs ys a b e =
    let s : n ≡ m = size_held n xs (rows_held m ys) e ∙ length-table m m (λ row col. value_at ys (row * m + col)) in
    let f : rows_held n xs ≡ rows_held n ys = e ∙ ap (λ k. rows_held k ys) (sym s) in (
      s,
      one_list n xs ys a (subst (λ k. AreHeld k ys) (sym s) b) (λ p l.
          let w : 0 < n = wide n p l in
          let row_in : p / n < n = div_below p n n w l in
          let col_in : p % n < n = mod_below p n w in
          let q : p / n * n + p % n ≡ p = ap (λ t. t + p % n) (mul_comm (p / n) n) ∙ div-add-mod p n in
          ap (value_at xs) (sym q)
          ∙ sym (entry-table n n (λ row col. value_at xs (row * n + col)) (p / n) (p % n) row_in col_in)
          ∙ ap (λ t. entry t (p / n) (p % n)) f
          ∙ entry-table n n (λ row col. value_at ys (row * n + col)) (p / n) (p % n) row_in col_in
          ∙ ap (value_at ys) q),
    )
  where
    wide : (n p : ℕ) → p < n * n → 0 < n
    wide zero p h = absurd (omega arith)
    wide (suc n) p h = omega arith

-- ---- the first column past a limit

-- an entry is 0, or held
either : (hs : List Held) (place : ℕ) → (value_at hs place ≡ pos 0) ⊎ ((k : ℕ) × IsAt hs place k
    × (value_at hs place ≡ (held hs k).value))
either [] place = inl refl
either (h ∷ hs) place = elim (near_or place h.place) [
  | inl same ↦ inr (0, record { in_range = omega arith; place_is = sym same }, head_value h hs place same)
  | inr ne ↦ elim (either hs place) [
    | inl none ↦ inl (tail_value h hs place ne ∙ none)
    | inr found ↦ inr (
      suc found.0,
      record { in_range = omega (arith, found.1.in_range); place_is = found.1.place_is },
      tail_value h hs place ne ∙ found.2,
    )
  ]
]

-- an entry of a column is held, and past the limit
pub record IsPast (n limit column : ℕ) (hs : List Held) : Type 0 where
  pub index : ℕ
  pub index_in : index < length hs
  pub column_is : (held hs index).place % n ≡ column
  pub past : limit < nat_abs (held hs index).value

-- no entry of an earlier column is past the limit among the first of these, and one of this column is
pub record AreWithin (n limit count column : ℕ) (hs : List Held) : Type 0 where
  pub few : column ≤ n
  pub before : (k : ℕ) → k < count → (held hs k).place % n < column → nat_abs (held hs k).value ≤ limit
  pub past : column < n → IsPast n limit column hs

last_or : (i n : ℕ) → i < n + 1 → (i < n) ⊎ (i ≡ n)
last_or i n h = grind arith

pub within_start : (n limit : ℕ) (hs : List Held) → AreWithin n limit 0 n hs
within_start n limit hs = record {
  few = omega arith;
  before = λ k l. absurd (omega arith);
  past =
      λ l. absurd (omega arith);
}

pub within_earlier : (n limit count column : ℕ) (hs : List Held) (h : Held) → AreWithin n limit count column hs →
    count < length hs
    → held hs count ≡ h → limit < nat_abs h.value → h.place % n < column →
    AreWithin n limit (count + 1) (h.place % n) hs
within_earlier n limit count column hs h w l is past less = record {
  few = omega (arith, w.few);
  before = λ k m b. elim (last_or k count m) [
    | inl low ↦ w.before k low (omega arith)
    | inr same ↦ absurd (let e : (held hs k).place % n ≡ h.place % n = ap (λ (x : Held). x.place % n) (ap (held hs) same
        ∙ is) in omega arith)
  ];
  past = λ _. record {
    index = count;
    index_in = l;
    column_is = ap (λ (x : Held). x.place % n) is;
    past =
        subst (λ (x : Held). limit < nat_abs x.value) (sym is) past;
  };
}

pub within_later : (n limit count column : ℕ) (hs : List Held) (h : Held) → AreWithin n limit count column hs
    → held hs count ≡ h → (h.place % n < column → nat_abs h.value ≤ limit) → AreWithin n limit (count + 1) column hs
within_later n limit count column hs h w is small = record {
  few = w.few;
  before = λ k m b. elim (last_or k count m) [
    | inl low ↦ w.before k low b
    | inr same ↦ let e = ap (held hs) same ∙ is in
        subst (λ (x : Held). nat_abs x.value ≤ limit) (sym e) (small (subst (λ (x : Held). x.place % n < column) e b))
  ];
  past = w.past;
}

module _ (n limit count column : ℕ) (hs : List Held) (rows : List (List ℤ)) (e : rows_held n hs ≡ rows)
    (w : AreWithin n limit count column hs) (all : count ≡ length hs) where
  wide : (n p : ℕ) → p < n * n → 0 < n
  wide zero p h = absurd (omega arith)
  wide (suc n) p h = omega arith

  split : (p : ℕ) → p / n * n + p % n ≡ p
  split p = ap (λ t. t + p % n) (mul_comm (p / n) n) ∙ div-add-mod p n

  column_at : (row col : ℕ) → col < n → (row * n + col) % n ≡ col
  column_at row col l =
      (same_from_place ((row * n + col) / n) ((row * n + col) % n) row col n (mod_below (row * n + col) n (omega arith))
      l (split (row * n + col))).1

  pub earlier_within : (row col : ℕ) → row < length rows → col < length rows → col < column
      → nat_abs (entry rows row col) ≤ limit
  earlier_within row col l m less =
      let s = size_held n hs rows e in
      let is : entry rows row col ≡ value_at hs (row * n + col) =
      entry_held n hs rows row col e l m ∙ ap (λ k. value_at hs (row * k + col)) (sym s) in
      elim (either hs (row * n + col)) [
        | inl none ↦ rw (is ∙ none) (omega arith)
        | inr found ↦ rw (is ∙ found.2) (w.before found.0 (omega (arith, found.1.in_range))
            (rw (ap (λ p. p % n) found.1.place_is ∙ column_at row col (omega arith)) less))
      ]

  pub column_first : AreHeld n hs → column < length rows → first_column_past limit rows ≡ Some column
  column_first are l =
      let s = size_held n hs rows e in
      let p = w.past (omega arith) in
      let place = (held hs p.index).place in
      let inside : place < n * n = are.inside p.index p.index_in in
      let wide_n : 0 < n = wide n place inside in
      let row_in : place / n < n = div_below place n n wide_n inside in
      let is : entry rows (place / n) column ≡ (held hs p.index).value =
      entry_held n hs rows (place / n) column e (omega arith) l
      ∙ ap (value_at hs) (ap (λ k. place / n * k + column) (sym s) ∙ ap (λ c. place / n * n + c) (sym p.column_is)
      ∙ split place)
      ∙ value_here hs are.rising place p.index (record { in_range = p.index_in; place_is = refl }) in
      column_some limit rows column l (record { row = place / n; row_in = omega arith; past = rw is p.past })
      (λ row earlier r k. earlier_within row earlier r (omega arith) k)

  pub column_nothing : length rows ≤ column → EntriesWithin rows limit
  column_nothing l row col r k = earlier_within row col r k (omega arith)

-- ---- equal entries

both : (b t : Bool) → (b && t) ≡ true → (b ≡ true) × (t ≡ true)
both true t h = (refl, h)
both false t h = cc

pub same_entry : (x y : Held) → (((x.place == y.place) && int_eq x.value y.value) ≡ true → x ≡ y)
    × (x ≡ y → ((x.place == y.place) && int_eq x.value y.value) ≡ true)
same_entry x y = (
  λ h.
      let p = both (x.place == y.place) (int_eq x.value y.value) h in
      let place : x.place ≡ y.place = (Decides-eqb x.place y.place).0 p.0 in
      let value : x.value ≡ y.value = (Decides-int_eq x.value y.value).0 p.1 in
      λ i. record { place = place i; value = value i },
  λ h.
      let place : (x.place == y.place) ≡ true = (Decides-eqb x.place y.place).1 (ap (λ (k : Held). k.place) h) in
      let value : int_eq x.value y.value ≡ true = (Decides-int_eq x.value y.value).1 (ap (λ (k : Held). k.value) h) in
      λ i. place i && value i,
)

-- ---- for callers

pub held_entry : (rows : List (List ℤ)) (hs : List Held) → IsHeld rows hs → (row col : ℕ) → row < length rows
    → col < length rows → entry rows row col ≡ value_at hs (row * length rows + col)
held_entry rows hs is row col l m = entry_held (length rows) hs rows row col (sym is.rows_are) l m

pub held_within : (rows : List (List ℤ)) (hs : List Held) (limit : ℕ) → IsHeld rows hs → EntriesWithin rows limit →
    (k : ℕ)
    → k < length hs → nat_abs (held hs k).value ≤ limit
held_within rows hs limit is within k l =
    let n = length rows in
    let place = (held hs k).place in
    let inside : place < n * n = is.are.inside k l in
    let w : 0 < n = wide n place inside in
    let row_in : place / n < n = div_below place n n w inside in
    let col_in : place % n < n = mod_below place n w in
    let q : place / n * n + place % n ≡ place = ap (λ t. t + place % n) (mul_comm (place / n) n)
    ∙ div-add-mod place n in
    let e : entry rows (place / n) (place % n) ≡ (held hs k).value =
    held_entry rows hs is (place / n) (place % n) row_in col_in
    ∙ ap (value_at hs) q
    ∙ value_here hs is.are.rising place k (record { in_range = l; place_is = refl }) in
    rw (sym e) (within (place / n) (place % n) row_in col_in)
  where
    wide : (n p : ℕ) → p < n * n → 0 < n
    wide zero p h = absurd (omega arith)
    wide (suc n) p h = omega arith

-- one entry more
pub value_more : (hs : List Held) (k : ℕ) → IsRising hs → k < length hs → (q : ℕ)
    → value_at (take (k + 1) hs) q ≡ (if (held hs k).place == q then (held hs k).value else value_at (take k hs) q)
value_more hs k rising l q =
    ap (λ t. value_at t q) (take_more hs k none l ∙ sym (insert_end (take k hs) (held hs k)))
    ∙ value-insert (take k hs) (held hs k).place (held hs k).value (length (take k hs)) (λ i _ b same.
    let few : i < k = omega (arith, b, length-take-le k hs (omega arith)) in
    let is : held (take k hs) i ≡ held hs i = get_or-take k hs i none few in
    omega (arith, rising i k few l, same, ap (λ (x : Held). x.place) is)) q

-- ---- a number that is 0

pub zero_read : (z : ℤ) → FitsSigned w128 z → of_z w128 z ≡ 0 → z ≡ pos 0
zero_read z f e = sym (to_z-of_z w128 z f) ∙ ap (to_z w128) e

pub other_read : (z : ℤ) → (of_z w128 z ≡ 0 → ⊥) → z ≢ pos 0
other_read z ne e = ne (ap (of_z w128) e)

-- Places in order: what a sort gives, what a search finds, and a place more at the end.
use Rattle.std.proofs.Common.{◌≡◌, ◌∙◌, ◌^◌, ℕ, zero, suc, ◌-◌, ◌+◌, ◌<◌, ◌≤◌, List, [], ◌∷◌, ◌++◌, length, get_or, nat_lt, arith, ap, sym, subst, refl, inl, inr, Ok, Err, false, true, All}
use Rattle.std.specs.declared.cmp.Ordering.{Ordering}
use Rattle.std.specs.declared.cmp.Ordering.TheVariants.{Less, Equal, Greater}
use Rattle.std.specs.Ordering.{MatchOrdering, nat_cmp, ordering_then, ordering_index, is_lt}
use Rattle.std.specs.List.{Contains}
use Rattle.std.specs.List.Sorted.{IsBinarySearchResult, IsPartitionPoint, IsPartitionedBy, IsPermutation, IsSorted as IsSortedCmp}
use Rattle.std.proofs.lemmas.Cmp.{ranked}
use Rattle.std.proofs.lemmas.Bool.{cases_eq, cases_lt, lt-ltb, ltb-false, ltb-true}
use Rattle.std.proofs.lemmas.List.{get_or_append_left, get_or_default, get_or_push, length_push}
use Rattle.std.proofs.lemmas.List.Elements.{All-weaker, Contains-append_left, Contains-get_or, Contains-push}
use Rattle.std.proofs.lemmas.List.Sorted.{All-permutation, Contains-permutation, IsPermutation-sym}
use Rattle.fd_pattern.specs.Patterns.{IsAfterAll, IsBefore, IsInside, IsKept, IsNotAfter, IsPattern, IsRising, IsSlot, IsSorted, IsStart, key, pattern_of}

-- by row, then by column, as the sort compares
abbrev pub place_cmp : ℕ × ℕ → ℕ × ℕ → Ordering
place_cmp a b = ordering_then (nat_cmp a.0 b.0) (nat_cmp a.1 b.1)

record IsSame (a b : ℕ × ℕ) : Type 0 where
  row : a.0 ≡ b.0
  col : a.1 ≡ b.1

-- what a comparison says
compares : (a b : ℕ × ℕ) → MatchOrdering (place_cmp a b) (IsBefore a b) (IsSame a b) (IsBefore b a)
compares a b = by_rows (nat_cmp a.0 b.0) (nat_cmp a.1 b.1) (ranked a.0 b.0 _ refl) (ranked a.1 b.1 _ refl)
  where
    by_rows : (o p : Ordering) → MatchOrdering o (a.0 < b.0) (a.0 ≡ b.0) (b.0 < a.0)
        → MatchOrdering p (a.1 < b.1) (a.1 ≡ b.1) (b.1 < a.1)
        → MatchOrdering (ordering_then o p) (IsBefore a b) (IsSame a b) (IsBefore b a)
    by_rows Less p h k = record { rows = omega arith; columns = λ e. absurd (omega arith) }
    by_rows Greater p h k = record { rows = omega arith; columns = λ e. absurd (omega arith) }
    by_rows Equal Less h k = record { rows = omega arith; columns = λ e. k }
    by_rows Equal Equal h k = record { row = h; col = k }
    by_rows Equal Greater h k = record { rows = omega arith; columns = λ e. k }

-- ---- what a sort gives

not_after : (a b : ℕ × ℕ) → is_lt (place_cmp b a) ≡ false → IsNotAfter a b
not_after a b = by_result (place_cmp b a) (compares b a)
  where
    by_result : (o : Ordering) → MatchOrdering o (IsBefore b a) (IsSame b a) (IsBefore a b) → is_lt o ≡ false → IsNotAfter a b
    by_result Less h e = cc
    by_result Equal h e = record { rows = omega arith; columns = λ q. omega arith }
    by_result Greater h e = record { rows = h.rows; columns = λ q. let l = h.columns q in omega arith }

chain : (a b c : ℕ × ℕ) → IsNotAfter a b → IsNotAfter b c → IsNotAfter a c
chain a b c h k = record {
  rows = omega (arith, h.rows, k.rows);
  columns = λ e.
      let f : a.0 ≡ b.0 = omega (arith, h.rows, k.rows) in
      let g : b.0 ≡ c.0 = omega (arith, h.rows, k.rows) in
      omega (arith, h.columns f, k.columns g);
}

pub sorted_from : (ps : List (ℕ × ℕ)) → IsSortedCmp place_cmp ps → IsSorted ps
sorted_from ps h i j le lt = subst (λ n. IsNotAfter (key ps i) (key ps n)) (omega arith) (far i (j - i) (omega arith))
  where
    far : (i m : ℕ) → i + m < length ps → IsNotAfter (key ps i) (key ps (i + m))
    far i zero l =
        let z : i ≡ i + 0 = omega arith in
        subst (λ n. IsNotAfter (key ps i) (key ps n)) z (record { rows = omega arith; columns = λ e. omega arith })
    far i (suc m) l =
        let step = not_after (key ps (i + m)) (key ps (i + m + 1)) (h (i + m) (0, 0) (omega arith) (omega arith)) in
        let next : i + m + 1 ≡ i + suc m = omega arith in
        chain (key ps i) (key ps (i + m)) (key ps (i + suc m)) (far i m (omega arith)) (subst (λ n. IsNotAfter (key ps (i + m)) (key ps n)) next step)

pub sorted_from_rising : (ps : List (ℕ × ℕ)) → IsRising ps → IsSorted ps
sorted_from_rising ps h i j le lt = elim (cases_eq i j) [
  | inl e ↦ subst (λ n. IsNotAfter (key ps i) (key ps n)) e (record { rows = omega arith; columns = λ q. omega arith })
  | inr ne ↦ let b = h i j (omega arith) lt in record { rows = b.rows; columns = λ q. let l = b.columns q in omega arith }
]

-- ---- what a search finds

-- the comparisons with a place rise along the list
rises : (a b x : ℕ × ℕ) → IsNotAfter a b → ordering_index (place_cmp a x) ≤ ordering_index (place_cmp b x)
rises a b x le = by_results (place_cmp a x) (place_cmp b x) (compares a x) (compares b x)
  where
    by_results : (o p : Ordering) → MatchOrdering o (IsBefore a x) (IsSame a x) (IsBefore x a)
        → MatchOrdering p (IsBefore b x) (IsSame b x) (IsBefore x b) → ordering_index o ≤ ordering_index p
    by_results Less p h k = omega arith
    by_results Equal Less h k = absurd (same_before h k)
      where
        same_before : IsSame a x → IsBefore b x → ⊥
        same_before h k =
            let e : b.0 ≡ x.0 = omega (arith, h.row, k.rows, le.rows) in
            let f : a.0 ≡ b.0 = omega (arith, h.row, e) in
            omega (arith, k.columns e, le.columns f, h.col)
    by_results Equal Equal h k = omega arith
    by_results Equal Greater h k = omega arith
    by_results Greater Less h k = absurd (after_before h k)
      where
        after_before : IsBefore x a → IsBefore b x → ⊥
        after_before h k =
            let e : b.0 ≡ x.0 = omega (arith, h.rows, k.rows, le.rows) in
            let f : a.0 ≡ b.0 = omega (arith, h.rows, k.rows, le.rows) in
            let g : x.0 ≡ a.0 = omega (arith, e, f) in
            omega (arith, k.columns e, le.columns f, h.columns g)
    by_results Greater Equal h k = absurd (after_same h k)
      where
        after_same : IsBefore x a → IsSame b x → ⊥
        after_same h k =
            let f : a.0 ≡ b.0 = omega (arith, h.rows, k.row, le.rows) in
            let g : x.0 ≡ a.0 = omega (arith, k.row, f) in
            omega (arith, k.col, le.columns f, h.columns g)
    by_results Greater Greater h k = omega arith

-- a place that compares equal is neither before nor behind
Says : ℕ × ℕ → ℕ × ℕ → Ordering → Type 0
Says a b o = MatchOrdering o (IsBefore a b) (IsSame a b) (IsBefore b a)

not_less : (a b : ℕ × ℕ) → Less ≡ place_cmp a b → IsSame a b → ⊥
unfolding Says
not_less a b e s = let h = subst (Says a b) (sym e) (compares a b) in omega (arith, h.columns s.row, s.col)

not_greater : (a b : ℕ × ℕ) → Greater ≡ place_cmp a b → IsSame a b → ⊥
unfolding Says
not_greater a b e s = let h = subst (Says a b) (sym e) (compares a b) in omega (arith, h.columns (sym s.row), s.col)

same_slot : (ps : List (ℕ × ℕ)) (row col k : ℕ) → k < length ps → IsSame (key ps k) (row, col) → IsSlot ps row col k
same_slot ps row col k l s = record { in_range = l; row_is = s.row; col_is = s.col }

pub slot_of : (ps : List (ℕ × ℕ)) (row col k : ℕ) → k < length ps → IsBinarySearchResult (λ y. place_cmp y (row, col)) ps (Ok k) → IsSlot ps row col k
slot_of ps row col k l h = same_slot ps row col k l (subst (λ o. MatchOrdering o (IsBefore (key ps k) (
  row,
  col,
)) (IsSame (key ps k) (row, col)) (IsBefore (row, col) (key ps k))) (h (0, 0)) (compares (key ps k) (row, col)))

pub no_slot : (ps : List (ℕ × ℕ)) (row col k : ℕ) → IsRising ps → IsBinarySearchResult (λ y. place_cmp y (row, col)) ps (Err k) → Contains ps (row, col) → ⊥
no_slot ps row col k up h (j, l, is) =
    let x : ℕ × ℕ = (row, col) in
    let parted = h (λ a b d le lt. rises_at a b d le lt) in
    let there : key ps j ≡ x = get_or_default ps j (0, 0) x l ∙ is in
    elim (cases_lt j k) [
      | inl below ↦ not_less (key ps j) x (sym (parted.0 j (0, 0) (omega arith) below))
          (subst (λ y. IsSame y x) (sym there) (record { row = refl; col = refl }))
      | inr above ↦ not_greater (key ps j) x (sym (parted.1 j (0, 0) above l)) (subst (λ y. IsSame y x) (sym there) (record { row = refl; col = refl }))
    ]
  where
    rises_at : (a b : ℕ) (d : ℕ × ℕ) → a ≤ b → b < length ps
        → ordering_index (place_cmp (get_or ps a d) (row, col))
        ≤ ordering_index (place_cmp (get_or ps b d) (row, col))
    rises_at a b d le lt =
        let e = get_or_default ps a d (0, 0) (omega arith) in
        let f = get_or_default ps b d (0, 0) lt in
        subst (λ y. ordering_index (place_cmp y (row, col)) ≤ ordering_index (place_cmp (get_or ps b d) (row, col)))
        (sym e)
        (subst (λ y. ordering_index (place_cmp (key ps a) (row, col)) ≤ ordering_index (place_cmp y (row, col)))
        (sym f) (rises (key ps a) (key ps b) (row, col) (sorted_from_rising ps up a b le lt)))

-- ---- a place more at the end

pub rising_push : (ps : List (ℕ × ℕ)) (p : ℕ × ℕ) → IsRising ps → IsAfterAll ps p → IsRising (ps ++ p ∷ [])
rising_push ps p h after i j lt l =
    let long = length_push ps p in
    let first : key (ps ++ p ∷ []) i ≡ key ps i = get_or_append_left ps (p ∷ []) (0, 0) i (omega arith) in
    elim (cases_eq j (length ps)) [
      | inl e ↦
          let last : key (ps ++ p ∷ []) j ≡ p = get_or_push ps p (0, 0) j (sym e) in
          subst (λ y. IsBefore y (key (ps ++ p ∷ []) j)) (sym first) (subst (λ y. IsBefore (key ps i) y) (sym last) (after i (omega arith)))
      | inr ne ↦
          let second : key (ps ++ p ∷ []) j ≡ key ps j = get_or_append_left ps (p ∷ []) (0, 0) j (omega arith) in
          subst (λ y. IsBefore y (key (ps ++ p ∷ []) j)) (sym first) (subst (λ y. IsBefore (key ps i) y) (sym second) (h i j lt (omega arith)))
    ]

pub contains_at : (ps : List (ℕ × ℕ)) (k : ℕ) (p q : ℕ × ℕ) → k < length ps → q ≡ get_or ps k p → q.0 ≡ p.0 → q.1 ≡ p.1 → Contains ps p
contains_at ps k p q h e f g = (k, h, sym e ∙ (λ i. (f i, g i)))

-- ---- where a row starts

pub partitioned : (ps : List (ℕ × ℕ)) (row : ℕ) → IsSorted ps → IsPartitionedBy (λ q. nat_lt q.0 row) ps
partitioned ps row up i j d le lt e =
    let f = get_or_default ps i d (0, 0) (omega arith) in
    let g = get_or_default ps j d (0, 0) lt in
    let below : (key ps j).0 < row = ltb-true _ _ (sym (ap (λ q. nat_lt q.0 row) g) ∙ e) in
    ap (λ q. nat_lt q.0 row) f ∙ lt-ltb _ _ (omega (arith, (up i j le lt).rows))

pub start_is : (ps : List (ℕ × ℕ)) (row s : ℕ) → s ≤ length ps
    → IsPartitionPoint (λ q. nat_lt q.0 row ≡ true) (λ q. nat_lt q.0 row ≡ false) ps s → IsStart ps row s
start_is ps row s w h = record {
  within = w;
  before = λ k l. ltb-true _ _ (h.0 k (0, 0) (omega arith) l);
  from = λ k a l. ltb-false _ _ (h.1 k (0, 0) a l);
}

-- ---- each place once

pub record IsSoFar (ps kept : List (ℕ × ℕ)) (i : ℕ) : Type 0 where
  pub rising : IsRising kept
  pub all : (j : ℕ) → j < i → Contains kept (key ps j)
  pub only : (k : ℕ) → k < length kept → Contains ps (key kept k)
  pub order : (k : ℕ) → k < length kept → (j : ℕ) → i ≤ j → j < length ps → IsNotAfter (key kept k) (key ps j)

pub so_far_kept : (ps kept : List (ℕ × ℕ)) (i : ℕ) → IsSoFar ps kept i → Contains kept (key ps i) → IsSoFar ps kept (i + 1)
so_far_kept ps kept i h has = record {
  rising = h.rising;
  all = λ j l. elim (cases_eq j i) [ inl e ↦ subst (λ n. Contains kept (key ps n)) (sym e) has | inr ne ↦ h.all j (omega arith) ];
  only = h.only;
  order = λ k l j a b. h.order k l j (omega arith) b;
}

pub so_far_push : (ps kept : List (ℕ × ℕ)) (i : ℕ) → IsSoFar ps kept i → i < length ps → IsSorted ps
    → IsAfterAll kept (key ps i) → IsSoFar ps (kept ++ key ps i ∷ []) (i + 1)
so_far_push ps kept i h lt up after = record {
  rising = rising_push kept (key ps i) h.rising after;
  all = λ j l. elim (cases_eq j i) [
    | inl e ↦ subst (λ n. Contains (kept ++ key ps i ∷ []) (key ps n)) (sym e) (Contains-push kept (key ps i))
    | inr ne ↦ Contains-append_left kept (key ps i ∷ []) (key ps j) (h.all j (omega arith))
  ];
  only = λ k l. by_place (λ p. Contains ps p) k l (λ m. h.only k m) (Contains-get_or ps i (0, 0) lt);
  order = λ k l j a b. by_place (λ p. IsNotAfter p (key ps j)) k l (λ m. h.order k m j (omega arith) b) (up i j (omega arith) b);
}
  where
    by_place : (P : ℕ × ℕ → Type 0) (k : ℕ) → k < length (kept ++ key ps i ∷ []) → (k < length kept → P (key kept k))
        → P (key ps i) → P (key (kept ++ key ps i ∷ []) k)
    by_place P k l old new = elim (cases_eq k (length kept)) [
      | inl e ↦ subst P (sym (get_or_push kept (key ps i) (0, 0) k (sym e))) new
      | inr ne ↦ let m : k < length kept = omega (arith, length_push kept (key ps i)) in
          subst P (sym (get_or_append_left kept (key ps i ∷ []) (0, 0) k m)) (old m)
    ]

pub is_kept : (ps kept : List (ℕ × ℕ)) (i : ℕ) → length ps ≤ i → IsSoFar ps kept i → IsKept ps kept
is_kept ps kept i h s = record {
  rising = s.rising;
  all = λ k d l. subst (Contains kept) (get_or_default ps k (0, 0) d l) (s.all k (omega arith));
  only = λ k d l. subst (Contains ps) (get_or_default kept k (0, 0) d l) (s.only k l);
}

-- ---- a pattern

pub is_pattern : (size : ℕ) (ps sorted kept : List (ℕ × ℕ)) → size ≤ 2 ^ 11 → All (IsInside size) ps
    → IsPermutation ps sorted → IsKept sorted kept → IsPattern (pattern_of size kept)
is_pattern size ps sorted kept small inside same k = record {
  small = small;
  inside = λ j d l. contained (k.only j d l);
  rising = k.rising;
}
  where
    contained : {p : ℕ × ℕ} → Contains sorted p → IsInside size p
    contained {p} (j, l, is) = subst (IsInside size) is (All-permutation (IsInside size) ps sorted same inside j p l)

pub has_all : (ps sorted kept : List (ℕ × ℕ)) → IsPermutation ps sorted → IsKept sorted kept → All (Contains kept) ps
has_all ps sorted kept same k = All-permutation (Contains kept) sorted ps (IsPermutation-sym ps sorted same) k.all

pub has_only : (ps sorted kept : List (ℕ × ℕ)) → IsPermutation ps sorted → IsKept sorted kept → All (Contains ps) kept
has_only ps sorted kept same k =
    All-weaker (Contains sorted) (Contains ps) (λ p. Contains-permutation sorted ps p (IsPermutation-sym ps sorted same)) kept k.only

-- a place stands once
pub only_slot : (ps : List (ℕ × ℕ)) (row col j k : ℕ) → IsRising ps → IsSlot ps row col j → IsSlot ps row col k → j ≡ k
only_slot ps row col j k up a b = elim (cases_eq j k) [
  | inl e ↦ e
  | inr ne ↦ elim (cases_lt j k) [
    | inl l ↦ let before = up j k l b.in_range in absurd (omega (arith, before.columns (omega (arith, a.row_is, b.row_is)), a.col_is, b.col_is))
    | inr g ↦ let before = up k j (omega arith) a.in_range in absurd (omega (arith, before.columns (omega (arith, a.row_is, b.row_is)), a.col_is, b.col_is))
  ]
]

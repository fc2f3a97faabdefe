-- Rows that show what an elimination leaves, and how they change where one is cleared.
use Rattle.std.proofs.Common.{◌≡◌, ◌≢◌, ◌⊎◌, inl, inr, ℕ, suc, ◌+◌, ◌<◌, ◌≤◌, ◌^◌, ℤ, pos, negsuc, ◌*ℤ◌, nat_abs, nat_lt, List, [], ◌∷◌, ◌++◌, length, if◌then◌else◌, ◌==◌, arith, refl, ap, sym, ◌∙◌, subst}
use Rattle.std.specs.List.{insert}
use Rattle.std.proofs.lemmas.Bool.{cases_lt}
use Rattle.std.proofs.lemmas.Int.{ints}
use Rattle.std.proofs.lemmas.List.Edits.{insert_end}
use Rattle.fd_derived.specs.fd_factors.fd_exact.Nearest.{near-zero}
use Rattle.fd_derived.specs.fd_factors.fd_exact.Rounding.{near_over}
use Rattle.fd_derived.specs.declared.entries.Entry.{Entry}
use Rattle.fd_derived.specs.declared.entries.Equation.{Equation}
use Rattle.fd_triangles.specs.Elimination.{IsPast, cleared, final_row, less, multiple, multiple_of, pivot_of, row_after, unknown_at}
use Rattle.fd_triangles.specs.Factors.{HasPivot, Shows, multiples_before}
use Rattle.fd_triangles.specs.Rows.{IsGap, IsRow, IsRowOf, apart_from, entry_at, number}
use Rattle.fd_triangles.specs.Steps.{IsCleared, IsClearedPast, Parts, factor_of, left_by}
use Rattle.fd_triangles.specs.declared.pair.Pair.{Pair}
use Rattle.fd_triangles.proofs.Entries.{choose_other, choose_same, near_or, number_absent, number_cons, piece_other, piece_same, row_insert, with_insert}
use Rattle.fd_triangles.proofs.Losing.{less_never, whole_here}

-- ---- rows

tail_row : (n : ℕ) (e : Entry) (row : List Entry) → IsRow n (e ∷ row) → IsRow n row
tail_row n e row is = record {
  rising = λ i j l m. is.rising (suc i) (suc j) (omega arith) (omega arith);
  inside = λ k l. is.inside (suc k) (omega arith);
  other = λ k l. is.other (suc k) (omega arith);
  small = λ k l. is.small (suc k) (omega arith);
}

-- no number of a row is past 2^62 in size
pub row_small : (n : ℕ) (row : List Entry) (c : ℕ) → IsRow n row → nat_abs (number row c) ≤ 2 ^ 62
row_small n [] c is = omega arith
row_small n (e ∷ row) c is =
    let split = number_cons e row c in
    let small : nat_abs e.units ≤ 2 ^ 62 = is.small 0 (omega arith) in
    elim (near_or e.place c) [
      | inl same ↦
          let p = piece_same e c same in
          let none : number row c ≡ pos 0 = number_absent row c (λ i h here. omega (
            arith,
            is.rising 0 (suc i) (omega arith) (omega arith),
            here,
            same,
          )) in
          let z : number (e ∷ row) c ≡ e.units = omega (arith, ints, split, p, none) in
          subst (λ x. nat_abs x ≤ 2 ^ 62) (sym z) small
      | inr apart ↦
          let p = piece_other e c apart in
          let z : number (e ∷ row) c ≡ number row c = omega (arith, ints, split, p) in
          subst (λ x. nat_abs x ≤ 2 ^ 62) (sym z) (row_small n row c (tail_row n e row is))
    ]

pub row_same : (n : ℕ) (f g : ℕ → ℤ) (row : List Entry) → ((c : ℕ) → f c ≡ g c) → IsRowOf n f row → IsRowOf n g row
row_same n f g row h is = record { is_row = is.is_row; numbers = λ c. is.numbers c ∙ h c }

-- an entry more behind all others
module _ (n t : ℕ) (g : ℕ → ℤ) (row : List Entry) (f : ℤ) (is : IsRowOf n g row) (above : (k : ℕ) → t ≤ k → g k ≡ pos 0)
    (low : t < n) (ne : f ≢ pos 0) (small : nat_abs f ≤ 2 ^ 62) where
  last : Entry
  last = record { place = t; units = f }

  before : (i : ℕ) → i < length row → (entry_at row i).place < t
  before i h = elim (cases_lt (entry_at row i).place t) [
    | inl l ↦ l
    | inr m ↦ absurd (is.is_row.other i h
        (sym (whole_here row i is.is_row.rising h) ∙ is.numbers (entry_at row i).place ∙ above (entry_at row i).place m))
  ]

  gap : IsGap row t (length row)
  gap = record {
    in_range = omega arith;
    before = before;
    behind = λ i le l. absurd (omega arith);
  }

  pub row_push : IsRowOf n (λ k. (if t == k then f else g k)) (row ++ record { place = t; units = f } ∷ [])
  row_push =
      let e : insert row (length row) (record { place = t; units = f }) ≡ row ++ record { place = t; units = f } ∷ [] =
      insert_end row (record { place = t; units = f }) in
      let numbers : (c : ℕ) → number (insert row (length row) (record { place = t; units = f })) c ≡ (if t == c then f else g c) =
      λ c. with_insert row t (length row) gap f c ∙ ap (λ x. if t == c then f else x) (is.numbers c) in
      subst (IsRowOf n (λ k. (if t == k then f else g k))) e (record {
        is_row = row_insert row t (length row) gap n f ne small low is.is_row;
        numbers = numbers;
      })

-- ---- one step of the elimination

after : (t : ℕ) → suc t ≡ t + 1
after t = omega arith

behind_is : (t i : ℕ) (x y : ℤ) → t < i → (if nat_lt t i then x else y) ≡ x
behind_is t i x y h = grind arith

not_behind : (t i : ℕ) (x y : ℤ) → i ≤ t → (if nat_lt t i then x else y) ≡ y
not_behind t i x y h = grind arith

module _ (es : List Equation) (order : List Pair) where
  step : (t i c : ℕ) → t < i
      → row_after es order (suc t) i c ≡ cleared (row_after es order t i) (row_after es order t t) (unknown_at es order t) c
  unfolding row_after
  step t i c h = behind_is t i _ (row_after es order t i c) h

  pub row_next : (t i c : ℕ) → t < i
      → row_after es order (t + 1) i c ≡ cleared (row_after es order t i) (row_after es order t t) (unknown_at es order t) c
  row_next t i c h = ap (λ k. row_after es order k i c) (sym (after t)) ∙ step t i c h

  pub multiple_is : (i t : ℕ) → t < i
      → multiple_of es order i t ≡ multiple (row_after es order t i (unknown_at es order t)) (pivot_of es order t)
  unfolding multiple_of
  multiple_is i t h = behind_is t i _ (pos 0) h

  pub no_multiple : (i t : ℕ) → i ≤ t → multiple_of es order i t ≡ pos 0
  unfolding multiple_of
  no_multiple i t h = not_behind t i _ (pos 0) h

none_scaled : (k : ℕ) → pos 0 *ℤ pos k ≡ pos 0
none_scaled k = omega (arith, ints)

none_over : (pivot : ℤ) → 0 < nat_abs pivot → near_over (pos 0) pivot ≡ pos 0
none_over (pos d) h = near-zero d (omega (arith, ints, h))
none_over (negsuc d) h = near-zero (suc d) (omega arith)

-- nothing is lost where there is no entry
pub multiple_none : (pivot : ℤ) → 0 < nat_abs pivot → multiple (pos 0) pivot ≡ pos 0
unfolding multiple
multiple_none pivot h = ap (λ x. near_over x pivot) (none_scaled (2 ^ 40)) ∙ none_over pivot h

cleared_here : (f g : ℕ → ℤ) (q c : ℕ) → c ≡ q → cleared f g q c ≡ pos 0
unfolding cleared
cleared_here f g q c h = grind arith

cleared_there : (f g : ℕ → ℤ) (q c : ℕ) → c ≢ q → cleared f g q c ≡ less (f c) (multiple (f q) (g q)) (g c)
unfolding cleared
cleared_there f g q c h = choose_off c q _ _ h
  where
    choose_off : (c q : ℕ) (x y : ℤ) → c ≢ q → (if c == q then x else y) ≡ y
    choose_off c q x y h = grind arith

pub left_here : (row : List Entry) (pivot : Entry) (others : List Entry) (c : ℕ) → c ≡ pivot.place → left_by row pivot others c ≡ pos 0
left_here row pivot others c h = on c pivot.place _ h
  where
    on : (c q : ℕ) (y : ℤ) → c ≡ q → (if c == q then pos 0 else y) ≡ pos 0
    on c q y h = grind arith

pub left_there : (row : List Entry) (pivot : Entry) (others : List Entry) (c : ℕ) → c ≢ pivot.place
    → left_by row pivot others c ≡ less (number row c) (factor_of row pivot) (number others c)
left_there row pivot others c h = off c pivot.place _ _ h
  where
    off : (c q : ℕ) (x y : ℤ) → c ≢ q → (if c == q then x else y) ≡ y
    off c q x y h = grind arith

apart_off : (q : ℕ) (g : ℕ → ℤ) (c : ℕ) → c ≢ q → apart_from q g c ≡ g c
apart_off q g c h = off c q (g c) h
  where
    off : (c q : ℕ) (y : ℤ) → c ≢ q → (if c == q then pos 0 else y) ≡ y
    off c q y h = grind arith

-- a row without an entry at the place of the pivot stays
pub left_none : (row : List Entry) (pivot : Entry) (others : List Entry) (c : ℕ) → number row pivot.place ≡ pos 0
    → 0 < nat_abs pivot.units → left_by row pivot others c ≡ number row c
left_none row pivot others c none positive = elim (near_or c pivot.place) [
  | inl same ↦ left_here row pivot others c same ∙ sym none ∙ ap (number row) (sym same)
  | inr apart ↦ left_there row pivot others c apart
      ∙ ap (λ f. less (number row c) f (number others c)) (ap (λ z. multiple z pivot.units) none ∙ multiple_none pivot.units positive)
      ∙ less_never (number row c) (number others c)
]

pub factor_none : (row : List Entry) (pivot : Entry) → number row pivot.place ≡ pos 0 → 0 < nat_abs pivot.units
    → factor_of row pivot ≡ pos 0
factor_none row pivot none positive = ap (λ z. multiple z pivot.units) none ∙ multiple_none pivot.units positive

-- ---- rows that show the elimination

pub upto_low : (k t : ℕ) (x : ℤ) → k < t → (if nat_lt k t then x else pos 0) ≡ x
upto_low k t x h = grind arith

pub upto_high : (k t : ℕ) (x : ℤ) → t ≤ k → (if nat_lt k t then x else pos 0) ≡ pos 0
upto_high k t x h = grind arith

module _ (es : List Equation) (order : List Pair) (t i : ℕ) (behind : t < i) (place_in : i < length order) where
  q : ℕ
  q = unknown_at es order t

  -- the multiples, one more
  more_none : multiple_of es order i t ≡ pos 0 → (k : ℕ) → multiples_before es order i t k ≡ multiples_before es order i (t + 1) k
  more_none none k = elim (cases_lt k t) [
    | inl l ↦ upto_low k t (multiple_of es order i k) l ∙ sym (upto_low k (t + 1) (multiple_of es order i k) (omega arith))
    | inr m ↦ upto_high k t (multiple_of es order i k) m ∙ sym (elim (near_or k t) [
      | inl same ↦ upto_low k (t + 1) (multiple_of es order i k) (omega arith) ∙ ap (multiple_of es order i) same ∙ none
      | inr apart ↦ upto_high k (t + 1) (multiple_of es order i k) (omega arith)
    ])
  ]

  more_one : (f : ℤ) → f ≡ multiple_of es order i t → (k : ℕ)
      → (if t == k then f else multiples_before es order i t k) ≡ multiples_before es order i (t + 1) k
  more_one f is k = elim (near_or t k) [
    | inl same ↦ choose_same t k f (multiples_before es order i t k) same ∙ is ∙ ap (multiple_of es order i) same
        ∙ sym (upto_low k (t + 1) (multiple_of es order i k) (omega arith))
    | inr apart ↦ choose_other t k f (multiples_before es order i t k) apart ∙ elim (cases_lt k t) [
      | inl l ↦ upto_low k t (multiple_of es order i k) l ∙ sym (upto_low k (t + 1) (multiple_of es order i k) (omega arith))
      | inr m ↦ upto_high k t (multiple_of es order i k) m ∙ sym (upto_high k (t + 1) (multiple_of es order i k) (omega arith))
    ]
  ]

  module _ (pivot : Entry) (others : List Entry) (has : HasPivot es order t pivot others) (row : Parts)
      (shows : Shows es order t i row) where
    pub factor_is : factor_of row.left pivot ≡ multiple_of es order i t
    factor_is =
        ap (λ z. multiple z pivot.units) (ap (number row.left) has.place_is ∙ shows.left.numbers (unknown_at es order t))
        ∙ ap (multiple (row_after es order t i (unknown_at es order t))) has.units_is
        ∙ sym (multiple_is es order i t behind)

    pub left_is : (c : ℕ) → left_by row.left pivot others c ≡ row_after es order (t + 1) i c
    left_is c = elim (near_or c pivot.place) [
      | inl same ↦ left_here row.left pivot others c same
          ∙ sym (cleared_here (row_after es order t i) (row_after es order t t) (unknown_at es order t) c (same ∙ has.place_is))
          ∙ sym (row_next es order t i c behind)
      | inr apart ↦
          let off : c ≢ unknown_at es order t = λ e. apart (e ∙ sym has.place_is) in
          left_there row.left pivot others c apart
          ∙ ap (λ z. less z (factor_of row.left pivot) (number others c)) (shows.left.numbers c)
          ∙ ap (λ f. less (row_after es order t i c) f (number others c)) (factor_is ∙ multiple_is es order i t behind)
          ∙ ap (less (row_after es order t i c) (multiple (row_after es order t i (unknown_at es order t)) (pivot_of es order t)))
          (has.others_are.numbers c ∙ apart_off (unknown_at es order t) (final_row es order t) c off)
          ∙ sym (cleared_there (row_after es order t i) (row_after es order t t) (unknown_at es order t) c off)
          ∙ sym (row_next es order t i c behind)
    ]

    others_none : multiple_of es order i t ≡ pos 0 → IsRowOf (length order) (multiples_before es order i (t + 1)) row.others
    others_none none =
        row_same (length order) (multiples_before es order i t) (multiples_before es order i (t + 1)) row.others (more_none none) shows.others

    pub cleared_shows : (new : Parts) → IsCleared (length es) row new pivot others t → Shows es order (t + 1) i new
    cleared_shows new is = record {
      equation = is.equations ∙ shows.equation;
      others = elim (zero_or (factor_of row.left pivot)) [
        | inl none ↦ subst (IsRowOf (length order) (multiples_before es order i (t + 1))) (sym (is.never none))
            (others_none (sym factor_is ∙ none))
        | inr some ↦ subst (IsRowOf (length order) (multiples_before es order i (t + 1))) (sym (is.once some))
            (row_same (length order) _ (multiples_before es order i (t + 1)) _ (more_one (factor_of row.left pivot) factor_is)
            (row_push (length order) t (multiples_before es order i t) row.others (factor_of row.left pivot) shows.others
            (λ k m. upto_high k t (multiple_of es order i k) m) (omega arith) some is.small))
      ];
      left = record { is_row = is.left; numbers = λ c. is.numbers c ∙ left_is c };
    }
      where
        zero_or : (z : ℤ) → (z ≡ pos 0) ⊎ (z ≢ pos 0)
        zero_or z = grind (arith, ints)

    -- a row without an entry at the unknown shows the next step as it is
    pub untouched_shows : number row.left pivot.place ≡ pos 0 → 0 < nat_abs pivot.units → Shows es order (t + 1) i row
    untouched_shows none positive = record {
      equation = shows.equation;
      others = others_none (sym factor_is ∙ factor_none row.left pivot none positive);
      left = record {
        is_row = shows.left.is_row;
        numbers = λ c. sym (left_none row.left pivot others c none positive) ∙ left_is c;
      };
    }

    -- where a number is past its range the elimination is
    pub cleared_past : IsClearedPast row.left pivot others → IsPast es order t
    cleared_past past = record {
      place = i;
      behind = behind;
      place_in = place_in;
      past = elim past [
        | inl m ↦ inl (subst (λ z. 2 ^ 62 < nat_abs z) factor_is m)
        | inr p ↦ inr (p.0, subst (λ z. 2 ^ 62 < nat_abs z) (left_is p.0) p.1)
      ];
    }

  -- a row that shows the next step has no entry at the unknown
  pub shown_none : (row : Parts) → Shows es order (t + 1) i row → number row.left (unknown_at es order t) ≡ pos 0
  shown_none row shows =
      shows.left.numbers (unknown_at es order t) ∙ row_next es order t i (unknown_at es order t) behind
      ∙ cleared_here (row_after es order t i) (row_after es order t t) (unknown_at es order t) (unknown_at es order t) refl

  -- and its numbers are in range
  pub shown_multiple : (row : Parts) → Shows es order (t + 1) i row → nat_abs (multiple_of es order i t) ≤ 2 ^ 62
  shown_multiple row shows =
      subst (λ z. nat_abs z ≤ 2 ^ 62) (shows.others.numbers t ∙ upto_low t (t + 1) (multiple_of es order i t) (omega arith))
      (row_small (length order) row.others t shows.others.is_row)

  pub shown_number : (row : Parts) → Shows es order (t + 1) i row → (c : ℕ) → nat_abs (row_after es order (t + 1) i c) ≤ 2 ^ 62
  shown_number row shows c = subst (λ z. nat_abs z ≤ 2 ^ 62) (shows.left.numbers c) (row_small (length es) row.left c shows.left.is_row)

-- ---- rows that stay

module _ (n t : ℕ) (pivot : Entry) (others : List Entry) (row new : Parts) (is : IsCleared n row new pivot others t)
    (none : number row.left pivot.place ≡ pos 0) (positive : 0 < nat_abs pivot.units) where
  pub stays : (c : ℕ) → number new.left c ≡ number row.left c
  stays c = is.numbers c ∙ left_none row.left pivot others c none positive

  pub shows_again : (es : List Equation) (order : List Pair) (s i : ℕ) → n ≡ length es → Shows es order s i row → Shows es order s i new
  shows_again es order s i n_is shows = record {
    equation = is.equations ∙ shows.equation;
    others = subst (IsRowOf (length order) (multiples_before es order i s)) (sym (is.never (factor_none row.left pivot none positive))) shows.others;
    left = record {
      is_row = subst (λ m. IsRow m new.left) n_is is.left;
      numbers = λ c. stays c ∙ shows.left.numbers c;
    };
  }

-- a row without an entry at the unknown has nothing past its range
pub none_past : (n : ℕ) (row : List Entry) (pivot : Entry) (others : List Entry) → IsRow n row → number row pivot.place ≡ pos 0
    → 0 < nat_abs pivot.units → IsClearedPast row pivot others → ⊥
none_past n row pivot others is none positive past = elim past [
  | inl m ↦ let z = ap nat_abs (factor_none row pivot none positive) in omega (arith, m, z)
  | inr p ↦ let z = ap nat_abs (left_none row pivot others p.0 none positive) in omega (arith, p.1, z, row_small n row p.0 is)
]

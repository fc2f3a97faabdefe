-- From one stage of the elimination to the next.
use Rattle.std.proofs.Common.{◌≡◌, ◌≢◌, ◌⊎◌, inl, inr, ℕ, ◌+◌, ◌-◌, ◌<◌, ◌≤◌, ◌^◌, ℤ, pos, nat_abs, nat_le, Bool, true, false, List, [], ◌∷◌, ◌++◌, length, get_or, set, take, drop, if◌then◌else◌, ◌==◌, arith, refl, ap, sym, ◌∙◌, subst}
use Rattle.std.specs.Bool.{OnTrue}
use Rattle.std.specs.List.{Contains}
use Rattle.std.proofs.lemmas.Bool.{cases_lt}
use Rattle.std.proofs.lemmas.Int.{ints}
use Rattle.std.proofs.lemmas.List.{length-append, length-set, take_all, take_more}
use Rattle.std.proofs.lemmas.List.Elements.{Contains-get_or, Contains-push_cases}
use Rattle.fd_derived.specs.declared.entries.Entry.{Entry}
use Rattle.fd_derived.specs.declared.entries.Equation.{Equation}
use Rattle.fd_derived.specs.declared.entries.Row.{Row}
use Rattle.fd_triangles.specs.Columns.{HasNoted, Holds, rows_in, rows_of}
use Rattle.fd_triangles.specs.Elimination.{AreFine, EndsAt, IsPast, IsWithin, final_row, multiple_of, pivot_of, unknown_at}
use Rattle.fd_triangles.specs.Factors.{AreRows, Clearing, HasPivot, IsFactorRow, Running, Shows, multiples_before, no_parts, parts_in}
use Rattle.fd_triangles.specs.Rows.{IsRow, apart_from, number}
use Rattle.fd_triangles.specs.Steps.{IsCleared, IsClearedPast, IsPutFirst, Parts, parts_of}
use Rattle.fd_triangles.specs.declared.columns.Column.{Column}
use Rattle.fd_triangles.specs.declared.pair.Pair.{Pair}
use Rattle.fd_triangles.proofs.Entries.{choose_other, choose_same, near_or}
use Rattle.fd_triangles.proofs.Lists.{at_other, at_read, at_same, pushed_new, pushed_old}
use Rattle.fd_triangles.proofs.Showing.{cleared_past, cleared_shows, left_here, none_past, no_multiple, row_same, shown_multiple, shown_none, shown_number, shows_again, stays, untouched_shows, upto_high, upto_low}

-- ---- rows where one is written

module _ (work : List Row) (index : ℕ) (row : Row) (index_in : index < length work) where
  pub row_here : (i : ℕ) → index ≡ i → parts_in (set work index row) i ≡ parts_of row
  row_here i same = ap (parts_in (set work index row)) (sym same) ∙ at_same parts_of no_parts work index row index_in

  pub row_there : (i : ℕ) → index ≢ i → parts_in (set work index row) i ≡ parts_in work i
  row_there i apart = at_other parts_of no_parts work index i row apart

  pub rows_more : (n : ℕ) → AreRows n work → IsRow n (parts_of row).left → AreRows n (set work index row)
  rows_more n rows is i i_in = elim (near_or index i) [
    | inl same ↦ subst (λ (p : Parts). IsRow n p.left) (sym (row_here i same)) is
    | inr apart ↦ subst (λ (p : Parts). IsRow n p.left) (sym (row_there i apart))
        (rows i (subst (λ m. i < m) (length-set work index row) i_in))
  ]

-- ---- one row more is cleared

module _ (es : List Equation) (order : List Pair) (t : ℕ) (holding : List ℕ) (k : ℕ) (work : List Row) (columns : List Column)
    (pivot : Entry) (others : List Entry) (has : HasPivot es order t pivot others) (positive : 0 < nat_abs pivot.units)
    (on : Clearing es order t holding k work columns) (index : ℕ) (index_in : index < length work) where
  none_before : index ≤ t → (c : ℕ) → number (parts_in work index).left c ≡ pos 0
  none_before h c = on.before index c (omega arith)

  none_shown : t < index → Shows es order (t + 1) index (parts_in work index) → number (parts_in work index).left pivot.place ≡ pos 0
  none_shown b s = ap (number (parts_in work index).left) has.place_is
      ∙ shown_none es order t index b (omega (arith, on.long, index_in)) (parts_in work index) s

  pub clearing_past : IsRow (length columns) (parts_in work index).left → IsClearedPast (parts_in work index).left pivot others
      → IsPast es order t
  clearing_past is past = elim (cases_lt t index) [
    | inl b ↦ elim (on.behind index b (omega (arith, on.long, index_in))) [
      | inl s ↦ cleared_past es order t index b (omega (arith, on.long, index_in)) pivot others has (parts_in work index) s past
      | inr s ↦ absurd (none_past (length columns) (parts_in work index).left pivot others is (none_shown b s) positive past)
    ]
    | inr h ↦ absurd (none_past (length columns) (parts_in work index).left pivot others is (none_before h pivot.place) positive past)
  ]

  module _ (row : Row) (new : List Column) (k_in : k < length holding) (index_is : get_or holding k 0 ≡ index)
      (is : IsCleared (length columns) (parts_in work index) (parts_of row) pivot others t)
      (noted : HasNoted columns new (parts_in work index).left (parts_of row).left index) where
    new_shown : t < index → Shows es order (t + 1) index (parts_of row)
    new_shown b = elim (on.behind index b (omega (arith, on.long, index_in))) [
      | inl s ↦ cleared_shows es order t index b (omega (arith, on.long, index_in)) pivot others has (parts_in work index) s
          (parts_of row) (subst (λ n. IsCleared n (parts_in work index) (parts_of row) pivot others t) on.columns_long is)
      | inr s ↦ shows_again (length columns) t pivot others (parts_in work index) (parts_of row) is (none_shown b s) positive
          es order (t + 1) index on.columns_long s
    ]

    before : (i c : ℕ) → i < t + 1 → number (parts_in (set work index row) i).left c ≡ pos 0
    before i c l = elim (near_or index i) [
      | inl same ↦ ap (λ (p : Parts). number p.left c) (row_here work index row index_in i same)
          ∙ stays (length columns) t pivot others (parts_in work index) (parts_of row) is
          (none_before (omega (arith, same, l)) pivot.place) positive c
          ∙ none_before (omega (arith, same, l)) c
      | inr apart ↦ ap (λ (p : Parts). number p.left c) (row_there work index row index_in i apart) ∙ on.before i c l
    ]

    here_shown : (i : ℕ) → index ≡ i → t < i → Shows es order (t + 1) i (parts_in (set work index row) i)
    here_shown i same b = subst (λ j. Shows es order (t + 1) j (parts_in (set work index row) j)) same
        (subst (Shows es order (t + 1) index) (sym (row_here work index row index_in index refl)) (new_shown (omega (arith, same, b))))

    behind : (i : ℕ) → t < i → i < length order
        → Shows es order t i (parts_in (set work index row) i) ⊎ Shows es order (t + 1) i (parts_in (set work index row) i)
    behind i b m = elim (near_or index i) [
      | inl same ↦ inr (here_shown i same b)
      | inr apart ↦ elim (on.behind i b m) [
        | inl s ↦ inl (subst (Shows es order t i) (sym (row_there work index row index_in i apart)) s)
        | inr s ↦ inr (subst (Shows es order (t + 1) i) (sym (row_there work index row index_in i apart)) s)
      ]
    ]

    cleared : (i : ℕ) → t < i → i < length order → Contains (take (k + 1) holding) i
        → Shows es order (t + 1) i (parts_in (set work index row) i)
    cleared i b m h = elim (near_or index i) [
      | inl same ↦ here_shown i same b
      | inr apart ↦ elim (Contains-push_cases (take k holding) (get_or holding k 0) i
          (subst (λ l. Contains l i) (take_more holding k 0 k_in) h)) [
            | inl old ↦ subst (Shows es order (t + 1) i) (sym (row_there work index row index_in i apart)) (on.cleared i b m old)
            | inr e ↦ absurd (apart (sym index_is ∙ e))
          ]
    ]

    new_covers : (c : ℕ) → number (parts_of row).left c ≢ pos 0
        → (c ≢ unknown_at es order t → Holds new c index) × (c ≡ unknown_at es order t → Contains holding index)
    new_covers c ne = elim (noted.noted c ne) [
      | inl was ↦
          let old = on.covers index c (omega (arith, on.long, index_in)) was in
          (λ off. noted.kept c index (old.0 off), old.1)
      | inr h ↦ (
        λ off. h,
        λ at. absurd (ne (is.numbers c ∙ left_here (parts_in work index).left pivot others c (at ∙ sym has.place_is))),
      )
    ]

    covers : (i c : ℕ) → i < length order → number (parts_in (set work index row) i).left c ≢ pos 0
        → (c ≢ unknown_at es order t → Holds new c i) × (c ≡ unknown_at es order t → Contains holding i)
    covers i c m ne = elim (near_or index i) [
      | inl same ↦
          subst (λ j. (c ≢ unknown_at es order t → Holds new c j) × (c ≡ unknown_at es order t → Contains holding j)) same
          (new_covers c (λ z. ne (ap (λ (p : Parts). number p.left c) (row_here work index row index_in i same) ∙ z)))
      | inr apart ↦
          let old = on.covers i c m (λ z. ne (ap (λ (p : Parts). number p.left c) (row_there work index row index_in i apart) ∙ z)) in
          (λ off. noted.kept c i (old.0 off), old.1)
    ]

    pub clearing_more : Clearing es order t holding (k + 1) (set work index row) new
    clearing_more = record {
      long = length-set work index row ∙ on.long;
      columns_long = noted.long ∙ on.columns_long;
      before = before;
      behind = behind;
      cleared = cleared;
      covers = covers;
      inside = λ c i h. elim (noted.from c i h) [
        | inl old ↦ on.inside c i old
        | inr e ↦ omega (arith, e, on.long, index_in)
      ];
    }

-- ---- a pivot row is taken out

nothing_held : (i : ℕ) → Contains [] i → ⊥
nothing_held i h = omega (arith, h.1)

module _ (es : List Equation) (order : List Pair) (t : ℕ) (work : List Row) (columns : List Column) (done : List Row)
    (on : Running es order t work columns done) (t_in : t < length work) where
  q : ℕ
  q = unknown_at es order t

  turn : Shows es order t t (parts_in work t)
  turn = on.behind t (omega arith) (omega (arith, on.long, t_in))

  -- it has the pivot, and the other entries
  pub has_pivot : (left : List Entry) (place : ℕ) (first : IsPutFirst (parts_in work t).left left place)
      → place ≡ unknown_at es order t
      → HasPivot es order t (record { place = place; units = number (parts_in work t).left place }) first.rest
  has_pivot left place first e = record {
    place_is = e;
    units_is = turn.left.numbers place ∙ ap (final_row es order t) e;
    others_are = record {
      is_row = first.row (length es) turn.left.is_row;
      numbers = λ c. first.numbers c ∙ same c;
    };
  }
    where
      chosen : (p c : ℕ) (x : ℤ) → p ≡ c → (if c == p then pos 0 else x) ≡ pos 0
      chosen p c x h = grind arith

      not_chosen : (p c : ℕ) (x : ℤ) → p ≢ c → (if c == p then pos 0 else x) ≡ x
      not_chosen p c x h = grind arith

      same : (c : ℕ) → (if place == c then pos 0 else number (parts_in work t).left c)
          ≡ apart_from (unknown_at es order t) (final_row es order t) c
      same c = elim (near_or place c) [
        | inl here ↦ choose_same place c (pos 0) (number (parts_in work t).left c) here
            ∙ sym (chosen (unknown_at es order t) c (final_row es order t c) (sym e ∙ here))
        | inr there ↦ choose_other place c (pos 0) (number (parts_in work t).left c) there ∙ turn.left.numbers c
            ∙ sym (not_chosen (unknown_at es order t) c (final_row es order t c) (λ h. there (e ∙ h)))
      ]

  module _ (empty : Row) (column : Column) (empty_is : parts_of empty ≡ no_parts) (column_is : rows_of column ≡ [])
      (unknown : ℕ) (unknown_is : unknown ≡ unknown_at es order t) (unknown_in : unknown < length columns) where
    no_numbers : (c : ℕ) → number (parts_in (set work t empty) t).left c ≡ pos 0
    no_numbers c = ap (λ (p : Parts). number p.left c) (row_here work t empty t_in t refl ∙ empty_is)

    column_there : (c : ℕ) → unknown ≢ c → rows_in (set columns unknown column) c ≡ rows_in columns c
    column_there c apart = at_other rows_of [] columns unknown c column apart

    column_here : (c : ℕ) → unknown ≡ c → rows_in (set columns unknown column) c ≡ []
    column_here c same = ap (rows_in (set columns unknown column)) (sym same)
        ∙ at_same rows_of [] columns unknown column unknown_in ∙ column_is

    start_before : (i c : ℕ) → i < t + 1 → number (parts_in (set work t empty) i).left c ≡ pos 0
    start_before i c l = elim (near_or t i) [
      | inl same ↦ subst (λ j. number (parts_in (set work t empty) j).left c ≡ pos 0) same (no_numbers c)
      | inr apart ↦ ap (λ (p : Parts). number p.left c) (row_there work t empty t_in i apart) ∙ on.before i c (grind (arith, l, apart))
    ]

    start_covers : (i c : ℕ) → i < length order → number (parts_in (set work t empty) i).left c ≢ pos 0
        → (c ≢ unknown_at es order t → Holds (set columns unknown column) c i)
        × (c ≡ unknown_at es order t → Contains (rows_in columns unknown) i)
    unfolding Holds
    start_covers i c m ne = elim (near_or t i) [
      | inl same ↦ absurd (subst (λ j. number (parts_in (set work t empty) j).left c ≢ pos 0) (sym same) ne (no_numbers c))
      | inr apart ↦
          let old = on.covers i c m (λ z. ne (ap (λ (p : Parts). number p.left c) (row_there work t empty t_in i apart) ∙ z)) in (
            λ off. subst (λ l. Contains l i) (sym (column_there c (λ h. off (sym h ∙ unknown_is)))) old,
            λ at. subst (λ k. Contains (rows_in columns k) i) (at ∙ sym unknown_is) old,
          )
    ]

    start_inside : (c i : ℕ) → Holds (set columns unknown column) c i → i < length order
    unfolding Holds
    start_inside c i h = elim (near_or unknown c) [
      | inl same ↦ absurd (nothing_held i (subst (λ l. Contains l i) (column_here c same) h))
      | inr apart ↦ on.inside c i (subst (λ l. Contains l i) (column_there c apart) h)
    ]

    pub clearing_start : Clearing es order t (rows_in columns unknown) 0 (set work t empty) (set columns unknown column)
    clearing_start = record {
      long = length-set work t empty ∙ on.long;
      columns_long = length-set columns unknown column ∙ on.columns_long;
      before = start_before;
      behind = λ i b m. inl (subst (Shows es order t i) (sym (row_there work t empty t_in i (λ e. omega (arith, e, b))))
          (on.behind i (omega arith) m));
      cleared = λ i b m h. absurd (nothing_held i h);
      covers = start_covers;
      inside = start_inside;
    }

  module _ (place : ℕ) (e : place ≡ unknown_at es order t) where
    pivot_read : number (parts_in work t).left place ≡ pivot_of es order t
    pivot_read = turn.left.numbers place ∙ ap (final_row es order t) e

    pub ends_at_pivot : nat_abs (number (parts_in work t).left place) < 2 ^ 8
        → EndsAt es order place (λ t. nat_abs (pivot_of es order t) < 2 ^ 8)
    ends_at_pivot small = record {
      place = t;
      place_in = omega (arith, on.long, t_in);
      unknown_is = e;
      fine = on.fine;
      cause = subst (λ z. nat_abs z < 2 ^ 8) pivot_read small;
    }

    pub ends_at_range : 2 ^ 8 ≤ nat_abs (number (parts_in work t).left place) → IsPast es order t
        → EndsAt es order place (λ t. (2 ^ 8 ≤ nat_abs (pivot_of es order t)) × IsPast es order t)
    ends_at_range large past = record {
      place = t;
      place_in = omega (arith, on.long, t_in);
      unknown_is = e;
      fine = on.fine;
      cause = (subst (λ z. 2 ^ 8 ≤ nat_abs z) pivot_read large, past);
    }

  -- ---- and done

  multiples_all : (k : ℕ) → multiples_before es order t t k ≡ multiple_of es order t k
  multiples_all k = elim (cases_lt k t) [
    | inl l ↦ upto_low k t (multiple_of es order t k) l
    | inr m ↦ upto_high k t (multiple_of es order t k) m ∙ sym (no_multiple es order t k m)
  ]

  module _ (left : List Entry) (place : ℕ) (first : IsPutFirst (parts_in work t).left left place)
      (place_is : place ≡ unknown_at es order t) where
    factor_row : IsFactorRow es order t (record {
      equations = (parts_in work t).equations;
      others = (parts_in work t).others;
      left = left;
    })
    factor_row =
        let has = has_pivot left place first place_is in
        record {
          equation = turn.equation;
          others = row_same (length order) (multiples_before es order t t) (multiple_of es order t) (parts_in work t).others multiples_all turn.others;
          left = record {
            pivot = record { place = place; units = number (parts_in work t).left place };
            rest = first.rest;
            row_is = first.new_is;
            place_is = place_is;
            pivot_is = has.units_is;
            rest_is = has.others_are;
          };
        }

    module _ (holding : List ℕ) (after : List Row) (new : List Column) (row : Row)
        (large : 2 ^ 8 ≤ nat_abs (number (parts_in work t).left place))
        (end : Clearing es order t holding (length holding) after new)
        (row_is : parts_of row ≡ record {
          equations = (parts_in work t).equations;
          others = (parts_in work t).others;
          left = left;
        }) where
      has : HasPivot es order t (record { place = place; units = number (parts_in work t).left place }) first.rest
      has = has_pivot left place first place_is

      all_shown : (i : ℕ) → t < i → i < length order → Shows es order (t + 1) i (parts_in after i)
      all_shown i b m = elim (end.behind i b m) [
        | inl s ↦ elim (zero_or (number (parts_in after i).left place)) [
          | inl none ↦ untouched_shows es order t i b m (record { place = place; units = number (parts_in work t).left place })
              first.rest has (parts_in after i) s none (omega (arith, large))
          | inr some ↦ end.cleared i b m (subst (λ l. Contains l i) (sym (take_all (length holding) holding (omega arith)))
              ((end.covers i place m some).1 place_is))
        ]
        | inr s ↦ s
      ]
        where
          zero_or : (z : ℤ) → (z ≡ pos 0) ⊎ (z ≢ pos 0)
          zero_or z = grind (arith, ints)

      within : IsWithin es order t
      within = record {
        multiples = λ i b m. shown_multiple es order t i b m (parts_in after i) (all_shown i b m);
        numbers = λ i c b m. shown_number es order t i b m (parts_in after i) (all_shown i b m) c;
      }

      pivot_large : 2 ^ 8 ≤ nat_abs (pivot_of es order t)
      pivot_large = subst (λ z. 2 ^ 8 ≤ nat_abs z) has.units_is large

      fine : AreFine es order (t + 1)
      fine = record {
        pivots = λ s l. elim (near_or s t) [
          | inl same ↦ subst (λ k. 2 ^ 8 ≤ nat_abs (pivot_of es order k)) (sym same) pivot_large
          | inr apart ↦ on.fine.pivots s (grind (arith, l, apart))
        ];
        within = λ s l. elim (near_or s t) [
          | inl same ↦ subst (IsWithin es order) (sym same) within
          | inr apart ↦ on.fine.within s (grind (arith, l, apart))
        ];
      }

      covers_all : (i c : ℕ) → i < length order → number (parts_in after i).left c ≢ pos 0 → Holds new c i
      covers_all i c m ne = elim (near_or c place) [
        | inl same ↦ elim (cases_lt t i) [
          | inl b ↦ absurd (ne (ap (number (parts_in after i).left) (same ∙ place_is)
              ∙ shown_none es order t i b m (parts_in after i) (all_shown i b m)))
          | inr h ↦ absurd (ne (end.before i c (omega arith)))
        ]
        | inr apart ↦ (end.covers i c m ne).0 (λ e. apart (e ∙ sym place_is))
      ]

      pub running_more : Running es order (t + 1) after new (done ++ row ∷ [])
      running_more = record {
        long = end.long;
        columns_long = end.columns_long;
        before = end.before;
        behind = λ i b m. all_shown i (omega arith) m;
        covers = covers_all;
        inside = end.inside;
        done_long = length-append done (row ∷ []) ∙ ap (λ n. n + 1) on.done_long;
        done = λ i l. elim (near_or i t) [
          | inl same ↦ subst (IsFactorRow es order i) (sym (pushed_new parts_of no_parts done i row (same ∙ sym on.done_long) ∙ row_is))
              (subst (λ j. IsFactorRow es order j (record {
                equations = (parts_in work t).equations;
                others = (parts_in work t).others;
                left = left;
              })) (sym same) factor_row)
          | inr apart ↦ subst (IsFactorRow es order i)
              (sym (pushed_old parts_of no_parts done i row (grind (arith, l, apart, on.done_long))))
              (on.done i (grind (arith, l, apart)))
        ];
        fine = fine;
      }

-- ---- what is read

pub row_taken : (work : List Row) (t : ℕ) (d row : Row) → t < length work → row ≡ get_or work t d → parts_of row ≡ parts_in work t
row_taken work t d row h e = ap parts_of e ∙ sym (at_read parts_of no_parts work t d h)

-- the entries behind the first
pub rest_is : (row rest : List Entry) (e : Entry) → row ≡ e ∷ rest → take (length row - 1) (drop 1 row) ≡ rest
rest_is row rest e h =
    ap (λ l. take (length l - 1) (drop 1 l)) h
    ∙ take_all (length (e ∷ rest) - 1) rest (omega arith)

pub same_pivot : (es : List Equation) (order : List Pair) (t : ℕ) (p r : Entry) (others rest : List Entry) → p ≡ r → others ≡ rest
    → HasPivot es order t r rest → HasPivot es order t p others
same_pivot es order t p r others rest e f h =
    subst (λ x. HasPivot es order t x others) (sym e) (subst (HasPivot es order t r) (sym f) h)

-- rows that are noted in a column that is emptied, or listed from it
pub still_held : (columns : List Column) (q : ℕ) (x : Column) → q < length columns → rows_of x ≡ [] → (c i : ℕ)
    → Holds (set columns q x) c i → Holds columns c i
unfolding Holds
still_held columns q x q_in x_is c i h = elim (near_or q c) [
  | inl same ↦ absurd (nothing_held i (subst (λ l. Contains l i)
      (ap (rows_in (set columns q x)) (sym same) ∙ at_same rows_of [] columns q x q_in ∙ x_is) h))
  | inr apart ↦ subst (λ l. Contains l i) (at_other rows_of [] columns q c x apart) h
]

pub listed_inside : (columns : List Column) (q n : ℕ) (l : List ℕ) → l ≡ rows_in columns q
    → ((c i : ℕ) → Holds columns c i → i < n) → (k d : ℕ) → k < length l → get_or l k d < n
unfolding Holds
listed_inside columns q n l e inside k d h =
    inside q (get_or l k d) (subst (λ m. Contains m (get_or l k d)) e (Contains-get_or l k d h))

pub is_on : (b : Bool) (P : Type 0) → b ≡ true → OnTrue b P → P
is_on b P e h = subst (λ a. OnTrue a P) e h

pub large_from : (b : Bool) (n : ℕ) → b ≡ true → b ≡ nat_le (2 ^ 8) n → 2 ^ 8 ≤ n
large_from b n on e = grind (arith, on, e)

pub small_from : (b : Bool) (n : ℕ) → b ≡ false → b ≡ nat_le (2 ^ 8) n → n < 2 ^ 8
small_from b n off e = grind (arith, off, e)

-- The rows before the first unknown is eliminated, and after the last.
use Rattle.std.proofs.Common.{◌≡◌, ◌≢◌, inl, inr, ℕ, ◌+◌, ◌<◌, pos, List, [], ◌∷◌, ◌++◌, length, get_or, arith, refl, ap, sym, ◌∙◌, subst}
use Rattle.std.proofs.lemmas.List.{length-append}
use Rattle.fd_derived.specs.fd_factors.Factors.{sum_at}
use Rattle.fd_derived.specs.Rows.{coefficient, coefficients_of}
use Rattle.fd_derived.specs.declared.entries.Entry.{Entry}
use Rattle.fd_derived.specs.declared.entries.Equation.{Equation}
use Rattle.fd_derived.specs.declared.entries.Row.{Row}
use Rattle.fd_triangles.specs.Columns.{HasNoted, Holds}
use Rattle.fd_triangles.specs.Elimination.{AreFine, pair_at, row_after}
use Rattle.fd_triangles.specs.Factors.{AreFactors, AreLoaded, AreRows, Running, Shows, multiples_before, no_parts, parts_in}
use Rattle.fd_triangles.specs.Rows.{IsRow, IsRowOf, number}
use Rattle.fd_triangles.specs.Steps.{IsFirst, Parts, parts_of}
use Rattle.fd_triangles.specs.declared.columns.Column.{Column}
use Rattle.fd_triangles.specs.declared.pair.Pair.{Pair}
use Rattle.fd_triangles.proofs.Entries.{near_or}
use Rattle.fd_triangles.proofs.Lists.{at_read, pushed_new, pushed_old}
use Rattle.fd_triangles.proofs.Losing.{empty_row}
use Rattle.fd_triangles.proofs.Showing.{upto_high}
use Rattle.fd_triangles.specs.Elimination.{multiple_of}

pub loaded_start : (es : List Equation) (order : List Pair) (columns : List Column) → length columns ≡ length es
    → ((c i : ℕ) → Holds columns c i → ⊥) → AreLoaded es order 0 [] columns
loaded_start es order columns long none = record {
  long = refl;
  columns_long = long;
  rows = λ j l. absurd (omega arith);
  covers = λ j c l. absurd (omega arith);
  inside = λ c j h. absurd (none c j h);
}

-- the numbers of an equation are those of its coefficients
pub coefficient_read : (es : List Equation) (l : ℕ) (d : Equation) (c : ℕ) → l < length es
    → coefficient es l c ≡ number (get_or es l d).coefficients.items c
coefficient_read es l d c h = ap (λ row. sum_at row c) (at_read coefficients_of [] es l d h)

module _ (es : List Equation) (order : List Pair) (i : ℕ) (work : List Row) (columns new : List Column) (row : Row)
    (coefficients : List Entry) (on : AreLoaded es order i work columns)
    (first : IsFirst (length columns) (pair_at order i).equation coefficients (parts_of row))
    (are : (c : ℕ) → number coefficients c ≡ coefficient es (pair_at order i).equation c)
    (noted : HasNoted columns new [] (parts_of row).left i) where
  first_shows : Shows es order 0 i (parts_of row)
  unfolding row_after
  first_shows = record {
    equation = first.equation_is;
    others = subst (IsRowOf (length order) (multiples_before es order i 0)) (sym first.others_are) (record {
      is_row = empty_row (length order);
      numbers = λ k. sym (upto_high k 0 (multiple_of es order i k) (omega arith));
    });
    left = record {
      is_row = subst (λ n. IsRow n (parts_of row).left) on.columns_long first.left;
      numbers = λ c. first.numbers c ∙ are c;
    };
  }

  rows : (j : ℕ) → j < i + 1 → Shows es order 0 j (parts_in (work ++ row ∷ []) j)
  rows j l = elim (near_or j i) [
    | inl same ↦ subst (Shows es order 0 j) (sym (pushed_new parts_of no_parts work j row (same ∙ sym on.long)))
        (subst (λ k. Shows es order 0 k (parts_of row)) (sym same) first_shows)
    | inr apart ↦ subst (Shows es order 0 j) (sym (pushed_old parts_of no_parts work j row (grind (arith, l, apart, on.long))))
        (on.rows j (grind (arith, l, apart)))
  ]

  covers : (j c : ℕ) → j < i + 1 → number (parts_in (work ++ row ∷ []) j).left c ≢ pos 0 → Holds new c j
  covers j c l ne = elim (near_or j i) [
    | inl same ↦
        let at = ap (λ (p : Parts). number p.left c) (pushed_new parts_of no_parts work j row (same ∙ sym on.long)) in
        subst (Holds new c) (sym same) (elim (noted.noted c (λ z. ne (at ∙ z))) [
          | inl was ↦ absurd (was refl)
          | inr h ↦ h
        ])
    | inr apart ↦
        let at = ap (λ (p : Parts). number p.left c) (pushed_old parts_of no_parts work j row (grind (arith, l, apart, on.long))) in
        noted.kept c j (on.covers j c (grind (arith, l, apart)) (λ z. ne (at ∙ z)))
  ]

  pub loaded_more : AreLoaded es order (i + 1) (work ++ row ∷ []) new
  loaded_more = record {
    long = length-append work (row ∷ []) ∙ ap (λ n. n + 1) on.long;
    columns_long = noted.long ∙ on.columns_long;
    rows = rows;
    covers = covers;
    inside = λ c j h. elim (noted.from c j h) [
      | inl old ↦ omega (arith, on.inside c j old)
      | inr e ↦ omega (arith, e)
    ];
  }

nothing_fine : (es : List Equation) (order : List Pair) → AreFine es order 0
nothing_fine es order = record { pivots = λ t l. absurd (omega arith); within = λ t l. absurd (omega arith) }

pub running_start : (es : List Equation) (order : List Pair) (work : List Row) (columns : List Column)
    → AreLoaded es order (length order) work columns → Running es order 0 work columns []
running_start es order work columns on = record {
  long = on.long;
  columns_long = on.columns_long;
  before = λ i c l. absurd (omega arith);
  behind = λ i b m. on.rows i m;
  covers = λ i c m ne. on.covers i c m ne;
  inside = on.inside;
  done_long = refl;
  done = λ i l. absurd (omega arith);
  fine = nothing_fine es order;
}

pub rows_loaded : (es : List Equation) (order : List Pair) (work : List Row) (columns : List Column)
    → AreLoaded es order (length order) work columns → AreRows (length columns) work
rows_loaded es order work columns on i i_in =
    subst (λ n. IsRow n (parts_in work i).left) (sym on.columns_long) (on.rows i (omega (arith, i_in, on.long))).left.is_row

pub factors_done : (es : List Equation) (order : List Pair) (work : List Row) (columns : List Column) (finished : List Row) (t : ℕ)
    → t ≡ length order → Running es order t work columns finished → AreFactors es order finished
factors_done es order work columns finished t all on = record {
  fine = subst (AreFine es order) all on.fine;
  long = on.done_long ∙ all;
  each = λ i l. on.done i (omega (arith, all, l));
}

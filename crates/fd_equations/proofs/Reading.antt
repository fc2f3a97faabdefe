-- What a look-up and a walk over a row read.
use Rattle.std.proofs.Common.{◌≡◌, ◌≢◌, ◌∙◌, ℕ, zero, suc, ◌+◌, ◌-◌, ◌<◌, ◌≤◌, List, length, take, drop, arith, ap, refl, sym, inl, inr}
use Rattle.std.proofs.lemmas.Bool.{cases_lt}
use Rattle.std.proofs.lemmas.List.{get_or-take, get_or-drop, get_or_default, length-take, length-drop}
use Rattle.fd_equations.specs.declared.cells.Cell.{Cell}
use Rattle.fd_pattern.specs.Patterns.{IsPattern, IsSlot, IsStart, PatternView, key}
use Rattle.fd_equations.specs.Amounts.{Amount, AreCells, IsNothingElsewhere, IsRowOf, cell_at, cell_of, empty}

-- ---- a look-up

pub looked_up : (ps : List (ℕ × ℕ)) (cells : List Cell) (row col k : ℕ) (at : ℕ × ℕ → Amount) → IsSlot ps row col k
    → AreCells ps cells at → cell_at cells k ≡ cell_of col (at (row, col))
looked_up ps cells row col k at s are =
    let e = s.row_is in
    let f = s.col_is in
    are.each k s.in_range ∙ (λ i. cell_of (f i) (at (e i, f i)))

-- ---- a walk over a row

module _ (v : PatternView) (cells : List Cell) (row s e : ℕ) (at : ℕ × ℕ → Amount) (good : IsPattern v)
    (from : IsStart v.places row s) (to : IsStart v.places (row + 1) e) (are : AreCells v.places cells at)
    (else_none : IsNothingElsewhere v.places at) where
  abbrev part_of : List Cell
  part_of = take (e - s) (drop s cells)

  rises : s ≤ e
  rises = elim (cases_lt e s) [
    | inl l ↦ absurd (omega (arith, from.before e l, to.from e (omega arith) (omega (arith, from.within))))
    | inr g ↦ g
  ]

  long : length part_of ≡ e - s
  long = omega (arith, length-take (e - s) (drop s cells), length-drop s cells, are.long, to.within, rises)

  moved : (k : ℕ) → k < e - s → cell_at part_of k ≡ cell_at cells (s + k)
  moved k l = get_or-take (e - s) (drop s cells) k empty l ∙ get_or-drop s cells k empty

  in_row : (k : ℕ) → k < e - s → (key v.places (s + k)).0 ≡ row
  in_row k l = omega (arith, from.from (s + k) (omega arith) (omega (arith, to.within)), to.before (s + k) (omega arith))

  reads : (k : ℕ) → k < e - s → cell_at part_of k ≡ cell_of (key v.places (s + k)).1 (at (row, (key v.places (s + k)).1))
  reads k l =
      let r = in_row k l in
      moved k l ∙ are.each (s + k) (omega (arith, to.within)) ∙ (λ i. cell_of (key v.places (s + k)).1 (at (r i, (key v.places (s + k)).1)))

  col_is : (k : ℕ) → k < e - s → (cell_at part_of k).col ≡ (key v.places (s + k)).1
  col_is k l = ap (λ (c : Cell). c.col) (reads k l)

  pub is_row : IsRowOf v.size at row part_of
  is_row = record {
    inside = λ k l. let m : k < e - s = omega (arith, long) in omega (arith, col_is k m, (good.inside (s + k) (0, 0) (omega (arith, to.within))).col);
    rising = λ i j lt l.
        let m : j < e - s = omega (arith, long) in
        let b = good.rising (s + i) (s + j) (omega arith) (omega (arith, to.within)) in
        omega (arith, col_is i (omega arith), col_is j m, b.columns (omega (arith, in_row i (omega arith), in_row j m)));
    each = λ k l.
        let m : k < e - s = omega (arith, long) in
        let c = sym (col_is k m) in
        reads k m ∙ (λ i. cell_of (c i) (at (row, c i)));
    all = λ col away. else_none (row, col) (λ (j, l, is). stands col away j l (get_or_default v.places j (0, 0) (row, col) l ∙ is));
  }
    where
      stands : (col : ℕ) → ((k : ℕ) → k < length part_of → (cell_at part_of k).col ≢ col) → (j : ℕ) → j < length v.places → key v.places j ≡ (row, col) → ⊥
      stands col away j l is =
          let r : (key v.places j).0 ≡ row = ap (λ (p : ℕ × ℕ). p.0) is in
          let c : (key v.places j).1 ≡ col = ap (λ (p : ℕ × ℕ). p.1) is in
          let a : s ≤ j = elim (cases_lt j s) [ inl b ↦ absurd (omega (arith, from.before j b)) | inr g ↦ g ] in
          let b : j < e = elim (cases_lt j e) [ inl b ↦ b | inr g ↦ absurd (omega (arith, to.from j g l)) ] in
          let n : s + (j - s) ≡ j = omega arith in
          away (j - s) (omega (arith, long)) (col_is (j - s) (omega arith) ∙ ap (λ m. (key v.places m).1) n ∙ c)

-- the part of the places that starts of rows part off
pub starts_rise : (v : PatternView) (row s e : ℕ) → IsStart v.places row s → IsStart v.places (row + 1) e → s ≤ e
starts_rise v row s e from to = elim (cases_lt e s) [
  | inl l ↦ absurd (omega (arith, from.before e l, to.from e (omega arith) (omega (arith, from.within))))
  | inr g ↦ g
]

-- ---- how many cells a row has

col_least : (size row : ℕ) (at : ℕ × ℕ → Amount) (cells : List Cell) → IsRowOf size at row cells → (k : ℕ) → k < length cells → k ≤ (cell_at cells k).col
col_least size row at cells h zero l = omega arith
col_least size row at cells h (suc k) l =
    let a = col_least size row at cells h k (omega arith) in
    let b = h.rising k (suc k) (omega arith) l in
    omega arith

pub few_cells : (size row : ℕ) (at : ℕ × ℕ → Amount) (cells : List Cell) → IsRowOf size at row cells → length cells ≤ size
few_cells size row at cells h = by (length cells) refl
  where
    by : (n : ℕ) → length cells ≡ n → length cells ≤ size
    by zero e = omega arith
    by (suc n) e =
        let a = col_least size row at cells h n (omega arith) in
        let b = h.inside n (omega arith) in
        omega arith

-- Cells in which contributions are exchanged for others.
use Rattle.std.proofs.Common.{◌≡◌, ◌∙◌, ℕ, ◌+◌, ◌*◌, ◌<◌, ◌≤◌, ◌^◌, ℤ, pos, ◌+ℤ◌, nat_abs, true, false, cond, List, length, take, drop, set, get_or, arith, ap, sym, refl, subst, inl, inr}
use Rattle.std.proofs.lemmas.Int.{ints}
use Rattle.std.proofs.lemmas.Bool.{cases_eq}
use Rattle.std.proofs.lemmas.List.{get_or-set_same, get_or-set_other, length-take, take-append-drop}
use Rattle.std.proofs.lemmas.List.Elements.{All-take}
use Rattle.fd_pattern.specs.fd_arith.declared.terms.Term.{Term}
use Rattle.fd_pattern.specs.fd_arith.LoadModels.{is_linear}
use Rattle.fd_mat.specs.fd_exact.SumLaws.{list_n-append}
use Rattle.fd_pattern.specs.fd_system.declared.loads.LoadAt.{LoadAt}
use Rattle.fd_equations.specs.declared.cells.Cell.{Cell}
use Rattle.fd_equations.specs.Amounts.{Amount, AreCells, AreExchanged, AreGrown, HaveCounts, HaveTermRoom, amount, cell_at, empty, more, of_rows, of_term, of_terms}
use Rattle.fd_pattern.specs.fd_system.Contributions.{term_units}
use Rattle.fd_pattern.specs.Coefficients.{count_at, linear_entry, stands_at}
use Rattle.fd_pattern.specs.Conditions.{AreLinear, IsLinear}
use Rattle.fd_equations.specs.PartLoads.{slope_count, slope_counts}
use Rattle.fd_pattern.specs.Patterns.{IsSlot, key}
use Rattle.fd_pattern.specs.Terminals.{count_magnitude, count_node, count_terminal}
use Rattle.fd_equations.proofs.Counting.{count_size, entry_size}
use Rattle.fd_equations.proofs.Lists.{list_n_more}
use Rattle.fd_equations.proofs.LoadSums.{no_load}
use Rattle.fd_equations.proofs.Growth.{IsBoth, elsewhere, here, is_at, more_nothing, more_twice, only_at, same_cell, term_amount, terms_more}

-- ---- one taken out

module _ (ps : List (ℕ × ℕ)) (cells : List Cell) (t : Term) where
  abbrev one : Amount
  one = amount (term_units t) 1 0

  -- the cell at k loses it, and stands at its place
  taken_at : (k : ℕ) (new : Cell) → length cells ≡ length ps → IsSlot ps t.row t.col k
      → ((j : ℕ) → IsSlot ps t.row t.col j → j ≡ k) → cell_at cells k ≡ more new one → (j : ℕ) → j < length ps
      → cell_at cells j ≡ more (cell_at (set cells k new) j) (only_at (t.row, t.col) one (key ps j))
  taken_at k new long at only is j l = elim (cases_eq j k) [
    | inl e ↦
        let hit : is_at (t.row, t.col) (key ps j) ≡ true =
        subst (λ n. is_at (t.row, t.col) (key ps n) ≡ true) (sym e)
        (here (t.row, t.col) (key ps k) (sym at.row_is) (sym at.col_is)) in
        let read : cell_at (set cells k new) j ≡ new = ap (cell_at (set cells k new)) e ∙ get_or-set_same cells k new empty (omega (arith, at.in_range)) in
        ap (cell_at cells) e ∙ is ∙ (λ i. more (sym read i) (amount (cond (sym hit i) (term_units t) (pos 0)) (cond (sym hit i) 1 0) (cond (sym hit i) 0 0)))
    | inr ne ↦
        let miss : is_at (t.row, t.col) (key ps j) ≡ false =
        elsewhere (t.row, t.col) (key ps j) (λ (f, g).
        ne (only j (record { in_range = l; row_is = sym f; col_is = sym g }))) in
        let read : cell_at (set cells k new) j ≡ cell_at cells j = get_or-set_other cells k j new empty ne in
        sym (more_nothing (cell_at cells j))
        ∙ (λ i. more (sym read i)
        (amount (cond (sym miss i) (term_units t) (pos 0)) (cond (sym miss i) 1 0) (cond (sym miss i) 0 0)))
  ]

  pub taken_term : (k : ℕ) (new : Cell) → length cells ≡ length ps → IsSlot ps t.row t.col k
      → ((j : ℕ) → IsSlot ps t.row t.col j → j ≡ k) → cell_at cells k ≡ more new one
      → AreGrown ps (set cells k new) cells (of_term t)
  taken_term k new long at only is j l = taken_at k new long at only is j l ∙ ap (more (cell_at (set cells k new) j)) (term_amount t (key ps j))

-- ---- one for another

more_both : (c : Cell) (a b : Amount) → more (more c a) b ≡ more (more c b) a
more_both c a b = same_cell (more (more c a) b) (more (more c b) a) refl (omega arith) (omega arith) (omega (arith, ints))

pub exchanged_one : (ps : List (ℕ × ℕ)) (a b c : List Cell) (less add : ℕ × ℕ → Amount) → AreGrown ps b a less
    → AreGrown ps b c add → AreExchanged ps a c less add
exchanged_one ps a b c less add taken added k l =
    ap (λ z. more z (less (key ps k))) (added k l)
    ∙ more_both (cell_at b k) (add (key ps k)) (less (key ps k))
    ∙ ap (λ z. more z (add (key ps k))) (sym (taken k l))

-- ---- one pair after another

pub exchanged_then : (ps : List (ℕ × ℕ)) (a b c : List Cell) (f f2 g g2 h h2 : ℕ × ℕ → Amount) → AreExchanged ps a b f f2 → AreExchanged ps b c g g2
    → ((p : ℕ × ℕ) → IsBoth (f p) (g p) (h p)) → ((p : ℕ × ℕ) → IsBoth (f2 p) (g2 p) (h2 p)) → AreExchanged ps a c h h2
exchanged_then ps a b c f f2 g g2 h h2 x y less add k l =
    let p = key ps k in
    sym (more_twice (cell_at c k) (f p) (g p) (h p) (less p))
    ∙ more_both (cell_at c k) (f p) (g p)
    ∙ ap (λ z. more z (f p)) (y k l)
    ∙ more_both (cell_at b k) (g2 p) (f p)
    ∙ ap (λ z. more z (g2 p)) (x k l)
    ∙ more_twice (cell_at a k) (f2 p) (g2 p) (h2 p) (add p)

-- ---- there is room, and there are as many as are taken out

count_take : (ts : List Term) (k : ℕ) (p : ℕ × ℕ) → count_at (take k ts) p.0 p.1 ≤ count_at ts p.0 p.1
count_take ts k p =
    let parts : count_at ts p.0 p.1 ≡ count_at (take k ts) p.0 p.1 + count_at (drop k ts) p.0 p.1 =
    ap (λ l. count_at l p.0 p.1) (sym (take-append-drop k ts))
    ∙ list_n-append (λ t. cond (stands_at p.0 p.1 t) 1 0) (take k ts) (drop k ts) in
    omega (arith, parts)

module _ (ps : List (ℕ × ℕ)) (a b : List Cell) (n : ℕ) (old new : List Term) (k : ℕ)
    (x : AreExchanged ps a b (of_terms (take k old)) (of_terms (take k new))) where
  pub room_between : AreLinear n old → AreLinear n new → HaveTermRoom ps a (2 ^ 78) (2 ^ 24) → HaveTermRoom ps b (2 ^ 80) (2 ^ 25)
  room_between ol nl room j l =
      let p = key ps j in
      let cell = x j l in
      let r = room j l in
      let few = ol.few in
      let few_new = nl.few in
      let m : length (take k old) ≤ 2 ^ 24 = omega (arith, length-take k old) in
      let m_new : length (take k new) ≤ 2 ^ 24 = omega (arith, length-take k new) in
      let o = entry_size n (take k old) p.0 p.1 (All-take (IsLinear n) k old ol.each) in
      let e = entry_size n (take k new) p.0 p.1 (All-take (IsLinear n) k new nl.each) in
      let units : ((cell_at b j).units +ℤ linear_entry (take k old) p.0 p.1)
      ≡ ((cell_at a j).units +ℤ linear_entry (take k new) p.0 p.1) =
      ap (λ (c : Cell). c.units) cell in
      let count : (cell_at b j).count + count_at (take k old) p.0 p.1 ≡ (cell_at a j).count + count_at (take k new) p.0 p.1 = ap (λ (c : Cell). c.count) cell in
      let most = count_size (take k new) p.0 p.1 in (
        size (cell_at a j).units (cell_at b j).units (linear_entry (take k old) p.0 p.1)
            (linear_entry (take k new) p.0 p.1) units r.0 (omega (arith, o, m)) (omega (arith, e, m_new)),
        omega (arith, count, most, m_new, r.1),
      )
    where
      size : (a b o e : ℤ) → b +ℤ o ≡ a +ℤ e → nat_abs a ≤ 2 ^ 78 → nat_abs o ≤ 2 ^ 78 → nat_abs e ≤ 2 ^ 78 → nat_abs b ≤ 2 ^ 80
      size a b o e h i j k = omega (arith, ints)

  pub counts_between : (d : Term) → k < length old → HaveCounts ps a (λ p. count_at old p.0 p.1) → HaveCounts ps b (λ p. (of_term (get_or old k d) p).count)
  counts_between d h counts j l =
      let p = key ps j in
      let cell = x j l in
      let count : (cell_at b j).count + count_at (take k old) p.0 p.1 ≡ (cell_at a j).count + count_at (take k new) p.0 p.1 = ap (λ (c : Cell). c.count) cell in
      let next = (terms_more old k d h p).count in
      omega (arith, count, next, count_take old (k + 1) p, counts j l)

-- ---- all of them

-- cells of rows have room, and as many as there are
pub rows_room : (ps : List (ℕ × ℕ)) (cells : List Cell) (n : ℕ) (ts : List Term) (us : List LoadAt) → AreLinear n ts
    → AreCells ps cells (of_rows ts us) → HaveTermRoom ps cells (2 ^ 78) (2 ^ 24)
rows_room ps cells n ts us linear are j l =
    let p = key ps j in
    let size = entry_size n ts p.0 p.1 linear.each in
    let most = count_size ts p.0 p.1 in
    let few = linear.few in
    let cell = are.each j l in
    let units : (cell_at cells j).units ≡ linear_entry ts p.0 p.1 = ap (λ (c : Cell). c.units) cell in
    let count : (cell_at cells j).count ≡ count_at ts p.0 p.1 = ap (λ (c : Cell). c.count) cell in
    (subst (λ z. nat_abs z ≤ 2 ^ 78) (sym units) (omega arith), omega arith)

-- ---- part loads that stand alike

slope_same : (row col : ℕ) (u v : LoadAt) → u.load.model ≡ v.load.model → u.first ≡ v.first → u.second ≡ v.second
    → u.magnitude ≡ v.magnitude → slope_count row col u ≡ slope_count row col v
unfolding slope_count count_terminal
slope_same row col u v model first second magnitude = λ i.
    cond (is_linear (model i)) 0
    (((count_node row (first i) + count_node row (second i)) + count_magnitude row (magnitude i))
    * ((count_node col (first i) + count_node col (second i)) + count_magnitude col (magnitude i)))

pub alike_more : (us vs : List LoadAt) (k : ℕ) → k < length us → k < length vs
    → ((row col : ℕ) → slope_counts (take k us) row col ≡ slope_counts (take k vs) row col)
    → (get_or us k no_load).load.model ≡ (get_or vs k no_load).load.model
    → (get_or us k no_load).first ≡ (get_or vs k no_load).first
    → (get_or us k no_load).second ≡ (get_or vs k no_load).second
    → (get_or us k no_load).magnitude ≡ (get_or vs k no_load).magnitude
    → (row col : ℕ) → slope_counts (take (k + 1) us) row col ≡ slope_counts (take (k + 1) vs) row col
alike_more us vs k h i so_far model first second magnitude row col =
    list_n_more (slope_count row col) us k no_load h
    ∙ (λ j.
    so_far row col j + slope_same row col (get_or us k no_load) (get_or vs k no_load) model first second magnitude j)
    ∙ sym (list_n_more (slope_count row col) vs k no_load i)

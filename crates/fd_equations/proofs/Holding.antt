-- What rows by non-zeros hold: the sums of their contributions and the numbers of slopes of their part loads.
use Rattle.std.proofs.Common.{◌≡◌, ◌∙◌, ◌⊎◌, ℕ, zero, suc, ◌+◌, ◌*◌, ◌≤◌, ◌^◌, ℤ, pos, neg_ℤ, ◌+ℤ◌, Bool, true, false, cond, eqb, List, [], ◌∷◌, Option, Some, None, length, map, arith, ap, refl, sym, subst, inl, inr}
use Rattle.std.specs.List.{All, Contains}
use Rattle.std.proofs.Math.Nat.{mul-le-mul}
use Rattle.std.proofs.lemmas.Int.{ints}
use Rattle.fd_mat.specs.fd_exact.Sums.{list_z}
use Rattle.fd_pattern.specs.fd_arith.declared.terms.Term.{Term}
use Rattle.fd_pattern.specs.fd_arith.declared.terms.NodeAt.{NodeAt}
use Rattle.fd_pattern.specs.fd_arith.declared.terms.NodeAt.TheVariants.{Ground, Node}
use Rattle.fd_pattern.specs.fd_load.declared.slopes.Slopes.{Slopes}
use Rattle.fd_pattern.specs.fd_arith.LoadModels.{is_linear}
use Rattle.fd_pattern.specs.fd_system.declared.loads.LoadAt.{LoadAt}
use Rattle.fd_equations.specs.declared.cells.Cell.{Cell}
use Rattle.fd_equations.specs.Amounts.{Amount, RowsView, AreCells, AreGrown, HaveSlopeRoom, IsNothingElsewhere, amount, cell_of, of_both, of_loads, of_rows, of_terms, rows_with, without_slopes}
use Rattle.fd_pattern.specs.Conditions.{AreLinear}
use Rattle.fd_equations.specs.Holding.{AreRows, CanHold}
use Rattle.fd_equations.specs.Matrices.{IsMatrix, MatrixView, matrix_with}
use Rattle.fd_equations.specs.PartLoads.{load_entry, no_slopes, slope_count, slope_counts, slope_in}
use Rattle.fd_pattern.specs.PatternPlaces.{places_of}
use Rattle.fd_pattern.specs.Patterns.{PatternView}
use Rattle.fd_pattern.specs.Terminals.{IsConnected, at_magnitude, at_node, at_terminal, count_magnitude, count_node, count_terminal}
use Rattle.fd_equations.proofs.Elsewhere.{nothing_elsewhere}
use Rattle.fd_equations.proofs.Growth.{IsBoth, bare_cells, both_parts, cells_then, slopes_room}

-- ---- slopes of 0 add nothing

zero_z : (b : Bool) → cond b (pos 0) (pos 0) ≡ pos 0
zero_z true = refl
zero_z false = refl

zero_node : (l : ℕ) (node : NodeAt) → at_node l node (pos 0) (pos 0) ≡ pos 0
zero_node l Ground = refl
zero_node l (Node k) = λ i. zero_z (eqb (2 * k) l) i +ℤ zero_z (eqb (2 * k + 1) l) i

zero_magnitude : (l : ℕ) (place : Option ℕ) → at_magnitude l place (pos 0) ≡ pos 0
zero_magnitude l None = refl
zero_magnitude l (Some k) = zero_z (eqb k l)

zero_terminal : (l : ℕ) (u : LoadAt) → at_terminal l u (pos 0) (pos 0) (pos 0) ≡ pos 0
unfolding at_terminal
zero_terminal l u = λ i. (zero_node l u.first i +ℤ zero_node l u.second i) +ℤ zero_magnitude l u.magnitude i

zero_entry : (u : LoadAt) (row col : ℕ) → load_entry u no_slopes row col ≡ pos 0
unfolding load_entry no_slopes
zero_entry u row col =
    ap (λ z. cond (is_linear u.load.model) (pos 0) z)
    (ap (λ z. at_terminal row u z z z) (zero_terminal col u) ∙ zero_terminal row u)
    ∙ zero_z (is_linear u.load.model)

zero_sum : (us : List LoadAt) (row col : ℕ) → list_z (λ u. load_entry u no_slopes row col) us ≡ pos 0
zero_sum [] row col = refl
zero_sum (u ∷ us) row col = λ i. zero_entry u row col i +ℤ zero_sum us row col i

pub counted : (ts : List Term) (us : List LoadAt) (p : ℕ × ℕ) → IsBoth (of_terms ts p) (of_loads (λ u. no_slopes) us p) (of_rows ts us p)
counted ts us p = record { units = let z = zero_sum us p.0 p.1 in omega (arith, ints, z); count = omega arith; slopes = omega arith }

-- ---- what a look-up reads

pub read_in : (ps : List (ℕ × ℕ)) (cells found : List Cell) (ts : List Term) (us : List LoadAt) (row col : ℕ)
    (r : Cell)
    → found ≡ cells → AreCells ps cells (of_rows ts us) → IsNothingElsewhere ps (of_rows ts us)
    → ((at : ℕ × ℕ → Amount) → AreCells ps found at → IsNothingElsewhere ps at → r ≡ cell_of col (at (row, col)))
    → r ≡ cell_of col (of_rows ts us (row, col))
read_in ps cells found ts us row col r e are none h = h (of_rows ts us) (subst (λ l. AreCells ps l (of_rows ts us)) (sym e) are) none

-- ---- where there is no slope, nothing is added

none_node : (l : ℕ) (node : NodeAt) (re im : ℤ) → count_node l node ≡ 0 → at_node l node re im ≡ pos 0
none_node l Ground re im h = refl
none_node l (Node k) re im h = by (eqb (2 * k) l) (eqb (2 * k + 1) l) h
  where
    by : (b c : Bool) → ◌≡◌ {A = ℕ} (cond b 1 0 + cond c 1 0) 0 → cond b re (pos 0) +ℤ cond c im (pos 0) ≡ pos 0
    by true c e = absurd (omega arith)
    by false true e = absurd (omega arith)
    by false false e = refl

none_magnitude : (l : ℕ) (place : Option ℕ) (z : ℤ) → count_magnitude l place ≡ 0 → at_magnitude l place z ≡ pos 0
none_magnitude l None z h = refl
none_magnitude l (Some k) z h = by (eqb k l) h
  where
    by : (b : Bool) → ◌≡◌ {A = ℕ} (cond b 1 0) 0 → cond b z (pos 0) ≡ pos 0
    by true e = absurd (omega arith)
    by false e = refl

none_terminal : (l : ℕ) (u : LoadAt) (re im z : ℤ) → count_terminal l u ≡ 0 → at_terminal l u re im z ≡ pos 0
unfolding at_terminal count_terminal
none_terminal l u re im z h =
    let a = none_node l u.first re im (omega arith) in
    let b = none_node l u.second (neg_ℤ re) (neg_ℤ im) (omega arith) in
    let m = none_magnitude l u.magnitude z (omega arith) in
    λ i. (a i +ℤ b i) +ℤ m i

one_none : (a b : ℕ) → a * b ≡ 0 → (a ≡ 0) ⊎ (b ≡ 0)
one_none zero b h = inl refl
one_none (suc a) zero h = inr refl
one_none (suc a) (suc b) h =
    let x : 1 ≤ suc a = omega arith in
    let y : 1 ≤ suc b = omega arith in
    let p : 1 * 1 ≤ suc a * suc b = mul-le-mul x y in
    absurd (omega (arith, p, h))

entry_none : (u : LoadAt) (s : Slopes) (row col : ℕ) → slope_count row col u ≡ 0 → load_entry u s row col ≡ pos 0
unfolding load_entry slope_count
entry_none u s row col h = by (is_linear u.load.model) h
  where
    by : (b : Bool) → cond b 0 (count_terminal row u * count_terminal col u) ≡ 0
        → cond b (pos 0) (at_terminal row u (slope_in col u s.real) (slope_in col u s.imaginary) (slope_in col u s.magnitude)) ≡ pos 0
    by true e = refl
    by false e = elim (one_none (count_terminal row u) (count_terminal col u) e) [
      | inl z ↦ none_terminal row u (slope_in col u s.real) (slope_in col u s.imaginary) (slope_in col u s.magnitude) z
      | inr z ↦
          let a = none_terminal col u s.real.p s.real.q s.real.m z in
          let b = none_terminal col u s.imaginary.p s.imaginary.q s.imaginary.m z in
          let c = none_terminal col u s.magnitude.p s.magnitude.q s.magnitude.m z in
          (λ i. at_terminal row u (a i) (b i) (c i)) ∙ zero_terminal row u
    ]

entries_none : (f : LoadAt → Slopes) (us : List LoadAt) (row col : ℕ) → slope_counts us row col ≡ 0 → list_z (λ u. load_entry u (f u) row col) us ≡ pos 0
entries_none f [] row col h = refl
entries_none f (u ∷ us) row col h =
    let a = entry_none u (f u) row col (omega arith) in
    let b = entries_none f us row col (omega arith) in
    λ i. a i +ℤ b i

-- where nothing stands among the contributions and the slopes, nothing stands whatever the slopes are
pub nothing_still : (ps : List (ℕ × ℕ)) (ts : List Term) (us : List LoadAt) (f : LoadAt → Slopes)
    → IsNothingElsewhere ps (of_rows ts us) → IsNothingElsewhere ps (of_both ts f us)
nothing_still ps ts us f none p away =
    let n = none p away in
    let a = ap (λ (x : Amount). x.units) n in
    let b = ap (λ (x : Amount). x.count) n in
    let c = ap (λ (x : Amount). x.slopes) n in
    let d = entries_none f us p.0 p.1 c in
    λ i. amount (a i +ℤ d i) (b i) (c i)

-- ---- a matrix over the places of rows

pub matrix_is : (n : ℕ) (m : MatrixView) (cells : List Cell) (ts : List Term) (us : List LoadAt) (f : LoadAt → Slopes)
    → m.size ≡ n → length m.cells ≡ length cells → AreCells m.places cells (of_terms ts)
    → AreGrown m.places cells m.cells (of_loads f us) → HaveSlopeRoom m.places m.cells (2 ^ 100) (2 ^ 27)
    → IsNothingElsewhere m.places (of_rows ts us) → IsMatrix n m (of_both ts f us)
matrix_is n m cells ts us f size long are grown room none = record {
  size = size;
  cells = cells_then m.places cells m.cells (of_terms ts) (of_loads f us) (of_both ts f us) are long grown (both_parts ts f us);
  nothing = nothing_still m.places ts us f none;
  small = room;
}

-- the matrix of rows with these slopes, as calls made it
pub matrix_made : (v : RowsView) (p : PatternView) (ts : List Term) (us : List LoadAt)
    (cells bare out made : List Cell) (f : LoadAt → Slopes) (m : MatrixView) (r s : ℕ)
    → rows_with p ts us r s ≡ v → AreRows p ts us cells
    → bare ≡ map without_slopes cells → AreGrown p.places bare out (of_loads f us)
    → HaveSlopeRoom p.places out (2 ^ 100) (2 ^ 27) → length out ≡ length bare → made ≡ out → m ≡ matrix_with p made
    → IsMatrix v.size m (of_both v.terms f v.loads)
matrix_made v p ts us cells bare out made f m r s view are e grown room long o is =
    subst (λ (w : RowsView). IsMatrix w.size m (of_both w.terms f w.loads)) view
    (subst (λ (w : MatrixView). IsMatrix p.size w (of_both ts f us)) (sym (is ∙ ap (matrix_with p) o))
    (matrix_is p.size (matrix_with p out) bare ts us f refl long
    (subst (λ l. AreCells p.places l (of_terms ts)) (sym e) (bare_cells p.places cells ts us are.sums)) grown room
    are.nothing))

pub bare_room : (p : PatternView) (ts : List Term) (us : List LoadAt) (cells bare : List Cell) → AreRows p ts us cells
    → bare ≡ map without_slopes cells → HaveSlopeRoom p.places bare (2 ^ 78) 0
bare_room p ts us cells bare are e =
    slopes_room p.places bare p.size ts are.linear
    (subst (λ l. AreCells p.places l (of_terms ts)) (sym e) (bare_cells p.places cells ts us are.sums))

-- rows of what a pattern reaches
pub held_rows : (v : RowsView) (p : PatternView) (ts : List Term) (us : List LoadAt) (cells : List Cell)
    → p.size ≡ v.size → p.places ≡ v.places → p.size ≤ 2 ^ 11 → CanHold v ts us
    → AreCells p.places cells (of_rows ts us) → AreRows p ts us cells
held_rows v p ts us cells size places small h sums =
    let reached = subst (λ ps. All (Contains ps) (places_of ts us)) (sym places) h.reached in
    record {
      small = small;
      linear = subst (λ n. AreLinear n ts) (sym size) h.linear;
      loads = subst (λ n. All (IsConnected n) us) (sym size) h.loads;
      few = h.few;
      sums = sums;
      reached = reached;
      nothing = nothing_elsewhere p.places ts us reached;
    }

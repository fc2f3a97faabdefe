-- Cells that grow by what stands at their places.
use Rattle.std.proofs.Common.{◌≡◌, ◌∙◌, ℕ, ◌+◌, ◌<◌, ◌≤◌, ◌^◌, ℤ, pos, ◌+ℤ◌, nat_abs, Bool, true, false, cond, eqb, ◌&&◌, List, length, take, get_or, set, map, arith, ap, sym, refl, subst, inl, inr}
use Rattle.std.specs.List.{Contains}
use Rattle.std.proofs.lemmas.Int.{ints}
use Rattle.std.proofs.lemmas.Bool.{cases_eq, eq-eqb}
use Rattle.std.proofs.lemmas.List.{get_or-set_same, get_or-set_other, get_or-map, length-map, length-take}
use Rattle.std.proofs.lemmas.List.Elements.{All-take, Contains-get_or}
use Rattle.fd_pattern.specs.fd_arith.declared.terms.Term.{Term}
use Rattle.fd_pattern.specs.fd_load.declared.slopes.Slopes.{Slopes}
use Rattle.fd_pattern.specs.fd_system.declared.loads.LoadAt.{LoadAt}
use Rattle.fd_equations.specs.declared.cells.Cell.{Cell}
use Rattle.fd_equations.specs.Amounts.{Amount, AreCells, AreGrown, HaveSlopeRoom, HaveTermRoom, amount, cell_at, cell_of, empty, more, nothing, of_both, of_load, of_loads, of_rows, of_term, of_terms, without_slopes}
use Rattle.fd_pattern.specs.fd_system.Contributions.{term_units}
use Rattle.fd_pattern.specs.Coefficients.{count_at, linear_entry, stands_at}
use Rattle.fd_pattern.specs.Conditions.{AreLinear, IsLinear}
use Rattle.fd_equations.specs.PartLoads.{load_entry, slope_count}
use Rattle.fd_pattern.specs.Patterns.{IsSlot, key}
use Rattle.fd_equations.proofs.Lists.{list_n_more, list_z_more}
use Rattle.fd_equations.proofs.Counting.{count_size, entry_size}

pub same_cell : (a b : Cell) → a.col ≡ b.col → a.count ≡ b.count → a.slopes ≡ b.slopes → a.units ≡ b.units → a ≡ b
same_cell a b e f g h = λ i. record { col = e i; count = f i; slopes = g i; units = h i }

pub more_nothing : (c : Cell) → more c nothing ≡ c
more_nothing c = same_cell (more c nothing) c refl (omega arith) (omega arith) (omega (arith, ints))

-- an amount is the sum of two
pub record IsBoth (a b both : Amount) : Type 0 where
  pub units : both.units ≡ (a.units +ℤ b.units)
  pub count : both.count ≡ a.count + b.count
  pub slopes : both.slopes ≡ a.slopes + b.slopes

pub more_twice : (c : Cell) (a b both : Amount) → IsBoth a b both → more (more c a) b ≡ more c both
more_twice c a b both h = same_cell (more (more c a) b) (more c both) refl (omega (arith, h.count)) (omega (arith, h.slopes)) (omega (arith, ints, h.units))

pub grown_then : (ps : List (ℕ × ℕ)) (a b c : List Cell) (f g h : ℕ × ℕ → Amount) → AreGrown ps a b f
    → AreGrown ps b c g → ((p : ℕ × ℕ) → IsBoth (f p) (g p) (h p)) → AreGrown ps a c h
grown_then ps a b c f g h x y both k l =
    y k l
    ∙ ap (λ z. more z (g (key ps k))) (x k l)
    ∙ more_twice (cell_at a k) (f (key ps k)) (g (key ps k)) (h (key ps k)) (both (key ps k))

-- nothing more
pub grown_none : (ps : List (ℕ × ℕ)) (a : List Cell) → AreGrown ps a a (λ p. nothing)
grown_none ps a k l = sym (more_nothing (cell_at a k))

-- the same growth, written in another way
pub grown_as : (ps : List (ℕ × ℕ)) (a b : List Cell) (f g : ℕ × ℕ → Amount) → AreGrown ps a b f → ((p : ℕ × ℕ) → f p ≡ g p) → AreGrown ps a b g
grown_as ps a b f g x e k l = x k l ∙ ap (more (cell_at a k)) (e (key ps k))

more_cell : (col : ℕ) (a b both : Amount) → IsBoth a b both → more (cell_of col a) b ≡ cell_of col both
more_cell col a b both h =
    same_cell (more (cell_of col a) b) (cell_of col both) refl (omega (arith, h.count)) (omega (arith, h.slopes))
    (omega (arith, ints, h.units))

pub cells_then : (ps : List (ℕ × ℕ)) (a b : List Cell) (f g h : ℕ × ℕ → Amount) → AreCells ps a f
    → length b ≡ length a → AreGrown ps a b g → ((p : ℕ × ℕ) → IsBoth (f p) (g p) (h p)) → AreCells ps b h
cells_then ps a b f g h x e y both = record {
  long = e ∙ x.long;
  each = λ k l. y k l ∙ ap (λ z. more z (g (key ps k))) (x.each k l) ∙ more_cell (key ps k).1 (f (key ps k)) (g (key ps k)) (h (key ps k)) (both (key ps k));
}

pub same_amount : (a b : Amount) → a.units ≡ b.units → a.count ≡ b.count → a.slopes ≡ b.slopes → a ≡ b
same_amount a b e f g = λ i. record { units = e i; count = f i; slopes = g i }

-- ---- one more at a place

abbrev pub is_at : ℕ × ℕ → ℕ × ℕ → Bool
is_at q p = eqb q.0 p.0 && eqb q.1 p.1

pub here : (q p : ℕ × ℕ) → q.0 ≡ p.0 → q.1 ≡ p.1 → is_at q p ≡ true
here q p e f = ap (λ b. b && eqb q.1 p.1) (eq-eqb q.0 p.0 e) ∙ eq-eqb q.1 p.1 f

pub elsewhere : (q p : ℕ × ℕ) → ((q.0 ≡ p.0) × (q.1 ≡ p.1) → ⊥) → is_at q p ≡ false
elsewhere q p h = by_test (is_at q p) refl
  where
    by_test : (b : Bool) → is_at q p ≡ b → is_at q p ≡ false
    by_test true e = let f : q.0 ≡ p.0 = grind arith in let g : q.1 ≡ p.1 = grind arith in absurd (h (f, g))
    by_test false e = e

-- so much at q, and nothing elsewhere
abbrev pub only_at : ℕ × ℕ → Amount → ℕ × ℕ → Amount
only_at q a p = amount (cond (is_at q p) a.units (pos 0)) (cond (is_at q p) a.count 0) (cond (is_at q p) a.slopes 0)

module _ (ps : List (ℕ × ℕ)) (cells : List Cell) (q : ℕ × ℕ) (a : Amount) where
  -- the cell at k has this more, and stands at the place q
  grown_at : (k : ℕ) (new : Cell) → length cells ≡ length ps → IsSlot ps q.0 q.1 k
      → ((j : ℕ) → IsSlot ps q.0 q.1 j → j ≡ k) → new ≡ more (cell_at cells k) a
      → AreGrown ps cells (set cells k new) (only_at q a)
  grown_at k new long at only is j l = elim (cases_eq j k) [
    | inl e ↦
        let hit : is_at q (key ps j) ≡ true = subst (λ n. is_at q (key ps n) ≡ true) (sym e) (here q (key ps k) (sym at.row_is) (sym at.col_is)) in
        let read : cell_at (set cells k new) j ≡ new = ap (cell_at (set cells k new)) e ∙ get_or-set_same cells k new empty (omega (arith, at.in_range)) in
        read
        ∙ is
        ∙ ap (λ n. more (cell_at cells n) a) (sym e)
        ∙ (λ i. more (cell_at cells j)
        (amount (cond (sym hit i) a.units (pos 0)) (cond (sym hit i) a.count 0) (cond (sym hit i) a.slopes 0)))
    | inr ne ↦
        let miss : is_at q (key ps j) ≡ false = elsewhere q (key ps j) (λ (f, g). ne (only j (record { in_range = l; row_is = sym f; col_is = sym g }))) in
        let read : cell_at (set cells k new) j ≡ cell_at cells j = get_or-set_other cells k j new empty ne in
        read
        ∙ sym (more_nothing (cell_at cells j))
        ∙ (λ i. more (cell_at cells j)
        (amount (cond (sym miss i) a.units (pos 0)) (cond (sym miss i) a.count 0) (cond (sym miss i) a.slopes 0)))
  ]

  -- no cell stands at the place q
  grown_missed : (Contains ps q → ⊥) → AreGrown ps cells cells (only_at q a)
  grown_missed none j l =
      let has : Contains ps (key ps j) = Contains-get_or ps j (0, 0) l in
      let miss : is_at q (key ps j) ≡ false = elsewhere q (key ps j) (λ (f, g). none (subst (Contains ps) (λ i. (sym f i, sym g i)) has)) in
      sym (more_nothing (cell_at cells j))
      ∙ (λ i. more (cell_at cells j)
      (amount (cond (sym miss i) a.units (pos 0)) (cond (sym miss i) a.count 0) (cond (sym miss i) a.slopes 0)))

cond_zero : (b : Bool) → ◌≡◌ {A = ℕ} (cond b 0 0) 0
cond_zero true = refl
cond_zero false = refl

pub term_amount : (t : Term) (p : ℕ × ℕ) → only_at (t.row, t.col) (amount (term_units t) 1 0) p ≡ of_term t p
term_amount t p = λ i. amount (cond (is_at (t.row, t.col) p) (term_units t) (pos 0)) (cond (is_at (t.row, t.col) p) 1 0) (cond_zero (is_at (t.row, t.col) p) i)

abbrev pub slope_at : ℕ → ℕ → ℤ → ℕ × ℕ → Amount
slope_at row col units p = amount (cond (eqb row p.0 && eqb col p.1) units (pos 0)) 0 (cond (eqb row p.0 && eqb col p.1) 1 0)

slope_amount : (row col : ℕ) (units : ℤ) (p : ℕ × ℕ) → only_at (row, col) (amount units 0 1) p ≡ slope_at row col units p
slope_amount row col units p = λ i. amount (cond (is_at (row, col) p) units (pos 0)) (cond_zero (is_at (row, col) p) i) (cond (is_at (row, col) p) 1 0)

pub grown_term : (ps : List (ℕ × ℕ)) (cells : List Cell) (t : Term) (k : ℕ) (new : Cell) → length cells ≡ length ps
    → IsSlot ps t.row t.col k → ((j : ℕ) → IsSlot ps t.row t.col j → j ≡ k)
    → new ≡ more (cell_at cells k) (amount (term_units t) 1 0) → AreGrown ps cells (set cells k new) (of_term t)
grown_term ps cells t k new long at only is =
    grown_as ps cells (set cells k new) (only_at (t.row, t.col) (amount (term_units t) 1 0)) (of_term t)
    (grown_at ps cells (t.row, t.col) (amount (term_units t) 1 0) k new long at only is) (term_amount t)

pub missed_term : (ps : List (ℕ × ℕ)) (cells : List Cell) (t : Term) → (Contains ps (t.row, t.col) → ⊥) → AreGrown ps cells cells (of_term t)
missed_term ps cells t none =
    grown_as ps cells cells (only_at (t.row, t.col) (amount (term_units t) 1 0)) (of_term t)
    (grown_missed ps cells (t.row, t.col) (amount (term_units t) 1 0) none) (term_amount t)

pub grown_slope : (ps : List (ℕ × ℕ)) (cells : List Cell) (row col : ℕ) (units : ℤ) (k : ℕ) (new : Cell)
    → length cells ≡ length ps → IsSlot ps row col k → ((j : ℕ) → IsSlot ps row col j → j ≡ k)
    → new ≡ more (cell_at cells k) (amount units 0 1) → AreGrown ps cells (set cells k new) (slope_at row col units)
grown_slope ps cells row col units k new long at only is =
    grown_as ps cells (set cells k new) (only_at (row, col) (amount units 0 1)) (slope_at row col units)
    (grown_at ps cells (row, col) (amount units 0 1) k new long at only is) (slope_amount row col units)

pub missed_slope : (ps : List (ℕ × ℕ)) (cells : List Cell) (row col : ℕ) (units : ℤ) → (Contains ps (row, col) → ⊥)
    → AreGrown ps cells cells (slope_at row col units)
missed_slope ps cells row col units none =
    grown_as ps cells cells (only_at (row, col) (amount units 0 1)) (slope_at row col units)
    (grown_missed ps cells (row, col) (amount units 0 1) none) (slope_amount row col units)

-- ---- one more of a list

-- a contribution for places outside a list
abbrev pub no_term : Term
no_term = record { row = 0; col = 0; num = pos 0; den = pos 0 }

pub terms_more : (ts : List Term) (k : ℕ) (d : Term) → k < length ts → (p : ℕ × ℕ)
    → IsBoth (of_terms (take k ts) p) (of_term (get_or ts k d) p) (of_terms (take (k + 1) ts) p)
terms_more ts k d h p = record {
  units = list_z_more (λ t. cond (stands_at p.0 p.1 t) (term_units t) (pos 0)) ts k d h;
  count = list_n_more (λ t. cond (stands_at p.0 p.1 t) 1 0) ts k d h;
  slopes = omega arith;
}

pub loads_more : (f : LoadAt → Slopes) (us : List LoadAt) (k : ℕ) (d : LoadAt) → k < length us → (p : ℕ × ℕ)
    → IsBoth (of_loads f (take k us) p) (of_load (get_or us k d) (f (get_or us k d)) p)
    (of_loads f (take (k + 1) us) p)
loads_more f us k d h p = record {
  units = list_z_more (λ u. load_entry u (f u) p.0 p.1) us k d h;
  count = omega arith;
  slopes = list_n_more (slope_count p.0 p.1) us k d h;
}

-- ---- there is room

pub cells_room : (ps : List (ℕ × ℕ)) (cells : List Cell) (n : ℕ) (ts : List Term) (k : ℕ) → AreLinear n ts
    → AreCells ps cells (of_terms (take k ts)) → HaveTermRoom ps cells (2 ^ 81) (2 ^ 26)
cells_room ps cells n ts k linear are j l =
    let p = key ps j in
    let a = entry_size n (take k ts) p.0 p.1 (All-take (IsLinear n) k ts linear.each) in
    let b = count_size (take k ts) p.0 p.1 in
    let few = linear.few in
    let m : length (take k ts) ≤ 2 ^ 24 = omega (arith, length-take k ts) in
    let cell = are.each j l in
    let units : (cell_at cells j).units ≡ linear_entry (take k ts) p.0 p.1 = ap (λ (c : Cell). c.units) cell in
    let count : (cell_at cells j).count ≡ count_at (take k ts) p.0 p.1 = ap (λ (c : Cell). c.count) cell in
    (subst (λ z. nat_abs z ≤ 2 ^ 81) (sym units) (omega arith), omega arith)

pub slopes_room : (ps : List (ℕ × ℕ)) (cells : List Cell) (n : ℕ) (ts : List Term) → AreLinear n ts
    → AreCells ps cells (of_terms ts) → HaveSlopeRoom ps cells (2 ^ 78) 0
slopes_room ps cells n ts linear are j l =
    let p = key ps j in
    let a = entry_size n ts p.0 p.1 linear.each in
    let few = linear.few in
    let cell = are.each j l in
    let units : (cell_at cells j).units ≡ linear_entry ts p.0 p.1 = ap (λ (c : Cell). c.units) cell in
    let slopes : (cell_at cells j).slopes ≡ 0 = ap (λ (c : Cell). c.slopes) cell in
    (subst (λ z. nat_abs z ≤ 2 ^ 78) (sym units) (omega arith), omega arith)

-- what grows by little has room after it
pub room_after : (ps : List (ℕ × ℕ)) (old new : List Cell) (add : ℕ × ℕ → Amount) (b m t n k s : ℕ) → b + m ≤ t
    → n + k ≤ s → AreGrown ps old new add → HaveSlopeRoom ps old b n
    → ((p : ℕ × ℕ) → (nat_abs (add p).units ≤ m) × ((add p).slopes ≤ k)) → HaveSlopeRoom ps new t s
room_after ps old new add b m t n k s e f grown room small j l =
    let cell = grown j l in
    let r = room j l in
    let q = small (key ps j) in
    let units : (cell_at new j).units ≡ ((cell_at old j).units +ℤ (add (key ps j)).units) = ap (λ (c : Cell). c.units) cell in
    let slopes : (cell_at new j).slopes ≡ (cell_at old j).slopes + (add (key ps j)).slopes = ap (λ (c : Cell). c.slopes) cell in
    (subst (λ z. nat_abs z ≤ t) (sym units) (sum (cell_at old j).units (add (key ps j)).units r.0 q.0), omega (arith, r.1, q.1))
  where
    sum : (x y : ℤ) → nat_abs x ≤ b → nat_abs y ≤ m → nat_abs (x +ℤ y) ≤ t
    sum x y h i = omega (arith, ints)

-- ---- cells without slopes

pub bare_cells : (ps : List (ℕ × ℕ)) (cells : List Cell) (ts : List Term) (us : List LoadAt)
    → AreCells ps cells (of_rows ts us) → AreCells ps (map without_slopes cells) (of_terms ts)
bare_cells ps cells ts us are = record {
  long = length-map cells without_slopes ∙ are.long;
  each = λ k l. get_or-map without_slopes cells k empty empty (subst (λ n. k < n) (sym are.long) l) ∙ ap without_slopes (are.each k l);
}

pub both_parts : (ts : List Term) (f : LoadAt → Slopes) (us : List LoadAt) (p : ℕ × ℕ) → IsBoth (of_terms ts p) (of_loads f us p) (of_both ts f us p)
both_parts ts f us p = record { units = refl; count = omega arith; slopes = omega arith }

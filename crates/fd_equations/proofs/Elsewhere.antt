-- Nothing stands outside the places of contributions and of slopes of part loads.
use Rattle.std.proofs.Common.{◌≡◌, ◌≢◌, ◌∙◌, ℕ, zero, suc, ◌+◌, ◌*◌, pos, ◌+ℤ◌, Bool, true, false, cond, eqb, ◌&&◌, List, [], ◌∷◌, ◌++◌, Option, Some, None, map, arith, ap, refl, sym, subst, inl, inr, ◌⊎◌}
use Rattle.std.specs.List.{All, Contains, flat_map}
use Rattle.std.proofs.lemmas.Int.{ints}
use Rattle.std.proofs.lemmas.Bool.{cases_eq, eq-eqb, ne_eqb, true≢false}
use Rattle.std.proofs.lemmas.List.{get_or_default}
use Rattle.std.proofs.lemmas.List.Elements.{All-cons, All-head, All-nil, All-tail, Contains-append_left, Contains-append_right}
use Rattle.fd_pattern.specs.fd_arith.declared.terms.Term.{Term}
use Rattle.fd_pattern.specs.fd_arith.declared.terms.NodeAt.{NodeAt}
use Rattle.fd_pattern.specs.fd_arith.declared.terms.NodeAt.TheVariants.{Ground, Node}
use Rattle.fd_pattern.specs.fd_arith.LoadModels.{is_linear}
use Rattle.fd_pattern.specs.fd_system.declared.loads.LoadAt.{LoadAt}
use Rattle.fd_pattern.specs.fd_system.Contributions.{AreSmall, term_units}
use Rattle.fd_equations.specs.declared.cells.Cell.{Cell}
use Rattle.fd_equations.specs.Amounts.{Amount, AreCells, IsNothingElsewhere, amount, cell_at, empty, of_rows}
use Rattle.fd_pattern.specs.Coefficients.{count_at, linear_entry, stands_at}
use Rattle.fd_equations.specs.PartLoads.{slope_count, slope_counts}
use Rattle.fd_pattern.specs.PatternPlaces.{load_places, magnitude_places, node_places, place_of, places_of, terminal_places}
use Rattle.fd_pattern.specs.Patterns.{key}
use Rattle.fd_pattern.specs.Terminals.{count_magnitude, count_node, count_terminal}

-- ---- what holds of all of two lists

pub All-append_left : {X : Type 0} (P : X → Type 0) (xs ys : List X) → All P (xs ++ ys) → All P xs
All-append_left P [] ys h = All-nil P
All-append_left P (x ∷ xs) ys h = All-cons P x xs (All-head P x (xs ++ ys) h) (All-append_left P xs ys (All-tail P x (xs ++ ys) h))

pub All-append_right : {X : Type 0} (P : X → Type 0) (xs ys : List X) → All P (xs ++ ys) → All P ys
All-append_right P [] ys h = h
All-append_right P (x ∷ xs) ys h = All-append_right P xs ys (All-tail P x (xs ++ ys) h)

-- ---- whether a place is among places

is_at : ℕ × ℕ → ℕ × ℕ → Bool
is_at p q = eqb q.0 p.0 && eqb q.1 p.1

pub decide : (ps : List (ℕ × ℕ)) (p : ℕ × ℕ) → Contains ps p ⊎ (Contains ps p → ⊥)
unfolding is_at
decide [] p = inr (λ (k, l, e). absurd (omega arith))
decide (q ∷ ps) p = by_test (is_at p q) refl (decide ps p)
  where
    by_test : (b : Bool) → is_at p q ≡ b → Contains ps p ⊎ (Contains ps p → ⊥) → Contains (q ∷ ps) p ⊎ (Contains (q ∷ ps) p → ⊥)
    by_test true e r = let f : q.0 ≡ p.0 = grind arith in let g : q.1 ≡ p.1 = grind arith in inl (0, omega arith, λ i. (f i, g i))
    by_test false e (inl (k, l, is)) = inl (suc k, omega arith, is)
    by_test false e (inr none) = inr (λ h. elsewhere h)
      where
        elsewhere : Contains (q ∷ ps) p → ⊥
        elsewhere (zero, l, is) = true≢false (sym (eq_both is) ∙ e)
          where
            eq_both : q ≡ p → is_at p q ≡ true
            eq_both s = ap (λ b. b && eqb q.1 p.1) (eq-eqb q.0 p.0 (ap (λ (x : ℕ × ℕ). x.0) s)) ∙ eq-eqb q.1 p.1 (ap (λ (x : ℕ × ℕ). x.1) s)
        elsewhere (suc k, l, is) = none (k, omega arith, is)

-- ---- contributions

module _ (ps : List (ℕ × ℕ)) (row col : ℕ) (none : Contains ps (row, col) → ⊥) where
  missed : (t : Term) → Contains ps (place_of t) → stands_at row col t ≡ false
  missed t has = by_test (stands_at row col t) refl
    where
      by_test : (b : Bool) → stands_at row col t ≡ b → stands_at row col t ≡ false
      by_test true e = let f : t.row ≡ row = grind arith in let g : t.col ≡ col = grind arith in absurd (none (subst (Contains ps) (λ i. (f i, g i)) has))
      by_test false e = e

  no_entry : (ts : List Term) → All (Contains ps) (map place_of ts) → linear_entry ts row col ≡ pos 0
  no_entry [] h = refl
  no_entry (t ∷ ts) h =
      let e = missed t (All-head (Contains ps) (place_of t) (map place_of ts) h) in
      let r = no_entry ts (All-tail (Contains ps) (place_of t) (map place_of ts) h) in
      (λ i. cond (e i) (term_units t) (pos 0) +ℤ r i) ∙ omega (arith, ints)

  no_count : (ts : List Term) → All (Contains ps) (map place_of ts) → count_at ts row col ≡ 0
  no_count [] h = refl
  no_count (t ∷ ts) h =
      let e = missed t (All-head (Contains ps) (place_of t) (map place_of ts) h) in
      let r = no_count ts (All-tail (Contains ps) (place_of t) (map place_of ts) h) in
      (λ i. cond (e i) 1 0 + r i) ∙ omega arith

-- ---- part loads

-- an unknown of a terminal counts only if it is among its places
node_has : (l : ℕ) (node : NodeAt) → count_node l node ≢ 0 → Contains (node_places node) l
node_has l Ground h = absurd (h refl)
node_has l (Node k) h = elim (cases_eq (2 * k) l) [
  | inl e ↦ (0, omega arith, e)
  | inr ne ↦ elim (cases_eq (2 * k + 1) l) [
    | inl e ↦ (1, omega arith, e)
    | inr nc ↦ absurd (h (λ i. cond (ne_eqb (2 * k) l ne i) 1 0 + cond (ne_eqb (2 * k + 1) l nc i) 1 0))
  ]
]

magnitude_has : (l : ℕ) (place : Option ℕ) → count_magnitude l place ≢ 0 → Contains (magnitude_places place) l
magnitude_has l None h = absurd (h refl)
magnitude_has l (Some k) h = elim (cases_eq k l) [
  | inl e ↦ (0, omega arith, e)
  | inr ne ↦ absurd (h (ap (λ b. cond b 1 0) (ne_eqb k l ne)))
]

terminal_has : (l : ℕ) (u : LoadAt) → count_terminal l u ≢ 0 → Contains (terminal_places u) l
unfolding count_terminal
terminal_has l u h = elim (cases_eq (count_node l u.first) 0) [
  | inr a ↦ Contains-append_left (node_places u.first ++ node_places u.second) (magnitude_places u.magnitude) l
      (Contains-append_left (node_places u.first) (node_places u.second) l (node_has l u.first a))
  | inl a ↦ elim (cases_eq (count_node l u.second) 0) [
    | inr b ↦ Contains-append_left (node_places u.first ++ node_places u.second) (magnitude_places u.magnitude) l
        (Contains-append_right (node_places u.first) (node_places u.second) l (node_has l u.second b))
    | inl b ↦ Contains-append_right (node_places u.first ++ node_places u.second) (magnitude_places u.magnitude) l
        (magnitude_has l u.magnitude (λ c. h (omega arith)))
  ]
]

row_has : (row : ℕ) (at : List ℕ) (col : ℕ) → Contains at col → Contains {X = ℕ × ℕ} (map (λ c. (row, c)) at) (row, col)
row_has row [] col (k, l, e) = absurd (omega arith)
row_has row (a ∷ at) col (zero, l, e) = (0, omega arith, λ i. (row, e i))
row_has row (a ∷ at) col (suc k, l, e) =
    let there : Contains at col = (k, omega arith, e) in
    let (j, m, f) = row_has row at col there in
    (suc j, omega arith, f)

rows_have : (rows at : List ℕ) (row col : ℕ) → Contains rows row → Contains at col → Contains {X = ℕ × ℕ} (flat_map (λ r. map (λ c. (r, c)) at) rows) (row, col)
rows_have [] at row col (k, l, e) has = absurd (omega arith)
rows_have (r ∷ rows) at row col (zero, l, e) has =
    subst (λ q. Contains {X = ℕ × ℕ} (map (λ c. (r, c)) at ++ flat_map (λ r. map (λ c. (r, c)) at) rows) (q, col)) e
    (Contains-append_left (map (λ c. (r, c)) at) (flat_map (λ r. map (λ c. (r, c)) at) rows) (r, col) (row_has r at col has))
rows_have (r ∷ rows) at row col (suc k, l, e) has =
    Contains-append_right (map (λ c. (r, c)) at) (flat_map (λ r. map (λ c. (r, c)) at) rows) (row, col)
    (let there : Contains rows row = (k, omega arith, e) in rows_have rows at row col there has)

product_zero : (a b : ℕ) → a ≡ 0 → a * b ≡ 0
product_zero a b e = ap (λ n. n * b) e ∙ omega arith

product_none : (a b : ℕ) → b ≡ 0 → a * b ≡ 0
product_none a b e = ap (λ n. a * n) e ∙ omega arith

module _ (ps : List (ℕ × ℕ)) (row col : ℕ) (none : Contains ps (row, col) → ⊥) where
  no_square : (u : LoadAt) → All (Contains ps) (load_places u) → count_terminal row u * count_terminal col u ≡ 0
  no_square u h = elim (cases_eq (count_terminal row u) 0) [
    | inl e ↦ product_zero (count_terminal row u) (count_terminal col u) e
    | inr ne ↦ elim (cases_eq (count_terminal col u) 0) [
      | inl e ↦ product_none (count_terminal row u) (count_terminal col u) e
      | inr nc ↦ absurd (none (held (rows_have (terminal_places u) (terminal_places u) row col (terminal_has row u ne) (terminal_has col u nc))))
    ]
  ]
    where
      held : Contains (load_places u) (row, col) → Contains ps (row, col)
      held (k, l, e) = subst (Contains ps) e (h k (row, col) l)

  no_slope : (u : LoadAt) → All (Contains ps) (load_places u) → slope_count row col u ≡ 0
  unfolding slope_count
  no_slope u h = by_model (is_linear u.load.model)
    where
      by_model : (b : Bool) → cond b 0 (count_terminal row u * count_terminal col u) ≡ 0
      by_model true = refl
      by_model false = no_square u h

  pub no_slopes : (us : List LoadAt) → All (Contains ps) (flat_map load_places us) → slope_counts us row col ≡ 0
  no_slopes [] h = refl
  no_slopes (u ∷ us) h =
      let a = no_slope u (All-append_left (Contains ps) (load_places u) (flat_map load_places us) h) in
      let b = no_slopes us (All-append_right (Contains ps) (load_places u) (flat_map load_places us) h) in
      (λ i. a i + b i)

pub nothing_elsewhere : (ps : List (ℕ × ℕ)) (ts : List Term) (us : List LoadAt) → All (Contains ps) (places_of ts us) → IsNothingElsewhere ps (of_rows ts us)
nothing_elsewhere ps ts us h p away =
    let terms = All-append_left (Contains ps) (map place_of ts) (flat_map load_places us) h in
    let loads = All-append_right (Contains ps) (map place_of ts) (flat_map load_places us) h in
    let a = no_entry ps p.0 p.1 away ts terms in
    let b = no_count ps p.0 p.1 away ts terms in
    let c = no_slopes ps p.0 p.1 away us loads in
    λ i. amount (a i) (b i) (c i)

-- ---- whether each sum is small

small_none : AreSmall (pos 0)
small_none = refl

module _ (ps : List (ℕ × ℕ)) (cells : List Cell) (ts : List Term) (us : List LoadAt) (are : AreCells ps cells (of_rows ts us)) where
  pub all_sums : IsNothingElsewhere ps (of_rows ts us) → All (λ c. AreSmall c.units) cells → (row col : ℕ) → AreSmall (linear_entry ts row col)
  all_sums none small row col = elim (decide ps (row, col)) [
    | inl (k, l, is) ↦
        let e : key ps k ≡ (row, col) = get_or_default ps k (0, 0) (row, col) l ∙ is in
        let units : (cell_at cells k).units ≡ linear_entry ts row col =
        ap (λ (c : Cell). c.units) (are.each k l) ∙ ap (λ (p : ℕ × ℕ). linear_entry ts p.0 p.1) e in
        subst AreSmall units (small k empty (omega (arith, are.long)))
    | inr away ↦ subst AreSmall (sym (ap (λ (a : Amount). a.units) (none (row, col) away))) small_none
  ]

  pub sums_all : ((row col : ℕ) → AreSmall (linear_entry ts row col)) → All (λ c. AreSmall c.units) cells
  sums_all small k d l =
      let units : (cell_at cells k).units ≡ linear_entry ts (key ps k).0 (key ps k).1 = ap (λ (c : Cell). c.units) (are.each k (omega (arith, are.long))) in
      subst (λ (c : Cell). AreSmall c.units) (get_or_default cells k empty d l) (subst AreSmall (sym units) (small (key ps k).0 (key ps k).1))

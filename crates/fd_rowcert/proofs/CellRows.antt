-- The entries of a row's cells.
use Rattle.std.proofs.Common.{◌≡◌, ◌≢◌, ◌∙◌, ℕ, zero, suc, ◌+◌, ◌<◌, ◌≤◌, ◌^◌, ℤ, pos, ◌+ℤ◌, nat_abs, Bool, true, false, not, cond, eqb, List, [], ◌∷◌, map, length, arith, ap, refl, sym, subst, inl, inr}
use Rattle.std.proofs.lemmas.Bool.{cases_eq, cases_lt, eq-eqb, le-ltb, lt-ltb, ne_eqb}
use Rattle.std.proofs.lemmas.Int.{ints}
use Rattle.std.specs.List.{filter}
use Rattle.fd_cert.specs.fd_enclosure.fd_exact.Sums.{list_n, list_z, sum_n, sum_z}
use Rattle.fd_cert.specs.fd_enclosure.fd_exact.SumLaws.{sum_z-same, sum_z-zero}
use Rattle.fd_cert.specs.fd_enclosure.fd_equations.Amounts.{Amount, IsRowOf as IsCellRow, cell_at}
use Rattle.fd_cert.specs.fd_enclosure.fd_equations.WalkLaws.{walk_sums}
use Rattle.fd_cert.specs.fd_enclosure.fd_equations.declared.cells.Cell.{Cell}
use Rattle.fd_bounds.specs.fd_triangles.Rows.{IsRising, entry_at, number}
use Rattle.fd_bounds.specs.fd_derived.Rows.{entries_of}
use Rattle.fd_bounds.specs.fd_derived.Sums.{capped, size_of}
use Rattle.fd_bounds.specs.fd_derived.declared.entries.Entry.{Entry}
use Rattle.fd_rowcert.specs.Entries.{AreEntriesOf, entry_in, has_units, is_wide, row_size, size_in}
use Rattle.fd_rowcert.proofs.Cells.{cell_size}

-- ---- what a test keeps

abbrev kept : List Cell → List Entry
kept cells = map entry_in (filter has_units cells)

-- the cells behind one, and it as well where it has units
abbrev chosen : Bool → Cell → List Cell → List Entry
chosen b c cells = map entry_in (cond b (c ∷ filter has_units cells) (filter has_units cells))

each_chosen : (P : Entry → Type 0) (b : Bool) (c : Cell) (cells : List Cell) → (b ≡ true → P (entry_in c))
    → ((k : ℕ) → k < length (kept cells) → P (entry_at (kept cells) k))
    → (k : ℕ) → k < length (chosen b c cells) → P (entry_at (chosen b c cells) k)
each_chosen P true c cells first rest zero l = first refl
each_chosen P true c cells first rest (suc k) l = rest k (omega arith)
each_chosen P false c cells first rest k l = rest k l

-- what is so of each cell with units is so of each entry
each_kept : (P : Entry → Type 0) (cells : List Cell)
    → ((k : ℕ) → k < length cells → has_units (cell_at cells k) ≡ true → P (entry_in (cell_at cells k)))
    → (k : ℕ) → k < length (kept cells) → P (entry_at (kept cells) k)
each_kept P [] h k l = absurd (omega arith)
each_kept P (c ∷ cells) h k l =
    each_chosen P (has_units c) c cells (h 0 (omega arith)) (each_kept P cells (λ i m. h (suc i) (omega arith))) k l

rising_chosen : (b : Bool) (c : Cell) (cells : List Cell) → IsRising (kept cells)
    → ((k : ℕ) → k < length (kept cells) → c.col < (entry_at (kept cells) k).place) → IsRising (chosen b c cells)
rising_chosen true c cells rest above zero zero l m = absurd (omega arith)
rising_chosen true c cells rest above zero (suc j) l m = above j (omega arith)
rising_chosen true c cells rest above (suc i) zero l m = absurd (omega arith)
rising_chosen true c cells rest above (suc i) (suc j) l m = rest i j (omega arith) (omega arith)
rising_chosen false c cells rest above i j l m = rest i j l m

rising_kept : (cells : List Cell) → ((i j : ℕ) → i < j → j < length cells
    → (cell_at cells i).col < (cell_at cells j).col)
    → IsRising (kept cells)
rising_kept [] h = λ i j l m. absurd (omega arith)
rising_kept (c ∷ cells) h =
    rising_chosen (has_units c) c cells (rising_kept cells (λ i j l m. h (suc i) (suc j) (omega arith) (omega arith)))
    (each_kept (λ e. c.col < e.place) cells (λ k l _. h 0 (suc k) (omega arith) (omega arith)))

has_other : (z : ℤ) → not (eqb (nat_abs z) 0) ≡ true → z ≢ pos 0
has_other z h e = let q : nat_abs z ≡ 0 = ap nat_abs e in
    let both : false ≡ true = ap not (sym (eq-eqb (nat_abs z) 0 q)) ∙ h in absurd (cc)

no_units : (z : ℤ) → not (eqb (nat_abs z) 0) ≡ false → z ≡ pos 0
no_units z h = elim (cases_eq (nat_abs z) 0) [
  | inl e ↦ omega (arith, ints, e)
  | inr ne ↦ let both : true ≡ false = ap not (sym (ne_eqb (nat_abs z) 0 ne)) ∙ h in absurd (cc)
]

-- ---- numbers and sizes

chosen_number : (b : Bool) (c : Cell) (cells : List Cell) (j : ℕ) (z : ℤ) → (b ≡ false → c.units ≡ pos 0)
    → number (kept cells) j ≡ z → number (chosen b c cells) j ≡ (cond (eqb c.col j) c.units (pos 0) +ℤ z)
chosen_number true c cells j z none e = ap (λ y. cond (eqb c.col j) c.units (pos 0) +ℤ y) e
chosen_number false c cells j z none e = skip (cond (eqb c.col j) c.units (pos 0)) z (number (kept cells) j) (zero_at
    (eqb c.col j) c.units (none refl)) e
  where
    zero_at : (b : Bool) (z : ℤ) → z ≡ pos 0 → cond b z (pos 0) ≡ pos 0
    zero_at true z e = e
    zero_at false z e = refl

    skip : (y z w : ℤ) → y ≡ pos 0 → w ≡ z → w ≡ (y +ℤ z)
    skip y z w e f = omega (arith, ints, e, f)

kept_number : (cells : List Cell) (j : ℕ)
    → number (kept cells) j ≡ list_z (λ c. cond (eqb c.col j) c.units (pos 0)) cells
kept_number [] j = refl
kept_number (c ∷ cells) j =
    chosen_number (has_units c) c cells j (list_z (λ c. cond (eqb c.col j) c.units (pos 0)) cells) (no_units c.units)
    (kept_number cells j)

chosen_size : (b : Bool) (c : Cell) (cells : List Cell) (s : ℕ) → (b ≡ false → c.units ≡ pos 0)
    → size_of (entries_of (kept cells)) ≡ s → size_of (entries_of (chosen b c cells)) ≡ nat_abs c.units + s
chosen_size true c cells s none e = ap (λ z. nat_abs c.units + z) e
chosen_size false c cells s none e = skip c.units (size_of (entries_of (kept cells))) s (none refl) e
  where
    skip : (z : ℤ) (a b : ℕ) → z ≡ pos 0 → a ≡ b → a ≡ nat_abs z + b
    skip z a b e f = omega (arith, ints, e, f)

kept_size : (cells : List Cell) → size_of (entries_of (kept cells)) ≡ size_in cells
kept_size [] = refl
kept_size (c ∷ cells) = chosen_size (has_units c) c cells (size_in cells) (no_units c.units) (kept_size cells)

-- a sum with one summand
only_at : (f : ℕ → ℤ) (n j : ℕ) → j < n → sum_z (λ k. cond (eqb k j) (f k) (pos 0)) n ≡ f j
only_at f zero j h = absurd (omega arith)
only_at f (suc n) j h = elim (cases_eq n j) [
  | inl e ↦
      let none = sum_z-same (λ k. cond (eqb k j) (f k) (pos 0)) (λ _. pos 0) n (λ k l.
      let ne : k ≢ j = omega arith in ap (λ b. cond b (f k) (pos 0)) (ne_eqb k j ne))
      ∙ sum_z-zero n in
      let here = ap (λ b. cond b (f n) (pos 0)) (eq-eqb n j e) ∙ ap f e in
      (λ i. none i +ℤ here i) ∙ first (f j)
  | inr ne ↦
      let here = ap (λ b. cond b (f n) (pos 0)) (ne_eqb n j ne) in
      (λ i. only_at f n j (omega arith) i +ℤ here i) ∙ last (f j)
]
  where
    first : (z : ℤ) → (pos 0 +ℤ z) ≡ z
    first z = omega (arith, ints)

    last : (z : ℤ) → (z +ℤ pos 0) ≡ z
    last z = omega (arith, ints)

-- a place without a cell
nowhere : (cells : List Cell) (j : ℕ) → ((k : ℕ) → k < length cells → (cell_at cells k).col ≢ j)
    → list_z (λ c. cond (eqb c.col j) c.units (pos 0)) cells ≡ pos 0
nowhere [] j h = refl
nowhere (c ∷ cells) j h =
    let here = ap (λ b. cond b c.units (pos 0)) (ne_eqb c.col j (h 0 (omega arith))) in
    (λ i. here i +ℤ nowhere cells j (λ k l. h (suc k) (omega arith)) i) ∙ none
  where
    none : (pos 0 +ℤ pos 0) ≡ pos 0
    none = omega (arith, ints)

sum_pos : (f : ℕ → ℕ) (n : ℕ) → sum_z (λ k. pos (f k)) n ≡ pos (sum_n f n)
sum_pos f zero = refl
sum_pos f (suc n) = ap (λ z. z +ℤ pos (f n)) (sum_pos f n) ∙ joined (sum_n f n) (f n)
  where
    joined : (a b : ℕ) → (pos a +ℤ pos b) ≡ pos (a + b)
    joined a b = omega (arith, ints)

list_pos : (f : Cell → ℕ) (cells : List Cell) → list_z (λ c. pos (f c)) cells ≡ pos (list_n f cells)
list_pos f [] = refl
list_pos f (c ∷ cells) = ap (λ z. pos (f c) +ℤ z) (list_pos f cells) ∙ joined (f c) (list_n f cells)
  where
    joined : (a b : ℕ) → (pos a +ℤ pos b) ≡ pos (a + b)
    joined a b = omega (arith, ints)

pub small_cells : (cells : List Cell) (size : ℕ) → size ≡ capped (size_in cells) → size ≤ 2 ^ 62
    → size_in cells ≤ 2 ^ 62
small_cells cells size e h = omega arith

module _ (n row : ℕ) (at : ℕ × ℕ → Amount) (cells : List Cell) (is : IsCellRow n at row cells)
    (J : ℕ → ℕ → ℤ) (same : (l j : ℕ) → (at (l, j)).units ≡ J l j) where
  -- the sizes of the cells of a row are those of its numbers
  pub row_size_is : size_in cells ≡ row_size n (J row)
  row_size_is =
      let walk = walk_sums n at row cells (λ col z. pos (nat_abs z)) is (λ col. refl) in
      let total : pos (size_in cells) ≡ pos (row_size n (J row)) =
      sym (list_pos (λ c. nat_abs c.units) cells) ∙ walk ∙ (λ i. sum_z (λ j. pos (nat_abs (same row j i))) n)
      ∙ sum_pos (λ j. nat_abs (J row j)) n in
      ap nat_abs total

  module _ (size : ℕ) (e : size ≡ capped (size_in cells)) where
    pub wide : 2 ^ 62 < size → true ≡ is_wide n (J row)
    wide h = let s = row_size_is in sym (lt-ltb (2 ^ 62) (row_size n (J row)) (omega (arith, s, e, h)))

    pub not_wide : size ≤ 2 ^ 62 → false ≡ is_wide n (J row)
    not_wide h = let s = row_size_is in let m = small_cells cells size e h in sym (le-ltb (2 ^ 62) (row_size n
        (J row)) (omega (arith, s, m)))

  inside_number : (j : ℕ) → j < n → number (kept cells) j ≡ J row j
  inside_number j l =
      kept_number cells j
      ∙ walk_sums n at row cells (λ col z. cond (eqb col j) z (pos 0)) is (λ col. none (eqb col j))
      ∙ only_at (λ col. (at (row, col)).units) n j l
      ∙ same row j
    where
      none : (b : Bool) → cond b (pos 0) (pos 0) ≡ pos 0
      none true = refl
      none false = refl

  outside_number : (j : ℕ) → n ≤ j → number (kept cells) j ≡ J row j
  outside_number j l =
      let away = λ (k : ℕ) (m : k < length cells). let a = is.inside k m in let ne :
      (cell_at cells k).col ≢ j = omega arith in ne in
      kept_number cells j ∙ nowhere cells j away ∙ sym (ap (λ (a : Amount). a.units) (is.all j away)) ∙ same row j

  row_number : (j : ℕ) → number (kept cells) j ≡ J row j
  row_number j = elim (cases_lt j n) [
    | inl l ↦ inside_number j l
    | inr l ↦ outside_number j l
  ]

  pub entries_made : size_in cells ≤ 2 ^ 62 → (made : List Entry) → made ≡ kept cells → AreEntriesOf n (J row) made
  entries_made small made e = subst (AreEntriesOf n (J row)) (sym e) (record {
    is_row = record {
      is_row = record {
        rising = rising_kept cells is.rising;
        inside = each_kept (λ e. e.place < n) cells (λ k l _. is.inside k l);
        other = each_kept (λ e. e.units ≢ pos 0) cells (λ k l u. has_other (cell_at cells k).units u);
        small = each_kept (λ e. nat_abs e.units ≤ 2 ^ 62) cells (λ k l _. let a = cell_size cells k l in omega arith);
      };
      numbers = row_number;
    };
    small = subst (λ s. s ≤ 2 ^ 62) (sym (kept_size cells)) small;
  })

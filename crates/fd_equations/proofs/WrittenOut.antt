-- A matrix by rows of non-zeros, read by rows and written out.
use Rattle.std.proofs.Common.{◌≡◌, ◌∙◌, ℕ, ◌<◌, ◌≤◌, ◌^◌, ℤ, pos, nat_abs, List, length, lit≤, ap, refl, sym, subst, inl, inr}
use Rattle.std.specs.List.{Contains}
use Rattle.std.proofs.lemmas.List.{get_or_default}
use Rattle.fd_mat.specs.fd_exact.States.{table}
use Rattle.fd_mat.specs.fd_exact.Tables.{entry-table, length-table, table-same}
use Rattle.fd_mat.specs.Rows.{EntriesWithin}
use Rattle.fd_equations.specs.declared.cells.Cell.{Cell}
use Rattle.fd_equations.specs.Amounts.{Amount, AreCells, IsNothingElsewhere, IsRowOf, cell_at}
use Rattle.fd_equations.specs.Matrices.{IsMatrix, MatrixView, matrix_with}
use Rattle.fd_pattern.specs.Patterns.{IsSlot, PatternView, key}
use Rattle.fd_equations.proofs.Elsewhere.{decide}

pub matrix_row : (v : MatrixView) (p : PatternView) (cells found row_cells : List Cell) (row : ℕ)
    (at : ℕ × ℕ → Amount)
    → matrix_with p cells ≡ v → found ≡ cells → AreCells v.places v.cells at → IsNothingElsewhere v.places at
    → (AreCells p.places found at → IsNothingElsewhere p.places at → IsRowOf p.size at row row_cells)
    → IsRowOf v.size at row row_cells
matrix_row v p cells found row_cells row at e f are none h =
    let m : AreCells p.places cells at = subst (λ (w : MatrixView). AreCells w.places w.cells at) (sym e) are in
    let n : IsNothingElsewhere p.places at = subst (λ (w : MatrixView). IsNothingElsewhere w.places at) (sym e) none in
    subst (λ (w : MatrixView). IsRowOf w.size at row row_cells) e (h (subst (λ l. AreCells p.places l at) (sym f) m) n)

-- entries that the cells at places give, and 0 elsewhere
pub record IsFilled (n : ℕ) (ps : List (ℕ × ℕ)) (cells : List Cell) (f : ℕ → ℕ → ℤ) : Type 0 where
  pub here : (row col k : ℕ) → row < n → col < n → IsSlot ps row col k → f row col ≡ (cell_at cells k).units
  pub none : (row col : ℕ) → row < n → col < n → (Contains ps (row, col) → ⊥) → f row col ≡ pos 0

module _ (v : MatrixView) (at : ℕ × ℕ → Amount) (is : IsMatrix v.size v at) (f : ℕ → ℕ → ℤ)
    (filled : IsFilled v.size v.places v.cells f) where
  slot : (row col k : ℕ) → k < length v.places → key v.places k ≡ (row, col) → IsSlot v.places row col k
  slot row col k l e = record { in_range = l; row_is = ap (λ (p : ℕ × ℕ). p.0) e; col_is = ap (λ (p : ℕ × ℕ). p.1) e }

  written : (row col : ℕ) → row < v.size → col < v.size → f row col ≡ (at (row, col)).units
  written row col h g = elim (decide v.places (row, col)) [
    | inl (k, l, e) ↦
        let s : key v.places k ≡ (row, col) = get_or_default v.places k (0, 0) (row, col) l ∙ e in
        filled.here row col k h g (slot row col k l s) ∙ ap (λ (c : Cell). c.units) (is.cells.each k l) ∙ ap (λ (p : ℕ × ℕ). (at p).units) s
    | inr away ↦ filled.none row col h g away ∙ sym (ap (λ (a : Amount). a.units) (is.nothing (row, col) away))
  ]

  small : (row col : ℕ) → row < v.size → col < v.size → nat_abs (f row col) ≤ 2 ^ 100
  small row col h g = elim (decide v.places (row, col)) [
    | inl (k, l, e) ↦
        let s : key v.places k ≡ (row, col) = get_or_default v.places k (0, 0) (row, col) l ∙ e in
        let r = is.small k l in
        subst (λ z. nat_abs z ≤ 2 ^ 100) (sym (filled.here row col k h g (slot row col k l s))) r.0
    | inr away ↦ subst (λ z. nat_abs z ≤ 2 ^ 100) (sym (filled.none row col h g away)) (lit≤ tt)
  ]

  all_entries : (d : List (List ℤ)) → d ≡ table v.size v.size f → d ≡ table v.size v.size (λ row col. (at (row, col)).units)
  all_entries d e = e ∙ table-same v.size v.size f (λ row col. (at (row, col)).units) written

  all_small : (d : List (List ℤ)) → d ≡ table v.size v.size f → EntriesWithin d (2 ^ 100)
  all_small d e = subst (λ m. EntriesWithin m (2 ^ 100)) (sym e) (λ row col l m.
      let long = length-table v.size v.size f in
      let h = subst (λ k. row < k) long l in
      let k = subst (λ k. col < k) long m in
      subst (λ z. nat_abs z ≤ 2 ^ 100) (sym (entry-table v.size v.size f row col h k)) (small row col h k))

module _ (v : MatrixView) (p : PatternView) (cells found : List Cell) (ps : List (ℕ × ℕ)) (f : ℕ → ℕ → ℤ) (n : ℕ)
    (view : matrix_with p cells ≡ v) (same : found ≡ cells) (g : ps ≡ p.places) (e : n ≡ p.size)
    (filled : IsFilled n ps found f) (d : List (List ℤ)) (is : d ≡ table n n f) where
  moved : IsFilled v.size v.places v.cells f
  moved =
      subst (λ (w : MatrixView). IsFilled w.size w.places w.cells f) view
      (subst (λ l. IsFilled p.size p.places l f) same
      (subst (λ l. IsFilled p.size l found f) g (subst (λ m. IsFilled m ps found f) e filled)))

  whole : d ≡ table v.size v.size f
  whole = is ∙ ap (λ m. table m m f) (e ∙ ap (λ (w : MatrixView). w.size) view)

  pub out_entries : (at : ℕ × ℕ → Amount) → IsMatrix v.size v at → d ≡ table v.size v.size (λ row col. (at (row, col)).units)
  out_entries at m = all_entries v at m f moved d whole

  pub out_small : (at : ℕ × ℕ → Amount) → IsMatrix v.size v at → EntriesWithin d (2 ^ 100)
  out_small at m = all_small v at m f moved d whole

-- a matrix has its own size
pub own_size : (n : ℕ) (m : MatrixView) (at : ℕ × ℕ → Amount) → IsMatrix n m at → IsMatrix m.size m at
own_size n m at h = record { size = refl; cells = h.cells; nothing = h.nothing; small = h.small }

-- Products of the entries of rows with the parts of a point, added to what is there.
use Rattle.std.proofs.Common.{◌≡◌, ◌∙◌, ℕ, ◌+◌, ◌*◌, ◌<◌, ◌≤◌, ◌^◌, ℤ, pos, ◌+ℤ◌, ◌*ℤ◌, nat_abs, to_z, of_z, List, length, take, set, arith, ap, sym, subst, inl, inr}
use Rattle.std.specs.Int.{w128}
use Rattle.std.proofs.lemmas.Bool.{cases_eq}
use Rattle.std.proofs.lemmas.Int.{ints}
use Rattle.std.proofs.lemmas.List.{get_or-set_same, get_or-set_other, length-set}
use Rattle.fd_mat.specs.fd_exact.Rounding.{near_div}
use Rattle.fd_mat.specs.fd_exact.States.{part}
use Rattle.fd_mat.specs.fd_exact.Sums.{list_z, sum_z}
use Rattle.fd_pattern.specs.fd_arith.declared.terms.Term.{Term}
use Rattle.fd_pattern.specs.fd_system.declared.loads.LoadAt.{LoadAt}
use Rattle.fd_pattern.specs.fd_system.Contributions.{AreSmall}
use Rattle.fd_equations.specs.declared.cells.Cell.{Cell}
use Rattle.fd_equations.specs.Amounts.{IsRowOf, cell_at, empty, of_rows}
use Rattle.fd_pattern.specs.Coefficients.{linear_entry}
use Rattle.fd_equations.specs.Rounded.{entry_product, products_added}
use Rattle.fd_equations.specs.WalkLaws.{walk_sums}
use Rattle.fd_equations.proofs.Lists.{list_of-ext, list_z_more}
use Rattle.fd_equations.proofs.Reading.{few_cells}
use Rattle.fd_equations.proofs.Sizes.{kept_by}

zero_product : (z : ℤ) → near_div (pos 0 *ℤ z) (2 ^ 40) ≡ pos 0
zero_product z = ap (λ y. near_div y (2 ^ 40)) (zero_times z)
  where
    zero_times : (z : ℤ) → (pos 0 *ℤ z) ≡ pos 0
    zero_times z = omega (arith, ints)

module _ (ts : List Term) (us : List LoadAt) (x : List ℤ) (size row : ℕ) (cells : List Cell) (is : IsRowOf size (of_rows ts us) row cells) where
  -- the products of a row's cells are those of all its columns
  pub row_sum : (z : ℤ) → z ≡ list_z (λ c. near_div (c.units *ℤ part x c.col) (2 ^ 40)) cells → z ≡ sum_z (entry_product (linear_entry ts) x row) size
  row_sum z e = e ∙ walk_sums size (of_rows ts us) row cells (λ col u. near_div (u *ℤ part x col) (2 ^ 40)) is (λ col. zero_product (part x col))

  pub row_small : ((row col : ℕ) → AreSmall (linear_entry ts row col)) → (k : ℕ) → k < length cells → AreSmall (cell_at cells k).units
  row_small small k l = subst AreSmall (sym (ap (λ (c : Cell). c.units) (is.each k l))) (small row (cell_at cells k).col)

  pub row_few : size ≤ 2 ^ 11 → length cells ≤ 2 ^ 11
  row_few h = let few = few_cells size row (of_rows ts us) cells is in omega arith

pub kept_row : (a b : ℤ) → nat_abs a ≤ 2 ^ 84 → nat_abs b ≤ 2 ^ 65 → to_z w128 (of_z w128 (to_z w128 (of_z w128 a) +ℤ to_z w128 (of_z w128 b))) ≡ (a +ℤ b)
kept_row a b h k = rw (kept_by a (omega arith), kept_by b (omega arith)) (kept_by (a +ℤ b) (omega (arith, ints)))

-- a product more in a row
pub record IsSummed (x : List ℤ) (cells : List Cell) (k : ℕ) (sum : ℤ) : Type 0 where
  pub is : sum ≡ list_z (λ c. near_div (c.units *ℤ part x c.col) (2 ^ 40)) (take k cells)
  pub small : nat_abs sum ≤ k * 2 ^ 54

pub next_product : (x : List ℤ) (cells : List Cell) (k : ℕ) (old new z : ℤ) → k < length cells
    → IsSummed x cells k old → z ≡ near_div ((cell_at cells k).units *ℤ part x (cell_at cells k).col) (2 ^ 40)
    → nat_abs z ≤ 2 ^ 54 → new ≡ (old +ℤ z) → IsSummed x cells (k + 1) new
next_product x cells k old new z l h e small f = record {
  is = f ∙ (λ i. h.is i +ℤ e i) ∙ sym (list_z_more (λ c. near_div (c.units *ℤ part x c.col) (2 ^ 40)) cells k empty l);
  small = subst (λ y. nat_abs y ≤ (k + 1) * 2 ^ 54) (sym f) (sum old z h.small small);
}
  where
    sum : (a b : ℤ) → nat_abs a ≤ k * 2 ^ 54 → nat_abs b ≤ 2 ^ 54 → nat_abs (a +ℤ b) ≤ (k + 1) * 2 ^ 54
    sum a b g i = omega (arith, ints)

-- the products of the first rows were added
pub record AreAdded (ts : List Term) (x : List ℤ) (size : ℕ) (old new : List ℤ) (row : ℕ) : Type 0 where
  pub long : length new ≡ length old
  pub done : (k : ℕ) → k < row → part new k ≡ (part old k +ℤ sum_z (entry_product (linear_entry ts) x k) size)
  pub left : (k : ℕ) → row ≤ k → part new k ≡ part old k

pub row_added : (ts : List Term) (x : List ℤ) (size : ℕ) (old new : List ℤ) (row : ℕ) (z y : ℤ) → row < length new
    → AreAdded ts x size old new row → y ≡ sum_z (entry_product (linear_entry ts) x row) size
    → z ≡ (part new row +ℤ y) → AreAdded ts x size old (set new row z) (row + 1)
row_added ts x size old new row z y inside h e f = record {
  long = length-set new row z ∙ h.long;
  done = λ k l. elim (cases_eq k row) [
    | inl s ↦ subst (λ m. part (set new row z) m ≡ (part old m +ℤ sum_z (entry_product (linear_entry ts) x m) size)) (sym s)
        (get_or-set_same new row z (pos 0) inside ∙ f ∙ (λ i. h.left row (omega arith) i +ℤ e i))
    | inr ne ↦ get_or-set_other new row k z (pos 0) ne ∙ h.done k (omega arith)
  ];
  left = λ k l. get_or-set_other new row k z (pos 0) (λ (s : k ≡ row). omega arith) ∙ h.left k (omega arith);
}

pub all_added : (ts : List Term) (x : List ℤ) (size : ℕ) (old new : List ℤ) (row : ℕ) → size ≤ row → length old ≡ size
    → AreAdded ts x size old new row → new ≡ products_added size (linear_entry ts) old x
all_added ts x size old new row e long h =
    list_of-ext new size (λ k. part old k +ℤ sum_z (entry_product (linear_entry ts) x k) size) (pos 0) (h.long ∙ long)
    (λ k l. h.done k (omega arith))

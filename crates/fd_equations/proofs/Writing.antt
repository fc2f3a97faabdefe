-- A square of entries into which the cells at places are written.
use Rattle.std.proofs.Common.{◌≡◌, ◌∙◌, ℕ, ◌+◌, ◌*◌, ◌<◌, ◌≤◌, ◌≢◌, ◌==◌, ◌&&◌, if◌then◌else◌, Bool, true, false, cond, refl, ℤ, pos, List, length, set, arith, ap, sym, subst, inl, inr}
use Rattle.std.specs.List.{Contains}
use Rattle.std.proofs.lemmas.Bool.{cases_eq}
use Rattle.std.proofs.lemmas.Nat.{same_from_place}
use Rattle.std.proofs.lemmas.List.{get_or-set_same, get_or-set_other}
use Rattle.std.proofs.lemmas.List.Elements.{Contains-get_or}
use Rattle.fd_mat.specs.fd_exact.States.{cell, part, table}
use Rattle.fd_mat.specs.fd_exact.Tables.{room}
use Rattle.fd_mat.specs.Rows.{with_entry}
use Rattle.fd_mat.specs.Squares.{with_entry-table}
use Rattle.fd_equations.specs.declared.cells.Cell.{Cell}
use Rattle.fd_equations.specs.Amounts.{cell_at}
use Rattle.fd_pattern.specs.Patterns.{IsRising, IsSlot, key}
use Rattle.fd_pattern.proofs.CallerLemmas.{only_slot}

-- the first k cells were written, and there is 0 elsewhere
pub record IsWritten (n : ℕ) (ps : List (ℕ × ℕ)) (cells : List Cell) (at : ℕ → ℕ → ℤ) (k : ℕ) : Type 0 where
  pub here : (row col j : ℕ) → row < n → col < n → j < k → IsSlot ps row col j → at row col ≡ (cell_at cells j).units
  pub none : (row col : ℕ) → row < n → col < n → ((j : ℕ) → j < k → IsSlot ps row col j → ⊥) → at row col ≡ pos 0

pub nothing_written : (n : ℕ) (ps : List (ℕ × ℕ)) (cells : List Cell) (at : ℕ → ℕ → ℤ)
    → ((row col : ℕ) → at row col ≡ pos 0) → IsWritten n ps cells at 0
nothing_written n ps cells at zero = record { here = λ row col j h l lt. absurd (omega arith); none = λ row col h l none. zero row col }

-- a list of rows into which the first k cells were written
pub record IsPut (n : ℕ) (ps : List (ℕ × ℕ)) (cells : List Cell) (rows : List (List ℤ)) (k : ℕ) : Type 0 where
  pub at : ℕ → ℕ → ℤ
  pub rows_are : rows ≡ table n n at
  pub written : IsWritten n ps cells at k

module _ (n : ℕ) (ps : List (ℕ × ℕ)) (cells : List Cell) (k : ℕ) (rising : IsRising ps) (in_range : k < length ps)
    (row_in : (key ps k).0 < n) (col_in : (key ps k).1 < n) where
  module _ (at new : ℕ → ℕ → ℤ) (h : IsWritten n ps cells at k)
      (is : new (key ps k).0 (key ps k).1 ≡ (cell_at cells k).units)
      (other : (row col : ℕ) → row < n → col < n → (((key ps k).0 ≡ row) × ((key ps k).1 ≡ col) → ⊥) → new row col ≡ at row col) where
    one_written : IsWritten n ps cells new (k + 1)
    one_written = record {
      here = λ row col j a b lt s. elim (cases_eq j k) [
        | inl e ↦
            let r : (key ps k).0 ≡ row = ap (λ m. (key ps m).0) (sym e) ∙ s.row_is in
            let c : (key ps k).1 ≡ col = ap (λ m. (key ps m).1) (sym e) ∙ s.col_is in
            (λ i. new (sym r i) (sym c i)) ∙ is ∙ ap (λ m. (cell_at cells m).units) (sym e)
        | inr ne ↦ other row col a b
            (λ (f, g). ne (only_slot ps row col j k rising s (record { in_range = in_range; row_is = f; col_is = g })))
            ∙ h.here row col j a b (omega arith) s
      ];
      none = λ row col a b away.
          other row col a b (λ (f, g). away k (omega arith) (record { in_range = in_range; row_is = f; col_is = g }))
          ∙ h.none row col a b (λ j lt. away j (omega arith));
    }

  -- into a list of rows
  pub one_put : (rows : List (List ℤ)) (z : ℤ) → z ≡ (cell_at cells k).units → IsPut n ps cells rows k
      → IsPut n ps cells (with_entry rows (key ps k).0 (key ps k).1 z) (k + 1)
  one_put rows z is p =
      let new : ℕ → ℕ → ℤ = λ row col. (if row == (key ps k).0 && (col == (key ps k).1) then z else p.at row col) in
      record {
        at = new;
        rows_are = ap (λ m. with_entry m (key ps k).0 (key ps k).1 z) p.rows_are
            ∙ sym (with_entry-table n p.at new (key ps k).0 (key ps k).1 z row_in col_in
            (yes (key ps k).0 (key ps k).1 z (p.at (key ps k).0 (key ps k).1))
            (λ row col a b away. no row col (key ps k).0 (key ps k).1 z (p.at row col) away));
        written = one_written p.at new p.written (yes (key ps k).0 (key ps k).1 z (p.at (key ps k).0 (key ps k).1) ∙ is)
            (λ row col a b apart. no row col (key ps k).0 (key ps k).1 z (p.at row col) (λ e f. apart (sym e, sym f)));
      }
    where
      yes : (r c : ℕ) (z w : ℤ) → (if r == r && (c == c) then z else w) ≡ z
      yes r c z w = grind arith

      no : (i j r c : ℕ) (z w : ℤ) → (i ≡ r → j ≢ c) → (if i == r && (j == c) then z else w) ≡ w
      no i j r c z w away = elim (cases_eq i r) [
        | inl e ↦ let ne = away e in grind arith
        | inr ne ↦ grind arith
      ]

pub all_here : (n : ℕ) (ps : List (ℕ × ℕ)) (cells : List Cell) (at : ℕ → ℕ → ℤ) (k : ℕ) → length ps ≤ k → IsWritten n ps cells at k
    → (row col j : ℕ) → row < n → col < n → IsSlot ps row col j → at row col ≡ (cell_at cells j).units
all_here n ps cells at k e h row col j a b s = h.here row col j a b (omega (arith, s.in_range)) s

pub all_none : (n : ℕ) (ps : List (ℕ × ℕ)) (cells : List Cell) (at : ℕ → ℕ → ℤ) (k : ℕ) → IsWritten n ps cells at k
    → (row col : ℕ) → row < n → col < n → (Contains ps (row, col) → ⊥) → at row col ≡ pos 0
all_none n ps cells at k h row col a b away = h.none row col a b (λ j lt s. away (held j s))
  where
    held : (j : ℕ) → IsSlot ps row col j → Contains ps (row, col)
    held j s = let e = s.row_is in let f = s.col_is in subst (Contains ps) (λ i. (e i, f i)) (Contains-get_or ps j (0, 0) s.in_range)

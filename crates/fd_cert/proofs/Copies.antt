-- The numbers of a square, row by row.
use Rattle.std.proofs.Common.{◌≡◌, ◌⊎◌, ⊎_elim, ◌∙◌, ℕ, ◌+◌, ◌-◌, ◌*◌, ◌<◌, ◌≤◌, ℤ, pos, List, [], ◌++◌, length, get_or, arith, ap, sym, zero-add}
use Rattle.std.proofs.lemmas.Nat.{mul-add-lt}
use Rattle.std.proofs.lemmas.List.{ext_get_or, get_or_append_left, get_or-append-add, length-append}
use Rattle.std.proofs.lemmas.List.FromFn.{get_or-map-range_with_len, length-map-range_with_len}
use Rattle.fd_enclosure.specs.fd_exact.States.{cell, entry, part}
use Rattle.fd_enclosure.specs.fd_exact.Tables.{length-table, row-table}
use Rattle.fd_enclosure.specs.fd_mat.Rows.{row_of, square}

-- those of its first k rows
pub record AreRows (m : List (List ℤ)) (k : ℕ) (cells : List ℤ) : Type 0 where
  pub long : length cells ≡ k * length m
  pub wide : (i : ℕ) → i < k → length (row_of m i) ≡ length m
  pub each : (i j : ℕ) → i < k → j < length m → cell cells (length m) i j ≡ entry m i j

module _ (m : List (List ℤ)) where
  last_or : (i k : ℕ) → i < k + 1 → (i < k) ⊎ (i ≡ k)
  last_or i k h = grind arith

  pub no_rows : AreRows m 0 []
  no_rows = record {
    long = omega arith;
    wide = λ i l. absurd (omega (arith, l));
    each = λ i j l h. absurd (omega (arith, l));
  }

  -- with one row more
  pub more_rows : (k : ℕ) (cells row : List ℤ) → AreRows m k cells → row ≡ row_of m k → length row ≡ length m
      → AreRows m (k + 1) (cells ++ row)
  more_rows k cells row h is long = record {
    long = omega (arith, length-append cells row, h.long, long);
    wide = λ i l. ⊎_elim (λ (low : i < k). h.wide i low) (λ (same : i ≡ k). ap (λ t. length (row_of m t)) same ∙ ap length (sym is) ∙ long) (last_or i k l);
    each = λ i j l p.
        ⊎_elim (λ (low : i < k).
        let room : i * length m + j < k * length m = omega (arith, mul-add-lt i (length m) j k low p) in
        get_or_append_left cells row (pos 0) (i * length m + j) (omega (arith, h.long, room)) ∙ h.each i j low p)
        (λ (same : i ≡ k).
        let place : i * length m + j ≡ length cells + j = ap (λ t. t * length m + j) same ∙ ap (λ t. t + j) (sym h.long) in
        ap (λ t. part (cells ++ row) t) place ∙ get_or-append-add cells row j (pos 0) ∙ ap (λ r. part r j) is
        ∙ ap (λ t. entry m t j) (sym same))
        (last_or i k l);
  }

  -- those of all rows make the square again
  pub all_rows : (cells : List ℤ) → AreRows m (length m) cells → square (length m) cells ≡ m
  all_rows cells h =
      let n = length m in
      ext_get_or [] _ _ (length-table n n (cell cells n)) (λ i p.
      let below : i < n = omega (arith, p, length-table n n (cell cells n)) in
      row-table n n (cell cells n) i below
      ∙ ext_get_or (pos 0) _ _ (length-map-range_with_len (cell cells n i) 0 n ∙ sym (h.wide i below)) (λ j q.
      let inside : j < n = omega (arith, q, length-map-range_with_len (cell cells n i) 0 n) in
      get_or-map-range_with_len (cell cells n i) 0 n j j (pos 0) inside (zero-add j) ∙ h.each i j below inside))

-- The two sides and the magnitude of a part load in one row.
use Rattle.std.proofs.Common.{ℕ, ℤ, ◌*◌, ◌^◌, ◌≡◌, neg_ℤ, List, arith, subst}
use Rattle.fd_pattern.specs.fd_load.declared.slopes.SlopeRow.{SlopeRow}
use Rattle.fd_pattern.specs.fd_system.declared.loads.LoadAt.{LoadAt}
use Rattle.fd_equations.specs.declared.cells.Cell.{Cell}
use Rattle.fd_equations.specs.Amounts.{AreGrown, HaveSlopeRoom}
use Rattle.fd_equations.specs.Slopes.{IsSlope}
use Rattle.fd_equations.proofs.AtTerminals.{negative_small}
use Rattle.fd_equations.proofs.Growth.{room_after}
use Rattle.fd_equations.proofs.LoadCells.{magnitude_in_row, node_in, node_in_small, row_grown, row_in}

module _ (ps : List (ℕ × ℕ)) (a b c d : List Cell) (row : ℕ) (u : LoadAt) (r : SlopeRow) (small : IsSlope r) where
  -- the first side, as a call wrote it
  first_side : (p q : ℤ) → p ≡ r.p → q ≡ r.q → AreGrown ps a b (node_in row u.first p q) → AreGrown ps a b (node_in row u.first r.p r.q)
  first_side p q e f g = subst (λ (z : ℤ). AreGrown ps a b (node_in row u.first z r.q)) e (subst (λ (z : ℤ). AreGrown ps a b (node_in row u.first p z)) f g)

  second_side : (p q : ℤ) → p ≡ neg_ℤ r.p → q ≡ neg_ℤ r.q → AreGrown ps b c (node_in row u.second p q)
      → AreGrown ps b c (node_in row u.second (neg_ℤ r.p) (neg_ℤ r.q))
  second_side p q e f g =
      subst (λ (z : ℤ). AreGrown ps b c (node_in row u.second z (neg_ℤ r.q))) e
      (subst (λ (z : ℤ). AreGrown ps b c (node_in row u.second p z)) f g)

  pub after_first : (p q : ℤ) → p ≡ r.p → q ≡ r.q → HaveSlopeRoom ps a (2 ^ 122) (2 ^ 29)
      → AreGrown ps a b (node_in row u.first p q) → HaveSlopeRoom ps b (2 ^ 123) (2 ^ 30)
  after_first p q e f room g =
      room_after ps a b (node_in row u.first r.p r.q) (2 ^ 122) (2 * 2 ^ 73) (2 ^ 123) (2 ^ 29) 2 (2 ^ 30)
      (omega arith) (omega arith) (first_side p q e f g) room (node_in_small row u.first r.p r.q small.p small.q)

  pub after_second : (p q : ℤ) → p ≡ neg_ℤ r.p → q ≡ neg_ℤ r.q → HaveSlopeRoom ps b (2 ^ 123) (2 ^ 30)
      → AreGrown ps b c (node_in row u.second p q) → HaveSlopeRoom ps c (2 ^ 124) (2 ^ 31)
  after_second p q e f room g =
      room_after ps b c (node_in row u.second (neg_ℤ r.p) (neg_ℤ r.q)) (2 ^ 123) (2 * 2 ^ 73) (2 ^ 124) (2 ^ 30) 2
      (2 ^ 31) (omega arith) (omega arith) (second_side p q e f g) room
      (node_in_small row u.second (neg_ℤ r.p) (neg_ℤ r.q) (negative_small r.p (2 ^ 73) small.p)
      (negative_small r.q (2 ^ 73) small.q))

  pub row_done : (p q m n z : ℤ) → p ≡ r.p → q ≡ r.q → m ≡ neg_ℤ r.p → n ≡ neg_ℤ r.q → z ≡ r.m
      → AreGrown ps a b (node_in row u.first p q) → AreGrown ps b c (node_in row u.second m n)
      → AreGrown ps c d (magnitude_in_row row u.magnitude z) → AreGrown ps a d (row_in row u r)
  row_done p q m n z e f g h i one two three =
      row_grown ps a b c d row u r (first_side p q e f one) (second_side m n g h two)
      (subst (λ (y : ℤ). AreGrown ps c d (magnitude_in_row row u.magnitude y)) i three)

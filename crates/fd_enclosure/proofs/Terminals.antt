-- What the slopes and the radii of a part load are in the columns of its terminal, and in its rows.
use Rattle.std.proofs.Common.{◌≡◌, ◌∙◌, ℕ, ◌+◌, ◌*◌, ◌<◌, ◌≤◌, ◌^◌, ℤ, pos, neg_ℤ, ◌+ℤ◌, ◌-ℤ◌, ◌*ℤ◌, Bool, true, false, cond, eqb, List, Option, Some, None, IfSome, arith, ap, refl, sym}
use Rattle.std.specs.Int.RustNames.{unsigned_abs}
use Rattle.std.proofs.lemmas.Int.{ints}
use Rattle.fd_equations.specs.fd_exact.Fractions.{Fraction, minus, nothing}
use Rattle.fd_equations.specs.fd_exact.Integers.{as_val, vals, val-same}
use Rattle.fd_equations.specs.fd_exact.States.{State, away}
use Rattle.fd_slope.specs.fd_arith.declared.terms.NodeAt.{NodeAt}
use Rattle.fd_slope.specs.fd_arith.declared.terms.NodeAt.TheVariants.{Ground, Node}
use Rattle.fd_slope.specs.fd_system.declared.loads.LoadAt.{LoadAt}
use Rattle.fd_slope.specs.fd_system.Complex.{Complex, negative}
use Rattle.fd_slope.specs.fd_system.Equations.{side}
use Rattle.fd_slope.specs.fd_system.Residual.{IsPlace}
use Rattle.fd_slope.specs.fd_load.declared.slopes.SlopeRow.{SlopeRow}
use Rattle.fd_slope.specs.Changes.{Follows, im_away, magnitude_away, radius_sum, re_away, slope_sum}
use Rattle.fd_slope.specs.declared.radii.RadiusRow.{RadiusRow}
use Rattle.fd_equations.specs.PartLoads.{slope_in}
use Rattle.fd_equations.specs.fd_pattern.Terminals.{at_magnitude, at_node, at_terminal, count_magnitude, count_node, count_terminal}
use Rattle.fd_enclosure.specs.Radii.{radius_in, spread, spread_magnitude, spread_node}
use Rattle.fd_enclosure.proofs.Rows.{RowNear, moved, moved-add, moved-zero, near_more, row_more, row_opposite, row_still, single_moved, single_spanned, spanned, spanned-add, spanned-zero}

-- ---- columns: what moved at a terminal

module _ (c : List ℤ) (x : State) (n : ℕ) where
  node_moved : (node : NodeAt) (a b : ℤ) → IsPlace n node
      → moved (away c x) n (λ j. at_node j node a b) ≡ ((a *ℤ re_away c x node) +ℤ (b *ℤ im_away c x node))
  node_moved Ground a b h = moved-zero (away c x) n ∙ none a b
    where
      none : (a b : ℤ) → pos 0 ≡ ((a *ℤ pos 0) +ℤ (b *ℤ pos 0))
      none a b = omega (arith, ints)
  node_moved (Node k) a b h =
      let top = h.0 in
      moved-add (away c x) n (λ j. cond (eqb (2 * k) j) a (pos 0)) (λ j. cond (eqb (2 * k + 1) j) b (pos 0))
      ∙ (λ i. single_moved (away c x) a (2 * k) n (omega arith) i +ℤ single_moved (away c x) b (2 * k + 1) n top i)

  magnitude_moved : (place : Option ℕ) (z : ℤ) → IfSome place (λ k. k < n)
      → moved (away c x) n (λ j. at_magnitude j place z) ≡ (z *ℤ magnitude_away c x place)
  magnitude_moved None z h = moved-zero (away c x) n ∙ none z
    where
      none : (z : ℤ) → pos 0 ≡ (z *ℤ pos 0)
      none z = omega (arith, ints)
  magnitude_moved (Some k) z h = single_moved (away c x) z k n h

  joined : (a b m r1 i1 r2 i2 e : ℤ)
      → ((((a *ℤ r1) +ℤ (b *ℤ i1)) +ℤ ((neg_ℤ a *ℤ r2) +ℤ (neg_ℤ b *ℤ i2))) +ℤ (m *ℤ e)) ≡ (((a *ℤ (r1 -ℤ r2)) +ℤ (b *ℤ (i1 -ℤ i2))) +ℤ (m *ℤ e))
  joined a b m r1 i1 r2 i2 e =
      rw (as_val a, as_val b, as_val m, as_val r1, as_val i1, as_val r2, as_val i2, as_val e)
      (simp vals (val-same _ _ _ _ (omega arith)))

  terminal_moved : (u : LoadAt) (s : SlopeRow) → IsPlace n u.first → IsPlace n u.second
      → IfSome u.magnitude (λ k. k < n) → moved (away c x) n (λ j. slope_in j u s) ≡ slope_sum c x u s
  unfolding at_terminal
  terminal_moved u s h k g =
      moved-add (away c x) n (λ j. at_node j u.first s.p s.q +ℤ at_node j u.second (neg_ℤ s.p) (neg_ℤ s.q))
      (λ j. at_magnitude j u.magnitude s.m)
      ∙ ap (λ z. z +ℤ moved (away c x) n (λ j. at_magnitude j u.magnitude s.m))
      (moved-add (away c x) n (λ j. at_node j u.first s.p s.q) (λ j. at_node j u.second (neg_ℤ s.p) (neg_ℤ s.q)))
      ∙ (λ i. (node_moved u.first s.p s.q h i +ℤ node_moved u.second (neg_ℤ s.p) (neg_ℤ s.q) k i)
      +ℤ magnitude_moved u.magnitude s.m g i)
      ∙ joined s.p s.q s.m (re_away c x u.first) (im_away c x u.first) (re_away c x u.second) (im_away c x u.second)
      (magnitude_away c x u.magnitude)

  node_spanned : (node : NodeAt) (a b : ℕ) → IsPlace n node
      → spanned (away c x) n (λ j. spread_node j node a b) ≡ a * unsigned_abs (re_away c x node) + b * unsigned_abs (im_away c x node)
  node_spanned Ground a b h = spanned-zero (away c x) n ∙ none a b
    where
      none : (a b : ℕ) → 0 ≡ a * unsigned_abs (pos 0) + b * unsigned_abs (pos 0)
      none a b = omega arith
  node_spanned (Node k) a b h =
      let top = h.0 in
      spanned-add (away c x) n (λ j. cond (eqb (2 * k) j) a 0) (λ j. cond (eqb (2 * k + 1) j) b 0)
      ∙ (λ i. single_spanned (away c x) a (2 * k) n (omega arith) i + single_spanned (away c x) b (2 * k + 1) n top i)

  magnitude_spanned : (place : Option ℕ) (m : ℕ) → IfSome place (λ k. k < n)
      → spanned (away c x) n (λ j. spread_magnitude j place m) ≡ m * unsigned_abs (magnitude_away c x place)
  magnitude_spanned None m h = spanned-zero (away c x) n ∙ none m
    where
      none : (m : ℕ) → 0 ≡ m * unsigned_abs (pos 0)
      none m = omega arith
  magnitude_spanned (Some k) m h = single_spanned (away c x) m k n h

  spread_sum : (a b m r1 i1 r2 i2 e : ℕ)
      → ((a * r1 + b * i1) + (a * r2 + b * i2)) + m * e ≡ a * (r1 + r2) + b * (i1 + i2) + m * e
  spread_sum a b m r1 i1 r2 i2 e = omega arith

  terminal_spanned : (u : LoadAt) (a b m : ℕ) → IsPlace n u.first → IsPlace n u.second
      → IfSome u.magnitude (λ k. k < n)
      → spanned (away c x) n (λ j. spread j u a b m)
      ≡ a * (unsigned_abs (re_away c x u.first) + unsigned_abs (re_away c x u.second))
      + b * (unsigned_abs (im_away c x u.first) + unsigned_abs (im_away c x u.second))
      + m * unsigned_abs (magnitude_away c x u.magnitude)
  unfolding spread
  terminal_spanned u a b m h k g =
      spanned-add (away c x) n (λ j. spread_node j u.first a b + spread_node j u.second a b)
      (λ j. spread_magnitude j u.magnitude m)
      ∙ ap (λ z. z + spanned (away c x) n (λ j. spread_magnitude j u.magnitude m))
      (spanned-add (away c x) n (λ j. spread_node j u.first a b) (λ j. spread_node j u.second a b))
      ∙ (λ i. (node_spanned u.first a b h i + node_spanned u.second a b k i) + magnitude_spanned u.magnitude m g i)
      ∙ spread_sum a b m (unsigned_abs (re_away c x u.first)) (unsigned_abs (im_away c x u.first))
      (unsigned_abs (re_away c x u.second)) (unsigned_abs (im_away c x u.second))
      (unsigned_abs (magnitude_away c x u.magnitude))

-- four units more in each are four for each of its places

four : (t : Bool) (a : ℕ) → cond t (a + 4) 0 ≡ cond t a 0 + 4 * cond t 1 0
four true a = omega arith
four false a = omega arith

node_four : (l : ℕ) (node : NodeAt) (a b : ℕ)
    → spread_node l node (a + 4) (b + 4) ≡ spread_node l node a b + 4 * count_node l node
node_four l Ground a b = omega arith
node_four l (Node k) a b = omega (arith, four (eqb (2 * k) l) a, four (eqb (2 * k + 1) l) b)

magnitude_four : (l : ℕ) (place : Option ℕ) (m : ℕ)
    → spread_magnitude l place (m + 4) ≡ spread_magnitude l place m + 4 * count_magnitude l place
magnitude_four l None m = omega arith
magnitude_four l (Some k) m = four (eqb k l) m

spread_four : (l : ℕ) (u : LoadAt) (a b m : ℕ)
    → spread l u (a + 4) (b + 4) (m + 4) ≡ spread l u a b m + 4 * count_terminal l u
unfolding spread count_terminal
spread_four l u a b m = omega (arith, node_four l u.first a b, node_four l u.second a b, magnitude_four l u.magnitude m)

-- a row of a part load, by columns
pub columns : (c : List ℤ) (x : State) (n : ℕ) (u : LoadAt) (here there : Fraction) (s : SlopeRow) (r : RadiusRow)
    → IsPlace n u.first → IsPlace n u.second → IfSome u.magnitude (λ k. k < n) → Follows here there c x u s r
    → RowNear (away c x) n (x.over * 2 ^ 40) here there (λ j. slope_in j u s) (λ j. radius_in j u r + 4 * count_terminal j u)
columns c x n u here there s r h k g f =
    row_more (away c x) n (x.over * 2 ^ 40) here there (λ j. slope_in j u s) (λ j. slope_in j u s)
    (λ j. spread j u (r.p + 4) (r.q + 4) (r.m + 4)) (λ j. radius_in j u r + 4 * count_terminal j u)
    (λ j p. refl) (λ j p. omega (arith, spread_four j u r.p r.q r.m))
    (near_more (minus here there) (slope_sum c x u s) (moved (away c x) n (λ j. slope_in j u s)) (radius_sum c x u r)
    (spanned (away c x) n (λ j. spread j u (r.p + 4) (r.q + 4) (r.m + 4))) (x.over * 2 ^ 40)
    (sym (terminal_moved c x n u s h k g))
    (omega (arith, terminal_spanned c x n u (r.p + 4) (r.q + 4) (r.m + 4) h k g)) f)

-- ---- rows: what a number at a terminal gives to row l

module _ (y : ℕ → ℤ) (n k : ℕ) where
  -- a complex number changes with these coefficients and radii, and four units more for each place of a column
  pub record BothNear (z w : Complex) (Jr Ji : ℕ → ℤ) (Rr Ri ct : ℕ → ℕ) : Type 0 where
    pub re : RowNear y n k z.re w.re Jr (λ j. Rr j + 4 * ct j)
    pub im : RowNear y n k z.im w.im Ji (λ j. Ri j + 4 * ct j)

  pub both_negative : (z w : Complex) (Jr Ji : ℕ → ℤ) (Rr Ri ct : ℕ → ℕ) → BothNear z w Jr Ji Rr Ri ct
      → BothNear (negative z) (negative w) (λ j. neg_ℤ (Jr j)) (λ j. neg_ℤ (Ji j)) Rr Ri ct
  both_negative z w Jr Ji Rr Ri ct h = record {
    re = row_opposite y n k z.re w.re Jr (λ j. Rr j + 4 * ct j) h.re;
    im = row_opposite y n k z.im w.im Ji (λ j. Ri j + 4 * ct j) h.im;
  }

  first_z : (a b : ℤ) → a ≡ (a +ℤ pos 0)
  first_z a b = omega (arith, ints)

  second_z : (a : ℤ) → a ≡ (pos 0 +ℤ a)
  second_z a = omega (arith, ints)

  one_n : (r c : ℕ) → r + 4 * c ≤ (r + 0) + 4 * ((1 + 0) * c)
  one_n r c = omega arith

  other_n : (r c : ℕ) → r + 4 * c ≤ (0 + r) + 4 * ((0 + 1) * c)
  other_n r c = omega arith

  by_two : (s t : Bool) (z w : Complex) (Jr Ji : ℕ → ℤ) (Rr Ri ct : ℕ → ℕ) → (s ≡ true → t ≡ true → ⊥)
      → BothNear z w Jr Ji Rr Ri ct
      → RowNear y n k (cond s z.re (cond t z.im nothing)) (cond s w.re (cond t w.im nothing))
      (λ j. cond s (Jr j) (pos 0) +ℤ cond t (Ji j) (pos 0)) (λ j.
      (cond s (Rr j) 0 + cond t (Ri j) 0) + 4 * ((cond s 1 0 + cond t 1 0) * ct j))
  by_two true true z w Jr Ji Rr Ri ct apart h = absurd (apart refl refl)
  by_two true false z w Jr Ji Rr Ri ct apart h =
      row_more y n k z.re w.re Jr (λ j. Jr j +ℤ pos 0) (λ j. Rr j + 4 * ct j) (λ j. (Rr j + 0) + 4 * ((1 + 0) * ct j))
      (λ j p. first_z (Jr j) (Jr j)) (λ j p. one_n (Rr j) (ct j)) h.re
  by_two false true z w Jr Ji Rr Ri ct apart h =
      row_more y n k z.im w.im Ji (λ j. pos 0 +ℤ Ji j) (λ j. Ri j + 4 * ct j) (λ j. (0 + Ri j) + 4 * ((0 + 1) * ct j))
      (λ j p. second_z (Ji j)) (λ j p. other_n (Ri j) (ct j)) h.im
  by_two false false z w Jr Ji Rr Ri ct apart h =
      row_more y n k nothing nothing (λ j. pos 0) (λ j. pos 0 +ℤ pos 0) (λ j. 0) (λ j. (0 + 0) + 4 * ((0 + 0) * ct j))
      (λ j p. second_z (pos 0)) (λ j p. omega arith) (row_still y n k nothing)

  parts_apart : (m l : ℕ) → eqb (2 * m) l ≡ true → eqb (2 * m + 1) l ≡ true → ⊥
  parts_apart m l h g =
      let a : 2 * m ≡ l = grind arith in
      let b : 2 * m + 1 ≡ l = grind arith in
      absurd (omega arith)

  pub side_near : (l : ℕ) (node : NodeAt) (z w : Complex) (Jr Ji : ℕ → ℤ) (Rr Ri ct : ℕ → ℕ)
      → BothNear z w Jr Ji Rr Ri ct
      → RowNear y n k (side l node z) (side l node w) (λ j. at_node l node (Jr j) (Ji j)) (λ j.
      spread_node l node (Rr j) (Ri j) + 4 * (count_node l node * ct j))
  side_near l Ground z w Jr Ji Rr Ri ct h =
      row_more y n k nothing nothing (λ j. pos 0) (λ j. pos 0) (λ j. 0) (λ j. 0 + 4 * (0 * ct j)) (λ j p. refl)
      (λ j p. omega arith) (row_still y n k nothing)
  side_near l (Node m) z w Jr Ji Rr Ri ct h = by_two (eqb (2 * m) l) (eqb (2 * m + 1) l) z w Jr Ji Rr Ri ct (parts_apart m l) h

  -- a number in one row alone
  pub alone_near : (t : Bool) (a b : Fraction) (J : ℕ → ℤ) (R ct : ℕ → ℕ) → RowNear y n k a b J (λ j. R j + 4 * ct j)
      → RowNear y n k (cond t a nothing) (cond t b nothing) (λ j. cond t (J j) (pos 0)) (λ j. cond t (R j) 0 + 4 * (cond t 1 0 * ct j))
  alone_near true a b J R ct h = row_more y n k a b J J (λ j. R j + 4 * ct j) (λ j. R j + 4 * (1 * ct j)) (λ j p. refl) (λ j p. omega arith) h
  alone_near false a b J R ct h =
      row_more y n k nothing nothing (λ j. pos 0) (λ j. pos 0) (λ j. 0) (λ j. 0 + 4 * (0 * ct j)) (λ j p. refl)
      (λ j p. omega arith) (row_still y n k nothing)

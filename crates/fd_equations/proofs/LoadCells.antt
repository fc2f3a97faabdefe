-- What a part load adds to the cells at the places of its terminal, step by step.
use Rattle.std.proofs.Common.{◌≡◌, ◌∙◌, ℕ, ◌+◌, ◌*◌, ◌<◌, ◌≤◌, ◌^◌, ℤ, pos, neg_ℤ, ◌+ℤ◌, nat_abs, Bool, true, false, cond, eqb, ◌&&◌, List, length, take, get_or, Option, Some, None, arith, ap, sym, refl, subst}
use Rattle.std.proofs.lemmas.List.{take_all}
use Rattle.fd_pattern.specs.fd_arith.declared.terms.NodeAt.{NodeAt}
use Rattle.fd_pattern.specs.fd_arith.declared.terms.NodeAt.TheVariants.{Ground, Node}
use Rattle.fd_pattern.specs.fd_load.Slopes.{admittance, slope_row, slopes_of}
use Rattle.fd_pattern.specs.fd_load.declared.slopes.Slopes.{Slopes}
use Rattle.fd_pattern.specs.fd_load.declared.slopes.SlopeRow.{SlopeRow}
use Rattle.fd_pattern.specs.fd_system.declared.loads.LoadPhase.{LoadPhase}
use Rattle.fd_pattern.specs.fd_arith.LoadModels.{is_linear}
use Rattle.fd_pattern.specs.fd_system.declared.loads.LoadAt.{LoadAt}
use Rattle.fd_equations.specs.declared.cells.Cell.{Cell}
use Rattle.fd_equations.specs.Amounts.{Amount, AreGrown, HaveSlopeRoom, amount, nothing, of_load, of_loads}
use Rattle.fd_equations.specs.PartLoads.{load_entry, slope_count, slope_in, slopes_there, start_slopes}
use Rattle.fd_equations.specs.Slopes.{AreSlopes, IsSlope}
use Rattle.fd_pattern.specs.Terminals.{at_magnitude, at_node, at_terminal, count_magnitude, count_node, count_terminal, imaginary_of, magnitude_in, real_of}
use Rattle.fd_equations.proofs.AtTerminals.{cond_small, node_small, terminal_negative, terminal_small}
use Rattle.fd_equations.proofs.Counting.{cond_few, node_few, product_few, slope_few, terminal_few}
use Rattle.fd_equations.proofs.Growth.{IsBoth, grown_none, grown_then, loads_more, room_after, same_amount, slope_at}

-- ---- a row

-- a number in a row's columns
abbrev pub in_row : ℕ → (ℕ → ℤ) → (ℕ → ℕ) → ℕ × ℕ → Amount
in_row row units count p = amount (cond (eqb row p.0) (units p.1) (pos 0)) 0 (cond (eqb row p.0) (count p.1) 0)

both_z : (a b c : Bool) (x y : ℤ) → cond a (cond b x (pos 0) +ℤ cond c y (pos 0)) (pos 0) ≡ (cond (a && b) x (pos 0) +ℤ cond (a && c) y (pos 0))
both_z true b c x y = refl
both_z false b c x y = refl

both_n : (a b c : Bool) → ◌≡◌ {A = ℕ} (cond a (cond b 1 0 + cond c 1 0) 0) (cond (a && b) 1 0 + cond (a && c) 1 0)
both_n true b c = refl
both_n false b c = refl

zero_z : (b : Bool) → cond b (pos 0) (pos 0) ≡ pos 0
zero_z true = refl
zero_z false = refl

zero_n : (b : Bool) → ◌≡◌ {A = ℕ} (cond b 0 0) 0
zero_n true = refl
zero_n false = refl

sum_z : (a : Bool) (x y : ℤ) → cond a (x +ℤ y) (pos 0) ≡ (cond a x (pos 0) +ℤ cond a y (pos 0))
sum_z true x y = refl
sum_z false x y = refl

sum_n : (a : Bool) (x y : ℕ) → ◌≡◌ {A = ℕ} (cond a (x + y) 0) (cond a x 0 + cond a y 0)
sum_n true x y = refl
sum_n false x y = refl

abbrev pub node_in : ℕ → NodeAt → ℤ → ℤ → ℕ × ℕ → Amount
node_in row node re im = in_row row (λ col. at_node col node re im) (λ col. count_node col node)

pub node_step : (row k : ℕ) (re im : ℤ) (p : ℕ × ℕ) → IsBoth (slope_at row (2 * k) re p) (slope_at row (2 * k + 1) im p) (node_in row (Node k) re im p)
node_step row k re im p = record {
  units = both_z (eqb row p.0) (eqb (2 * k) p.1) (eqb (2 * k + 1) p.1) re im;
  count = omega arith;
  slopes = both_n (eqb row p.0) (eqb (2 * k) p.1) (eqb (2 * k + 1) p.1);
}

pub ground_step : (row : ℕ) (re im : ℤ) (p : ℕ × ℕ) → nothing ≡ node_in row Ground re im p
ground_step row re im p = same_amount nothing (node_in row Ground re im p) (sym (zero_z (eqb row p.0))) refl (sym (zero_n (eqb row p.0)))

abbrev pub magnitude_in_row : ℕ → Option ℕ → ℤ → ℕ × ℕ → Amount
magnitude_in_row row place z = in_row row (λ col. at_magnitude col place z) (λ col. count_magnitude col place)

then_z : (a b : Bool) (z : ℤ) → cond (a && b) z (pos 0) ≡ cond a (cond b z (pos 0)) (pos 0)
then_z true b z = refl
then_z false b z = refl

then_n : (a b : Bool) → ◌≡◌ {A = ℕ} (cond (a && b) 1 0) (cond a (cond b 1 0) 0)
then_n true b = refl
then_n false b = refl

pub magnitude_step : (row place : ℕ) (z : ℤ) (p : ℕ × ℕ) → slope_at row place z p ≡ magnitude_in_row row (Some place) z p
magnitude_step row place z p =
    same_amount (slope_at row place z p) (magnitude_in_row row (Some place) z p)
    (then_z (eqb row p.0) (eqb place p.1) z) refl (then_n (eqb row p.0) (eqb place p.1))

pub no_magnitude_step : (row : ℕ) (z : ℤ) (p : ℕ × ℕ) → nothing ≡ magnitude_in_row row None z p
no_magnitude_step row z p = same_amount nothing (magnitude_in_row row None z p) (sym (zero_z (eqb row p.0))) refl (sym (zero_n (eqb row p.0)))

abbrev pub row_in : ℕ → LoadAt → SlopeRow → ℕ × ℕ → Amount
row_in row u r = in_row row (λ col. slope_in col u r) (λ col. count_terminal col u)

abbrev sides_in : ℕ → LoadAt → SlopeRow → ℕ × ℕ → Amount
sides_in row u r =
    in_row row (λ col. at_node col u.first r.p r.q +ℤ at_node col u.second (neg_ℤ r.p) (neg_ℤ r.q))
    (λ col. count_node col u.first + count_node col u.second)

sides_step : (row : ℕ) (u : LoadAt) (r : SlopeRow) (p : ℕ × ℕ)
    → IsBoth (node_in row u.first r.p r.q p) (node_in row u.second (neg_ℤ r.p) (neg_ℤ r.q) p) (sides_in row u r p)
sides_step row u r p = record {
  units = sum_z (eqb row p.0) (at_node p.1 u.first r.p r.q) (at_node p.1 u.second (neg_ℤ r.p) (neg_ℤ r.q));
  count = omega arith;
  slopes = sum_n (eqb row p.0) (count_node p.1 u.first) (count_node p.1 u.second);
}

row_step : (row : ℕ) (u : LoadAt) (r : SlopeRow) (p : ℕ × ℕ) → IsBoth (sides_in row u r p) (magnitude_in_row row u.magnitude r.m p) (row_in row u r p)
unfolding at_terminal count_terminal
row_step row u r p = record {
  units = sum_z (eqb row p.0) (at_node p.1 u.first r.p r.q +ℤ at_node p.1 u.second (neg_ℤ r.p) (neg_ℤ r.q)) (at_magnitude p.1 u.magnitude r.m);
  count = omega arith;
  slopes = sum_n (eqb row p.0) (count_node p.1 u.first + count_node p.1 u.second) (count_magnitude p.1 u.magnitude);
}

pub row_grown : (ps : List (ℕ × ℕ)) (a b c d : List Cell) (row : ℕ) (u : LoadAt) (r : SlopeRow)
    → AreGrown ps a b (node_in row u.first r.p r.q) → AreGrown ps b c (node_in row u.second (neg_ℤ r.p) (neg_ℤ r.q))
    → AreGrown ps c d (magnitude_in_row row u.magnitude r.m) → AreGrown ps a d (row_in row u r)
row_grown ps a b c d row u r f g h =
    grown_then ps a c d (sides_in row u r) (magnitude_in_row row u.magnitude r.m) (row_in row u r)
    (grown_then ps a b c (node_in row u.first r.p r.q) (node_in row u.second (neg_ℤ r.p) (neg_ℤ r.q))
    (sides_in row u r) f g (sides_step row u r))
    h (row_step row u r)

-- ---- rows of a terminal

abbrev pub rows_in : (ℕ → ℕ → ℤ) → (ℕ → ℕ) → LoadAt → ℕ × ℕ → Amount
rows_in units count u p = amount (units p.0 p.1) 0 (count p.0 * count_terminal p.1 u)

abbrev pub node_rows : NodeAt → LoadAt → SlopeRow → SlopeRow → ℕ × ℕ → Amount
node_rows node u r i p = amount (at_node p.0 node (slope_in p.1 u r) (slope_in p.1 u i)) 0 (count_node p.0 node * count_terminal p.1 u)

cond_times : (b : Bool) (t : ℕ) → ◌≡◌ {A = ℕ} (cond b 1 0 * t) (cond b t 0)
cond_times true t = omega arith
cond_times false t = omega arith

sum_times : (b c : Bool) (t : ℕ) → (cond b 1 0 + cond c 1 0) * t ≡ cond b t 0 + cond c t 0
sum_times true true t = omega arith
sum_times true false t = omega arith
sum_times false true t = omega arith
sum_times false false t = omega arith

pub node_rows_step : (k : ℕ) (u : LoadAt) (r i : SlopeRow) (p : ℕ × ℕ) → IsBoth (row_in (2 * k) u r p) (row_in (2 * k + 1) u i p) (node_rows (Node k) u r i p)
node_rows_step k u r i p = record {
  units = refl;
  count = omega arith;
  slopes = sum_times (eqb (2 * k) p.0) (eqb (2 * k + 1) p.0) (count_terminal p.1 u);
}

pub no_rows_step : (u : LoadAt) (r i : SlopeRow) (p : ℕ × ℕ) → nothing ≡ node_rows Ground u r i p
no_rows_step u r i p = same_amount nothing (node_rows Ground u r i p) refl refl (omega arith)

abbrev pub magnitude_row_of : LoadAt → SlopeRow → ℕ × ℕ → Amount
magnitude_row_of u r p = amount (at_magnitude p.0 u.magnitude (slope_in p.1 u r)) 0 (count_magnitude p.0 u.magnitude * count_terminal p.1 u)

pub magnitude_row_step : (u : LoadAt) (r : SlopeRow) (place : ℕ) (p : ℕ × ℕ) → u.magnitude ≡ Some place → row_in place u r p ≡ magnitude_row_of u r p
magnitude_row_step u r place p e =
    same_amount (row_in place u r p) (amount (at_magnitude p.0 (Some place) (slope_in p.1 u r)) 0
    (count_magnitude p.0 (Some place) * count_terminal p.1 u))
    refl refl (sym (cond_times (eqb place p.0) (count_terminal p.1 u)))
    ∙ ap (λ o. amount (at_magnitude p.0 o (slope_in p.1 u r)) 0 (count_magnitude p.0 o * count_terminal p.1 u))
    (sym e)

pub no_magnitude_row_step : (u : LoadAt) (r : SlopeRow) (p : ℕ × ℕ) → u.magnitude ≡ None → nothing ≡ magnitude_row_of u r p
no_magnitude_row_step u r p e =
    same_amount nothing (amount (at_magnitude p.0 None (slope_in p.1 u r)) 0 (count_magnitude p.0 None * count_terminal p.1 u)) refl refl (omega arith)
    ∙ ap (λ o. amount (at_magnitude p.0 o (slope_in p.1 u r)) 0 (count_magnitude p.0 o * count_terminal p.1 u)) (sym e)

abbrev pub all_rows : LoadAt → Slopes → ℕ × ℕ → Amount
all_rows u s p =
    amount (at_terminal p.0 u (slope_in p.1 u s.real) (slope_in p.1 u s.imaginary) (slope_in p.1 u s.magnitude)) 0
    (count_terminal p.0 u * count_terminal p.1 u)

pub slope_negative : (col : ℕ) (u : LoadAt) (r n : SlopeRow) → n ≡ slope_row (neg_ℤ r.p) (neg_ℤ r.q) (neg_ℤ r.m) → slope_in col u n ≡ neg_ℤ (slope_in col u r)
slope_negative col u r n e = ap (slope_in col u) e ∙ sym (terminal_negative col u r.p r.q r.m)

module _ (u : LoadAt) (s : Slopes) (n m : SlopeRow)
    (e : n ≡ slope_row (neg_ℤ s.real.p) (neg_ℤ s.real.q) (neg_ℤ s.real.m))
    (f : m ≡ slope_row (neg_ℤ s.imaginary.p) (neg_ℤ s.imaginary.q) (neg_ℤ s.imaginary.m)) where
  abbrev two_sides : ℕ × ℕ → Amount
  two_sides p =
      amount (at_node p.0 u.first (slope_in p.1 u s.real) (slope_in p.1 u s.imaginary)
      +ℤ at_node p.0 u.second (neg_ℤ (slope_in p.1 u s.real)) (neg_ℤ (slope_in p.1 u s.imaginary)))
      0 ((count_node p.0 u.first + count_node p.0 u.second) * count_terminal p.1 u)

  two_step : (p : ℕ × ℕ) → IsBoth (node_rows u.first u s.real s.imaginary p) (node_rows u.second u n m p) (two_sides p)
  two_step p = record {
    units = λ i. at_node p.0 u.first (slope_in p.1 u s.real) (slope_in p.1 u s.imaginary)
        +ℤ at_node p.0 u.second (sym (slope_negative p.1 u s.real n e) i)
        (sym (slope_negative p.1 u s.imaginary m f) i);
    count = omega arith;
    slopes = times (count_node p.0 u.first) (count_node p.0 u.second) (count_terminal p.1 u);
  }
    where
      times : (a b t : ℕ) → (a + b) * t ≡ a * t + b * t
      times a b t = omega arith

  all_step : (p : ℕ × ℕ) → IsBoth (two_sides p) (magnitude_row_of u s.magnitude p) (all_rows u s p)
  unfolding at_terminal count_terminal
  all_step p = record {
    units = refl;
    count = omega arith;
    slopes = times (count_node p.0 u.first + count_node p.0 u.second) (count_magnitude p.0 u.magnitude)
        ((count_node p.1 u.first + count_node p.1 u.second) + count_magnitude p.1 u.magnitude);
  }
    where
      times : (a b t : ℕ) → (a + b) * t ≡ a * t + b * t
      times a b t = omega arith

  pub all_grown : (ps : List (ℕ × ℕ)) (a b c d : List Cell) → AreGrown ps a b (node_rows u.first u s.real s.imaginary)
      → AreGrown ps b c (node_rows u.second u n m) → AreGrown ps c d (magnitude_row_of u s.magnitude)
      → AreGrown ps a d (all_rows u s)
  all_grown ps a b c d g h k =
      grown_then ps a c d two_sides (magnitude_row_of u s.magnitude) (all_rows u s)
      (grown_then ps a b c (node_rows u.first u s.real s.imaginary) (node_rows u.second u n m) two_sides g h two_step) k all_step

-- ---- a part load

pub load_other : (u : LoadAt) (s : Slopes) (p : ℕ × ℕ) → is_linear u.load.model ≡ false → all_rows u s p ≡ of_load u s p
unfolding load_entry slope_count
load_other u s p ne =
    ap (λ b.
    amount (cond b (pos 0) (at_terminal p.0 u (slope_in p.1 u s.real) (slope_in p.1 u s.imaginary)
    (slope_in p.1 u s.magnitude))) 0 (cond b 0 (count_terminal p.0 u * count_terminal p.1 u))) (sym ne)

pub load_linear : (u : LoadAt) (s : Slopes) (p : ℕ × ℕ) → is_linear u.load.model ≡ true → nothing ≡ of_load u s p
unfolding load_entry slope_count
load_linear u s p e =
    ap (λ b.
    amount (cond b (pos 0) (at_terminal p.0 u (slope_in p.1 u s.real) (slope_in p.1 u s.imaginary)
    (slope_in p.1 u s.magnitude))) 0 (cond b 0 (count_terminal p.0 u * count_terminal p.1 u))) (sym e)

-- ---- sizes

pub slope_small : (col : ℕ) (u : LoadAt) (r : SlopeRow) → IsSlope r → nat_abs (slope_in col u r) ≤ 5 * 2 ^ 73
slope_small col u r h = terminal_small col u r.p r.q r.m (2 ^ 73) h.p h.q h.m

pub all_small : (row col : ℕ) (u : LoadAt) (s : Slopes) → AreSlopes s
    → nat_abs (at_terminal row u (slope_in col u s.real) (slope_in col u s.imaginary) (slope_in col u s.magnitude))
    ≤ 2 ^ 78
all_small row col u s h =
    let t = terminal_small row u (slope_in col u s.real) (slope_in col u s.imaginary) (slope_in col u s.magnitude)
    (5 * 2 ^ 73) (slope_small col u s.real h.real) (slope_small col u s.imaginary h.imaginary)
    (slope_small col u s.magnitude h.magnitude) in
    omega arith

entry_small : (u : LoadAt) (s : Slopes) (row col : ℕ) → AreSlopes s → nat_abs (load_entry u s row col) ≤ 2 ^ 78
unfolding load_entry
entry_small u s row col h = by_test (is_linear u.load.model)
  where
    by_test : (b : Bool)
        → nat_abs (cond b (pos 0)
        (at_terminal row u (slope_in col u s.real) (slope_in col u s.imaginary) (slope_in col u s.magnitude)))
        ≤ 2 ^ 78
    by_test true = omega arith
    by_test false = all_small row col u s h

-- what a part load adds at a place
pub load_small : (u : LoadAt) (s : Slopes) → AreSlopes s → (p : ℕ × ℕ) → (nat_abs (of_load u s p).units ≤ 2 ^ 78) × ((of_load u s p).slopes ≤ 25)
load_small u s h p = (entry_small u s p.0 p.1 h, slope_few p.0 p.1 u)

pub node_in_small : (row : ℕ) (node : NodeAt) (re im : ℤ) → nat_abs re ≤ 2 ^ 73 → nat_abs im ≤ 2 ^ 73 → (p : ℕ × ℕ)
    → (nat_abs (node_in row node re im p).units ≤ 2 * 2 ^ 73) × ((node_in row node re im p).slopes ≤ 2)
node_in_small row node re im h k p =
    let n = node_small p.1 node re im (2 ^ 73) h k in
    (cond_small (eqb row p.0) (at_node p.1 node re im) (2 * 2 ^ 73) (omega arith), cond_few (eqb row p.0) (count_node p.1 node) 2 (node_few p.1 node))

pub slope_at_small : (row col : ℕ) (z : ℤ) → nat_abs z ≤ 2 ^ 73 → (p : ℕ × ℕ)
    → (nat_abs (slope_at row col z p).units ≤ 2 ^ 73) × ((slope_at row col z p).slopes ≤ 1)
slope_at_small row col z h p = (cond_small (eqb row p.0 && eqb col p.1) z (2 ^ 73) h, cond_few (eqb row p.0 && eqb col p.1) 1 1 (omega arith))

pub row_in_small : (row : ℕ) (u : LoadAt) (r : SlopeRow) → IsSlope r → (p : ℕ × ℕ)
    → (nat_abs (row_in row u r p).units ≤ 5 * 2 ^ 73) × ((row_in row u r p).slopes ≤ 5)
row_in_small row u r h p = (
  cond_small (eqb row p.0) (slope_in p.1 u r) (5 * 2 ^ 73) (slope_small p.1 u r h),
  cond_few (eqb row p.0) (count_terminal p.1 u) 5 (terminal_few p.1 u),
)

pub node_rows_small : (node : NodeAt) (u : LoadAt) (r i : SlopeRow) → IsSlope r → IsSlope i → (p : ℕ × ℕ)
    → (nat_abs (node_rows node u r i p).units ≤ 10 * 2 ^ 73) × ((node_rows node u r i p).slopes ≤ 10)
node_rows_small node u r i h k p =
    let n = node_small p.0 node (slope_in p.1 u r) (slope_in p.1 u i) (5 * 2 ^ 73) (slope_small p.1 u r h) (slope_small p.1 u i k) in
    let m = product_few (count_node p.0 node) (count_terminal p.1 u) 2 5 (node_few p.0 node) (terminal_few p.1 u) in
    (omega arith, omega arith)

-- ---- slopes

-- the slopes at the point x
pub slopes_are : (x : List ℤ) (u : LoadAt) (p q m : ℤ) (s : Slopes) → p ≡ real_of x u → q ≡ imaginary_of x u
    → m ≡ magnitude_in x u → s ≡ slopes_of u.load p q m → s ≡ slopes_there x u
unfolding slopes_there
slopes_are x u p q m s a b d e = e ∙ (λ i. slopes_of u.load (a i) (b i) (d i))

pub start_slopes_are : (w : LoadPhase) (g b n : ℤ) → g ≡ admittance w.p (nat_abs w.vn * nat_abs w.vn)
    → b ≡ admittance w.q (nat_abs w.vn * nat_abs w.vn) → n ≡ neg_ℤ (admittance w.q (nat_abs w.vn * nat_abs w.vn))
    → ◌≡◌ {A = Slopes} (record {
      real = slope_row g b (pos 0);
      imaginary = slope_row n g (pos 0);
      magnitude = slope_row (pos 0) (pos 0) (pos (2 ^ 41));
    }) (start_slopes w)
unfolding start_slopes
start_slopes_are w g b n p q m = λ i. record {
  real = slope_row (p i) (q i) (pos 0);
  imaginary = slope_row (m i) (p i) (pos 0);
  magnitude = slope_row (pos 0) (pos 0) (pos (2 ^ 41));
}

-- ---- part loads so far

-- the cells grew by the part loads so far, and have room for the next
pub record IsSoFar (ps : List (ℕ × ℕ)) (old new : List Cell) (f : LoadAt → Slopes) (us : List LoadAt) (k : ℕ) : Type 0 where
  pub grown : AreGrown ps old new (of_loads f (take k us))
  pub room : HaveSlopeRoom ps new (2 ^ 78 + k * 2 ^ 78) (k * 25)

module _ (ps : List (ℕ × ℕ)) (old : List Cell) (f : LoadAt → Slopes) (us : List LoadAt) where
  pub none_yet : HaveSlopeRoom ps old (2 ^ 78) 0 → IsSoFar ps old old f us 0
  none_yet room = record {
    grown = grown_none ps old;
    room = λ k l. let r = room k l in (omega (arith, r.0), omega (arith, r.1));
  }

  pub next_load : (new later : List Cell) (k : ℕ) (d : LoadAt) → k < length us → IsSoFar ps old new f us k
      → AreSlopes (f (get_or us k d)) → AreGrown ps new later (of_load (get_or us k d) (f (get_or us k d)))
      → IsSoFar ps old later f us (k + 1)
  next_load new later k d l h small grown = record {
    grown = grown_then ps old new later (of_loads f (take k us)) (of_load (get_or us k d) (f (get_or us k d)))
        (of_loads f (take (k + 1) us)) h.grown grown (loads_more f us k d l);
    room = room_after ps new later (of_load (get_or us k d) (f (get_or us k d))) (2 ^ 78 + k * 2 ^ 78) (2 ^ 78)
        (2 ^ 78 + (k + 1) * 2 ^ 78) (k * 25) 25 ((k + 1) * 25) (omega arith) (omega arith) grown h.room
        (load_small (get_or us k d) (f (get_or us k d)) small);
  }

  pub room_yet : (new : List Cell) (k : ℕ) → k ≤ 2 ^ 21 → IsSoFar ps old new f us k → HaveSlopeRoom ps new (2 ^ 100) (2 ^ 27)
  room_yet new k few h j l = let r = h.room j l in (omega (arith, r.0), omega (arith, r.1))

  pub loads_grown : (new : List Cell) (k : ℕ) → length us ≤ k → IsSoFar ps old new f us k → AreGrown ps old new (of_loads f us)
  loads_grown new k e h = subst (λ xs. AreGrown ps old new (of_loads f xs)) (take_all k us e) h.grown

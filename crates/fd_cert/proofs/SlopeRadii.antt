-- The matrix of the radii of slopes from the cells of the Jacobian.
use Rattle.std.proofs.Common.{◌≡◌, ◌∙◌, ℕ, zero, suc, ◌+◌, ◌*◌, ◌/◌, ◌<◌, ◌≤◌, ◌^◌, ℤ, pos, ◌≤ℤ◌, nat_abs, max, Bool, true, false, cond, eqb, List, [], ◌∷◌, length, Option, Some, None, IfSome, ◌⊎◌, arith, ap, refl, sym, subst, inl, inr}
use Rattle.std.specs.List.{All, Contains}
use Rattle.std.proofs.Math.Nat.{mul-le-mul_right}
use Rattle.std.proofs.lemmas.Bool.{cases_lt}
use Rattle.std.proofs.lemmas.Int.{ints}
use Rattle.std.proofs.lemmas.List.{get_or_past}
use Rattle.std.proofs.lemmas.List.Elements.{All-get_or, All-head, All-tail}
use Rattle.fd_enclosure.specs.fd_exact.Quotients.{ceil_nat_least}
use Rattle.fd_enclosure.specs.fd_exact.Rounding.{ceil_nat}
use Rattle.fd_enclosure.specs.fd_exact.States.{part}
use Rattle.fd_enclosure.specs.fd_exact.Tables.{map-same}
use Rattle.fd_enclosure.specs.fd_arith.declared.terms.NodeAt.{NodeAt}
use Rattle.fd_enclosure.specs.fd_arith.declared.terms.NodeAt.TheVariants.{Ground, Node}
use Rattle.fd_enclosure.specs.fd_system.Residual.{IsPlace}
use Rattle.fd_enclosure.specs.fd_arith.LoadModels.{is_linear}
use Rattle.fd_enclosure.specs.fd_system.declared.loads.LoadAt.{LoadAt}
use Rattle.fd_enclosure.specs.fd_equations.Amounts.{Amount, amount, cell_at, cell_of, nothing}
use Rattle.fd_enclosure.proofs.CallerLemmas.fd_pattern.{all_connected}
use Rattle.fd_enclosure.proofs.CallerLemmas.fd_equations.{get_or-list_of, length-list_of}
use Rattle.fd_enclosure.specs.fd_pattern.Coefficients.{count_at}
use Rattle.fd_enclosure.specs.fd_pattern.Conditions.{IsNetwork, IsPart, IsPoint}
use Rattle.fd_enclosure.specs.fd_equations.Matrices.{IsMatrix, MatrixView, jacobian_amount}
use Rattle.fd_enclosure.specs.fd_equations.PartLoads.{slope_count, slope_counts}
use Rattle.fd_enclosure.specs.fd_pattern.Patterns.{key}
use Rattle.fd_enclosure.specs.fd_equations.Rounded.{jacobian_entry, list_of}
use Rattle.fd_enclosure.specs.fd_pattern.Terminals.{IsConnected, count_magnitude, count_node, count_terminal}
use Rattle.fd_enclosure.specs.fd_pattern.Views.{NetworkView, kind_of}
use Rattle.fd_enclosure.specs.fd_equations.Weights.{size_of_both, weight_at, weight_by, weights_of}
use Rattle.fd_enclosure.specs.fd_pattern.declared.layout.PlaceKind.{PlaceKind}
use Rattle.fd_enclosure.specs.fd_pattern.declared.layout.PlaceKind.TheVariants.{Branch, Magnitude, Node as NodePlace}
use Rattle.fd_enclosure.specs.fd_equations.declared.cells.Cell.{Cell}
use Rattle.fd_enclosure.specs.fd_slope.Changes.{centre_im, centre_magnitude, centre_re, im_width, magnitude_width, radii_in, re_width}
use Rattle.fd_enclosure.specs.fd_slope.Radii.{radii_of}
use Rattle.fd_enclosure.specs.fd_slope.declared.radii.Radii.{Radii}
use Rattle.fd_enclosure.specs.Boxes.{part_boxes, part_width, part_width_by}
use Rattle.fd_enclosure.specs.Radii.{load_radius, part_radius, radius_in, spread, spread_magnitude, spread_node}
use Rattle.fd_enclosure.specs.Sound.{number_at}
use Rattle.fd_cert.specs.Columns.{AreWeights, HasEntries, HasNumbers, HasWeights, IsMade}
use Rattle.fd_cert.specs.Places.{AreRadiusCells, HaveWidths, loads_radius, radius_cell}
use Rattle.fd_cert.specs.Slopes.{HasRadii}

-- ---- half-widths of the unknowns of a part load

module _ (n : ℕ) (f g : ℕ → ℕ) (same : (i : ℕ) → i < n → f i ≡ g i) where
  re_same : (node : NodeAt) → IsPlace n node → re_width f node ≡ re_width g node
  re_same Ground h = refl
  re_same (Node k) h = let l = h.0 in same (2 * k) (omega arith)

  im_same : (node : NodeAt) → IsPlace n node → im_width f node ≡ im_width g node
  im_same Ground h = refl
  im_same (Node k) h = same (2 * k + 1) h.0

  magnitude_same : (o : Option ℕ) → IfSome o (λ k. k < n) → magnitude_width f o ≡ magnitude_width g o
  magnitude_same None h = refl
  magnitude_same (Some k) h = same k h

  radii_same : (x : List ℤ) (u : LoadAt) → IsConnected n u → radii_in f x u ≡ radii_in g x u
  radii_same x u c = λ i.
      radii_of u.load (centre_re x u) (centre_im x u) (centre_magnitude x u)
      (re_same u.first c.first i + re_same u.second c.second i)
      (im_same u.first c.first i + im_same u.second c.second i) (magnitude_same u.magnitude c.magnitude i)

  pub loads_same : (x : List ℤ) (us : List LoadAt) (p : ℕ × ℕ) → All (IsConnected n) us
      → loads_radius f x us p ≡ loads_radius g x us p
  loads_same x [] p h = refl
  loads_same x (u ∷ us) p h = λ i. load_radius u (radii_same x u (All-head (IsConnected n) u us h) i) p.0 p.1
      + loads_same x us p (All-tail (IsConnected n) u us h) i

-- ---- where no slope stands there is no radius

no_count : (a b : Bool) (re im : ℕ) → ◌≡◌ {A = ℕ} (cond a 1 0 + cond b 1 0) 0 → cond a re 0 + cond b im 0 ≡ 0
no_count false false re im h = refl
no_count true b re im h = absurd (omega arith)
no_count false true re im h = absurd (omega arith)

node_none : (l : ℕ) (node : NodeAt) (re im : ℕ) → count_node l node ≡ 0 → spread_node l node re im ≡ 0
node_none l Ground re im h = refl
node_none l (Node k) re im h = no_count (eqb (2 * k) l) (eqb (2 * k + 1) l) re im h

magnitude_none : (l : ℕ) (o : Option ℕ) (m : ℕ) → count_magnitude l o ≡ 0 → spread_magnitude l o m ≡ 0
magnitude_none l None m h = refl
magnitude_none l (Some k) m h = by_test (eqb k l) h
  where
    by_test : (b : Bool) → ◌≡◌ {A = ℕ} (cond b 1 0) 0 → cond b m 0 ≡ 0
    by_test true h = absurd (omega arith)
    by_test false h = refl

spread_none : (l : ℕ) (u : LoadAt) (re im m : ℕ) → count_terminal l u ≡ 0 → spread l u re im m ≡ 0
unfolding count_terminal spread
spread_none l u re im m h =
    let a = node_none l u.first re im (omega arith) in
    let b = node_none l u.second re im (omega arith) in
    let c = magnitude_none l u.magnitude m (omega arith) in
    omega arith

node_zero : (l : ℕ) (node : NodeAt) → spread_node l node 0 0 ≡ 0
node_zero l Ground = refl
node_zero l (Node k) = by_test (eqb (2 * k) l) (eqb (2 * k + 1) l)
  where
    by_test : (a b : Bool) → ◌≡◌ {A = ℕ} (cond a 0 0 + cond b 0 0) 0
    by_test true true = refl
    by_test true false = refl
    by_test false true = refl
    by_test false false = refl

magnitude_zero : (l : ℕ) (o : Option ℕ) → spread_magnitude l o 0 ≡ 0
magnitude_zero l None = refl
magnitude_zero l (Some k) = by_test (eqb k l)
  where
    by_test : (b : Bool) → ◌≡◌ {A = ℕ} (cond b 0 0) 0
    by_test true = refl
    by_test false = refl

spread_zero : (l : ℕ) (u : LoadAt) → spread l u 0 0 0 ≡ 0
unfolding spread
spread_zero l u = let a = node_zero l u.first in let b = node_zero l u.second in let c = magnitude_zero l u.magnitude in omega arith

no_product : (a b : ℕ) → a * b ≡ 0 → (a ≡ 0) ⊎ (b ≡ 0)
no_product zero b h = inl refl
no_product (suc a) zero h = inr refl
no_product (suc a) (suc b) h = absurd (omega arith)

rows_none : (u : LoadAt) (r : Radii) (row col : ℕ) → count_terminal row u * count_terminal col u ≡ 0
    → spread row u (radius_in col u r.real) (radius_in col u r.imaginary) (radius_in col u r.magnitude) ≡ 0
rows_none u r row col h = elim (no_product (count_terminal row u) (count_terminal col u) h) [
  | inl e ↦ spread_none row u (radius_in col u r.real) (radius_in col u r.imaginary) (radius_in col u r.magnitude) e
  | inr e ↦
      (λ i. spread row u (spread_none col u r.real.p r.real.q r.real.m e i)
      (spread_none col u r.imaginary.p r.imaginary.q r.imaginary.m e i)
      (spread_none col u r.magnitude.p r.magnitude.q r.magnitude.m e i))
      ∙ spread_zero row u
]

load_none : (u : LoadAt) (r : Radii) (row col : ℕ) → slope_count row col u ≡ 0 → load_radius u r row col ≡ 0
unfolding slope_count load_radius
load_none u r row col h = by_test (is_linear u.load.model) h
  where
    by_test : (b : Bool) → cond b 0 (count_terminal row u * count_terminal col u) ≡ 0
        → cond b 0 (spread row u (radius_in col u r.real) (radius_in col u r.imaginary) (radius_in col u r.magnitude)) ≡ 0
    by_test true h = refl
    by_test false h = rows_none u r row col h

loads_none : (box : ℕ → ℕ) (x : List ℤ) (us : List LoadAt) (row col : ℕ) → slope_counts us row col ≡ 0
    → loads_radius box x us (row, col) ≡ 0
loads_none box x [] row col h = refl
loads_none box x (u ∷ us) row col h =
    let a = load_none u (radii_in box x u) row col (omega arith) in
    let b = loads_none box x us row col (omega arith) in
    omega arith

-- ---- the matrix

-- a radius with the numbers of summands of the Jacobian
abbrev radius_amount : ℕ → NetworkView → List ℤ → ℕ × ℕ → Amount
radius_amount parts v x p = amount (pos (part_radius parts v x p.0 p.1)) (count_at v.stamp.terms p.0 p.1) (slope_counts v.stamp.loads p.0 p.1)

radius_is : (parts : ℕ) (v : NetworkView) (x : List ℤ) (row col : ℕ)
    → loads_radius (part_width parts v x) x v.stamp.loads (row, col)
    + 4 * (count_at v.stamp.terms row col + slope_counts v.stamp.loads row col)
    ≡ part_radius parts v x row col
unfolding part_radius
radius_is parts v x row col = refl

module _ (v : NetworkView) (x : List ℤ) (j : MatrixView) (is : IsMatrix v.size j (jacobian_amount v x)) where
  pub jacobian_made : HasEntries j (jacobian_entry v x)
  jacobian_made = record { at = jacobian_amount v x; cells = is.cells; nothing = is.nothing; entries = λ row col. refl }

  pub is_made : IsMade j
  is_made = record { long = is.cells.long; J = jacobian_entry v x; has = jacobian_made }

  module _ (parts : ℕ) (boxes : List ℕ) (box : HasNumbers v.size boxes (part_width parts v x))
      (connected : All (IsConnected v.size) v.stamp.loads) (radii : List ℕ) (made : List Cell) (of_loads : (k : ℕ)
      → k < length j.places → number_at radii k ≡ loads_radius (number_at boxes) x v.stamp.loads (key j.places k))
      (cells : AreRadiusCells j.cells radii made) where
    radius_at_place : (k : ℕ) → k < length j.places
        → cell_at made k ≡ cell_of (key j.places k).1 (radius_amount parts v x (key j.places k))
    radius_at_place k l =
        let p = key j.places k in
        let inside : k < length j.cells = subst (λ n. k < n) (sym is.cells.long) l in
        let radius = of_loads k l ∙ loads_same v.size (number_at boxes) (part_width parts v x) box x v.stamp.loads p connected in
        cells.each k inside
        ∙ (λ i. radius_cell (is.cells.each k l i) (radius i))
        ∙ (λ i. cell_of p.1 (amount (pos (radius_is parts v x p.0 p.1 i)) (count_at v.stamp.terms p.0 p.1)
        (slope_counts v.stamp.loads p.0 p.1)))

    nothing_there : (p : ℕ × ℕ) → ¬ (Contains j.places p) → radius_amount parts v x p ≡ nothing
    nothing_there p away =
        let none = is.nothing p away in
        let c : count_at v.stamp.terms p.0 p.1 ≡ 0 = ap (λ (a : Amount). a.count) none in
        let s : slope_counts v.stamp.loads p.0 p.1 ≡ 0 = ap (λ (a : Amount). a.slopes) none in
        let r : part_radius parts v x p.0 p.1 ≡ 0 =
        sym (radius_is parts v x p.0 p.1) ∙ (λ i. loads_none (part_width parts v x) x v.stamp.loads p.0 p.1 s i + 4 * (c i + s i)) in
        λ i. amount (pos (r i)) (c i) (s i)

    pub radii_made : (m : MatrixView) → m ≡ (record { size = j.size; places = j.places; cells = made })
        → HasRadii m (part_radius parts v x)
    radii_made m e = subst (λ w. HasRadii w (part_radius parts v x)) (sym e) (record {
      at = radius_amount parts v x;
      cells = record { long = cells.long ∙ is.cells.long; each = radius_at_place };
      nothing = nothing_there;
      entries = λ row col. refl;
    })

-- ---- half-widths

part_small : (x : List ℤ) (i : ℕ) → All IsPart x → nat_abs (part x i) ≤ 2 ^ 40
part_small x i h = elim (cases_lt i (length x)) [
  | inl l ↦ let p = All-get_or IsPart x i (pos 0) l h in omega (arith, ints, p.0, p.1)
  | inr ge ↦ subst (λ z. nat_abs z ≤ 2 ^ 40) (sym (get_or_past x i (pos 0) ge)) (omega arith)
]

narrow : (parts n : ℕ) → 2 ≤ parts → n ≤ 2 ^ 41 → ceil_nat n parts ≤ 2 ^ 40
narrow parts n two h = let p = mul-le-mul_right (2 ^ 40) two in ceil_nat_least n parts (2 ^ 40) (omega arith) (omega arith)

width_by : (parts : ℕ) → 2 ≤ parts → (k : PlaceKind) (v : NetworkView) (x : List ℤ) (i : ℕ) → All IsPart x
    → part_width_by parts k (weight_by k v.stamp.draw x i) ≤ 2 ^ 40
width_by parts two NodePlace v x i h =
    let a = part_small x (2 * (i / 2)) h in
    let b = part_small x (2 * (i / 2) + 1) h in
    narrow parts (max (10 ^ 6) (size_of_both x i)) two (omega arith)
width_by parts two Branch v x i h = omega arith
width_by parts two Magnitude v x i h =
    let a = part_small x i h in narrow parts (max (10 ^ 6) (nat_abs (part x i))) two (omega arith)

module _ (parts : ℕ) (v : NetworkView) (x : List ℤ) (boxes : List ℕ) (is : boxes ≡ part_boxes parts v x) where
  pub boxes_at : HasNumbers v.size boxes (part_width parts v x)
  boxes_at i l = ap (λ bs. number_at bs i) is ∙ get_or-list_of v.size (part_width parts v x) i 0 l

  pub have_widths : 2 ≤ parts → IsPoint v x → HaveWidths (length x) boxes
  have_widths two p = record {
    long = ap length is ∙ length-list_of v.size (part_width parts v x) ∙ sym p.long;
    small = λ i l.
        subst (λ n. n ≤ 2 ^ 40) (sym (boxes_at i (subst (λ n. i < n) p.long l))) (width_by parts two (kind_of v i) v x i p.parts);
  }

pub boxes_are : (parts : ℕ) (v : NetworkView) (x ws : List ℤ) (boxes : List ℕ) → HasWeights v.size ws (weight_at v x)
    → boxes ≡ list_of v.size (λ i. part_width_by parts (kind_of v i) (nat_abs (part ws i))) → boxes ≡ part_boxes parts v x
boxes_are parts v x ws boxes h e =
    e
    ∙ map-same (λ i. part_width_by parts (kind_of v i) (nat_abs (part ws i))) (part_width parts v x) v.size 0
    (λ i l. ap (λ z. part_width_by parts (kind_of v i) (nat_abs z)) (h i l))

pub weights_at : (v : NetworkView) (x ws : List ℤ) → ws ≡ weights_of v x → HasWeights v.size ws (weight_at v x)
weights_at v x ws e i l = ap (λ xs. part xs i) e ∙ get_or-list_of v.size (λ place. pos (weight_at v x place)) i (pos 0) l

pub are_weights : (v : NetworkView) (x ws : List ℤ) → ws ≡ weights_of v x
    → ((l : ℕ) → l < v.size → (pos (10 ^ 6) ≤ℤ part ws l) × (part ws l ≤ℤ pos (2 ^ 66))) → AreWeights v.size ws
are_weights v x ws e h = record {
  long = ap length e ∙ length-list_of v.size (λ place. pos (weight_at v x place));
  least = λ i l. let r = h i l in r.0;
  most = λ i l. let r = h i l in r.1;
}

pub loads_connected : (v : NetworkView) → IsNetwork v → All (IsConnected v.size) v.stamp.loads
loads_connected v n = all_connected v.nodes v.complexes v.size v.stamp.loads n.nodes (omega (arith, n.unknowns)) n.small n.loads

-- A sound claim encloses.
use Rattle.std.proofs.Common.{◌≡◌, ◌≢◌, ℕ, zero, suc, ◌*◌, ◌-◌, ◌<◌, ◌≤◌, ◌^◌, ℤ, pos, ◌*ℤ◌, nat_abs, nat_lt, int_lt, Bool, true, false, List, length, Option, Some, None, is_none, arith, ap, refl, sym, subst, lit<}
use Rattle.std.specs.List.{All}
use Rattle.std.specs.Int.RustNames.{unsigned_abs}
use Rattle.std.proofs.Math.Nat.{le_of_mul-le-mul_right, le_trans, mul-le-mul_left, mul-le-mul_right, mul-pos}
use Rattle.std.proofs.lemmas.Bool.{le-ltb, ltb-false}
use Rattle.std.proofs.lemmas.Int.{ints}
use Rattle.fd_equations.specs.fd_exact.First.{first_place}
use Rattle.fd_equations.specs.fd_exact.FirstLaws.{first_none, none_holds}
use Rattle.fd_equations.specs.fd_exact.Greatest.{greatest, le_greatest}
use Rattle.fd_equations.specs.fd_exact.Near.{row_from_fractions}
use Rattle.fd_equations.specs.fd_exact.Quotients.{ceil_nat_covers}
use Rattle.fd_equations.specs.fd_exact.Rounding.{ceil_nat}
use Rattle.fd_equations.specs.fd_exact.States.{State, away, entry}
use Rattle.fd_equations.specs.fd_exact.Sums.{sum_n, sum_z}
use Rattle.fd_slope.specs.fd_system.Meets.{Meets}
use Rattle.fd_slope.specs.fd_system.Residual.{whole_state}
use Rattle.fd_slope.specs.fd_system.System.{residual_of}
use Rattle.fd_equations.specs.fd_pattern.declared.layout.PlaceKind.{PlaceKind}
use Rattle.fd_equations.specs.fd_pattern.declared.layout.PlaceKind.TheVariants.{Branch, Magnitude, Node}
use Rattle.fd_equations.specs.fd_pattern.Conditions.{IsNetwork}
use Rattle.fd_equations.specs.Rounded.{jacobian_entry}
use Rattle.fd_equations.specs.fd_pattern.Views.{NetworkView, kind_of}
use Rattle.fd_equations.specs.Weights.{weight_at, weight_by}
use Rattle.fd_enclosure.specs.Bounds.{bound_at, bound_of, bound_size, is_below_one, radius_at, reach_at, reach_of}
use Rattle.fd_factors.specs.Enclosure as factors
use Rattle.fd_enclosure.specs.Boxes.{IsInPart, part_width}
use Rattle.fd_enclosure.specs.Encloses.{ChangeLaw, EnclosureLaw, IsAlternative, IsImpedance, IsWithinRadii, LinearLaw}
use Rattle.fd_enclosure.specs.Radii.{part_radius, slope_radius}
use Rattle.fd_enclosure.specs.Sound.{Claim, DerivedProof, IsShown, IsShownByInverse, IsShownByRows, IsSound, Support, by_inverse, by_rows, row_in, number_at, parts_of}
use Rattle.fd_enclosure.proofs.Contraction.{enclosed}
use Rattle.fd_enclosure.proofs.Network.{RowFollows, linear_changes}
use Rattle.fd_enclosure.proofs.Residuals.{centre_meets, residual_positive}
use Rattle.fd_enclosure.proofs.WideSums.{Exactly, bound_exact, row_total}

-- ---- weights

weight_positive_by : (k : PlaceKind) (draw : ℕ) (x : List ℤ) (place : ℕ) → 0 < weight_by k draw x place
weight_positive_by Node draw x place = omega arith
weight_positive_by Branch draw x place = omega arith
weight_positive_by Magnitude draw x place = omega arith

pub weight_positive : (v : NetworkView) (x : List ℤ) (place : ℕ) → 0 < weight_at v x place
weight_positive v x place = weight_positive_by (kind_of v place) v.stamp.draw x place

-- ---- bounds

below : (k : ℤ) (m : ℕ) → k ≡ pos m → int_lt k (pos (2 ^ 40)) ≡ true → m < 2 ^ 40
below k m e h = at (subst (λ z. int_lt z (pos (2 ^ 40)) ≡ true) e h)
  where
    at : int_lt (pos m) (pos (2 ^ 40)) ≡ true → m < 2 ^ 40
    at g = grind (arith, ints)

-- a bound below one is the exact one
pub bound_known : (o : Option ℤ) (m : ℕ) → Exactly o (pos m) → is_below_one o ≡ true → (bound_size o ≡ m) × (m < 2 ^ 40)
bound_known None m h e = let no : ⊥ = cc in absurd no
bound_known (Some k) m h e = (ap unsigned_abs (h k refl), below k m (h k refl) e)

greatest_less : (f : ℕ → ℕ) (n b : ℕ) → 0 < b → ((i : ℕ) → i < n → f i < b) → greatest f n < b
greatest_less f zero b p h = p
greatest_less f (suc n) b p h = omega (arith, greatest_less f n b p (λ i q. h i (omega arith)), h n (omega arith))

covered : (a b q : ℕ) → 0 < b → ceil_nat a b ≤ q → a ≤ q * b
covered a b q h p = le_trans (ceil_nat_covers a b h) (mul-le-mul_right b p)

gap : (k s : ℕ) → k < s → 0 < s - k
gap k s h = omega arith

-- ---- the law

module _ (v : NetworkView) (m : Claim) (net : IsNetwork v) (sound : IsSound v m) where
  pub centre_meets_all : Meets (residual_of v.stamp) (number_at m.mismatches) v.size (whole_state m.centre)
  centre_meets_all l p = centre_meets v net m.centre l (number_at m.mismatches l) (sound.mismatches_least l p) (sound.mismatches_most l p)

-- ---- by an inverse

module _ (v : NetworkView) (m : Claim) (net : IsNetwork v) (sound : IsSound v m) (c : List (List ℤ))
    (shown : IsShownByInverse v m c) where
  -- the numbers of the claim
  abbrev unknowns : ℕ
  unknowns = v.size

  abbrev C : ℕ → ℕ → ℤ
  C = entry c

  abbrev J : ℕ → ℕ → ℤ
  J = jacobian_entry v m.centre

  abbrev R : ℕ → ℕ → ℕ
  R = slope_radius v m.centre

  abbrev w : ℕ → ℕ
  w = weight_at v m.centre

  abbrev e : ℕ → ℕ
  e = number_at m.mismatches

  abbrev r : ℕ → ℕ
  r = number_at m.radii

  abbrev K : ℕ
  K = bound_of unknowns C J R w

  abbrev B : ℕ
  B = reach_of unknowns C J R w e

  -- the bound of a row, before the limit is looked at
  abbrev plain_bound : ℕ → ℕ
  plain_bound i = ceil_nat (row_total unknowns C J R w i) (w i * 2 ^ 40)

  abbrev row_bound : ℕ → ℕ
  row_bound i = bound_size (bound_at unknowns C J R w i)

  heavy : (i : ℕ) → 0 < w i
  heavy i = weight_positive v m.centre i

  known : (i : ℕ) → i < unknowns → (row_bound i ≡ plain_bound i) × (plain_bound i < 2 ^ 40)
  known i p = bound_known (bound_at unknowns C J R w i) (plain_bound i) (bound_exact unknowns C J R w i (heavy i)) (shown.bounded i p)

  small : K < 2 ^ 40
  small = greatest_less row_bound unknowns (2 ^ 40) (lit< tt) (λ i p. let q = known i p in subst (λ t. t < 2 ^ 40) (sym q.0) q.1)

  bounds_cover : (i : ℕ) → i < unknowns → row_total unknowns C J R w i ≤ K * (w i * 2 ^ 40)
  bounds_cover i p =
      let q = known i p in
      covered (row_total unknowns C J R w i) (w i * 2 ^ 40) K (mul-pos (heavy i) (lit< tt))
      (subst (λ t. t ≤ K) q.0 (le_greatest row_bound unknowns i p))

  reach_covers : (i : ℕ) → i < unknowns → sum_n (λ l. unsigned_abs (C i l) * (2 * e l)) unknowns * 2 ^ 20 ≤ B * w i
  reach_covers i p =
      covered (sum_n (λ l. unsigned_abs (C i l) * (2 * e l)) unknowns * 2 ^ 20) (w i) B (heavy i)
      (le_greatest (reach_at unknowns C J R w e) unknowns i p)

  radii_cover : (i : ℕ) → i < unknowns → w i * B ≤ r i * (2 ^ 20 * (2 ^ 40 - K))
  unfolding radius_at
  radii_cover i p = covered (w i * B) (2 ^ 20 * (2 ^ 40 - K)) (r i) (mul-pos (lit< tt) (gap K (2 ^ 40) small)) (shown.radii_least i p)

  -- a state that meets the mismatches, and whose rows follow the Jacobian, is within the radii
  pub follower_within : (x : State) → 0 < x.over → ((l : ℕ) → l < unknowns → RowFollows 200 v m.centre x l)
      → Meets (residual_of v.stamp) e unknowns x → IsWithinRadii v m.centre m.radii x
  follower_within x over follows meets =
      enclosed (2 ^ 40) (2 ^ 20) x.over K B C J R (away m.centre x) e w r unknowns (lit< tt) (lit< tt)
      (λ j p. heavy j) (λ l p.
      row_from_fractions (residual_of v.stamp x l) (residual_of v.stamp (whole_state m.centre) l)
      (sum_z (λ j. J l j *ℤ away m.centre x j) unknowns)
      (sum_n (λ j. R l j * unsigned_abs (away m.centre x j)) unknowns) (e l) (x.over * 2 ^ 40)
      (residual_positive v net x l over) (residual_positive v net (whole_state m.centre) l (lit< tt)) (follows l p)
      (meets l p) (centre_meets_all v m net sound l p))
      bounds_cover small reach_covers radii_cover

-- ---- by derived rows

-- whether a state is outside its half-width at a place
abbrev is_out : PlaceKind → ℕ → ℕ → Bool
is_out Node distance width = nat_lt width distance
is_out Branch distance width = false
is_out Magnitude distance width = nat_lt width distance

abbrev is_out_at : ℕ → NetworkView → List ℤ → State → ℕ → Bool
is_out_at parts v c x place = is_out (kind_of v place) (nat_abs (away c x place)) (x.over * part_width parts v c place)

-- whether it is so at no place
abbrev is_in_part : ℕ → NetworkView → List ℤ → State → Bool
is_in_part parts v c x = is_none (first_place (is_out_at parts v c x) v.size)

inside_of : (k : PlaceKind) (a w : ℕ) → is_out k a w ≡ false → k ≢ Branch → a ≤ w
inside_of Node a w h other = ltb-false w a h
inside_of Branch a w h other = absurd (other refl)
inside_of Magnitude a w h other = ltb-false w a h

not_out : (k : PlaceKind) (a w : ℕ) → (k ≢ Branch → a ≤ w) → is_out k a w ≡ false
not_out Node a w h = le-ltb w a (h (λ e. let no : ⊥ = cc in absurd no))
not_out Branch a w h = refl
not_out Magnitude a w h = le-ltb w a (h (λ e. let no : ⊥ = cc in absurd no))

none_by : (o : Option ℕ) → is_none o ≡ true → o ≡ None
none_by None h = refl
none_by (Some k) h = let no : ⊥ = cc in absurd no

part_of_test : (parts : ℕ) (v : NetworkView) (c : List ℤ) (x : State) → is_in_part parts v c x ≡ true → IsInPart parts v c x
part_of_test parts v c x h place below other =
    inside_of (kind_of v place) (nat_abs (away c x place)) (x.over * part_width parts v c place)
    (none_holds (is_out_at parts v c x) v.size place (none_by (first_place (is_out_at parts v c x) v.size) h) below) other

test_of_part : (parts : ℕ) (v : NetworkView) (c : List ℤ) (x : State) → IsInPart parts v c x → is_in_part parts v c x ≡ true
test_of_part parts v c x inside =
    ap is_none (first_none (is_out_at parts v c x) v.size (λ place below.
    not_out (kind_of v place) (nat_abs (away c x place)) (x.over * part_width parts v c place) (inside place below)))

narrowed : (u a o b r : ℕ) → 0 < u → u * a ≤ o * b → b ≤ u * r → a ≤ o * r
narrowed u a o b r u_pos h g =
    let p = mul-le-mul_left o g in
    let q : a * u ≤ o * r * u = omega arith in
    le_of_mul-le-mul_right q u_pos

module _ (factors : factors.EnclosureLaw) (v : NetworkView) (m : Claim) (net : IsNetwork v) (sound : IsSound v m) (p : DerivedProof)
    (shown : IsShownByRows v m p) where
  -- where the rows of all states of a box follow the Jacobian, one that meets the mismatches is within the radii
  rows_within : (box : State → Bool)
      → ((x : State) → 0 < x.over → box x ≡ true → (l : ℕ) → l < v.size → RowFollows p.parts v m.centre x l)
      → (x : State) → 0 < x.over → box x ≡ true → Meets (residual_of v.stamp) (number_at m.mismatches) v.size x
      → IsWithinRadii v m.centre m.radii x
  rows_within box follows x over inside meets i h =
      narrowed (2 ^ 20) (nat_abs (away m.centre x i)) x.over (number_at p.bounds i) (number_at m.radii i) (lit< tt)
      (factors v.size (length p.rows) (residual_of v.stamp) box m.centre (jacobian_entry v m.centre) (part_radius p.parts v m.centre)
      (row_in p.rows) (number_at p.bounding) (number_at m.mismatches) (2 ^ 20) (number_at p.heights) (number_at p.bounds)
      (λ y l o. residual_positive v net y l o) follows (centre_meets_all v m net sound) shown.above shown.bounded x over inside meets i h)
      (shown.radii_least i h)

-- ---- the laws

module _ (factors : factors.EnclosureLaw) (v : NetworkView) (m : Claim) (net : IsNetwork v) (sound : IsSound v m) where
  shown_within : ChangeLaw → (s : Support) → IsShown v m s → (x : State) → IsAlternative v (parts_of s) m.centre m.mismatches x
      → IsWithinRadii v m.centre m.radii x
  shown_within change (by_inverse c) shown x a =
      follower_within v m net sound c shown x a.over
      (λ l p. change v 200 m.centre x l net sound.centre.long a.over a.inside p) a.meets
  shown_within change (by_rows p) shown x a =
      rows_within factors v m net sound p shown (is_in_part p.parts v m.centre)
      (λ y over inside l h. change v p.parts m.centre y l net sound.centre.long over (part_of_test p.parts v m.centre y inside) h)
      x a.over (test_of_part p.parts v m.centre x a.inside) a.meets

  shown_within_all : All IsImpedance v.stamp.loads → (s : Support) → IsShown v m s → (x : State) → 0 < x.over
      → Meets (residual_of v.stamp) (number_at m.mismatches) v.size x → IsWithinRadii v m.centre m.radii x
  shown_within_all all (by_inverse c) shown x over meets =
      follower_within v m net sound c shown x over (λ l p. linear_changes 200 v m.centre x l net all) meets
  shown_within_all all (by_rows p) shown x over meets =
      rows_within factors v m net sound p shown (λ y. true) (λ y positive inside l h. linear_changes p.parts v m.centre y l net all)
      x over refl meets

pub sound_encloses : factors.EnclosureLaw → ChangeLaw → EnclosureLaw
sound_encloses factors change v m net sound = record {
  meets = centre_meets_all v m net sound;
  encloses = shown_within factors v m net sound change m.support sound.shown;
}

pub sound_encloses_all : factors.EnclosureLaw → LinearLaw
sound_encloses_all factors v m net all sound = shown_within_all factors v m net sound all m.support sound.shown

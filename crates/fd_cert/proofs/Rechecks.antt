-- A claim is sound exactly where it breaks no rule.
use Rattle.std.proofs.Common.{◌≡◌, ◌∙◌, ℕ, ◌*◌, ◌-◌, ◌<◌, ◌≤◌, ◌^◌, ℤ, pos, nat_abs, nat_lt, not, Bool, true, false, cond, List, length, Option, Some, None, is_some, All, arith, refl, ap, sym, subst}
use Rattle.std.specs.Prelude.{◌==◌, ◌↔◌}
use Rattle.std.proofs.lemmas.Bool.{and_from, and_parts, eq-eqb, eqb-true, le-leb, ltb-false, or_from, or_parts}
use Rattle.std.proofs.lemmas.Int.{ints}
use Rattle.std.proofs.Math.Nat.{mul-le-mul}
use Rattle.std.proofs.lemmas.List.Elements.{All-from_get_or, All-get_or}
use Rattle.fd_enclosure.specs.fd_exact.First.{first_place}
use Rattle.fd_enclosure.specs.fd_exact.FirstLaws.{first_none, none_holds}
use Rattle.fd_enclosure.specs.fd_exact.Greatest.{greatest_le}
use Rattle.fd_enclosure.specs.fd_exact.Quotients.{ceil_nat_covers}
use Rattle.fd_enclosure.specs.fd_exact.Rounding.{ceil_nat}
use Rattle.fd_enclosure.specs.fd_exact.States.{entry, part}
use Rattle.fd_enclosure.specs.fd_mat.Rows.{row_of}
use Rattle.fd_enclosure.specs.fd_pattern.Conditions.{IsPart, IsPoint}
use Rattle.fd_enclosure.specs.fd_pattern.declared.layout.PlaceKind.{PlaceKind}
use Rattle.fd_enclosure.specs.fd_pattern.declared.layout.PlaceKind.TheVariants.{Node, Branch, Magnitude}
use Rattle.fd_enclosure.specs.fd_equations.Rounded.{jacobian_entry}
use Rattle.fd_enclosure.specs.fd_pattern.Views.{NetworkView, kind_of}
use Rattle.fd_enclosure.specs.fd_equations.Weights.{weight_at, weight_by}
use Rattle.fd_enclosure.specs.Bounds.{bound_at, bound_of, bound_size, is_below_one, is_bounded, radius_at, reach_of, refusal, refused_bound, unless_unbounded, unless_wide}
use Rattle.fd_enclosure.specs.Boxes.{boxes_of}
use Rattle.fd_enclosure.specs.Radii.{slope_radius}
use Rattle.fd_enclosure.specs.Sound.{Claim, IsInverse, IsSound, by_inverse, greatest_mismatch, mismatch_at, number_at, radius_in}
use Rattle.fd_enclosure.proofs.CallerLemmas.{all_bounded}
use Rattle.fd_cert.specs.Rechecks.{broken_at, first_at_point, first_broken, first_unsound, has_size, has_wide_entry, is_narrow, is_out_of_range, is_untrue, place_named, refusal_of}
use Rattle.fd_cert.specs.declared.rule.Broken.{Broken}
use Rattle.fd_cert.specs.declared.rule.Rule.{Rule}
use Rattle.fd_cert.specs.declared.rule.Rule.TheVariants.{Bound, Mismatch, Radius, Range, Size}
use Rattle.fd_cert.proofs.RowBounds.{bound_positive}
use Rattle.fd_cert.proofs.Verdict.{below_one, not_past}

-- ---- a rule that holds

later_none : (rule : Rule) (o : Option ℕ) (later : Option Broken) → broken_at rule o later ≡ None
    → (o ≡ None) × (later ≡ None)
later_none rule None later e = (refl, e)
later_none rule (Some k) later e = let no : ⊥ = cc in absurd no

none_later : (rule : Rule) (o : Option ℕ) (later : Option Broken) → o ≡ None → later ≡ None
    → broken_at rule o later ≡ None
none_later rule o later a b = ap (λ p. broken_at rule p later) a ∙ b

unnamed : (o : Option (ℕ × Option ℤ)) → place_named o ≡ None → o ≡ None
unnamed None e = refl
unnamed (Some r) e = let no : ⊥ = cc in absurd no

sized_none : (b : Bool) (o : Option Broken) (k : Broken) → cond b o (Some k) ≡ None → (b ≡ true) × (o ≡ None)
sized_none true o k e = (refl, e)
sized_none false o k e = let no : ⊥ = cc in absurd no

none_found : (o : Option ℕ) → is_some o ≡ false → o ≡ None
none_found None e = refl
none_found (Some k) e = let no : ⊥ = cc in absurd no

-- ---- lists

pub record AreSized (n : ℕ) (x : List ℤ) (r e : List ℕ) (c : List (List ℤ)) : Type 0 where
  pub centre : length x ≡ n
  pub radii : length r ≡ n
  pub mismatches : length e ≡ n
  pub inverse : length c ≡ n

pub sized_parts : (n : ℕ) (x : List ℤ) (r e : List ℕ) (c : List (List ℤ)) → has_size n x r e c ≡ true
    → AreSized n x r e c
sized_parts n x r e c h =
    let a = and_parts (length x == n) _ h in
    let b = and_parts (length r == n) _ a.1 in
    let d = and_parts (length e == n) (length c == n) b.1 in
    record {
      centre = eqb-true (length x) n a.0;
      radii = eqb-true (length r) n b.0;
      mismatches = eqb-true (length e) n d.0;
      inverse = eqb-true (length c) n d.1;
    }

sized_from : (n : ℕ) (x : List ℤ) (r e : List ℕ) (c : List (List ℤ)) → AreSized n x r e c → has_size n x r e c ≡ true
sized_from n x r e c h =
    and_from (length x == n) _ (eq-eqb (length x) n h.centre)
    (and_from (length r == n) _ (eq-eqb (length r) n h.radii)
    (and_from (length e == n) (length c == n) (eq-eqb (length e) n h.mismatches) (eq-eqb (length c) n h.inverse)))

-- ---- range

within : (z : ℤ) → nat_abs z ≤ 2 ^ 40 → IsPart z
within z h = (omega (arith, ints, h), omega (arith, ints, h))

from_part : (z : ℤ) → IsPart z → nat_abs z ≤ 2 ^ 40
from_part z h = let a = h.0 in let b = h.1 in omega (arith, ints, a, b)

record IsRanged (n : ℕ) (x : List ℤ) (r : List ℕ) (c : List (List ℤ)) (i : ℕ) : Type 0 where
  centre : nat_abs (part x i) ≤ 2 ^ 40
  radius : number_at r i ≤ 2 ^ 40
  entries : (col : ℕ) → col < n → nat_abs (entry c i col) ≤ 2 ^ 56

module _ (n : ℕ) (x : List ℤ) (r : List ℕ) (c : List (List ℤ)) where
  ranged : (i : ℕ) → is_out_of_range n x r c i ≡ false → IsRanged n x r c i
  ranged i h =
      let a = or_parts (nat_lt (2 ^ 40) (nat_abs (part x i))) _ h in
      let b = or_parts (nat_lt (2 ^ 40) (number_at r i)) (has_wide_entry n (row_of c i)) a.1 in
      record {
        centre = ltb-false (2 ^ 40) (nat_abs (part x i)) a.0;
        radius = ltb-false (2 ^ 40) (number_at r i) b.0;
        entries = λ col l. ltb-false (2 ^ 56) (nat_abs (entry c i col)) (none_holds (λ k. nat_lt (2 ^ 56) (nat_abs (entry c i k))) n col (none_found _ b.1) l);
      }

  from_ranged : (i : ℕ) → IsRanged n x r c i → is_out_of_range n x r c i ≡ false
  from_ranged i h =
      or_from (nat_lt (2 ^ 40) (nat_abs (part x i))) _ (not_past (2 ^ 40) (nat_abs (part x i)) h.centre)
      (or_from (nat_lt (2 ^ 40) (number_at r i)) (has_wide_entry n (row_of c i))
      (not_past (2 ^ 40) (number_at r i) h.radius)
      (ap is_some (first_none (λ col. nat_lt (2 ^ 56) (nat_abs (part (row_of c i) col))) n (λ col l.
      not_past (2 ^ 56) (nat_abs (entry c i col)) (h.entries col l)))))

  module _ (none : first_place (is_out_of_range n x r c) n ≡ None) where
    each : (i : ℕ) → i < n → IsRanged n x r c i
    each i l = ranged i (none_holds (is_out_of_range n x r c) n i none l)

    pub parts_within : length x ≡ n → All IsPart x
    parts_within s = All-from_get_or IsPart x (pos 0) (λ i l. within (part x i) (each i (subst (λ m. i < m) s l)).centre)

    pub inverse_within : length c ≡ n → IsInverse n c
    inverse_within s = record { long = s; small = λ row col l m. (each row (subst (λ k. row < k) s l)).entries col (subst (λ k. col < k) s m) }

    pub radii_within : (i : ℕ) → i < n → number_at r i ≤ 2 ^ 40
    radii_within i l = (each i l).radius

-- ---- no refusal

weight_some : (k : PlaceKind) (draw : ℕ) (x : List ℤ) (place : ℕ) → 0 < weight_by k draw x place
weight_some Node draw x place = omega arith
weight_some Branch draw x place = omega arith
weight_some Magnitude draw x place = omega arith

small_product : (p b : ℕ) → b < 2 ^ 40 → ceil_nat p (2 ^ 20 * (2 ^ 40 - b)) ≤ 2 ^ 40 → p ≤ 2 ^ 120
small_product p b h k =
    let d : ℕ = 2 ^ 40 - b in
    let most : d ≤ 2 ^ 40 = omega arith in
    let divisor : 2 ^ 20 * d ≤ 2 ^ 60 = omega (arith, most) in
    let covers : p ≤ ceil_nat p (2 ^ 20 * d) * (2 ^ 20 * d) = ceil_nat_covers p (2 ^ 20 * d) (omega arith) in
    let products : ceil_nat p (2 ^ 20 * d) * (2 ^ 20 * d) ≤ 2 ^ 40 * 2 ^ 60 = mul-le-mul k divisor in
    omega (arith, covers, products)

module _ (n : ℕ) (C J : ℕ → ℕ → ℤ) (R : ℕ → ℕ → ℕ) (w e : ℕ → ℕ) (some : (i : ℕ) → 0 < w i)
    (bounded : (i : ℕ) → i < n → is_bounded n C J R w i ≡ true)
    (narrow : (i : ℕ) → i < n → radius_at n C J R w e i ≤ 2 ^ 40) where
  size_below : (i : ℕ) → i < n → bound_size (bound_at n C J R w i) < 2 ^ 40
  size_below i l = (below_one true (bound_at n C J R w i) (bound_positive n C J R w i (some i)) (ap not (bounded i l))).small

  bound_below : bound_of n C J R w < 2 ^ 40
  bound_below = let g = greatest_le (λ i. bound_size (bound_at n C J R w i)) n (2 ^ 40 - 1) (λ i l. let s = size_below i l in omega arith) in omega arith

  product : (i : ℕ) → i < n → w i * reach_of n C J R w e ≤ 2 ^ 120
  unfolding radius_at
  product i l = small_product (w i * reach_of n C J R w e) (bound_of n C J R w) bound_below (narrow i l)

  not_unbounded : (i : ℕ) → i < n → not (is_below_one (refused_bound n C J R w e i)) ≡ false
  not_unbounded i l =
      ap (λ t. not (is_below_one (cond t (bound_at n C J R w i) None))) (le-leb (w i * reach_of n C J R w e) (2 ^ 120) (product i l))
      ∙ ap not (bounded i l)

  pub not_refused : refusal n C J R w e ≡ None
  unfolding refusal
  not_refused =
      ap (unless_unbounded n C J R w e)
      (first_none (λ i. not (is_below_one (refused_bound n C J R w e i))) n not_unbounded)
      ∙ ap (unless_wide n C J R w e) (first_none (λ i. nat_lt (2 ^ 40) (radius_at n C J R w e i)) n (λ i l.
      not_past (2 ^ 40) (radius_at n C J R w e i) (narrow i l)))

-- ---- the law

module _ (v : NetworkView) (x : List ℤ) (r e : List ℕ) (c : List (List ℤ)) where
  record AtPoint : Type 0 where
    mismatches : first_place (λ l. is_untrue (mismatch_at v x l) (number_at e l)) v.size ≡ None
    bound : refusal_of v x e c ≡ None
    radii : first_place (is_narrow v x r e c) v.size ≡ None

  at_point : first_at_point v x r e c ≡ None → AtPoint
  unfolding first_at_point
  at_point h =
      let a = later_none Mismatch (first_place (λ l. is_untrue (mismatch_at v x l) (number_at e l)) v.size) _ h in
      let b = later_none Bound (place_named (refusal_of v x e c)) _ a.1 in
      let d = later_none Radius (first_place (is_narrow v x r e c) v.size) None b.1 in
      record { mismatches = a.0; bound = unnamed (refusal_of v x e c) b.0; radii = d.0 }

  from_point : AtPoint → first_at_point v x r e c ≡ None
  unfolding first_at_point
  from_point h =
      none_later Mismatch (first_place (λ l. is_untrue (mismatch_at v x l) (number_at e l)) v.size) _ h.mismatches
      (none_later Bound (place_named (refusal_of v x e c)) _ (ap place_named h.bound)
      (none_later Radius (first_place (is_narrow v x r e c) v.size) None h.radii refl))

  record AtAll : Type 0 where
    size : AreSized v.size x r e c
    range : first_place (is_out_of_range v.size x r c) v.size ≡ None
    point : AtPoint

  at_all : first_broken v x r e c ≡ None → AtAll
  unfolding first_broken
  at_all h =
      let a = sized_none (has_size v.size x r e c) _ _ h in
      let b = later_none Range (first_place (is_out_of_range v.size x r c) v.size) (first_at_point v x r e c) a.1 in
      record { size = sized_parts v.size x r e c a.0; range = b.0; point = at_point b.1 }

  from_all : AtAll → first_broken v x r e c ≡ None
  unfolding first_broken
  from_all h =
      ap (λ b. cond b (broken_at Range (first_place (is_out_of_range v.size x r c) v.size) (first_at_point v x r e c))
      (Some (record { rule = Size; place = 0 })))
      (sized_from v.size x r e c h.size)
      ∙ none_later Range (first_place (is_out_of_range v.size x r c) v.size) (first_at_point v x r e c) h.range
      (from_point h.point)

module _ (v : NetworkView) (x : List ℤ) (r e bs : List ℕ) (c : List (List ℤ)) where
  -- the claim with these boxes
  abbrev m : Claim
  m = record { centre = x; radii = r; mismatches = e; boxes = bs; support = by_inverse c }

  sound_from : (IsPoint v x → bs ≡ boxes_of v x) → first_broken v x r e c ≡ None → IsSound v m
  sound_from boxes h =
      let n = v.size in
      let a = at_all v x r e c h in
      let point : IsPoint v x = record { long = a.size.centre; parts = parts_within n x r c a.range a.size.centre } in
      let told = λ (l : ℕ) (p : l < n).
      or_parts (nat_lt (number_at e l) (mismatch_at v x l)) (nat_lt greatest_mismatch (number_at e l))
      (none_holds (λ l. is_untrue (mismatch_at v x l) (number_at e l)) n l a.point.mismatches p) in
      record {
        centre = point;
        boxes = boxes point;
        mismatches_long = a.size.mismatches;
        mismatches_least = λ l p. ltb-false (number_at e l) (mismatch_at v x l) (told l p).0;
        mismatches_most = λ l p. ltb-false greatest_mismatch (number_at e l) (told l p).1;
        radii_long = a.size.radii;
        radii_most = radii_within n x r c a.range;
        shown = record {
          inverse = inverse_within n x r c a.range a.size.inverse;
          bounded = all_bounded n (entry c) (jacobian_entry v x) (slope_radius v x) (weight_at v x) (number_at e) a.point.bound;
          radii_least = λ i p. ltb-false (number_at r i) (radius_in v x c e i) (none_holds (is_narrow v x r e c) n i a.point.radii p);
        };
      }

  from_sound : IsSound v m → first_broken v x r e c ≡ None
  from_sound h =
      let n = v.size in
      let s = h.shown in
      from_all v x r e c (record {
        size = record { centre = h.centre.long; radii = h.radii_long; mismatches = h.mismatches_long; inverse = s.inverse.long };
        range = first_none (is_out_of_range n x r c) n (λ i p. from_ranged n x r c i (record {
          centre = from_part (part x i) (All-get_or IsPart x i (pos 0) (subst (λ k. i < k) (sym h.centre.long) p) h.centre.parts);
          radius = h.radii_most i p;
          entries = λ col q. s.inverse.small i col (subst (λ k. i < k) (sym s.inverse.long) p) (subst (λ k. col < k) (sym s.inverse.long) q);
        }));
        point = record {
          mismatches = first_none (λ l. is_untrue (mismatch_at v x l) (number_at e l)) n (λ l p.
              or_from (nat_lt (number_at e l) (mismatch_at v x l)) (nat_lt greatest_mismatch (number_at e l))
              (not_past (number_at e l) (mismatch_at v x l) (h.mismatches_least l p))
              (not_past greatest_mismatch (number_at e l) (h.mismatches_most l p)));
          bound = not_refused n (entry c) (jacobian_entry v x) (slope_radius v x) (weight_at v x) (number_at e)
              (λ i. weight_some (kind_of v i) v.stamp.draw x i) s.bounded
              (λ i p. let least = s.radii_least i p in let most = h.radii_most i p in omega (arith, least, most));
          radii = first_none (is_narrow v x r e c) n (λ i p. not_past (number_at r i) (radius_in v x c e i) (s.radii_least i p));
        };
      })

  pub sound_exactly : (IsPoint v x → bs ≡ boxes_of v x) → (first_broken v x r e c ≡ None) ↔ IsSound v m
  sound_exactly boxes = (sound_from boxes, from_sound)

-- The rules on what a block claims come to those of the claim that its numbers are read as.
use Rattle.std.proofs.Common.{◌≡◌, ℕ, ◌<◌, ◌^◌, ℤ, pos, negsuc, nat_abs, nat_le, nat_lt, not, Bool, true, false, List, [], ◌∷◌, length, Option, Some, None, cond, refl, ap, sym, ◌∙◌, arith}
use Rattle.std.specs.Prelude.{◌&&◌, ◌||◌, ◌==◌, int_le, option_map}
use Rattle.std.specs.List.{list_all}
use Rattle.std.proofs.Math.ListN.{get_or-map}
use Rattle.std.proofs.lemmas.Bool.{and_from, and_parts, eq-eqb, eqb-true, false_from_ne_true, le-leb, lt-ltb, not-false}
use Rattle.std.proofs.lemmas.List.{ext_get_or, length-map}
use Rattle.fd_settle.specs.fd_exact.First.{first_place}
use Rattle.fd_settle.specs.fd_exact.FirstLaws.{first_some as first_at, none_holds}
use Rattle.fd_settle.specs.fd_exact.States.{entry, part}
use Rattle.fd_settle.specs.fd_equations.Rounded.{jacobian_entry}
use Rattle.fd_settle.specs.fd_pattern.Views.{NetworkView}
use Rattle.fd_settle.specs.fd_equations.Weights.{weight_at}
use Rattle.fd_settle.specs.fd_enclosure.Boxes.{boxes_of}
use Rattle.fd_settle.specs.fd_enclosure.Radii.{slope_radius}
use Rattle.fd_settle.specs.fd_enclosure.Sound.{by_inverse, mismatch_at, number_at, radius_in}
use Rattle.fd_settle.specs.fd_cert.Rechecks.{broken_at, first_at_point, first_broken, first_unsound, has_size, has_wide_entry, is_narrow, is_out_of_range, is_untrue, place_named, refusal_of}
use Rattle.fd_settle.specs.fd_cert.declared.rule.Broken.{Broken as Found}
use Rattle.fd_settle.specs.fd_cert.declared.rule.Rule.{Rule}
use Rattle.fd_settle.specs.fd_cert.declared.rule.Rule.TheVariants.{Bound, Mismatch, Radius, Range, Size}
use Rattle.fd_certfile.specs.Blocks.{Block, IsSized, Part, count_of}
use Rattle.fd_certfile.specs.Claiming.{claim_read, mismatches_read, radii_read, read_mismatch, read_radius}
use Rattle.fd_certfile.specs.Judging.{claim_on, judge_of, names, refusal_in, sizes_of}
use Rattle.fd_certfile.specs.Rules.{Ball, Broken, Sampled, at_part, at_solution, broken_by, claim_of, claim_rules, first_some, is_due, is_in_range, is_mismatch, is_radius, is_within, least_from, part_of, row_of, unless, unless_at}
use Rattle.fd_certfile.proofs.Judged.{refusal_below}
use Rattle.fd_certfile.proofs.LeastPlaces.{all_at, is_wide, least_is, lt_not, or_not}
use Rattle.fd_certfile.proofs.RuleOrder.{least_all}

-- ---- tests

and_none : (a : Bool) → (a && false) ≡ false
and_none true = refl
and_none false = refl

and_some : (a b : Bool) → b ≡ true → (a && b) ≡ a
and_some true b e = e
and_some false b e = refl

or_some : (a b : Bool) → b ≡ true → (a || b) ≡ true
or_some true b e = refl
or_some false b e = e

twice : (a : Bool) → a ≡ not (not a)
twice true = refl
twice false = refl

three : (a w p t : Bool) → (not a || (not (w && p) || not t)) ≡ not (a && (w && (p && t)))
three true true p t = or_not p t
three true false p t = refl
three false w p t = refl

radius_test : (z : ℤ) → nat_lt (2 ^ 40) (read_radius z) ≡ not (is_within (2 ^ 40) z && int_le (pos 0) z)
radius_test (pos k) = lt_not (2 ^ 40) k ∙ ap not (sym (and_some (nat_le k (2 ^ 40)) (int_le (pos 0) (pos k)) (le-leb 0 k (omega arith))))
radius_test (negsuc k) = lt-ltb (2 ^ 40) 1099511627777 (omega arith) ∙ ap not (sym (and_none (is_within (2 ^ 40) (negsuc k))))

range_test : (z y : ℤ) (t : Bool)
    → (nat_lt (2 ^ 40) (nat_abs z) || (nat_lt (2 ^ 40) (read_radius y) || not t))
    ≡ not (is_within (2 ^ 40) z && (is_within (2 ^ 40) y && (int_le (pos 0) y && t)))
range_test z y t =
    ap (λ (a : Bool). a || (nat_lt (2 ^ 40) (read_radius y) || not t)) (lt_not (2 ^ 40) (nat_abs z))
    ∙ ap (λ (a : Bool). not (is_within (2 ^ 40) z) || (a || not t)) (radius_test y)
    ∙ three (is_within (2 ^ 40) z) (is_within (2 ^ 40) y) (int_le (pos 0) y) t

untrue_below : (own k : ℕ) → is_untrue own (read_mismatch (negsuc k)) ≡ true
untrue_below own k = or_some (nat_lt 1001 own) (nat_lt 1000 1001) (lt-ltb 1000 1001 (omega arith))

mismatch_test : (own : ℕ) (z : ℤ) → is_untrue own (read_mismatch z) ≡ not (int_le (pos own) z && int_le z (pos 1000))
mismatch_test own (pos k) = (λ i. lt_not k own i || lt_not 1000 k i) ∙ or_not (nat_le own k) (nat_le k 1000)
mismatch_test own (negsuc k) = untrue_below own k

narrow_test : (k : ℕ) (z : ℤ) → int_le (pos 0) z ≡ true → nat_lt (read_radius z) k ≡ not (int_le (pos k) z)
narrow_test k (pos m) e = lt_not m k
narrow_test k (negsuc m) e = let no : ⊥ = cc in absurd no

radius_size : (z : ℤ) → int_le (pos 0) z ≡ true → read_radius z ≡ nat_abs z
radius_size (pos k) e = refl
radius_size (negsuc k) e = let no : ⊥ = cc in absurd no

mismatch_size : (own : ℕ) (z : ℤ) → is_untrue own (read_mismatch z) ≡ false → nat_abs z ≡ read_mismatch z
mismatch_size own (pos k) e = refl
mismatch_size own (negsuc k) e = let t = untrue_below own k in let no : ⊥ = cc in absurd no

-- ---- one rule and the later ones

abbrev pub at_place : Found → Broken
at_place f = record { rule = f.rule; place = at_part f.place }

step : (rule : Rule) (o : Option ℕ) (os : List (Option Broken)) (later : Option Found)
    → (o ≡ None → first_some os ≡ option_map at_place later)
    → first_some (broken_by rule o ∷ os) ≡ option_map at_place (broken_at rule o later)
step rule None os later h = h refl
step rule (Some i) os later h = refl

later_none : (rule : Rule) (o : Option ℕ) (later : Option Found) → broken_at rule o later ≡ None
    → (o ≡ None) × (later ≡ None)
later_none rule None later e = (refl, e)
later_none rule (Some k) later e = let no : ⊥ = cc in absurd no

-- ---- a block of the network's size

abbrev no_part : Part
no_part = record { centre = pos 0; radius = pos 0; mismatch = pos 0 }

module _ (v : NetworkView) (number hour round : ℕ) (sampled : Ball → Sampled) (b : Block) (s : IsSized b)
    (sized : b.size ≡ pos v.size) where
  many : length b.parts ≡ v.size
  many = s.parts ∙ ap count_of sized

  rows : length b.inverse ≡ v.size
  rows = s.rows ∙ ap count_of sized

  centre_at : (i : ℕ) → part (claim_of b).centre i ≡ (part_of b i).centre
  centre_at i = get_or-map (λ (p : Part). p.centre) b.parts i no_part

  radius_at : (i : ℕ) → number_at (radii_read b) i ≡ read_radius (part_of b i).radius
  radius_at i = get_or-map (λ (p : Part). read_radius p.radius) b.parts i no_part

  mismatch_here : (i : ℕ) → number_at (mismatches_read b) i ≡ read_mismatch (part_of b i).mismatch
  mismatch_here i = get_or-map (λ (p : Part). read_mismatch p.mismatch) b.parts i no_part

  has : has_size v.size (claim_of b).centre (radii_read b) (mismatches_read b) b.inverse ≡ true
  has =
      and_from (length (claim_of b).centre == v.size) _
      (eq-eqb _ v.size (length-map b.parts (λ (p : Part). p.centre) ∙ many))
      (and_from (length (radii_read b) == v.size) _
      (eq-eqb _ v.size (length-map b.parts (λ (p : Part). read_radius p.radius) ∙ many))
      (and_from (length (mismatches_read b) == v.size) (length b.inverse == v.size)
      (eq-eqb _ v.size (length-map b.parts (λ (p : Part). read_mismatch p.mismatch) ∙ many))
      (eq-eqb (length b.inverse) v.size rows)))

  wide_at : (i : ℕ) → i < v.size → has_wide_entry v.size (row_of b i) ≡ not (list_all (is_within (2 ^ 56)) (row_of b i))
  wide_at i l =
      is_wide v.size (row_of b i)
      (all_at (λ (r : List ℤ). length r ≡ count_of b.size) [] b.inverse i s.entries (omega (arith, l, rows))
      ∙ ap count_of sized)

  range_at : (i : ℕ) → i < v.size
      → is_out_of_range v.size (claim_of b).centre (radii_read b) b.inverse i ≡ not (is_in_range b i)
  range_at i l =
      ap (λ (z : ℤ). nat_lt (2 ^ 40) (nat_abs z) || (nat_lt (2 ^ 40) (number_at (radii_read b) i) || has_wide_entry v.size (row_of b i))) (centre_at i)
      ∙ ap (λ (k : ℕ). nat_lt (2 ^ 40) (nat_abs (part_of b i).centre) || (nat_lt (2 ^ 40) k || has_wide_entry v.size (row_of b i))) (radius_at i)
      ∙ ap (λ (t : Bool). nat_lt (2 ^ 40) (nat_abs (part_of b i).centre) || (nat_lt (2 ^ 40) (read_radius (part_of b i).radius) || t)) (wide_at i l)
      ∙ range_test (part_of b i).centre (part_of b i).radius (list_all (is_within (2 ^ 56)) (row_of b i))

  range_is : least_from 0 v.size (is_in_range b) ≡ first_place (is_out_of_range v.size (claim_of b).centre (radii_read b) b.inverse) v.size
  range_is = least_is v.size (is_in_range b) (is_out_of_range v.size (claim_of b).centre (radii_read b) b.inverse) range_at

  mismatch_is : least_from 0 v.size (is_mismatch (judge_of v number hour round sampled) b)
      ≡ first_place (λ l. is_untrue (mismatch_at v (claim_of b).centre l) (number_at (mismatches_read b) l)) v.size
  mismatch_is =
      least_is v.size (is_mismatch (judge_of v number hour round sampled) b)
      (λ l. is_untrue (mismatch_at v (claim_of b).centre l) (number_at (mismatches_read b) l)) (λ i l.
      ap (is_untrue (mismatch_at v (claim_of b).centre i)) (mismatch_here i)
      ∙ mismatch_test (mismatch_at v (claim_of b).centre i) (part_of b i).mismatch)

  -- what holds where the rules before hold
  module _ (in_range : first_place (is_out_of_range v.size (claim_of b).centre (radii_read b) b.inverse) v.size ≡ None) where
    positive : (i : ℕ) → i < v.size → int_le (pos 0) (part_of b i).radius ≡ true
    positive i l =
        let holds = not-false (is_in_range b i) (sym (range_at i l)
        ∙ none_holds (is_out_of_range v.size (claim_of b).centre (radii_read b) b.inverse) v.size i in_range l) in
        (and_parts _ _ (and_parts _ _ (and_parts _ _ holds).1).1).0

    radii_same : radii_read b ≡ (claim_on v b).radii
    radii_same =
        ext_get_or 0 (radii_read b) (claim_on v b).radii (length-map b.parts (λ (p : Part). read_radius p.radius)
        ∙ sym (length-map b.parts (λ (p : Part). nat_abs p.radius)))
        (λ i l. radius_at i
        ∙ radius_size (part_of b i).radius
        (positive i (omega (arith, l, length-map b.parts (λ (p : Part). read_radius p.radius), many)))
        ∙ sym (get_or-map (λ (p : Part). nat_abs p.radius) b.parts i no_part))

  module _ (true_ones : first_place (λ l. is_untrue (mismatch_at v (claim_of b).centre l) (number_at (mismatches_read b) l)) v.size ≡ None) where
    sizes_same : mismatches_read b ≡ sizes_of (claim_of b).mismatch
    sizes_same =
        ext_get_or 0 (mismatches_read b) (sizes_of (claim_of b).mismatch)
        (length-map b.parts (λ (p : Part). read_mismatch p.mismatch)
        ∙ sym (length-map (claim_of b).mismatch nat_abs ∙ length-map b.parts (λ (p : Part). p.mismatch)))
        (λ i l.
        let below : i < v.size =
        omega (arith, l, length-map b.parts (λ (p : Part). read_mismatch p.mismatch), many) in
        let fine = none_holds (λ l. is_untrue (mismatch_at v (claim_of b).centre l) (number_at (mismatches_read b) l))
        v.size i true_ones below in
        mismatch_here i
        ∙ sym (mismatch_size (mismatch_at v (claim_of b).centre i) (part_of b i).mismatch
        (sym (ap (is_untrue (mismatch_at v (claim_of b).centre i)) (mismatch_here i)) ∙ fine))
        ∙ sym (get_or-map nat_abs (claim_of b).mismatch i (pos 0)
        ∙ ap nat_abs (get_or-map (λ (p : Part). p.mismatch) b.parts i no_part)))

    named_is : (o : Option (ℕ × Option ℤ)) → refusal_in v (claim_of b) ≡ o
        → least_from 0 v.size (λ i. not (names i o)) ≡ place_named o
    named_is None e = least_all v.size 0 (λ i. not (names i None)) (λ j l m. refl)
    named_is (Some r) e =
        let below : r.0 < v.size =
        refusal_below v.size (entry b.inverse) (jacobian_entry v (claim_of b).centre)
        (slope_radius v (claim_of b).centre) (weight_at v (claim_of b).centre)
        (number_at (sizes_of (claim_of b).mismatch)) r e in
        least_is v.size (λ i. not (names i (Some r))) (λ i. r.0 == i) (λ i l. twice (r.0 == i))
        ∙ first_at (λ i. r.0 == i) v.size r.0 below (λ j l.
        false_from_ne_true (r.0 == j) (λ t. let same : r.0 ≡ j = eqb-true r.0 j t in absurd (omega (arith, l, same))))
        (eq-eqb r.0 r.0 refl)

    bound_is : least_from 0 v.size (λ i. not (names i (refusal_in v (claim_of b))))
        ≡ place_named (refusal_of v (claim_of b).centre (mismatches_read b) b.inverse)
    bound_is = named_is (refusal_in v (claim_of b)) refl
        ∙ ap (λ (e : List ℕ). place_named (refusal_of v (claim_of b).centre e b.inverse)) (sym sizes_same)

    radius_is : first_place (is_out_of_range v.size (claim_of b).centre (radii_read b) b.inverse) v.size ≡ None
        → least_from 0 v.size (is_radius (judge_of v number hour round sampled) b)
        ≡ first_place (is_narrow v (claim_of b).centre (radii_read b) (mismatches_read b) b.inverse) v.size
    radius_is h =
        least_is v.size (is_radius (judge_of v number hour round sampled) b)
        (is_narrow v (claim_of b).centre (radii_read b) (mismatches_read b) b.inverse) (λ i l.
        ap (λ (k : ℕ). nat_lt k (radius_in v (claim_of b).centre b.inverse (mismatches_read b) i)) (radius_at i)
        ∙ narrow_test (radius_in v (claim_of b).centre b.inverse (mismatches_read b) i) (part_of b i).radius
        (positive h i l)
        ∙ ap (λ (e : List ℕ). not (int_le (pos (radius_in v (claim_of b).centre b.inverse e i)) (part_of b i).radius))
        sizes_same)

  past_size : first_unsound v (claim_read v b)
      ≡ broken_at Range (first_place (is_out_of_range v.size (claim_of b).centre (radii_read b) b.inverse) v.size)
      (first_at_point v (claim_of b).centre (radii_read b) (mismatches_read b) b.inverse)
  unfolding first_broken
  past_size =
      ap (λ (t : Bool).
      cond t
      (broken_at Range (first_place (is_out_of_range v.size (claim_of b).centre (radii_read b) b.inverse) v.size)
      (first_at_point v (claim_of b).centre (radii_read b) (mismatches_read b) b.inverse))
      (Some (record { rule = Size; place = 0 })))
      has

  at_point : first_at_point v (claim_of b).centre (radii_read b) (mismatches_read b) b.inverse
      ≡ broken_at Mismatch (first_place (λ l. is_untrue (mismatch_at v (claim_of b).centre l) (number_at (mismatches_read b) l)) v.size)
      (broken_at Bound (place_named (refusal_of v (claim_of b).centre (mismatches_read b) b.inverse))
      (broken_at Radius (first_place (is_narrow v (claim_of b).centre (radii_read b) (mismatches_read b) b.inverse) v.size) None))
  unfolding first_at_point
  at_point = refl

  -- the rules before the acts come to those of the claim
  pub rules_same : is_due (judge_of v number hour round sampled) b ≡ true
      → first_some (claim_rules (judge_of v number hour round sampled) b) ≡ option_map at_place (first_unsound v (claim_read v b))
  rules_same due =
      let judge = judge_of v number hour round sampled in
      let x = (claim_of b).centre in
      let last : List (Option Broken) = unless_at Radius v.size (is_radius judge b) ∷ [] in
      let third : List (Option Broken) = unless_at Bound v.size (λ i. not (names i (refusal_in v (claim_of b)))) ∷ last in
      let second : List (Option Broken) = unless_at Mismatch v.size (is_mismatch judge b) ∷ third in
      ap (λ (t : Bool). first_some (unless Size at_solution t ∷ unless_at Range v.size (is_in_range b) ∷ second)) due
      ∙ ap (λ (o : Option ℕ). first_some (broken_by Range o ∷ second)) range_is
      ∙ step Range _ second (first_at_point v x (radii_read b) (mismatches_read b) b.inverse) (λ in_range.
      ap (λ (o : Option ℕ). first_some (broken_by Mismatch o ∷ third)) mismatch_is
      ∙ step Mismatch _ third _ (λ true_ones.
      ap (λ (o : Option ℕ). first_some (broken_by Bound o ∷ last)) (bound_is true_ones)
      ∙ step Bound _ last _ (λ certain.
      ap (λ (o : Option ℕ). first_some (broken_by Radius o ∷ [])) (radius_is true_ones in_range)
      ∙ step Radius _ [] None (λ wide. refl)))
      ∙ sym (ap (option_map at_place) at_point))
      ∙ sym (ap (option_map at_place) past_size)

  -- where no rule is broken no number is below 0
  pub claim_same : first_unsound v (claim_read v b) ≡ None → claim_read v b ≡ claim_on v b
  claim_same h =
      let a = later_none Range _ _ (sym past_size ∙ h) in
      let d = later_none Mismatch _ _ (sym at_point ∙ a.1) in
      λ i. record {
        centre = (claim_of b).centre;
        radii = radii_same a.0 i;
        mismatches = sizes_same d.0 i;
        boxes = boxes_of v (claim_of b).centre;
        support = by_inverse b.inverse;
      }

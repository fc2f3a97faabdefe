-- The block of a computed round: what it claims is what the rules ask for.
use Rattle.std.proofs.Common.{◌≡◌, ◌∙◌, ℕ, zero, suc, ◌+◌, ◌*◌, ◌-◌, ◌<◌, ◌≤◌, ◌^◌, ◌≤ℤ◌, ℤ, pos, negsuc, nat_abs}
use Rattle.std.proofs.Common.{nat_le, nat_lt, not, false, cond, List, [], ◌∷◌, length, get_or, map, Option, Some, None}
use Rattle.std.proofs.Common.{Ok, refl, sym, ap, subst, arith}
use Rattle.std.specs.List.{AllByRecursion, range_with_len}
use Rattle.std.proofs.lemmas.Bool.{ltb-false}
use Rattle.std.proofs.lemmas.Int.{ints}
use Rattle.std.proofs.lemmas.List.Elements.{All-get_or}
use Rattle.std.proofs.lemmas.Simd.{map-map}
use Rattle.fd_checking.specs.fd_exact.First.{first_place}
use Rattle.fd_checking.specs.fd_exact.FirstLaws.{none_holds}
use Rattle.fd_checking.specs.fd_exact.Greatest.{greatest-same}
use Rattle.fd_checking.specs.fd_exact.Rounding.{ceil_nat}
use Rattle.fd_checking.specs.fd_exact.States.{entry, part}
use Rattle.fd_checking.specs.fd_exact.SumLaws.{sum_n-same}
use Rattle.fd_checking.specs.fd_mat.Rows.{row_of}
use Rattle.fd_checking.specs.fd_pattern.Conditions.{IsPart}
use Rattle.fd_checking.specs.fd_equations.Rounded.{jacobian_entry, list_of}
use Rattle.fd_checking.specs.fd_pattern.Views.{NetworkView}
use Rattle.fd_checking.specs.fd_equations.Weights.{weight_at}
use Rattle.fd_checking.proofs.CallerLemmas.fd_equations.{get_or-list_of, length-list_of, list_of-ext}
use Rattle.fd_checking.specs.fd_enclosure.Bounds.{bound_at, bound_of, first_unbounded, first_wide, is_below_one}
use Rattle.fd_checking.specs.fd_enclosure.Bounds.{radius_at, reach_at, reach_of, refusal, unless_unbounded, unless_wide}
use Rattle.fd_checking.specs.fd_enclosure.Radii.{slope_radius}
use Rattle.fd_checking.specs.fd_enclosure.Sound.{Claim, certificate_of, claim_of, first_loose, greatest_mismatch, inverse_in}
use Rattle.fd_checking.specs.fd_enclosure.Sound.{mismatch_at, mismatches_of, number_at, radii_of, radius_in}
use Rattle.fd_checking.specs.fd_enclosure.Sound.{unless_loose, unless_uncertain}
use Rattle.fd_checking.proofs.CallerLemmas.fd_enclosure.{all_narrow, claim_is, not_refused}
use Rattle.fd_checking.specs.fd_certfile.Blocks.{Act, Block, IsSized, IsWritable, Part}
use Rattle.fd_checking.specs.fd_certfile.Judging.{judge_of, names, refusal_in, sizes_of}
use Rattle.fd_checking.specs.fd_certfile.fd_lines.Numbers.{IsNumber}
use Rattle.fd_checking.specs.fd_certfile.Rounds.{part_in}
use Rattle.fd_checking.specs.fd_certfile.Rules.{Ball, Holds, Sampled, ball_of, moves, part_of}
use Rattle.fd_checking.specs.fd_certfile.Rules as rules
use Rattle.fd_checking.proofs.CallerLemmas.fd_solving.{IsSolutionPoint}

-- ---- where a certificate isn't refused

module _ (n : ℕ) (C J : ℕ → ℕ → ℤ) (R : ℕ → ℕ → ℕ) (w : ℕ → ℕ) where
  by_none : (e : ℕ → ℕ) → first_unbounded n C J R w e ≡ None → first_wide n C J R w e ≡ None
      → refusal n C J R w e ≡ None
  unfolding refusal
  by_none e unbounded wide = ap (unless_unbounded n C J R w e) unbounded ∙ ap (unless_wide n C J R w e) wide

  -- a refusal depends on the mismatches of the n rows alone
  module _ (e f : ℕ → ℕ) (same : (l : ℕ) → l < n → e l ≡ f l) where
    reach_same : reach_of n C J R w e ≡ reach_of n C J R w f
    reach_same = greatest-same (reach_at n C J R w e) (reach_at n C J R w f) n
        (λ i p. ap (λ s. ceil_nat (s * 2 ^ 20) (w i))
        (sum_n-same (λ l. nat_abs (C i l) * (2 * e l)) (λ l. nat_abs (C i l) * (2 * f l)) n
        (λ l q. ap (λ m. nat_abs (C i l) * (2 * m)) (same l q))))

    unbounded_same : first_unbounded n C J R w e ≡ first_unbounded n C J R w f
    unbounded_same =
        ap (λ r. first_place
        (λ i. not (is_below_one (cond (nat_le (w i * r) (2 ^ 120)) (bound_at n C J R w i) None))) n) reach_same

    wide_same : first_wide n C J R w e ≡ first_wide n C J R w f
    unfolding radius_at
    wide_same =
        ap (λ r. first_place
        (λ i. nat_lt (2 ^ 40) (ceil_nat (w i * r) (2 ^ 20 * (2 ^ 40 - bound_of n C J R w)))) n) reach_same

    pub still_none : refusal n C J R w e ≡ None → refusal n C J R w f ≡ None
    still_none h = let none =
        not_refused n C J R w e h in by_none f (sym unbounded_same ∙ none.0) (sym wide_same ∙ none.1)

-- ---- lists

all_by : {X : Type 0} (P : X → Type 0) (d : X) (xs : List X) → ((i : ℕ) → i < length xs → P (get_or xs i d))
    → AllByRecursion P xs
all_by P d [] h = tt
all_by P d (x ∷ xs) h = (h 0 (omega arith), all_by P d xs (λ i l. h (suc i) (omega (arith, l))))

all_of : {X : Type 0} (P : X → Type 0) (f : ℕ → X) (a n : ℕ) → ((i : ℕ) → i < a + n → P (f i))
    → AllByRecursion P (map f (range_with_len a n))
all_of P f a zero h = tt
all_of P f a (suc n) h = (h a (omega arith), all_of P f (a + 1) n (λ i l. h i (omega (arith, l))))

-- a list by what is read of the values of a function
read_back : {X Y : Type 0} (n : ℕ) (f : ℕ → X) (g : X → Y) (ys : List Y) (d : Y) → length ys ≡ n
    → ((i : ℕ) → i < n → get_or ys i d ≡ g (f i)) → map g (list_of n f) ≡ ys
read_back n f g ys d long same = map-map g f (range_with_len 0 n) ∙ sym (list_of-ext ys n (λ i. g (f i)) d long same)

part_small : (z : ℤ) → IsPart z → nat_abs z ≤ 2 ^ 40
part_small z h = let a = h.0 in let b = h.1 in omega (arith, ints)

number_is : (z : ℤ) (n : ℕ) → nat_abs z ≤ n → n < 2 ^ 127 → IsNumber z
number_is (pos k) n h l = omega (arith, h, l)
number_is (negsuc k) n h l = omega (arith, h, l)

-- ---- a claim that is the certificate of a point

module _ (v : NetworkView) (m : Claim) (at : IsSolutionPoint v m.centre (inverse_in m.support))
    (certificate : certificate_of v m.centre (inverse_in m.support) ≡ Ok m) where
  abbrev x : List ℤ
  x = m.centre

  abbrev C : ℕ → ℕ → ℤ
  C = entry (inverse_in m.support)

  abbrev refused_by : (ℕ → ℕ) → Option (ℕ × Option ℤ)
  refused_by e = refusal v.size C (jacobian_entry v x) (slope_radius v x) (weight_at v x) e

  what : claim_of v x (inverse_in m.support) ≡ m
  what = claim_is v x (inverse_in m.support) m certificate

  none_loose : (o : Option ℕ) → unless_loose v x (inverse_in m.support) o ≡ Ok m
      → (o ≡ None) × (unless_uncertain v x (inverse_in m.support) (refused_by (mismatch_at v x)) ≡ Ok m)
  none_loose None e = (refl, e)
  none_loose (Some row) e = absurd (let no : ⊥ = cc in no)

  none_uncertain : (o : Option (ℕ × Option ℤ)) → unless_uncertain v x (inverse_in m.support) o ≡ Ok m → o ≡ None
  none_uncertain None e = refl
  none_uncertain (Some r) e = absurd (let no : ⊥ = cc in no)

  loose : first_loose v x ≡ None
  unfolding certificate_of
  loose = (none_loose (first_loose v x) certificate).0

  certain : refused_by (mismatch_at v x) ≡ None
  unfolding certificate_of
  certain = none_uncertain (refused_by (mismatch_at v x)) (none_loose (first_loose v x) certificate).1

  tight : (l : ℕ) → l < v.size → mismatch_at v x l ≤ greatest_mismatch
  unfolding first_loose
  tight l p =
      ltb-false greatest_mismatch (mismatch_at v x l)
      (none_holds (λ k. nat_lt greatest_mismatch (mismatch_at v x k)) v.size l loose p)

  -- its numbers

  mismatches_are : m.mismatches ≡ mismatches_of v x
  mismatches_are = sym (ap (λ (k : Claim). k.mismatches) what)

  mismatches_long : length m.mismatches ≡ v.size
  unfolding mismatches_of
  mismatches_long = ap length mismatches_are ∙ length-list_of v.size (mismatch_at v x)

  mismatch_is : (l : ℕ) → l < v.size → number_at m.mismatches l ≡ mismatch_at v x l
  unfolding mismatches_of
  mismatch_is l p = ap (λ es. number_at es l) mismatches_are ∙ get_or-list_of v.size (mismatch_at v x) l 0 p

  radii_are : m.radii ≡ radii_of v x (inverse_in m.support) m.mismatches
  radii_are = sym (ap (λ (k : Claim). k.radii) what) ∙ ap (radii_of v x (inverse_in m.support)) (sym mismatches_are)

  radii_long : length m.radii ≡ v.size
  unfolding radii_of
  radii_long = ap length radii_are ∙ length-list_of v.size (radius_in v x (inverse_in m.support) m.mismatches)

  radius_is : (i : ℕ) → i < v.size → number_at m.radii i ≡ radius_in v x (inverse_in m.support) m.mismatches i
  unfolding radii_of
  radius_is i p =
      ap (λ rs. number_at rs i) radii_are ∙ get_or-list_of v.size (radius_in v x (inverse_in m.support) m.mismatches) i 0 p

  -- with its own mismatches it isn't refused
  own_certain : refused_by (number_at m.mismatches) ≡ None
  own_certain =
      still_none v.size C (jacobian_entry v x) (slope_radius v x) (weight_at v x) (mismatch_at v x)
      (number_at m.mismatches)
      (λ l p. sym (mismatch_is l p)) certain

  radius_small : (i : ℕ) → i < v.size → number_at m.radii i ≤ 2 ^ 40
  radius_small i p = subst (λ (k : ℕ). k ≤ 2 ^ 40) (sym (radius_is i p))
      (all_narrow v.size C (jacobian_entry v x) (slope_radius v x) (weight_at v x)
      (number_at m.mismatches) own_certain i p)

  centre_small : (i : ℕ) → i < v.size → nat_abs (part x i) ≤ 2 ^ 40
  centre_small i p =
      part_small (part x i) (All-get_or IsPart x i (pos 0) (omega (arith, p, at.point.long)) at.point.parts)

  entries_small : (i : ℕ) → i < v.size → AllByRecursion (λ z. nat_abs z ≤ 2 ^ 56) (row_of (inverse_in m.support) i)
  entries_small i p = all_by (λ z. nat_abs z ≤ 2 ^ 56) (pos 0) (row_of (inverse_in m.support) i)
      (λ j q. at.square.inverse.small i j (omega (arith, p, at.square.inverse.long))
      (omega (arith, q, at.square.wide i p, at.square.inverse.long)))

  -- ---- its block

  abbrev pub parts_for : List Part
  parts_for = list_of v.size (part_in m)

  abbrev pub block_for : ℕ → ℕ → ℕ → List Act → Block
  block_for number hour round acts = record {
    number = pos number;
    hour = pos hour;
    round = pos round;
    size = pos v.size;
    parts = parts_for;
    inverse = inverse_in m.support;
    acts = acts;
  }

  pub centres_are : map (λ (p : Part). p.centre) parts_for ≡ x
  centres_are = read_back v.size (part_in m) (λ (p : Part). p.centre) x (pos 0) at.point.long (λ i l. refl)

  pub radii_back : map nat_abs (map (λ (p : Part). p.radius) parts_for) ≡ m.radii
  radii_back = map-map nat_abs (λ (p : Part). p.radius) parts_for
      ∙ read_back v.size (part_in m) (λ (p : Part). nat_abs p.radius) m.radii 0 radii_long (λ i l. refl)

  sizes_back : sizes_of (map (λ (p : Part). p.mismatch) parts_for) ≡ m.mismatches
  sizes_back = map-map nat_abs (λ (p : Part). p.mismatch) parts_for
      ∙ read_back v.size (part_in m) (λ (p : Part). nat_abs p.mismatch) m.mismatches 0 mismatches_long (λ i l. refl)

  module _ (number hour round : ℕ) (acts : List Act) where
    abbrev b : Block
    b = block_for number hour round acts

    part_is : (i : ℕ) → i < v.size → part_of b i ≡ part_in m i
    part_is i p = get_or-list_of v.size (part_in m) i _ p

    pub sized : IsSized b
    sized = record {
      parts = length-list_of v.size (part_in m);
      rows = at.square.inverse.long;
      entries = all_by (λ r. length r ≡ v.size) [] (inverse_in m.support)
          (λ i l. at.square.wide i (omega (arith, l, at.square.inverse.long)));
    }

    not_named : (i : ℕ) → names i (refusal_in v (rules.claim_of b)) ≡ false
    not_named i =
        let F : List ℤ → List ℕ → Option (ℕ × Option ℤ) =
        λ y es. refusal v.size C (jacobian_entry v y) (slope_radius v y) (weight_at v y) (number_at es) in
        ap (names i)
        (ap (λ y. F y (sizes_of (map (λ (p : Part). p.mismatch) parts_for))) centres_are ∙ ap (F x) sizes_back
        ∙ own_certain)

    claimed_radius : (i : ℕ) → i < v.size
        → radius_in v (map (λ (p : Part). p.centre) parts_for) (inverse_in m.support)
        (sizes_of (map (λ (p : Part). p.mismatch) parts_for)) i ≡ number_at m.radii i
    claimed_radius i p =
        ap (λ y. radius_in v y (inverse_in m.support) (sizes_of (map (λ (p : Part). p.mismatch) parts_for)) i) centres_are
        ∙ ap (λ es. radius_in v x (inverse_in m.support) es i) sizes_back ∙ sym (radius_is i p)

    claimed_mismatch : (l : ℕ) → l < v.size
        → mismatch_at v (map (λ (p : Part). p.centre) parts_for) l ≡ number_at m.mismatches l
    claimed_mismatch l p = ap (λ y. mismatch_at v y l) centres_are ∙ sym (mismatch_is l p)

    same_order : (a k : ℕ) → a ≡ k → pos a ≤ℤ pos k
    same_order a k e = omega (arith, ints, e)

    within : (a k : ℕ) → a ≡ k → k ≤ 1000 → (pos a ≤ℤ pos k) × (pos k ≤ℤ pos 1000)
    within a k e l = (omega (arith, ints, e), omega (arith, ints, l))

    -- all rules hold, where the acts are those of the samples of its ball
    pub holds : (sampled : Ball → Sampled) → sampled (ball_of b) ≡ moves acts
        → Holds (judge_of v number hour round sampled) b
    holds sampled due_acts = record {
      due = record { number = refl; hour = refl; round = refl; size = refl };
      range = λ i p. record {
        centre = subst (λ (q : Part). nat_abs q.centre ≤ 2 ^ 40) (sym (part_is i p)) (centre_small i p);
        radius = subst (λ (q : Part). nat_abs q.radius ≤ 2 ^ 40) (sym (part_is i p)) (radius_small i p);
        not_negative = subst (λ (q : Part). pos 0 ≤ℤ q.radius) (sym (part_is i p)) (omega (arith, ints));
        entries = entries_small i p;
      };
      mismatch =
          λ i p. subst (λ (q : Part). (pos (mismatch_at v (map (λ (p : Part). p.centre) parts_for) i) ≤ℤ q.mismatch) ×
          (q.mismatch ≤ℤ pos 1000)) (sym (part_is i p))
          (within _ (number_at m.mismatches i) (claimed_mismatch i p)
          (subst (λ (k : ℕ). k ≤ 1000) (sym (mismatch_is i p)) (tight i p)));
      bound = λ i p. not_named i;
      radius = λ i p. subst (λ (q : Part). pos
          (radius_in v (map (λ (p : Part). p.centre) parts_for) (inverse_in m.support)
          (sizes_of (map (λ (p : Part). p.mismatch) parts_for)) i) ≤ℤ q.radius) (sym (part_is i p))
          (same_order _ (number_at m.radii i) (claimed_radius i p));
      acts = due_acts;
    }

    -- its numbers can be written
    pub writable : IsNumber (pos number) → IsNumber (pos hour) → IsNumber (pos round) → IsNumber (pos v.size)
        → AllByRecursion (λ (a : Act). AllByRecursion IsNumber (a.time ∷ a.control ∷ a.steps ∷ [])) acts → IsWritable b
    writable a h r s each = record {
      due = (a, (h, (r, (s, tt))));
      parts = all_of (λ (p : Part). AllByRecursion IsNumber (p.centre ∷ p.radius ∷ p.mismatch ∷ []))
          (part_in m) 0 v.size (λ i l. (
            number_is (part x i) (2 ^ 40) (centre_small i (omega (arith, l))) (omega arith),
            (
              omega (arith, radius_small i (omega (arith, l))),
              (omega (arith, mismatch_is i (omega (arith, l)), tight i (omega (arith, l))), tt),
            ),
          ));
      inverse = all_by (AllByRecursion IsNumber) [] (inverse_in m.support)
          (λ i l. all_number (row_of (inverse_in m.support) i) (entries_small i (omega (arith, l, at.square.inverse.long))));
      acts = each;
    }
      where
        all_number : (zs : List ℤ) → AllByRecursion (λ z. nat_abs z ≤ 2 ^ 56) zs → AllByRecursion IsNumber zs
        all_number [] h = tt
        all_number (z ∷ zs) h = (number_is z (2 ^ 56) h.0 (omega arith), all_number zs h.1)

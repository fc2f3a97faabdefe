-- A block for which the rules hold on a network makes a sound claim there.
use Rattle.std.proofs.Common.{◌≡◌, ℕ, zero, suc, ◌<◌, ◌≤◌, ◌^◌, ◌≤ℤ◌, nat_abs, Bool, true, false, ℤ, pos, List, [], ◌∷◌, length, get_or, Option, Some, None, refl, ap, sym, subst, ◌∙◌, arith}
use Rattle.std.specs.List.{AllByRecursion}
use Rattle.std.proofs.Math.ListN.{get_or-map}
use Rattle.std.proofs.lemmas.Bool.{eq-eqb}
use Rattle.std.proofs.lemmas.Int.{ints}
use Rattle.std.proofs.lemmas.List.{length-map}
use Rattle.std.proofs.lemmas.List.Elements.{All-from_get_or}
use Rattle.fd_settle.specs.fd_exact.FirstLaws.{place_below}
use Rattle.fd_settle.specs.fd_exact.States.{entry, part}
use Rattle.fd_settle.specs.fd_pattern.Conditions.{IsPart, IsPoint}
use Rattle.fd_settle.specs.fd_equations.Rounded.{jacobian_entry}
use Rattle.fd_settle.specs.fd_pattern.Views.{NetworkView}
use Rattle.fd_settle.specs.fd_equations.Weights.{weight_at}
use Rattle.fd_settle.specs.fd_enclosure.Bounds.{first_unbounded, first_wide, refusal, refused_bound, unless_unbounded, unless_wide}
use Rattle.fd_settle.specs.fd_enclosure.Radii.{slope_radius}
use Rattle.fd_settle.specs.fd_enclosure.Sound.{IsInverse, IsSound, greatest_mismatch, mismatch_at, number_at, radius_in}
use Rattle.fd_settle.proofs.CallerLemmas.fd_enclosure.{all_bounded}
use Rattle.fd_certfile.specs.Blocks.{Block, IsSized, Part, count_of}
use Rattle.fd_certfile.specs.Judging.{SoundLaw, claim_on, judge_of, names, refusal_in, sizes_of}
use Rattle.fd_certfile.specs.Rules.{Ball, Holds, Sampled, claim_of, part_of, row_of}

-- ---- the unknown that a refusal names is one of n

module _ (n : ℕ) (C J : ℕ → ℕ → ℤ) (R : ℕ → ℕ → ℕ) (w e : ℕ → ℕ) where
  wide_below : (o : Option ℕ) (r : ℕ × Option ℤ) → first_wide n C J R w e ≡ o → unless_wide n C J R w e o ≡ Some r
      → r.0 < n
  wide_below None r f h = absurd cc
  wide_below (Some i) r f h =
      let same : (i, None) ≡ r = cc in
      subst (λ (k : ℕ). k < n) (ap (λ (q : ℕ × Option ℤ). q.0) same) (place_below _ n i f)

  unbounded_below : (o : Option ℕ) (r : ℕ × Option ℤ) → first_unbounded n C J R w e ≡ o
      → unless_unbounded n C J R w e o ≡ Some r → r.0 < n
  unbounded_below None r f h = wide_below (first_wide n C J R w e) r refl h
  unbounded_below (Some i) r f h =
      let same : (i, refused_bound n C J R w e i) ≡ r = cc in
      subst (λ (k : ℕ). k < n) (ap (λ (q : ℕ × Option ℤ). q.0) same) (place_below _ n i f)

  pub refusal_below : (r : ℕ × Option ℤ) → refusal n C J R w e ≡ Some r → r.0 < n
  unfolding refusal
  refusal_below r h = unbounded_below (first_unbounded n C J R w e) r refl h

  -- where it names none of n there is none
  none_named : (o : Option (ℕ × Option ℤ)) → refusal n C J R w e ≡ o → ((i : ℕ) → i < n → names i o ≡ false) → o ≡ None
  none_named None f h = refl
  none_named (Some r) f h = absurd (both (names r.0 (Some r)) (eq-eqb r.0 r.0 refl) (h r.0 (refusal_below r f)))
    where
      both : (b : Bool) → b ≡ true → b ≡ false → ⊥
      both true t u = absurd cc
      both false t u = absurd cc

-- ---- numbers

abs_part : (z : ℤ) → nat_abs z ≤ 2 ^ 40 → IsPart z
abs_part z h = (omega (arith, ints, h), omega (arith, ints, h))

above : (k : ℕ) (z : ℤ) → pos k ≤ℤ z → k ≤ nat_abs z
above k z h = omega (arith, ints, h)

below : (k : ℕ) (z : ℤ) → pos k ≤ℤ z → z ≤ℤ pos 1000 → nat_abs z ≤ 1000
below k z h l = omega (arith, ints, h, l)

all_or : {X : Type 0} (P : X → Type 0) (d : X) (xs : List X) (i : ℕ) → P d → AllByRecursion P xs → P (get_or xs i d)
all_or P d [] i h a = h
all_or P d (x ∷ xs) zero h a = a.0
all_or P d (x ∷ xs) (suc i) h a = all_or P d xs i h a.1

-- ---- the claim

module _ (v : NetworkView) (number hour round : ℕ) (sampled : Ball → Sampled) (b : Block) (s : IsSized b)
    (h : Holds (judge_of v number hour round sampled) b) where
  sized : count_of b.size ≡ v.size
  sized = ap count_of h.due.size

  many : length b.parts ≡ v.size
  many = s.parts ∙ sized

  centre_at : (i : ℕ) → part (claim_of b).centre i ≡ (part_of b i).centre
  centre_at i = get_or-map (λ (p : Part). p.centre) b.parts i (record { centre = pos 0; radius = pos 0; mismatch = pos 0 })

  radius_here : (i : ℕ) → number_at (claim_on v b).radii i ≡ nat_abs (part_of b i).radius
  radius_here i = get_or-map (λ (p : Part). nat_abs p.radius) b.parts i (record { centre = pos 0; radius = pos 0; mismatch = pos 0 })

  mismatch_here : (i : ℕ) → number_at (claim_on v b).mismatches i ≡ nat_abs (part_of b i).mismatch
  mismatch_here i =
      get_or-map nat_abs (claim_of b).mismatch i (pos 0)
      ∙ ap nat_abs (get_or-map (λ (p : Part). p.mismatch) b.parts i (record { centre = pos 0; radius = pos 0; mismatch = pos 0 }))

  point : IsPoint v (claim_of b).centre
  point = record {
    long = length-map b.parts (λ (p : Part). p.centre) ∙ many;
    parts = All-from_get_or IsPart (claim_of b).centre (pos 0) (λ i l.
        subst IsPart (sym (centre_at i)) (abs_part (part_of b i).centre
        (h.range i (omega (arith, l, length-map b.parts (λ (p : Part). p.centre), many))).centre));
  }

  inverse : IsInverse v.size b.inverse
  inverse = record {
    long = s.rows ∙ sized;
    small = λ row col r c. all_or (λ (z : ℤ). nat_abs z ≤ 2 ^ 56) (pos 0) (row_of b row) col (omega arith)
        (h.range row (omega (arith, r, s.rows, sized))).entries;
  }

  certain : refusal_in v (claim_of b) ≡ None
  certain = none_named v.size (entry b.inverse) (jacobian_entry v (claim_of b).centre)
      (slope_radius v (claim_of b).centre) (weight_at v (claim_of b).centre)
      (number_at (sizes_of (claim_of b).mismatch))
      (refusal_in v (claim_of b)) refl h.bound

  claim_sound : IsSound v (claim_on v b)
  claim_sound = record {
    centre = point;
    boxes = refl;
    mismatches_long = length-map (claim_of b).mismatch nat_abs ∙ length-map b.parts (λ (p : Part). p.mismatch) ∙ many;
    mismatches_least = λ l p. subst (λ (k : ℕ). mismatch_at v (claim_of b).centre l ≤ k) (sym (mismatch_here l))
        (above (mismatch_at v (claim_of b).centre l) (part_of b l).mismatch (h.mismatch l p).0);
    mismatches_most = λ l p. subst (λ (k : ℕ). k ≤ greatest_mismatch) (sym (mismatch_here l))
        (below (mismatch_at v (claim_of b).centre l) (part_of b l).mismatch (h.mismatch l p).0 (h.mismatch l p).1);
    radii_long = length-map b.parts (λ (p : Part). nat_abs p.radius) ∙ many;
    radii_most = λ i p. subst (λ (k : ℕ). k ≤ 2 ^ 40) (sym (radius_here i)) (h.range i p).radius;
    shown = record {
      inverse = inverse;
      bounded = all_bounded v.size (entry b.inverse) (jacobian_entry v (claim_of b).centre)
          (slope_radius v (claim_of b).centre) (weight_at v (claim_of b).centre)
          (number_at (sizes_of (claim_of b).mismatch)) certain;
      radii_least = λ i p. subst
          (λ (k : ℕ). radius_in v (claim_of b).centre b.inverse (sizes_of (claim_of b).mismatch) i ≤ k)
          (sym (radius_here i))
          (above (radius_in v (claim_of b).centre b.inverse (sizes_of (claim_of b).mismatch) i) (part_of b i).radius (h.radius i p));
    };
  }

pub sound_law : SoundLaw
sound_law v number hour round sampled b s h = claim_sound v number hour round sampled b s h

-- The certificate of a point is sound.
use Rattle.std.proofs.Common.{◌≡◌, ◌∙◌, ℕ, ◌*◌, ◌-◌, ◌<◌, ◌≤◌, ◌^◌, ℤ, nat_le, nat_lt, not, Bool, true, false, cond, List, length, Option, Some, None, Ok, zero-add, arith, ap, refl, sym, subst}
use Rattle.std.proofs.lemmas.Bool.{ltb-false, not-false}
use Rattle.std.proofs.lemmas.List.FromFn.{get_or-map-range_with_len, length-map-range_with_len}
use Rattle.fd_equations.specs.fd_exact.FirstLaws.{none_holds}
use Rattle.fd_equations.specs.fd_exact.Greatest.{greatest-same}
use Rattle.fd_equations.specs.fd_exact.Rounding.{ceil_nat}
use Rattle.fd_equations.specs.fd_exact.States.{entry}
use Rattle.fd_equations.specs.fd_exact.SumLaws.{sum_n-same}
use Rattle.std.specs.Int.RustNames.{unsigned_abs}
use Rattle.fd_equations.specs.fd_pattern.Conditions.{IsPoint}
use Rattle.fd_equations.specs.Rounded.{jacobian_entry, list_of}
use Rattle.fd_equations.specs.fd_pattern.Views.{NetworkView}
use Rattle.fd_equations.specs.Weights.{weight_at}
use Rattle.fd_enclosure.specs.Bounds.{bound_at, bound_of, first_unbounded, first_wide, is_below_one, is_bounded, radius_at, reach_at, reach_of, refusal, refused_bound, unless_unbounded, unless_wide}
use Rattle.fd_enclosure.specs.Encloses.{CertificateLaw}
use Rattle.fd_enclosure.specs.Radii.{slope_radius}
use Rattle.fd_enclosure.specs.Sound.{Claim, HasInverse, IsByInverse, IsInverse, IsShown, IsSound, Support, by_inverse, by_rows, certificate_of, claim_of}
use Rattle.fd_enclosure.specs.Sound.{first_loose, greatest_mismatch, inverse_in, mismatch_at, mismatches_of, number_at, radii_of, radius_in, unless_loose, unless_uncertain}

-- ---- lists

length_of : {X : Type 0} (n : ℕ) (f : ℕ → X) → length (list_of n f) ≡ n
length_of n f = length-map-range_with_len f 0 n

number_of : (n : ℕ) (f : ℕ → ℕ) (i : ℕ) → i < n → number_at (list_of n f) i ≡ f i
number_of n f i h = get_or-map-range_with_len f 0 n i i 0 h (zero-add i)

-- ---- a radius depends on the mismatches alone

module _ (n : ℕ) (C J : ℕ → ℕ → ℤ) (R : ℕ → ℕ → ℕ) (w : ℕ → ℕ) where
  module _ (e f : ℕ → ℕ) (same : (l : ℕ) → l < n → e l ≡ f l) where
    reach_same : (i : ℕ) → reach_at n C J R w e i ≡ reach_at n C J R w f i
    reach_same i =
        ap (λ s. ceil_nat (s * 2 ^ 20) (w i)) (sum_n-same (λ l. unsigned_abs (C i l) * (2 * e l))
        (λ l. unsigned_abs (C i l) * (2 * f l)) n (λ l p. ap (λ m. unsigned_abs (C i l) * (2 * m)) (same l p)))

    radius_same : (i : ℕ) → radius_at n C J R w e i ≡ radius_at n C J R w f i
    unfolding radius_at
    radius_same i =
        ap (λ b. ceil_nat (w i * b) (2 ^ 20 * (2 ^ 40 - bound_of n C J R w)))
        (greatest-same (reach_at n C J R w e) (reach_at n C J R w f) n (λ k p. reach_same k))

  -- ---- what isn't refused

  module _ (e : ℕ → ℕ) where
    unbounded_none : (o : Option ℕ) → unless_unbounded n C J R w e o ≡ None
        → (o ≡ None) × (unless_wide n C J R w e (first_wide n C J R w e) ≡ None)
    unbounded_none None h = (refl, h)
    unbounded_none (Some i) h = let no : ⊥ = cc in absurd no

    wide_none : (o : Option ℕ) → unless_wide n C J R w e o ≡ None → o ≡ None
    wide_none None h = refl
    wide_none (Some i) h = let no : ⊥ = cc in absurd no

    pub not_refused : refusal n C J R w e ≡ None → (first_unbounded n C J R w e ≡ None) × (first_wide n C J R w e ≡ None)
    unfolding refusal
    not_refused h =
        let a = unbounded_none (first_unbounded n C J R w e) h in
        (a.0, wide_none (first_wide n C J R w e) a.1)

    kept : (t : Bool) (o : Option ℤ) → is_below_one (cond t o None) ≡ true → is_below_one o ≡ true
    kept true o h = h
    kept false o h = let no : ⊥ = cc in absurd no

    pub all_bounded : refusal n C J R w e ≡ None → (i : ℕ) → i < n → is_bounded n C J R w i ≡ true
    all_bounded h i p =
        let a = none_holds (λ k. not (is_below_one (refused_bound n C J R w e k))) n i (not_refused h).0 p in
        kept (nat_le (w i * reach_of n C J R w e) (2 ^ 120)) (bound_at n C J R w i) (not-false (is_below_one (refused_bound n C J R w e i)) a)

    pub all_narrow : refusal n C J R w e ≡ None → (i : ℕ) → i < n → radius_at n C J R w e i ≤ 2 ^ 40
    all_narrow h i p = ltb-false (2 ^ 40) (radius_at n C J R w e i) (none_holds (λ k. nat_lt (2 ^ 40) (radius_at n C J R w e k)) n i (not_refused h).1 p)

-- ---- the certificate

module _ (v : NetworkView) (x : List ℤ) (c : List (List ℤ)) where
  abbrev refused : Option (ℕ × Option ℤ)
  refused = refusal v.size (entry c) (jacobian_entry v x) (slope_radius v x) (weight_at v x) (mismatch_at v x)

  not_loose : (o : Option ℕ) (m : Claim) → unless_loose v x c o ≡ Ok m
      → (o ≡ None) × (unless_uncertain v x c refused ≡ Ok m)
  not_loose None m e = (refl, e)
  not_loose (Some row) m e = let no : ⊥ = cc in absurd no

  not_uncertain : (o : Option (ℕ × Option ℤ)) (m : Claim) → unless_uncertain v x c o ≡ Ok m
      → (o ≡ None) × (claim_of v x c ≡ m)
  not_uncertain None m e = (refl, cc)
  not_uncertain (Some r) m e = let no : ⊥ = cc in absurd no

  -- what a certificate claims of a point
  pub claim_is : (m : Claim) → certificate_of v x c ≡ Ok m → claim_of v x c ≡ m
  unfolding certificate_of
  claim_is m e = (not_uncertain refused m (not_loose (first_loose v x) m e).1).1

  tight : first_loose v x ≡ None → (l : ℕ) → l < v.size → mismatch_at v x l ≤ greatest_mismatch
  unfolding first_loose
  tight h l p = ltb-false greatest_mismatch (mismatch_at v x l) (none_holds (λ k. nat_lt greatest_mismatch (mismatch_at v x k)) v.size l h p)

  mismatch_of_claim : (l : ℕ) → l < v.size → number_at (mismatches_of v x) l ≡ mismatch_at v x l
  unfolding mismatches_of
  mismatch_of_claim l p = number_of v.size (mismatch_at v x) l p

  mismatches_length : length (mismatches_of v x) ≡ v.size
  unfolding mismatches_of
  mismatches_length = length_of v.size (mismatch_at v x)

  radius_of_claim : (e : List ℕ) (i : ℕ) → i < v.size → number_at (radii_of v x c e) i ≡ radius_in v x c e i
  unfolding radii_of
  radius_of_claim e i p = number_of v.size (radius_in v x c e) i p

  radii_length : (e : List ℕ) → length (radii_of v x c e) ≡ v.size
  unfolding radii_of
  radii_length e = length_of v.size (radius_in v x c e)

  own_sound : IsPoint v x → IsInverse v.size c → first_loose v x ≡ None → refused ≡ None → IsSound v (claim_of v x c)
  own_sound point inverse loose certain =
      let n = v.size in
      let J = jacobian_entry v x in
      let R = slope_radius v x in
      let w = weight_at v x in
      let e = mismatches_of v x in
      record {
        centre = point;
        boxes = refl;
        mismatches_long = mismatches_length;
        mismatches_least = λ l p. subst (λ k. mismatch_at v x l ≤ k) (sym (mismatch_of_claim l p)) (omega arith);
        mismatches_most = λ l p. subst (λ k. k ≤ greatest_mismatch) (sym (mismatch_of_claim l p)) (tight loose l p);
        radii_long = radii_length e;
        radii_most = λ i p.
            subst (λ k. k ≤ 2 ^ 40) (sym (radius_of_claim e i p
            ∙ radius_same n (entry c) J R w (number_at e) (mismatch_at v x) mismatch_of_claim i))
            (all_narrow n (entry c) J R w (mismatch_at v x) certain i p);
        shown = record {
          inverse = inverse;
          bounded = all_bounded n (entry c) J R w (mismatch_at v x) certain;
          radii_least = λ i p. subst (λ k. radius_in v x c e i ≤ k) (sym (radius_of_claim e i p)) (omega arith);
        };
      }

pub certificate_sound : CertificateLaw
unfolding certificate_of
certificate_sound v x c m net point inverse e =
    let a = not_loose v x c (first_loose v x) m e in
    let b = not_uncertain v x c (refused v x c) m a.1 in
    subst (IsSound v) b.1 (own_sound v x c point inverse a.0 b.0)

-- ---- its inverse

shown_inverse : (v : NetworkView) (m : Claim) (s : Support) → IsByInverse s → IsShown v m s → HasInverse v.size s
shown_inverse v m (by_inverse c) h shown = shown.inverse
shown_inverse v m (by_rows p) h shown = absurd h

-- the certificate of a point is shown by the inverse
pub is_by_inverse : (v : NetworkView) (m : Claim) → certificate_of v m.centre (inverse_in m.support) ≡ Ok m → IsByInverse m.support
is_by_inverse v m e = subst (λ (k : Claim). IsByInverse k.support) (claim_is v m.centre (inverse_in m.support) m e) tt

pub sound_inverse : (v : NetworkView) (m : Claim) → IsByInverse m.support → IsSound v m → HasInverse v.size m.support
sound_inverse v m h sound = shown_inverse v m m.support h sound.shown

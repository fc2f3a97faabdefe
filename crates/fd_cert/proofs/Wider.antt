-- A sound claim with wider mismatches, and the states that agree with it.
use Rattle.std.proofs.Common.{◌≡◌, ◌∙◌, ℕ, ◌<◌, ◌≤◌, ◌^◌, ℤ, List, length, Option, Some, None, arith, refl, ap, sym, subst}
use Rattle.fd_enclosure.specs.fd_exact.States.{entry}
use Rattle.fd_enclosure.specs.fd_equations.Rounded.{jacobian_entry, list_of}
use Rattle.fd_enclosure.specs.fd_equations.Weights.{weight_at}
use Rattle.fd_enclosure.specs.fd_pattern.Views.{NetworkView}
use Rattle.fd_enclosure.specs.fd_system.Residual.{whole_state}
use Rattle.fd_enclosure.specs.Boxes.{boxes_of}
use Rattle.fd_enclosure.specs.Encloses.{EnclosureLaw}
use Rattle.fd_enclosure.specs.Radii.{slope_radius}
use Rattle.fd_enclosure.specs.Sound.{Claim, HasInverse, IsByInverse, IsInverse, IsSound, Support, by_inverse, by_rows, greatest_mismatch, inverse_in, number_at, radii_of, radius_in}
use Rattle.fd_enclosure.proofs.CallerLemmas.{all_bounded, all_narrow, centre_meets}
use Rattle.fd_enclosure.proofs.CallerLemmas.fd_equations.{get_or-list_of, length-list_of}
use Rattle.fd_cert.specs.Agreement.{AgreementLaw}
use Rattle.fd_cert.specs.Rechecks.{place_named, refusal_of}
use Rattle.fd_cert.specs.Columns.{HasNumbers}
use Rattle.fd_cert.specs.Reaches.{AreTight}
use Rattle.fd_cert.specs.Verdicts.{AreWithin, IsRefused}
use Rattle.fd_cert.specs.Widening.{AreMismatches, AreWider, IsOfPoint, WideningLaw, wide_place, widened}

unnamed : (o : Option (ℕ × Option ℤ)) → place_named o ≡ None → o ≡ None
unnamed None e = refl
unnamed (Some r) e = let no : ⊥ = cc in absurd no

length-radii : (v : NetworkView) (x : List ℤ) (c : List (List ℤ)) (e : List ℕ) → length (radii_of v x c e) ≡ v.size
unfolding radii_of
length-radii v x c e = length-list_of v.size (radius_in v x c e)

read_radius : (v : NetworkView) (x : List ℤ) (c : List (List ℤ)) (e : List ℕ) (i : ℕ) → i < v.size
    → number_at (radii_of v x c e) i ≡ radius_in v x c e i
unfolding radii_of
read_radius v x c e i l = get_or-list_of v.size (radius_in v x c e) i 0 l

-- an inverse that a claim has
pub of_inverse : (n : ℕ) (s : Support) → HasInverse n s → IsInverse n (inverse_in s)
of_inverse n (by_inverse c) h = h
of_inverse n (by_rows p) h = absurd h

pub of_sized : (n : ℕ) (s : Support) → HasInverse n s → IsByInverse s
of_sized n (by_inverse c) h = tt
of_sized n (by_rows p) h = absurd h

pub widens : WideningLaw
widens v m e here fit wider none =
    let n = v.size in
    let x = m.centre in
    let c = inverse_in m.support in
    let certain = unnamed (refusal_of v x e c) none in
    record {
      centre = here.centre;
      boxes = refl;
      mismatches_long = fit.long;
      mismatches_least = wider;
      mismatches_most = fit.most;
      radii_long = length-radii v x c e;
      radii_most = λ i l.
          subst (λ k. k ≤ 2 ^ 40) (sym (read_radius v x c e i l))
          (all_narrow n (entry c) (jacobian_entry v x) (slope_radius v x) (weight_at v x) (number_at e) certain i l);
      shown = record {
        inverse = of_inverse n m.support here.inverse;
        bounded = all_bounded n (entry c) (jacobian_entry v x) (slope_radius v x) (weight_at v x) (number_at e) certain;
        radii_least = λ i l. let same = read_radius v x c e i l in omega (arith, same);
      };
    }

-- the lists of what was made
pub made_is : (v : NetworkView) (m w : Claim) (e rs bs : List ℕ)
    → w ≡ record { centre = m.centre; radii = rs; mismatches = e; boxes = bs; support = by_inverse (inverse_in m.support) }
    → bs ≡ boxes_of v m.centre → rs ≡ list_of v.size (radius_in v m.centre (inverse_in m.support) e) → w ≡ widened v m e
unfolding radii_of
made_is v m w e rs bs is boxes radii =
    is ∙ (λ i. record { centre = m.centre; radii = radii i; mismatches = e; boxes = boxes i; support = by_inverse (inverse_in m.support) })

pub agrees : EnclosureLaw → AgreementLaw
agrees encloses v m x net sound is =
    let meets = λ (l : ℕ) (p : l < v.size). centre_meets v net x l (number_at m.mismatches l) (is.least l p) (sound.mismatches_most l p) in
    record {
      meets = meets;
      near = (encloses v m net sound).encloses (whole_state x) (record { over = omega arith; inside = is.inside; meets = meets });
    }

-- ---- what the bounds of the rows say of these mismatches

module _ (v : NetworkView) (m : Claim) (e : List ℕ) where
  pub is_wide : (place : ℕ) (sum : Option ℤ)
      → IsRefused v.size (entry (inverse_in m.support)) (jacobian_entry v m.centre) (slope_radius v m.centre) (weight_at v m.centre) (number_at e) place sum
      → wide_place v m e ≡ Some place
  is_wide place sum is = ap place_named is.refusal

  pub is_made : (w : Claim) (rs bs : List ℕ)
      → AreWithin v.size (entry (inverse_in m.support)) (jacobian_entry v m.centre) (slope_radius v m.centre) (weight_at v m.centre) (number_at e) rs
      → w ≡ record { centre = m.centre; radii = rs; mismatches = e; boxes = bs; support = by_inverse (inverse_in m.support) } → bs ≡ boxes_of v m.centre
      → (wide_place v m e ≡ None) × (w ≡ widened v m e)
  is_made w rs bs is same boxes = (ap place_named is.refusal, made_is v m w e rs bs same boxes is.radii)

  pub made_sound : (w : Claim) → IsOfPoint v m → AreMismatches v e → (wide_place v m e ≡ None) × (w ≡ widened v m e)
      → AreWider v m e → IsSound v w
  made_sound w point fit made wider = subst (IsSound v) (sym made.1) (widens v m e point fit wider made.0)

-- the mismatches are tight
pub tight_from : (n : ℕ) (e xs : List ℕ) → xs ≡ e → length e ≡ n → ((l : ℕ) → l < n → number_at e l ≤ greatest_mismatch) → AreTight xs
tight_from n e xs same long most l h =
    let within : l < n = subst (λ (k : ℕ). l < k) (ap length same ∙ long) h in
    subst (λ (ys : List ℕ). number_at ys l ≤ greatest_mismatch) (sym same) (most l within)

pub numbers_same : (n : ℕ) (e xs : List ℕ) → xs ≡ e → HasNumbers n xs (number_at e)
numbers_same n e xs same l h = ap (λ (ys : List ℕ). number_at ys l) same

-- Where a record says that a sweep agrees, it does.
use Rattle.std.proofs.Common.{◌≡◌, ◌≢◌, ◌∙◌, ℕ, ◌+◌, ◌*◌, ◌<◌, ◌≤◌, ◌^◌, max, ℤ, pos, ◌-ℤ◌, ◌*ℤ◌, nat_abs, nat_lt, Bool}
use Rattle.std.proofs.Common.{false, true, List, length, Option, Some, None, Ok, refl, sym, ap, subst, arith}
use Rattle.std.proofs.lemmas.Bool.{ltb-false}
use Rattle.std.proofs.lemmas.Int.{ints}
use Rattle.fd_solving.specs.fd_exact.First.{first_place}
use Rattle.fd_solving.specs.fd_exact.FirstLaws.{none_holds}
use Rattle.fd_solving.specs.fd_exact.Greatest.{greatest, greatest_le, le_greatest}
use Rattle.fd_solving.specs.fd_exact.States.{away, part}
use Rattle.fd_solving.specs.dss_circuit.Circuit.{CircuitView}
use Rattle.fd_solving.specs.dss_layout.Layout.{LayoutView, layout_of}
use Rattle.fd_solving.specs.fd_cert.Agreement.{AgreementLaw, IsAgreeing, IsCandidate}
use Rattle.fd_solving.specs.fd_cert.Widening.{AreMismatches, IsOfPoint, WideningLaw, wide_place, widened}
use Rattle.fd_solving.specs.fd_enclosure.Boxes.{IsInPart, part_width}
use Rattle.fd_solving.specs.fd_enclosure.Encloses.{IsWithinRadii}
use Rattle.fd_solving.specs.fd_enclosure.Sound.{Claim, HasInverse, IsSound, Support, by_inverse, by_rows, first_loose, greatest_mismatch, mismatch_at}
use Rattle.fd_solving.specs.fd_enclosure.Sound.{number_at, parts_of}
use Rattle.fd_solving.specs.fd_equations.Rounded.{list_of}
use Rattle.fd_solving.specs.fd_pattern.Conditions.{IsNetwork, IsPoint}
use Rattle.fd_solving.specs.fd_pattern.Views.{NetworkView, kind_of}
use Rattle.fd_solving.specs.fd_pattern.declared.layout.PlaceKind.{PlaceKind}
use Rattle.fd_solving.specs.fd_pattern.declared.layout.PlaceKind.TheVariants.{Node, Branch, Magnitude}
use Rattle.fd_solving.specs.fd_report.declared.ladders.Ladder.{Ladder}
use Rattle.fd_solving.specs.fd_report.declared.ladders.Ladder.TheVariants as ladder
use Rattle.fd_solving.specs.fd_system.Meets.{Meets}
use Rattle.fd_solving.specs.fd_system.Residual.{whole_state}
use Rattle.fd_solving.specs.fd_system.System.{residual_of}
use Rattle.fd_solving.proofs.CallerLemmas.fd_equations.{get_or-list_of, length-list_of}
use Rattle.fd_sweep.specs.fd_rungs.declared.swept.Swept.TheVariants.{Settled}
use Rattle.fd_sweeping.specs.Beside.{apart_at, by_box, by_mismatches, by_width, first_outside, gap, greater_at}
use Rattle.fd_sweeping.specs.Beside.{greater_mismatches, is_outside_by, ladder_of, radius}

-- ---- what the record says

module _ (v : NetworkView) (m : Claim) (x : List ℤ) (layout : LayoutView) (sweeps k g r : ℕ) where
  pub record SaysSo : Type 0 where
    pub tight : first_loose v x ≡ None
    pub inside : first_outside v m x ≡ None
    pub narrow : wide_place v m (greater_mismatches v m x) ≡ None
    pub gap_is : gap v m x ≡ g
    pub radius_is : radius v m x ≡ r

  numbers_of : Ladder → ℕ × ℕ
  numbers_of (ladder.Agrees n a b) = (a, b)
  numbers_of (ladder.OutOfRange u n) = (0, 0)
  numbers_of (ladder.NotConverged n) = (0, 0)
  numbers_of (ladder.Apart u) = (0, 0)
  numbers_of (ladder.Wide u) = (0, 0)

  width_says : (o : Option ℕ) → by_width v m x layout sweeps o ≡ ladder.Agrees k g r
      → (o ≡ None) × ((gap v m x ≡ g) × (radius v m x ≡ r))
  unfolding numbers_of
  width_says None e = (refl, (ap (λ l. (numbers_of l).0) e, ap (λ l. (numbers_of l).1) e))
  width_says (Some place) e = absurd (cc e)

  box_says : (o : Option ℕ) → by_box v m x layout sweeps o ≡ ladder.Agrees k g r
      → (o ≡ None) × (by_width v m x layout sweeps (wide_place v m (greater_mismatches v m x)) ≡ ladder.Agrees k g r)
  box_says None e = (refl, e)
  box_says (Some place) e = absurd (cc e)

  row_says : (o : Option ℕ) → by_mismatches v m x layout sweeps o ≡ ladder.Agrees k g r
      → (o ≡ None) × (by_box v m x layout sweeps (first_outside v m x) ≡ ladder.Agrees k g r)
  row_says None e = (refl, e)
  row_says (Some row) e = absurd (cc e)

  pub says_so : ladder_of layout v m (Settled x sweeps) ≡ ladder.Agrees k g r → SaysSo
  unfolding ladder_of
  says_so e =
      let a = row_says (first_loose v x) e in
      let b = box_says (first_outside v m x) a.1 in
      let d = width_says (wide_place v m (greater_mismatches v m x)) b.1 in
      record { tight = a.0; inside = b.0; narrow = d.0; gap_is = d.1.0; radius_is = d.1.1 }

-- ---- what is so

within_half : (kind : PlaceKind) (half apart : ℕ) → kind ≢ Branch → is_outside_by kind half apart ≡ false → apart ≤ half
within_half Node half apart free h = ltb-false half apart h
within_half Branch half apart free h = absurd (free refl)
within_half Magnitude half apart free h = ltb-false half apart h

away_is : (a b : ℤ) → nat_abs (a -ℤ (pos 1 *ℤ b)) ≡ nat_abs (a -ℤ b)
away_is a b = let same : pos 1 *ℤ b ≡ b = omega (arith, ints) in ap (λ z. nat_abs (a -ℤ z)) same

-- the box of an inverse is that of a two-hundredth
whole_part : (n : ℕ) (s : Support) → HasInverse n s → parts_of s ≡ 200
whole_part n (by_inverse c) h = refl
whole_part n (by_rows p) h = absurd h

module _ (widening : WideningLaw) (agreement : AgreementLaw) (v : NetworkView) (m : Claim) (net : IsNetwork v)
    (sound : IsSound v m) (inverse : HasInverse v.size m.support)
    (x : List ℤ) (point : IsPoint v x) (layout : LayoutView) (sweeps k g r : ℕ)
    (so : SaysSo v m x layout sweeps k g r) where
  e : List ℕ
  e = greater_mismatches v m x

  read : (l : ℕ) → l < v.size → number_at (greater_mismatches v m x) l ≡ greater_at v m x l
  read l h = get_or-list_of v.size (greater_at v m x) l 0 h

  own_tight : (l : ℕ) → l < v.size → mismatch_at v x l ≤ greatest_mismatch
  unfolding first_loose
  own_tight l h =
      ltb-false greatest_mismatch (mismatch_at v x l)
      (none_holds (λ j. nat_lt greatest_mismatch (mismatch_at v x j)) v.size l so.tight h)

  most : (l : ℕ) → l < v.size → number_at (greater_mismatches v m x) l ≤ greatest_mismatch
  most l h =
      let a = own_tight l h in
      let b = sound.mismatches_most l h in
      subst (λ n. n ≤ greatest_mismatch) (sym (read l h)) (omega (arith, a, b))

  pub sound_wider : IsSound v (widened v m (greater_mismatches v m x))
  sound_wider =
      widening v m (greater_mismatches v m x) (record { centre = sound.centre; inverse = inverse })
      (record { long = length-list_of v.size (greater_at v m x); most = most })
      (λ l h. let a = sound.mismatches_least l h in subst (λ n. mismatch_at v m.centre l ≤ n) (sym (read l h))
      (omega (arith, a)))
      so.narrow

  box_is : (place : ℕ) → place < v.size → number_at m.boxes place ≡ part_width (parts_of m.support) v m.centre place
  box_is place h =
      ap (λ bs. number_at bs place) sound.boxes
      ∙ get_or-list_of v.size (part_width (parts_of m.support) v m.centre) place 0 h

  pub in_box : IsInPart (parts_of m.support) v m.centre (whole_state x)
  in_box place h free =
      let outside = λ (j : ℕ). is_outside_by (kind_of v j) (number_at m.boxes j) (apart_at x m.centre j) in
      let close : apart_at x m.centre place ≤ number_at m.boxes place =
      within_half (kind_of v place) (number_at m.boxes place) (apart_at x m.centre place) free
      (none_holds outside v.size place so.inside h) in
      omega (arith, close, away_is (part x place) (part m.centre place), box_is place h)

  agreeing : IsAgreeing v (widened v m (greater_mismatches v m x)) x
  agreeing =
      agreement v (widened v m (greater_mismatches v m x)) x net sound_wider (record {
        point = point;
        least = λ l h. subst (λ n. mismatch_at v x l ≤ n) (sym (read l h)) (omega arith);
        inside = subst (λ parts. IsInPart parts v m.centre (whole_state x)) (whole_part v.size m.support inverse) in_box;
      })

  pub meets_greater : Meets (residual_of v.stamp) (number_at (greater_mismatches v m x)) v.size (whole_state x)
  meets_greater = agreeing.meets

  pub near_greater : IsWithinRadii v m.centre (widened v m (greater_mismatches v m x)).radii (whole_state x)
  near_greater = agreeing.near

  -- a part of a voltage is an unknown
  within_size : (place : ℕ) → place < 2 * v.nodes → place < v.size
  within_size place h = omega (arith, h, net.nodes, net.unknowns)

  pub gap_most : g ≤ r
  gap_most =
      let rs = (widened v m (greater_mismatches v m x)).radii in
      let all : gap v m x ≤ radius v m x =
      greatest_le (λ place. apart_at x m.centre place) (2 * v.nodes) (radius v m x) (λ place h.
      let near = near_greater place (within_size place h) in
      let one = le_greatest (λ j. number_at rs j) (2 * v.nodes) place h in
      omega (arith, near, one, away_is (part x place) (part m.centre place))) in
      omega (arith, all, so.gap_is, so.radius_is)

  -- where no mismatch of it is above the printed one
  pub near_own : ((l : ℕ) → l < v.size → mismatch_at v x l ≤ number_at m.mismatches l)
      → IsWithinRadii v m.centre m.radii (whole_state x)
  near_own least = (agreement v m x net sound (record { point = point; least = least; inside = in_box })).near

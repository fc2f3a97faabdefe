-- What a pass that stands has found is accepted.
use Rattle.std.proofs.Common.{◌≡◌, ◌≢◌, ◌∙◌, ℕ, suc, ◌+◌, ◌-◌, ◌*◌, ◌<◌, ◌≤◌, ◌^◌, ℤ, nat_abs, false, Option, Some, None, option_map, List, [], ◌∷◌, length, arith, ap, refl, subst, sym}
use Rattle.std.specs.Option.{option_or}
use Rattle.std.proofs.lemmas.Bool.{leb-false, ltb-false}
use Rattle.fd_substitution.specs.fd_derived.fd_factors.Factors.{HasPlaces, weighted_size}
use Rattle.fd_substitution.specs.fd_derived.fd_factors.fd_exact.First.{first_place}
use Rattle.fd_substitution.specs.fd_derived.fd_factors.fd_exact.FirstLaws.{none_holds}
use Rattle.fd_substitution.specs.fd_derived.Accepted.{IsAccepted}
use Rattle.fd_substitution.specs.fd_derived.Refusals.{added_sizes}
use Rattle.fd_substitution.specs.fd_derived.Rows.{HeightIsAbove, IsBounded, bound_of, bounding_row, height_of, number_at, row_at}
use Rattle.fd_substitution.specs.fd_derived.declared.entries.Claim.{Claim}
use Rattle.fd_substitution.specs.fd_derived.declared.entries.Equation.{Equation}
use Rattle.fd_substitution.specs.fd_derived.declared.entries.Row.{Row}
use Rattle.fd_bounds.specs.Passes.{above_part, bounds, bounds_after, bounds_end, bounds_over, from_last, heights, heights_end, is_high, is_wide, load, pass_bounds, pass_heights, remainder, row_past}
use Rattle.fd_bounds.specs.Results.{AreBounding, AreFirst, AreOfFirst, MakesClaim, StandsFirst}
use Rattle.fd_bounds.specs.Rows.{AreInOrder, IsInOrder, pivot_at, pivot_of, rest_at, rest_of, unknown_at}
use Rattle.fd_bounds.specs.declared.passes.Bounds.{Bounds}
use Rattle.fd_bounds.proofs.HeightLaws.{height_at, load_kept, load_le}
use Rattle.fd_bounds.proofs.Weighing.{stands_above}
use Rattle.fd_bounds.proofs.WidthLaws.{bound_at, bounds_low, remainder_kept}

both_none : (o q : Option ℕ) → option_or o q ≡ None → (o ≡ None) × (q ≡ None)
both_none None q e = (refl, e)
both_none (Some a) q e = let no : ⊥ = cc in absurd no

pub map_none : (f : ℕ → ℕ) (o : Option ℕ) → option_map f o ≡ None → o ≡ None
map_none f None e = refl
map_none f (Some a) e = let no : ⊥ = cc in absurd no

low_height : (s h : ℕ) → s < 2 ^ 127 → h ≡ above_part s (2 ^ 40) → h ≤ 2 ^ 87
low_height s h l e = omega arith

raised_over : (s h : ℕ) → h ≡ above_part s (2 ^ 40) → s < 2 ^ 40 * h
raised_over s h e = omega arith

-- a row that has a pivot has it first
first_entry : (left : List (ℕ × ℤ)) → 0 < nat_abs (pivot_of left).1 → left ≡ ((pivot_of left).0, (pivot_of left).1) ∷ rest_of left
first_entry [] h = absurd (omega arith)
first_entry (t ∷ rest) h = refl

module _ (es : List Equation) (rows : List Row) (order : AreInOrder es rows) (k : ℕ) (first : StandsFirst es rows k) where
  abbrev c : ℕ → ℕ
  c = bounds_over es rows k

  abbrev h : ℕ → ℕ
  h = pass_heights es rows c

  abbrev r : ℕ → ℕ
  r = pass_bounds es rows c

  ends : (heights_end es rows c ≡ None) × (bounds_end rows h ≡ None)
  ends = both_none (heights_end es rows c) (bounds_end rows h) first.ends

  not_high : (t : ℕ) → t < length rows → load es rows c (heights es rows c t) t < 2 ^ 127
  not_high t l =
      let none = map_none (unknown_at rows) (first_place (is_high es rows c) (length rows)) ends.0 in
      leb-false (2 ^ 127) (load es rows c (heights es rows c t) t) (none_holds (is_high es rows c) (length rows) t none l)

  not_wide : (d : ℕ) → d < length rows → is_wide rows h d ≡ false
  not_wide d l =
      let none = map_none (λ e. unknown_at rows (from_last rows e)) (first_place (is_wide rows h) (length rows)) ends.1 in
      none_holds (is_wide rows h) (length rows) d none l

  pub height_low : (t : ℕ) → t < length rows → h t ≤ 2 ^ 87
  height_low t l = low_height (load es rows c (heights es rows c t) t) (h t) (not_high t l) (height_at es rows c (length rows) t l)

  pub bound_low : (j : ℕ) → r j ≤ 2 ^ 60
  bound_low j = bounds_low rows h (length rows) j not_wide

  not_risen : (j : ℕ) → j < length es → r j ≤ c j
  unfolding bounds_after
  not_risen j l = ltb-false (c j) (r j) (none_holds _ (length es) j first.stands l)

  in_order : (t : ℕ) → t < length rows → IsInOrder rows (length es) t
  in_order t l = order.each t (subst (λ n. t < n) order.long l)

  pub height_above : (t : ℕ) → t < length rows → load es rows r h t < 2 ^ 40 * h t
  height_above t l =
      let a = load_le es rows h r c t not_risen in
      let b = load_kept es rows c (length rows) t (omega arith) (in_order t l).others in
      let d = raised_over (load es rows c (heights es rows c t) t) (h t) (height_at es rows c (length rows) t l) in
      omega arith

  pub bound_above : (t : ℕ) → t < length rows → remainder rows h r t < pivot_at rows t * r (unknown_at rows t)
  bound_above t l =
      let d = length rows - suc t in
      let behind : length rows ≡ suc (t + d) = omega arith in
      let apart : (s : ℕ) → s < t → unknown_at rows s ≢ unknown_at rows t = λ s p. order.apart s t p (subst (λ n. t < n) order.long l) in
      let a = bound_at rows h t d behind apart in
      let b = remainder_kept rows h t d behind (in_order t l).rest in
      let e = stands_above (remainder rows h (bounds rows h d) t) (pivot_at rows t) (in_order t l).pivot in
      rw (b, a) e

module _ (es : List Equation) (claim : Claim) (order : AreInOrder es claim.rows.items) (range : row_past es claim.rows.items ≡ None)
    (found : AreOfFirst es claim.rows.items claim.heights.items claim.bounds.items) (bounding : AreBounding es claim.rows.items claim.bounding.items) where
  abbrev rows : List Row
  rows = claim.rows.items

  abbrev hs : ℕ → ℕ
  hs = h es rows order found.pass found.first

  abbrev rs : ℕ → ℕ
  rs = r es rows order found.pass found.first

  same_heights : (λ (t : ℕ). number_at claim.heights.items t) ≡ hs
  same_heights = λ p t. found.heights t p

  same_bounds : (λ (j : ℕ). number_at claim.bounds.items j) ≡ rs
  same_bounds = λ p j. found.bounds j p

  more : (t : ℕ) (row : List (ℕ × ℤ)) → t < length rows → HasPlaces t row → HasPlaces (length rows) row
  more t row l places k x p = let q = places k x p in omega arith

  claim_order : (t : ℕ) → t < length rows → IsInOrder rows (length es) t
  claim_order t l = order.each t (subst (λ n. t < n) order.long l)

  height_is_above : (t : ℕ) → t < length rows → HeightIsAbove es claim t
  height_is_above t l =
      let o = claim_order t l in
      let a : load es rows rs hs t < 2 ^ 40 * hs t = height_above es rows order found.pass found.first t l in
      record {
        placed = record { equations = o.equations; others = more t (row_at rows t).others l o.others; left = o.left };
        above = subst (λ (f : ℕ → ℕ). load es rows (λ j. number_at claim.bounds.items j) f t < 2 ^ 40 * f t) (sym same_heights)
            (subst (λ (f : ℕ → ℕ). load es rows f hs t < 2 ^ 40 * hs t) (sym same_bounds) a);
      }

  unknown_is_bounded : (t : ℕ) → t < length rows → IsBounded es claim (unknown_at rows t)
  unknown_is_bounded t l =
      let a : remainder rows hs rs t < pivot_at rows t * rs (unknown_at rows t) = bound_above es rows order found.pass found.first t l in
      let b : remainder rows (λ i. number_at claim.heights.items i) (λ j. number_at claim.bounds.items j) t
      < pivot_at rows t * number_at claim.bounds.items (unknown_at rows t) =
      subst (λ (f : ℕ → ℕ). remainder rows f (λ j. number_at claim.bounds.items j) t < pivot_at rows t * number_at claim.bounds.items (unknown_at rows t))
      (sym same_heights)
      (subst (λ (f : ℕ → ℕ). remainder rows hs f t < pivot_at rows t * f (unknown_at rows t)) (sym same_bounds) a) in
      let at : bounding_row claim (unknown_at rows t) ≡ t = bounding.each t l in
      record {
        row = subst (λ i. i < length rows) (sym at) l;
        pivot = (pivot_of (row_at rows t).left).1;
        rest = rest_at rows t;
        left = ap (λ i. (row_at rows i).left) at ∙ first_entry (row_at rows t).left (claim_order t l).pivot;
        above = subst (λ i. weighted_size (rest_at rows t) (bound_of claim) + height_of claim i < pivot_at rows t * bound_of claim (unknown_at rows t)) (sym at) b;
      }

  pub accepted : IsAccepted es claim
  accepted = record {
    size = record { heights = found.heights_long; bounding = bounding.long; bounds = found.bounds_long };
    once = λ i l. (claim_order i l).once;
    low_height = λ i l. subst (λ x. x ≤ 2 ^ 87) (sym (found.heights i)) (height_low es rows order found.pass found.first i l);
    low_sums = λ i l. ltb-false (2 ^ 120) (added_sizes es rows i) (none_holds _ (length rows) i range l);
    above = height_is_above;
    low_bound = λ j l. subst (λ x. x ≤ 2 ^ 60) (sym (found.bounds j)) (bound_low es rows order found.pass found.first j);
    bounded = λ j l.
        let at = order.covers j l in
        subst (IsBounded es claim) at.2 (unknown_is_bounded at.0 (subst (λ n. at.0 < n) (sym order.long) at.1));
  }

pub makes_claim : (es : List Equation) (of : List Row) (b : Bounds) → AreInOrder es of → AreFirst es of b → MakesClaim es of b
makes_claim es of b order first claim er eh eg eb =
    accepted es claim (subst (AreInOrder es) (sym er) order) (subst (λ x. row_past es x ≡ None) (sym er) first.range)
    (subst (λ x. AreOfFirst es claim.rows.items claim.heights.items x) (sym eb)
    (subst (λ x. AreOfFirst es claim.rows.items x b.bounds.items) (sym eh)
    (subst (λ x. AreOfFirst es x b.heights.items b.bounds.items) (sym er) first.first)))
    (subst (λ x. AreBounding es claim.rows.items x) (sym eg) (subst (λ x. AreBounding es x b.bounding.items) (sym er) first.bounding))

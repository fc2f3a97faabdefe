-- One pass after another.
use Rattle.std.proofs.Common.{◌≡◌, ◌≢◌, ◌∙◌, ℕ, suc, ◌+◌, ◌<◌, ◌≤◌, ◌^◌, ltb, Option, Some, None, List, length, arith, ap, refl, subst, sym, inl, inr}
use Rattle.std.specs.Option.{option_or}
use Rattle.std.proofs.lemmas.Bool.{cases_lt}
use Rattle.fd_substitution.specs.fd_derived.fd_factors.fd_exact.First.{first_place}
use Rattle.fd_substitution.specs.fd_derived.fd_factors.fd_exact.FirstLaws.{none_holds}
use Rattle.fd_substitution.specs.fd_derived.Rows.{number_at}
use Rattle.fd_substitution.specs.fd_derived.declared.entries.Equation.{Equation}
use Rattle.fd_substitution.specs.fd_derived.declared.entries.Row.{Row}
use Rattle.fd_bounds.specs.Passes.{AreBounds, AreHeights, IsEnd, IsPass, bounds_after, bounds_end, bounds_over, from_last, heights_end, is_wide, pass_end, pass_heights, raised, risen}
use Rattle.fd_bounds.specs.Results.{AreOfFirst, GoesOn, HasNoPass, ends}
use Rattle.fd_bounds.specs.Rows.{unknown_at}
use Rattle.fd_bounds.specs.declared.fault.BoundFault.{BoundFault}
use Rattle.fd_bounds.specs.declared.fault.BoundFault.TheVariants.{NoMemory, Unbounded}
use Rattle.fd_bounds.proofs.Stands.{map_none}
use Rattle.fd_bounds.proofs.WidthLaws.{bounds_low}

module _ (es : List Equation) (rows : List Row) where
  -- ---- one pass

  pub ended_high : (c : ℕ → ℕ) (fault : BoundFault) → IsEnd fault (heights_end es rows c) → IsEnd fault (pass_end es rows c)
  ended_high c NoMemory e = tt
  ended_high c (Unbounded q) e = ap (λ o. option_or o (bounds_end rows (pass_heights es rows c))) e

  pub ended_wide : (c : ℕ → ℕ) (hs : List ℕ) (fault : BoundFault) → AreHeights es rows c hs
      → IsEnd fault (bounds_end rows (number_at hs)) → IsEnd fault (pass_end es rows c)
  ended_wide c hs NoMemory a e = tt
  ended_wide c hs (Unbounded q) a e =
      ap (λ o. option_or o (bounds_end rows (pass_heights es rows c))) a.ends
      ∙ subst (λ (h : ℕ → ℕ). bounds_end rows h ≡ Some q) (λ p t. a.each t p) e

  pub passed : (c : ℕ → ℕ) (hs bs : List ℕ) → AreHeights es rows c hs → AreBounds rows (length es) (number_at hs) bs → IsPass es rows c hs bs
  passed c hs bs a b = record {
    heights_are = a;
    bounds_are = subst (λ (h : ℕ → ℕ). AreBounds rows (length es) h bs) (λ p t. a.each t p) b;
  }

  no_end : (c : ℕ → ℕ) (hs bs : List ℕ) → IsPass es rows c hs bs → pass_end es rows c ≡ None
  no_end c hs bs a = ap (λ o. option_or o (bounds_end rows (pass_heights es rows c))) a.heights_are.ends ∙ a.bounds_are.ends

  -- its bounds aren't past 2^60
  pub low_bounds : (c : ℕ → ℕ) (hs bs : List ℕ) → IsPass es rows c hs bs → (j : ℕ) → number_at bs j ≤ 2 ^ 60
  low_bounds c hs bs a j =
      let none = map_none (λ d. unknown_at rows (from_last rows d)) (first_place (is_wide rows (pass_heights es rows c)) (length rows)) a.bounds_are.ends in
      subst (λ x. x ≤ 2 ^ 60) (sym (a.bounds_are.each j))
      (bounds_low rows (pass_heights es rows c) (length rows) j
      (λ d l. none_holds (is_wide rows (pass_heights es rows c)) (length rows) d none l))

  -- ---- many

  pub starts : GoesOn es rows 0
  starts = record { ends = λ i l. absurd (omega arith); rises = λ i l. absurd (omega arith) }

  pub after_none : (j : ℕ) → 0 ≡ bounds_after es rows 0 j
  unfolding bounds_after
  after_none j = refl

  -- what is raised of the bounds after k passes
  pub over_is : (k : ℕ) (bs over : List ℕ) → length bs ≡ length es → ((j : ℕ) → number_at bs j ≡ bounds_after es rows k j)
      → ((j : ℕ) → number_at over j ≡ raised (length bs) (number_at bs) j) → (λ (j : ℕ). number_at over j) ≡ bounds_over es rows k
  over_is k bs over long each are = λ p j. (are j ∙ (λ q. raised (long q) (λ i. each i q) j)) p

  module _ (k : ℕ) (over hs bs : List ℕ) (is : (λ (j : ℕ). number_at over j) ≡ bounds_over es rows k)
      (pass : IsPass es rows (λ j. number_at over j) hs bs) where
    this : IsPass es rows (bounds_over es rows k) hs bs
    this = subst (λ (c : ℕ → ℕ). IsPass es rows c hs bs) is pass

    pub next_bounds : (j : ℕ) → number_at bs j ≡ bounds_after es rows (k + 1) j
    unfolding bounds_after
    next_bounds j =
        let q : suc k ≡ k + 1 = omega arith in
        subst (λ n. number_at bs j ≡ bounds_after es rows n j) q (this.bounds_are.each j)

    risen_is : (o : Option ℕ) → o ≡ first_place (λ j. ltb (number_at over j) (number_at bs j)) (length bs) → o ≡ risen es rows k
    unfolding bounds_after
    risen_is o e = e ∙ (λ p. first_place (λ j. ltb (is p j) (this.bounds_are.each j p)) (this.bounds_are.long p))

    pub goes_on : (u : ℕ) → GoesOn es rows k → Some u ≡ first_place (λ j. ltb (number_at over j) (number_at bs j)) (length bs)
        → GoesOn es rows (k + 1)
    goes_on u before e = record {
      ends = λ i l. elim (cases_lt i k) [
        | inl s ↦ before.ends i s
        | inr s ↦ let q : k ≡ i = omega arith in
            subst (λ n. pass_end es rows (bounds_over es rows n) ≡ None) q (no_end (bounds_over es rows k) hs bs this)
      ];
      rises = λ i l. elim (cases_lt i k) [
        | inl s ↦ before.rises i s
        | inr s ↦ let q : k ≡ i = omega arith in
            subst (λ n. risen es rows n ≢ None) q (λ none. some_none (risen_is (Some u) e ∙ none))
      ];
    }
      where
        some_none : {a : ℕ} → Some a ≡ None → ⊥
        some_none e = cc

    pub rose : (u : ℕ) → Some u ≡ first_place (λ j. ltb (number_at over j) (number_at bs j)) (length bs) → risen es rows k ≡ Some u
    rose u e = sym (risen_is (Some u) e)

    pub stands : k < 64 → GoesOn es rows k → None ≡ first_place (λ j. ltb (number_at over j) (number_at bs j)) (length bs)
        → AreOfFirst es rows hs bs
    stands few before e = record {
      pass = k;
      first = record { few = few; before = before; ends = no_end (bounds_over es rows k) hs bs this; stands = sym (risen_is None e) };
      heights_long = this.heights_are.long;
      heights = this.heights_are.each;
      bounds_long = this.bounds_are.long;
      bounds = this.bounds_are.each;
    }

  pub pass_ended : (k : ℕ) (over : List ℕ) (fault : BoundFault) → (λ (j : ℕ). number_at over j) ≡ bounds_over es rows k → k < 64
      → GoesOn es rows k → IsEnd fault (pass_end es rows (λ j. number_at over j)) → HasNoPass es rows fault
  pass_ended k over NoMemory is few before e = tt
  pass_ended k over (Unbounded q) is few before e =
      ends k few before (subst (λ (c : ℕ → ℕ). pass_end es rows c ≡ Some q) is e)

  pub over_of : (k : ℕ) (bs now over : List ℕ) → length bs ≡ length es → ((j : ℕ) → number_at bs j ≡ bounds_after es rows k j)
      → now ≡ bs → ((j : ℕ) → number_at over j ≡ raised (length now) (number_at now) j)
      → (λ (j : ℕ). number_at over j) ≡ bounds_over es rows k
  over_of k bs now over long each e are =
      over_is k bs over long each (subst (λ (b : List ℕ). (j : ℕ) → number_at over j ≡ raised (length b) (number_at b) j) e are)

-- A claim that breaks no rule is accepted, and the other way round.
use Rattle.std.proofs.Common.{◌≡◌, ◌∙◌, ℕ, ◌+◌, ◌*◌, ◌<◌, ◌≤◌, ◌^◌, ℤ, nat_abs, ◌↔◌, Bool, true, false, cond, ◌&&◌, eqb, leb, ltb, Option, Some, None, is_some, List, [], ◌∷◌, length, map, arith, ap, refl, subst, sym, inl, inr}
use Rattle.std.specs.Option.{option_or}
use Rattle.std.proofs.lemmas.Bool.{and_from, and_parts, cases_lt, eq-eqb, eqb-true, false≢true, le-leb, leb-true, lt-ltb, ltb-true}
use Rattle.std.proofs.lemmas.List.{get_or_past, length-map}
use Rattle.fd_factors.specs.Factors.{DerivedRow, weighted_size}
use Rattle.fd_derived.specs.Accepted.{HasSize, IsAccepted, NamesOnce}
use Rattle.fd_derived.specs.Refusals.{added, first_found, first_refusal, has_places, has_size, is_in_range, is_placed, row_refusal, stands_over, unknown_refusal}
use Rattle.fd_derived.specs.Rows.{IsBounded, RowIsPlaced, bound_of, bounding_row, derived_row, height_of, load_of, no_row, number_of_rows, rows_of}
use Rattle.fd_derived.specs.declared.entries.Claim.{Claim}
use Rattle.fd_derived.specs.declared.entries.Equation.{Equation}
use Rattle.fd_derived.specs.declared.refusal.Refusal.{Refusal}
use Rattle.fd_derived.specs.declared.refusal.Refusal.TheVariants.{Bound, BoundRange, Height, Place, Range, Size}
use Rattle.fd_derived.proofs.Found.{AllThree, first_none, found_none, none_found, none_of, one_holds, second_none, three_hold, two_hold}
use Rattle.fd_derived.proofs.Named.{placed_below, placed_once, places_hold, row_placed}

-- ---- an unknown's row

pub record Stands (left : List (ℕ × ℤ)) (j h : ℕ) (r : ℕ → ℕ) : Type 0 where
  pub pivot : ℤ
  pub rest : List (ℕ × ℤ)
  pub is : left ≡ (j, pivot) ∷ rest
  pub above : weighted_size rest r + h < nat_abs pivot * r j

stood : (left : List (ℕ × ℤ)) (j h : ℕ) (r : ℕ → ℕ) → stands_over left j h r ≡ true → Stands left j h r
stood [] j h r e = absurd (false≢true e)
stood (t ∷ rest) j h r e =
    let parts = and_parts (eqb t.0 j) (ltb (weighted_size rest r + h) (nat_abs t.1 * r j)) e in
    record {
      pivot = t.1;
      rest = rest;
      is = ap (λ (p : ℕ). (p, t.1) ∷ rest) (eqb-true t.0 j parts.0);
      above = ltb-true (weighted_size rest r + h) (nat_abs t.1 * r j) parts.1;
    }

stands : (left : List (ℕ × ℤ)) (j h : ℕ) (r : ℕ → ℕ) (pivot : ℤ) (rest : List (ℕ × ℤ)) → left ≡ (j, pivot) ∷ rest
    → weighted_size rest r + h < nat_abs pivot * r j → stands_over left j h r ≡ true
stands left j h r pivot rest is above =
    rw is (and_from (eqb j j) (ltb (weighted_size rest r + h) (nat_abs pivot * r j)) (eq-eqb j j refl)
    (lt-ltb (weighted_size rest r + h) (nat_abs pivot * r j) above))

module _ (es : List Equation) (c : Claim) where
  abbrev n : ℕ
  n = length es

  abbrev m : ℕ
  m = number_of_rows c

  -- a row that has entries is one of the rows
  row_exists : (i j h : ℕ) (r : ℕ → ℕ) → stands_over (rows_of c i).left j h r ≡ true → i < m
  row_exists i j h r e =
      elim (cases_lt i m) [
        | inl p ↦ p
        | inr p ↦
            let none : rows_of c i ≡ no_row = get_or_past (map derived_row c.rows.items) i no_row (omega (arith, length-map c.rows.items derived_row)) in
            absurd (false≢true (ap (λ (row : DerivedRow). stands_over row.left j h r) (sym none) ∙ e))
      ]

  bounded_from : (j : ℕ) → stands_over (rows_of c (bounding_row c j)).left j (height_of c (bounding_row c j)) (bound_of c) ≡ true → IsBounded es c j
  bounded_from j e =
      let i = bounding_row c j in
      let s = stood (rows_of c i).left j (height_of c i) (bound_of c) e in
      record { row = row_exists i j (height_of c i) (bound_of c) e; pivot = s.pivot; rest = s.rest; left = s.is; above = s.above }

  -- ---- one row

  abbrev is_over : ℕ → Bool
  is_over i = ltb (load_of es c i) (2 ^ 40 * height_of c i)

  holds : (i : ℕ) → row_refusal es c i ≡ None → AllThree (is_placed n m (rows_of c i)) (is_in_range es c i) (is_over i)
  holds i e = three_hold (is_placed n m (rows_of c i)) (is_in_range es c i) (is_over i) (Height i) (Range i) (Place i) e

  pub row_is_placed : (i : ℕ) → is_placed n m (rows_of c i) ≡ true → RowIsPlaced es c i
  row_is_placed i e =
      let row = rows_of c i in
      let a = and_parts (has_places n row.equations) (has_places m row.others && has_places n row.left) e in
      let b = and_parts (has_places m row.others) (has_places n row.left) a.1 in
      record { equations = placed_below n row.equations a.0; others = placed_below m row.others b.0; left = placed_below n row.left b.1 }

  named_once : (i : ℕ) → is_placed n m (rows_of c i) ≡ true → NamesOnce (rows_of c i)
  named_once i e =
      let row = rows_of c i in
      let a = and_parts (has_places n row.equations) (has_places m row.others && has_places n row.left) e in
      let b = and_parts (has_places m row.others) (has_places n row.left) a.1 in
      record { equations = placed_once n row.equations a.0; others = placed_once m row.others b.0; left = placed_once n row.left b.1 }

  pub range_height : (i : ℕ) → is_in_range es c i ≡ true → height_of c i ≤ 2 ^ 87
  range_height i e = leb-true (height_of c i) (2 ^ 87) (and_parts (leb (height_of c i) (2 ^ 87)) (leb (added es c i) (2 ^ 120)) e).0

  pub range_sums : (i : ℕ) → is_in_range es c i ≡ true → added es c i ≤ 2 ^ 120
  range_sums i e = leb-true (added es c i) (2 ^ 120) (and_parts (leb (height_of c i) (2 ^ 87)) (leb (added es c i) (2 ^ 120)) e).1

  -- ---- the whole

  sized : has_size es c ≡ true → HasSize es c
  sized e =
      let a = and_parts (eqb (length c.heights.items) m) (eqb (length c.bounding.items) n && eqb (length c.bounds.items) n) e in
      let b = and_parts (eqb (length c.bounding.items) n) (eqb (length c.bounds.items) n) a.1 in
      record {
        heights = eqb-true (length c.heights.items) m a.0;
        bounding = eqb-true (length c.bounding.items) n b.0;
        bounds = eqb-true (length c.bounds.items) n b.1;
      }

  abbrev stands_at : ℕ → Bool
  stands_at j = stands_over (rows_of c (bounding_row c j)).left j (height_of c (bounding_row c j)) (bound_of c)

  unknown_holds : (j : ℕ) → unknown_refusal c j ≡ None → (leb (bound_of c j) (2 ^ 60) ≡ true) × (stands_at j ≡ true)
  unknown_holds j e = two_hold (leb (bound_of c j) (2 ^ 60)) (stands_at j) (Bound j) (BoundRange j) e

  pub accepted_from : first_refusal es c ≡ None → IsAccepted es c
  unfolding first_refusal
  accepted_from e =
      let a = one_holds (has_size es c) (option_or (first_found (row_refusal es c) m) (first_found (unknown_refusal c) n)) Size e in
      let rows = none_found (row_refusal es c) m (first_none (first_found (row_refusal es c) m) (first_found (unknown_refusal c) n) a.1) in
      let unknowns = none_found (unknown_refusal c) n (second_none (first_found (row_refusal es c) m) (first_found (unknown_refusal c) n) a.1) in
      record {
        size = sized a.0;
        once = λ i l. named_once i (holds i (rows i l)).first;
        low_height = λ i l. range_height i (holds i (rows i l)).second;
        low_sums = λ i l. range_sums i (holds i (rows i l)).second;
        above = λ i l. record {
          placed = row_is_placed i (holds i (rows i l)).first;
          above = ltb-true (load_of es c i) (2 ^ 40 * height_of c i) (holds i (rows i l)).third;
        };
        low_bound = λ j l. leb-true (bound_of c j) (2 ^ 60) (unknown_holds j (unknowns j l)).0;
        bounded = λ j l. bounded_from j (unknown_holds j (unknowns j l)).1;
      }

  row_none : (i : ℕ) → IsAccepted es c → i < m → row_refusal es c i ≡ None
  row_none i a l =
      let row = rows_of c i in
      let at = (a.above i l).placed in
      let once = a.once i l in
      let placed : is_placed n m row ≡ true =
      row_placed n m row (places_hold n row.equations at.equations once.equations) (places_hold m row.others at.others once.others)
      (places_hold n row.left at.left once.left) in
      let range : is_in_range es c i ≡ true =
      and_from (leb (height_of c i) (2 ^ 87)) (leb (added es c i) (2 ^ 120)) (le-leb (height_of c i) (2 ^ 87) (a.low_height i l))
      (le-leb (added es c i) (2 ^ 120) (a.low_sums i l)) in
      let over : is_over i ≡ true = lt-ltb (load_of es c i) (2 ^ 40 * height_of c i) (a.above i l).above in
      three_none (is_placed n m row) (is_in_range es c i) (is_over i) placed range over
    where
      three_none : (p q r : Bool) → p ≡ true → q ≡ true → r ≡ true
          → cond p (cond q (cond r None (Some (Height i))) (Some (Range i))) (Some (Place i)) ≡ None
      three_none p q r e f g = rw (e, f, g) refl

  unknown_none : (j : ℕ) → IsAccepted es c → j < n → unknown_refusal c j ≡ None
  unknown_none j a l =
      let i = bounding_row c j in
      let b = a.bounded j l in
      two_none (leb (bound_of c j) (2 ^ 60)) (stands_over (rows_of c i).left j (height_of c i) (bound_of c))
      (le-leb (bound_of c j) (2 ^ 60) (a.low_bound j l))
      (stands (rows_of c i).left j (height_of c i) (bound_of c) b.pivot b.rest b.left b.above)
    where
      two_none : (p q : Bool) → p ≡ true → q ≡ true → cond p (cond q None (Some (Bound j))) (Some (BoundRange j)) ≡ None
      two_none p q e f = rw (e, f) refl

  pub accepted_none : IsAccepted es c → first_refusal es c ≡ None
  unfolding first_refusal
  accepted_none a =
      let size : has_size es c ≡ true =
      and_from _ _ (eq-eqb (length c.heights.items) m a.size.heights)
      (and_from _ _ (eq-eqb (length c.bounding.items) n a.size.bounding) (eq-eqb (length c.bounds.items) n a.size.bounds)) in
      let rows : first_found (row_refusal es c) m ≡ None = found_none (row_refusal es c) m (λ i l. row_none i a l) in
      let unknowns : first_found (unknown_refusal c) n ≡ None = found_none (unknown_refusal c) n (λ j l. unknown_none j a l) in
      rw (size, rows, unknowns) refl

  -- ---- what is told

  pub size_refused : has_size es c ≡ false → Some Size ≡ first_refusal es c
  unfolding first_refusal
  size_refused e = rw e refl

  pub rows_refused : (r : Option Refusal) → has_size es c ≡ true → r ≡ first_found (row_refusal es c) m → is_some r ≡ true → r ≡ first_refusal es c
  unfolding first_refusal
  rows_refused r size e some =
      rw size (subst (λ (o : Option Refusal). r ≡ option_or o (first_found (unknown_refusal c) n)) e (first_one r (first_found (unknown_refusal c) n) some))
    where
      first_one : (r o : Option Refusal) → is_some r ≡ true → r ≡ option_or r o
      first_one (Some x) o e = refl
      first_one None o e = let no : ⊥ = cc in absurd no

  pub bounds_refused : (o r : Option Refusal) (k : ℕ) → has_size es c ≡ true → o ≡ first_found (row_refusal es c) m → is_some o ≡ false → k ≡ n
      → r ≡ first_found (unknown_refusal c) k → r ≡ first_refusal es c
  unfolding first_refusal
  bounds_refused o r k size rows none long e =
      let nothing : first_found (row_refusal es c) m ≡ None = sym rows ∙ none_of o none in
      rw (size, nothing) (e ∙ ap (first_found (unknown_refusal c)) long)

  pub accepted_iff : (r : Option Refusal) → r ≡ first_refusal es c → (r ≡ None) ↔ IsAccepted es c
  accepted_iff r first = (λ e. accepted_from (sym first ∙ e), λ a. first ∙ accepted_none a)

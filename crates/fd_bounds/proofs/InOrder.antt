-- Factors of equations are rows in order.
use Rattle.std.proofs.Common.{◌≡◌, ◌≢◌, inl, inr, ◌∙◌, ℕ, zero, suc, ◌<◌, ◌≤◌, ◌^◌, ℤ, pos, nat_abs, List, [], ◌∷◌, length, get_or, All, arith, ap, refl, subst, sym}
use Rattle.std.proofs.lemmas.Bool.{cases_eq, cases_lt, eq-eqb, le-ltb, lt-ltb, ne_eqb}
use Rattle.std.proofs.lemmas.List.{get_or-map, get_or_default, length-map}
use Rattle.fd_substitution.specs.fd_derived.fd_factors.Factors.{DerivedRow, HasPlaces}
use Rattle.fd_substitution.specs.fd_derived.Accepted.{HasDistinctPlaces}
use Rattle.fd_substitution.specs.fd_derived.Rows.{entries_of, entry_of, row_at}
use Rattle.fd_substitution.specs.fd_derived.declared.entries.Entry.{Entry}
use Rattle.fd_substitution.specs.fd_derived.declared.entries.Equation.{Equation}
use Rattle.fd_substitution.specs.fd_derived.declared.entries.Row.{Row}
use Rattle.fd_substitution.specs.fd_triangles.Elimination.{cleared, final_row, less, multiple, multiple_of, pair_at, row_after}
use Rattle.fd_substitution.specs.fd_triangles.Factors.{AreFactors, AreOrdered, IsFactorRow, parts_in}
use Rattle.fd_substitution.specs.fd_triangles.Rows.{IsRising, IsRowOf, apart_from, entry_at}
use Rattle.fd_substitution.specs.fd_triangles.Steps.{Parts}
use Rattle.fd_substitution.specs.fd_triangles.declared.pair.Pair.{Pair}
use Rattle.fd_substitution.proofs.CallerLemmas.fd_triangles.{less_none, whole_here}
use Rattle.fd_bounds.specs.Rows.{AreInOrder, IsInOrder, pivot_of, rest_of, unknown_at}
use Rattle.fd_bounds.proofs.Covering.{covering}

-- ---- rows by their entries

abbrev derived_of : Parts → DerivedRow
derived_of p = record { equations = entries_of p.equations; others = entries_of p.others; left = entries_of p.left }

row_parts : (rows : List Row) (t : ℕ) → row_at rows t ≡ derived_of (parts_in rows t)
row_parts [] t = refl
row_parts (row ∷ rows) zero = refl
row_parts (row ∷ rows) (suc t) = row_parts rows t

abbrev none : Entry
none = record { place = 0; units = pos 0 }

pair_of : (row : List Entry) (k : ℕ) (d : ℕ × ℤ) → k < length (entries_of row)
    → get_or (entries_of row) k d ≡ entry_of (entry_at row k)
pair_of row k d l =
    get_or_default (entries_of row) k d (0, pos 0) l
    ∙ get_or-map entry_of row k none (0, pos 0) (omega (arith, l, length-map row entry_of))

-- what holds of each entry
all_entries : (P : ℕ × ℤ → Type 0) (row : List Entry) → ((k : ℕ) → k < length row → P (entry_of (entry_at row k)))
    → All P (entries_of row)
all_entries P row h k d l = subst P (sym (pair_of row k d l)) (h k (omega (arith, l, length-map row entry_of)))

all_different : (row : List Entry)
    → ((i k : ℕ) → i < k → k < length row → (entry_at row i).place ≢ (entry_at row k).place)
    → HasDistinctPlaces (entries_of row)
all_different row h i k l m e =
    let k_in : k < length row = omega (arith, m, length-map row entry_of) in
    h i k l k_in (sym (ap (λ (t : ℕ × ℤ). t.0) (pair_of row i (0, pos 0) (omega arith))) ∙ e
    ∙ ap (λ (t : ℕ × ℤ). t.0) (pair_of row k (0, pos 0) m))

rising_different : (row : List Entry) → IsRising row → HasDistinctPlaces (entries_of row)
rising_different row rising = all_different row (λ i k l m e. omega (arith, rising i k l m, e))

-- at the place of an entry the numbers of its row aren't 0
number_there : (n : ℕ) (f : ℕ → ℤ) (row : List Entry) → IsRowOf n f row → (k : ℕ) → k < length row
    → f (entry_at row k).place ≢ pos 0
number_there n f row is k l e =
    is.is_row.other k l (sym (whole_here row k is.is_row.rising l) ∙ is.numbers (entry_at row k).place ∙ e)

apart_here : (q : ℕ) (f : ℕ → ℤ) (c : ℕ) → c ≡ q → apart_from q f c ≡ pos 0
apart_here q f c e = rw (eq-eqb c q e) refl

apart_there : (q : ℕ) (f : ℕ → ℤ) (c : ℕ) → c ≢ q → apart_from q f c ≡ f c
apart_there q f c e = rw (ne_eqb c q e) refl

-- ---- the elimination

cleared_here : (row other : ℕ → ℤ) (q c : ℕ) → c ≡ q → cleared row other q c ≡ pos 0
unfolding cleared
cleared_here row other q c e = rw (eq-eqb c q e) refl

cleared_there : (row other : ℕ → ℤ) (q c : ℕ) → c ≢ q
    → cleared row other q c ≡ less (row c) (multiple (row q) (other q)) (other c)
unfolding cleared
cleared_there row other q c e = rw (ne_eqb c q e) refl

module _ (es : List Equation) (order : List Pair) where
  abbrev unknown : ℕ → ℕ
  unknown t = (pair_at order t).unknown

  behind : (t i c : ℕ) → t < i
      → row_after es order (suc t) i c ≡ cleared (row_after es order t i) (row_after es order t t) (unknown t) c
  unfolding row_after
  behind t i c h = rw (lt-ltb t i h) refl

  never : (i k : ℕ) → i ≤ k → multiple_of es order i k ≡ pos 0
  unfolding multiple_of
  never i k h = rw (le-ltb k i h) refl

  -- an unknown that is eliminated has no number in the rows behind
  eliminated : (s t i : ℕ) → s < t → t ≤ i → row_after es order t i (unknown s) ≡ pos 0
  eliminated s zero i h l = absurd (omega arith)
  eliminated s (suc t) i h l =
      behind t i (unknown s) l ∙ elim (cases_eq (unknown s) (unknown t)) [
        | inl same ↦ cleared_here (row_after es order t i) (row_after es order t t) (unknown t) (unknown s) same
        | inr apart ↦
            let before : s < t = elim (cases_lt s t) [
              | inl m ↦ m
              | inr m ↦ let e : s ≡ t = omega arith in absurd (apart (ap unknown e))
            ] in
            let f = multiple (row_after es order t i (unknown t)) (row_after es order t t (unknown t)) in
            cleared_there (row_after es order t i) (row_after es order t t) (unknown t) (unknown s) apart
            ∙ ap (less (row_after es order t i (unknown s)) f) (eliminated s t t before (omega arith))
            ∙ less_none (row_after es order t i (unknown s)) f ∙ eliminated s t i before (omega arith)
      ]

  module _ (rows : List Row) (ordered : AreOrdered es order) (are : AreFactors es order rows) where
    -- no unknown is eliminated twice
    unknowns_apart : (s t : ℕ) → s < t → t < length order → unknown s ≢ unknown t
    unknowns_apart s t l m e =
        let none_left : final_row es order t (unknown t) ≡ pos 0 =
        subst (λ q. final_row es order t q ≡ pos 0) e (eliminated s t t l (omega arith)) in
        let size : nat_abs (final_row es order t (unknown t)) ≡ 0 = ap nat_abs none_left in
        let large : 2 ^ 8 ≤ nat_abs (final_row es order t (unknown t)) = are.fine.pivots t m in
        omega (arith, size, large)

    module _ (t : ℕ) (t_in : t < length order) where
      abbrev is : IsFactorRow es order t (parts_in rows t)
      is = are.each t t_in

      abbrev pivot : Entry
      pivot = is.left.pivot

      abbrev rest : List Entry
      rest = is.left.rest

      rest_is : IsRowOf (length es) (apart_from (unknown t) (final_row es order t)) rest
      rest_is = is.left.rest_is

      abbrev others : List Entry
      others = (parts_in rows t).others

      row_equations : (row_at rows t).equations ≡ ((pair_at order t).equation, pos (2 ^ 40)) ∷ []
      row_equations = ap (λ (d : DerivedRow). d.equations) (row_parts rows t) ∙ ap entries_of is.equation

      row_others : (row_at rows t).others ≡ entries_of others
      row_others = ap (λ (d : DerivedRow). d.others) (row_parts rows t)

      row_left : (row_at rows t).left ≡ entries_of (pivot ∷ rest)
      row_left = ap (λ (d : DerivedRow). d.left) (row_parts rows t) ∙ ap entries_of is.left.row_is

      unknown_is : unknown_at rows t ≡ unknown t
      unknown_is = ap (λ (l : List (ℕ × ℤ)). (pivot_of l).0) row_left ∙ is.left.place_is

      pivot_large : 0 < nat_abs (pivot_of (row_at rows t).left).1
      pivot_large =
          let e : (pivot_of (row_at rows t).left).1 ≡ final_row es order t (unknown t) =
          ap (λ (l : List (ℕ × ℤ)). (pivot_of l).1) row_left ∙ is.left.pivot_is in
          let large : 2 ^ 8 ≤ nat_abs (final_row es order t (unknown t)) = are.fine.pivots t t_in in
          subst (λ z. 0 < nat_abs z) (sym e) (omega (arith, large))

      unknown_low : unknown t < length es
      unknown_low = ordered.unknowns t t_in

      others_low : (k : ℕ) → k < length others → (entry_at others k).place < t
      others_low k l = elim (cases_lt (entry_at others k).place t) [
        | inl m ↦ m
        | inr m ↦ absurd (number_there (length order) (multiple_of es order t) others is.others k l
            (never t (entry_at others k).place m))
      ]

      -- the other entries that are left are at none of the unknowns eliminated
      rest_apart : (k : ℕ) → k < length rest → (s : ℕ) → s ≤ t → unknown s ≢ (entry_at rest k).place
      rest_apart k l s m e =
          let there = number_there (length es) (apart_from (unknown t) (final_row es order t)) rest rest_is k l in
          elim (cases_eq (entry_at rest k).place (unknown t)) [
            | inl same ↦ there (apart_here (unknown t) (final_row es order t) (entry_at rest k).place same)
            | inr apart ↦
                let before : s < t = elim (cases_lt s t) [
                  | inl b ↦ b
                  | inr b ↦ let q : s ≡ t = omega arith in absurd (apart (sym e ∙ ap unknown q))
                ] in
                there (apart_there (unknown t) (final_row es order t) (entry_at rest k).place apart
                ∙ subst (λ c. final_row es order t c ≡ pos 0) e (eliminated s t t before (omega arith)))
          ]

      left_different : (i k : ℕ) → i < k → k < length (pivot ∷ rest)
          → (entry_at (pivot ∷ rest) i).place ≢ (entry_at (pivot ∷ rest) k).place
      left_different i zero l m e = absurd (omega arith)
      left_different zero (suc k) l m e = rest_apart k (omega arith) t (omega arith) (sym is.left.place_is ∙ e)
      left_different (suc i) (suc k) l m e = omega (arith, rest_is.is_row.rising i k (omega arith) (omega arith), e)

      left_inside : (k : ℕ) → k < length (pivot ∷ rest) → (entry_at (pivot ∷ rest) k).place < length es
      left_inside zero l = subst (λ p. p < length es) (sym is.left.place_is) unknown_low
      left_inside (suc k) l = rest_is.is_row.inside k (omega arith)

    all_unknowns : (t : ℕ) → t < length es → unknown_at rows t ≡ unknown t
    all_unknowns t l = unknown_is t (omega (arith, l, ordered.long))

    one : (x : ℕ × ℤ) → HasDistinctPlaces (x ∷ [])
    one x i k l m e = omega arith

    one_inside : (n : ℕ) (x : ℕ × ℤ) → x.0 < n → HasPlaces n (x ∷ [])
    one_inside n x l zero d m = l
    one_inside n x l (suc k) d m = absurd (omega arith)

    row_in_order : (t : ℕ) → t < length es → IsInOrder rows (length es) t
    row_in_order t l =
        let t_in : t < length order = omega (arith, l, ordered.long) in
        let eq : ℕ × ℤ = ((pair_at order t).equation, pos (2 ^ 40)) in
        let others_are = (is t t_in).others.is_row in
        record {
          once = record {
            equations = subst HasDistinctPlaces (sym (row_equations t t_in)) (one eq);
            others = subst HasDistinctPlaces (sym (row_others t t_in))
                (rising_different (others t t_in) others_are.rising);
            left = subst HasDistinctPlaces (sym (row_left t t_in))
                (all_different (pivot t t_in ∷ rest t t_in) (left_different t t_in));
          };
          equations = subst (HasPlaces (length es)) (sym (row_equations t t_in))
              (one_inside (length es) eq (ordered.equations t t_in));
          others = subst (HasPlaces t) (sym (row_others t t_in))
              (all_entries (λ u. u.0 < t) (others t t_in) (others_low t t_in));
          left = subst (HasPlaces (length es)) (sym (row_left t t_in))
              (all_entries (λ u. u.0 < length es) (pivot t t_in ∷ rest t t_in) (left_inside t t_in));
          unknown = subst (λ q. q < length es) (sym (unknown_is t t_in)) (unknown_low t t_in);
          pivot = pivot_large t t_in;
          rest = subst (λ (row : List (ℕ × ℤ)). All (λ u. (s : ℕ) → s ≤ t → unknown_at rows s ≢ u.0) (rest_of row))
              (sym (row_left t t_in))
              (all_entries (λ u. (s : ℕ) → s ≤ t → unknown_at rows s ≢ u.0) (rest t t_in)
              (λ k m s b e. rest_apart t t_in k m s b (sym (all_unknowns s (omega arith)) ∙ e)));
        }

    in_order : AreInOrder es rows
    in_order = record {
      long = are.long ∙ ordered.long;
      each = row_in_order;
      apart = λ s t l m e.
          unknowns_apart s t l (omega (arith, m, ordered.long))
          (sym (all_unknowns s (omega arith)) ∙ e ∙ all_unknowns t m);
      covers = covering (unknown_at rows) (length es)
          (λ t l. subst (λ q. q < length es) (sym (all_unknowns t l))
          (ordered.unknowns t (omega (arith, l, ordered.long))))
          (λ s t l m e. unknowns_apart s t l (omega (arith, m, ordered.long))
          (sym (all_unknowns s (omega arith)) ∙ e ∙ all_unknowns t m));
    }

pub factors_in_order : (es : List Equation) (order : List Pair) (rows : List Row)
    → AreOrdered es order → AreFactors es order rows → AreInOrder es rows
factors_in_order = in_order

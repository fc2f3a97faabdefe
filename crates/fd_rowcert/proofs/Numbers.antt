-- The numbers of a state's equations, at all places.
use Rattle.std.proofs.Common.{◌≡◌, ◌≢◌, ◌∙◌, ℕ, zero, suc, ◌+◌, ◌*◌, ◌<◌, ◌≤◌, ◌^◌, ℤ, pos, nat_abs, cond, List, [], ◌∷◌, length, arith, ap, refl, sym, subst, inl, inr, ◌+ℤ◌}
use Rattle.std.specs.List.{All, Contains}
use Rattle.std.proofs.lemmas.Bool.{cases_eq, cases_lt, eq-eqb, ne_eqb}
use Rattle.std.proofs.lemmas.Int.{ints}
use Rattle.std.proofs.lemmas.List.{get_or_past}
use Rattle.std.proofs.lemmas.List.Elements.{All-contains}
use Rattle.fd_cert.specs.Columns.{HasEntries}
use Rattle.fd_cert.specs.fd_enclosure.Sound.{right_side}
use Rattle.fd_cert.specs.fd_enclosure.fd_equations.Amounts.{Amount}
use Rattle.fd_cert.specs.fd_enclosure.fd_equations.Matrices.{MatrixView}
use Rattle.fd_cert.specs.fd_enclosure.fd_pattern.Patterns.{IsInside}
use Rattle.fd_bounds.specs.fd_triangles.Rows.{IsRising, entry_at, number}
use Rattle.fd_bounds.specs.fd_derived.Rows.{coefficient, coefficients_at, entries_of, radii_at, radius, right_side_at}
use Rattle.fd_bounds.specs.fd_derived.declared.entries.Entry.{Entry}
use Rattle.fd_bounds.specs.fd_derived.declared.entries.Equation.{Equation}
use Rattle.fd_bounds.specs.fd_derived.fd_factors.Factors.{sizes_at, sum_at}
use Rattle.fd_rowcert.specs.Equations.{AreEquations, EndsBy, HaveNumbers, radii_in, terms_at}

-- ---- lists as they are read

pub coefficients_read : (es : List Equation) (l : ℕ) → coefficients_at es l ≡ entries_of (terms_at es l).coefficients
coefficients_read [] l = refl
coefficients_read (q ∷ es) zero = refl
coefficients_read (q ∷ es) (suc l) = coefficients_read es l

radii_read : (es : List Equation) (l : ℕ) → radii_at es l ≡ entries_of (terms_at es l).radii
radii_read [] l = refl
radii_read (q ∷ es) zero = refl
radii_read (q ∷ es) (suc l) = radii_read es l

right_side_read : (es : List Equation) (l : ℕ) → right_side_at es l ≡ (terms_at es l).right_side
right_side_read [] l = refl
right_side_read (q ∷ es) zero = refl
right_side_read (q ∷ es) (suc l) = right_side_read es l

coefficients_past : (es : List Equation) (l : ℕ) → length es ≤ l → coefficients_at es l ≡ []
coefficients_past [] l h = refl
coefficients_past (q ∷ es) zero h = absurd (omega arith)
coefficients_past (q ∷ es) (suc l) h = coefficients_past es l (omega arith)

radii_past : (es : List Equation) (l : ℕ) → length es ≤ l → radii_at es l ≡ []
radii_past [] l h = refl
radii_past (q ∷ es) zero h = absurd (omega arith)
radii_past (q ∷ es) (suc l) h = radii_past es l (omega arith)

right_side_past : (es : List Equation) (l : ℕ) → length es ≤ l → right_side_at es l ≡ 0
right_side_past [] l h = refl
right_side_past (q ∷ es) zero h = absurd (omega arith)
right_side_past (q ∷ es) (suc l) h = right_side_past es l (omega arith)

-- ---- sizes at a place

rising_tail : (e : Entry) (row : List Entry) → IsRising (e ∷ row) → IsRising row
rising_tail e row h i j l m = h (suc i) (suc j) (omega arith) (omega arith)

none_at : (row : List Entry) (j : ℕ) → ((k : ℕ) → k < length row → (entry_at row k).place ≢ j)
    → sizes_at (entries_of row) j ≡ 0
none_at [] j h = refl
none_at (e ∷ row) j h =
    (λ i. ap (λ b. cond b (nat_abs e.units) 0) (ne_eqb e.place j (h 0 (omega arith))) i
    + none_at row j (λ k l. h (suc k) (omega arith)) i)

nothing_at : (row : List Entry) (j : ℕ) → ((k : ℕ) → k < length row → (entry_at row k).place ≢ j) → number row j ≡ pos 0
nothing_at [] j h = refl
nothing_at (e ∷ row) j h =
    (λ i. ap (λ b. cond b e.units (pos 0)) (ne_eqb e.place j (h 0 (omega arith))) i
    +ℤ nothing_at row j (λ k l. h (suc k) (omega arith)) i)

pub size_is : (row : List Entry) (j : ℕ) → IsRising row → sizes_at (entries_of row) j ≡ nat_abs (number row j)
size_is [] j h = refl
size_is (e ∷ row) j h = elim (cases_eq e.place j) [
  | inl q ↦
      let away = λ (k : ℕ) (l : k < length row). let r = h 0 (suc k) (omega arith) (omega arith) in
      let ne : (entry_at row k).place ≢ j = omega (arith, r, q) in ne in
      let here = ap (λ b. cond b (nat_abs e.units) 0) (eq-eqb e.place j q) in
      let there = ap (λ b. cond b e.units (pos 0)) (eq-eqb e.place j q) in
      one (nat_abs e.units) e.units _ _ _ _ refl here there (none_at row j away) (nothing_at row j away)
  | inr ne ↦
      let here = ap (λ b. cond b (nat_abs e.units) 0) (ne_eqb e.place j ne) in
      let there = ap (λ b. cond b e.units (pos 0)) (ne_eqb e.place j ne) in
      others _ _ _ _ here there (size_is row j (rising_tail e row h))
]
  where
    one : (n : ℕ) (z : ℤ) (a b : ℕ) (u w : ℤ) → n ≡ nat_abs z → a ≡ n → u ≡ z → b ≡ 0 → w ≡ pos 0
        → a + b ≡ nat_abs (u +ℤ w)
    one n z a b u w p q r s t = omega (arith, ints, p, q, r, s, t)

    others : (a b : ℕ) (u w : ℤ) → a ≡ 0 → u ≡ pos 0 → b ≡ nat_abs w → a + b ≡ nat_abs (u +ℤ w)
    others a b u w p q r = omega (arith, ints, p, q, r)

-- ---- all places

-- at the places of a matrix of n rows
pub ends_by : (n : ℕ) (m : MatrixView) (J : ℕ → ℕ → ℤ) → All (IsInside n) m.places → HasEntries m J → EndsBy n J
ends_by n m J inside h l j le =
    let away : ¬ (Contains m.places (l, j)) = λ c. let i = All-contains (IsInside n) m.places
    (l, j) inside c in omega (arith, i.row, le) in
    sym (h.entries l j) ∙ ap (λ (a : Amount). a.units) (h.nothing (l, j) away)

module _ (n : ℕ) (J : ℕ → ℕ → ℤ) (R : ℕ → ℕ → ℕ) (e : List ℕ) (es : List Equation) (is : AreEquations n J R e es)
    (long : length e ≡ n) (ends : EndsBy n J) (radii_end : EndsBy n (radii_in R)) where
  past : (l : ℕ) → n ≤ l → length es ≤ l
  past l h = subst (λ k. k ≤ l) (sym is.have.long) h

  coefficient_is : (l j : ℕ) → coefficient es l j ≡ J l j
  coefficient_is l j = elim (cases_lt l n) [
    | inl lt ↦ ap (λ r. sum_at r j) (coefficients_read es l) ∙ (is.have.entries l lt).is_row.numbers j
    | inr ge ↦ ap (λ r. sum_at r j) (coefficients_past es l (past l ge)) ∙ sym (ends l j ge)
  ]

  radius_is : (l j : ℕ) → radius es l j ≡ R l j
  radius_is l j = elim (cases_lt l n) [
    | inl lt ↦
        let a = is.radii l lt in
        ap (λ r. sizes_at r j) (radii_read es l) ∙ size_is (terms_at es l).radii j a.is_row.is_row.rising
        ∙ ap nat_abs (a.is_row.numbers j)
    | inr ge ↦
        ap (λ r. sizes_at r j) (radii_past es l (past l ge))
        ∙ sym (ap nat_abs (radii_end l j ge))
  ]

  right_side_is : (l : ℕ) → right_side_at es l ≡ right_side e l
  right_side_is l = elim (cases_lt l n) [
    | inl lt ↦ right_side_read es l ∙ is.have.right_sides l lt
    | inr ge ↦
        right_side_past es l (past l ge)
        ∙ sym (ap (λ k. 2 ^ 20 * (2 * k)) (get_or_past e l 0 (subst (λ k. k ≤ l) (sym long) ge)))
  ]

  pub have_numbers : HaveNumbers n J R e es
  have_numbers = record {
    long = is.have.long;
    coefficients = coefficient_is;
    radii = radius_is;
    right_sides =
        right_side_is;
  }

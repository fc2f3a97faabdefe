-- Contributions: one number at one place of row and column, and what they add up to at a state.
use Rattle.std.specs.Prelude.{ℕ, ◌<◌, ◌^◌, ◌-◌, ◌<ℤ◌, ◌≤ℤ◌, zero, suc, ◌+◌, ◌*◌, ℤ, pos, neg_ℤ, ◌*ℤ◌, nat_abs, nat_le, Bool, IsTrue, cond, eqb, List, [], ◌∷◌, ◌++◌}
use Rattle.std.specs.Ordering.{int_eq}
use Rattle.fd_arith.specs.fd_exact.Fractions.{Fraction, fraction, nothing}
use Rattle.fd_arith.specs.fd_exact.States.{State, part}
use Rattle.fd_arith.specs.fd_exact.Sums.{sum_of}
use Rattle.fd_arith.specs.fd_exact.Rounding.{near_div}
use Rattle.fd_arith.specs.declared.terms.Term.{Term}
use Rattle.fd_arith.specs.declared.terms.NodeAt.{NodeAt}
use Rattle.fd_arith.specs.declared.terms.NodeAt.TheVariants.{Ground, Node}

-- what a contribution is at a state: num x / den
abbrev pub value_of : Term → State → Fraction
value_of t x = fraction (t.num *ℤ part x.parts t.col) (nat_abs t.den * x.over)

-- what it gives to a row
abbrev pub given : ℕ → Term → State → Fraction
given l t x = cond (eqb t.row l) (value_of t x) nothing

-- the sum of a row's contributions
abbrev pub row_sum : ℕ → List Term → State → Fraction
row_sum l ts x = sum_of (λ t. given l t x) ts

-- ---- the contributions of complex numbers

-- a number that is 0 is no contribution
abbrev pub one : ℕ → ℕ → ℤ → ℤ → List Term
one row col num den = cond (int_eq num (pos 0)) [] (record { row = row; col = col; num = num; den = den } ∷ [])

-- (re + j im) / den at a complex row and column: four real ones, and none at ground
abbrev pub complex_terms : NodeAt → NodeAt → ℤ → ℤ → ℤ → List Term
complex_terms (Node r) (Node c) re im den =
    one (2 * r) (2 * c) re den ++ (one (2 * r) (2 * c + 1) (neg_ℤ im) den
    ++ (one (2 * r + 1) (2 * c) im den ++ one (2 * r + 1) (2 * c + 1) re den))
complex_terms (Node r) Ground re im den = []
complex_terms Ground c re im den = []

-- the admittance (re + j im) / den between two nodes: the current that leaves the first enters the second
abbrev pub shunt_list : NodeAt → NodeAt → ℤ → ℤ → ℤ → List Term
shunt_list first second re im den =
    (complex_terms first first re im den ++ complex_terms first second (neg_ℤ re) (neg_ℤ im) den)
    ++ (complex_terms second first (neg_ℤ re) (neg_ℤ im) den ++ complex_terms second second re im den)

-- f 0 ++ .. ++ f (n - 1)
abbrev pub concat_below : {A : Type 0} → (ℕ → List A) → ℕ → List A
concat_below f zero = []
concat_below f (suc n) = concat_below f n ++ f n

-- ---- their conditions and their range

-- the number of a place leaves room for its two parts
abbrev pub IsSmall : NodeAt → Type 0
IsSmall Ground = Unit {0}
IsSmall (Node r) = r < 2 ^ 31 - 1

-- the condition on the denominator
pub record IsDivided (t : Term) : Type 0 where
  pub positive : pos 0 <ℤ t.den
  pub most : t.den ≤ℤ pos (10 ^ 32)

-- a number of units of 2^-40 is at most 2^54 in size
abbrev pub are_small : ℤ → Bool
are_small units = nat_le (nat_abs units) (2 ^ 54)

abbrev pub AreSmall : ℤ → Type 0
AreSmall units = IsTrue (are_small units)

-- a contribution in units of 2^-40, to the nearest
abbrev pub term_units : Term → ℤ
term_units t = near_div (t.num *ℤ pos (2 ^ 40)) (nat_abs t.den)

-- it is within range: those units are at most 2^54 in size
abbrev pub IsWithin : Term → Type 0
IsWithin t = AreSmall (term_units t)

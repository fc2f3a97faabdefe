-- The series impedance between the phases of an element: entries by sequence values, and the voltage that the currents take.
use Rattle.std.specs.Prelude.{ℕ, ◌^◌, ℤ, pos, neg_ℤ, ◌+ℤ◌, ◌-ℤ◌, ◌*ℤ◌, List, cond, eqb}
use Rattle.fd_arith.specs.fd_exact.Fractions.{Fraction, fraction}
use Rattle.fd_arith.specs.fd_exact.States.{State}
use Rattle.fd_arith.specs.declared.terms.Term.{Term}
use Rattle.fd_system.specs.Complex.{Complex, complex, ◌⊠◌, total}
use Rattle.fd_system.specs.Contributions.{complex_terms, concat_below}
use Rattle.fd_system.specs.Equations.{unknown}
use Rattle.fd_system.specs.Terminals.{branch_of}

-- ---- sequence values

-- three times the entry of the matrix with these sequence values: 2 z1 + z0 on the diagonal, z0 - z1 beside it
abbrev pub three_times : ℤ → ℤ → ℕ → ℕ → ℤ
three_times z1 z0 k m = cond (eqb k m) (pos 2 *ℤ z1 +ℤ z0) (z0 -ℤ z1)

-- the entry: (2 z1 + z0) / 3 on the diagonal, (z0 - z1) / 3 beside it
abbrev pub sequence_entry : ℤ → ℤ → ℕ → ℕ → Fraction
sequence_entry z1 z0 k m = fraction (three_times z1 z0 k m) 3

-- ---- the voltage that the currents take from phase k

-- r + j x between phases k and m, from whole 10^-12 ohm
abbrev pub ohms : (ℕ → ℕ → ℤ) → (ℕ → ℕ → ℤ) → ℕ → ℕ → Complex
ohms r x k m = complex (r k m) (x k m) (10 ^ 12)

-- Z_k0 i_0 + .. + Z_k(n-1) i_(n-1)
abbrev pub drop_of : (ℕ → ℕ → ℤ) → (ℕ → ℕ → ℤ) → ℕ → ℕ → State → ℕ → Complex
drop_of r x branch n s k = total (λ m. ohms r x k m ⊠ unknown s (branch_of branch m)) n

-- the contributions of its opposite: those of one entry r + j x, and all of them
abbrev pub drop_terms : ℕ → ℕ → ℕ → ℤ → ℤ → List Term
drop_terms branch k m r x = complex_terms (branch_of branch k) (branch_of branch m) (neg_ℤ r) (neg_ℤ x) (pos (10 ^ 12))

abbrev pub drop_at : (ℕ → ℕ → ℤ) → (ℕ → ℕ → ℤ) → ℕ → ℕ → ℕ → List Term
drop_at r x branch k m = drop_terms branch k m (r k m) (x k m)

abbrev pub drop_list : (ℕ → ℕ → ℤ) → (ℕ → ℕ → ℤ) → ℕ → ℕ → ℕ → List Term
drop_list r x branch n k = concat_below (drop_at r x branch k) n

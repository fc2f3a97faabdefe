-- Two rows in the order of the tests make steps.
use Rattle.std.proofs.Common.{◌≡◌, ℕ, zero, suc, ◌<◌, ◌≤◌, ◌^◌, ℤ, nat_abs, [], ◌∷◌, drop, arith, refl, subst, sym}
use Rattle.fd_base_tests.specs.Crossed.{crossed}
use Rattle.fd_bounds.specs.fd_substitution.Substitution.{CanStep, others_at, pivot_at, rest_at}
use Rattle.fd_bounds.specs.fd_substitution.Sums.{IsInside}
use Rattle.fd_bounds.specs.fd_triangles.Elimination.{pair_at}
use Rattle.fd_bounds.specs.fd_triangles.Rows.{entry_at}
use Rattle.fd_bounds.specs.fd_triangles.Steps.{Parts, parts_of}
use Rattle.fd_bounds.specs.fd_derived.fd_factors.fd_exact.States.{part}
use Rattle.fd_bounds.specs.fd_derived.declared.entries.Entry.{Entry}
use Rattle.fd_bounds.specs.fd_derived.declared.entries.Row.{Row}

none : IsInside 2 []
none k l = absurd (omega arith)

one : (e : Entry) → e.place < 2 → IsInside 2 (e ∷ [])
one e h zero l = h
one e h (suc k) l = absurd (omega arith)

unknowns : (t : ℕ) → t < 2 → (pair_at crossed t).unknown < 2
unknowns zero l = omega arith
unknowns (suc zero) l = omega arith
unknowns (suc (suc t)) l = absurd (omega arith)

equations : (t : ℕ) → t < 2 → (pair_at crossed t).equation < 2
equations zero l = omega arith
equations (suc zero) l = omega arith
equations (suc (suc t)) l = absurd (omega arith)

module _ (a b : Row) (p u f q : Entry) (a_is : parts_of a ≡ record { equations = []; others = []; left = p ∷ u ∷ [] })
    (b_is : parts_of b ≡ record { equations = []; others = f ∷ []; left = q ∷ [] }) (u_in : u.place < 2) (f_in : f.place < 2)
    (p_not : 0 < nat_abs p.units) (q_not : 0 < nat_abs q.units) where
  others : (t : ℕ) → t < 2 → IsInside 2 (others_at (a ∷ b ∷ []) t)
  others zero l = subst (λ (r : Parts). IsInside 2 r.others) (sym a_is) none
  others (suc zero) l = subst (λ (r : Parts). IsInside 2 r.others) (sym b_is) (one f f_in)
  others (suc (suc t)) l = absurd (omega arith)

  rest : (t : ℕ) → t < 2 → IsInside 2 (rest_at (a ∷ b ∷ []) t)
  rest zero l = subst (λ (r : Parts). IsInside 2 (drop 1 r.left)) (sym a_is) (one u u_in)
  rest (suc zero) l = subst (λ (r : Parts). IsInside 2 (drop 1 r.left)) (sym b_is) none
  rest (suc (suc t)) l = absurd (omega arith)

  pivots : (t : ℕ) → t < 2 → 0 < nat_abs (pivot_at (a ∷ b ∷ []) t)
  pivots zero l = subst (λ (r : Parts). 0 < nat_abs (entry_at r.left 0).units) (sym a_is) p_not
  pivots (suc zero) l = subst (λ (r : Parts). 0 < nat_abs (entry_at r.left 0).units) (sym b_is) q_not
  pivots (suc (suc t)) l = absurd (omega arith)

  pub two_step : CanStep (a ∷ b ∷ []) crossed
  two_step = record {
    long = refl;
    unknowns = unknowns;
    equations = equations;
    others = others;
    rest = rest;
    pivots = pivots;
  }

-- two right sides that are small enough
pub two_small : (b c : ℤ) → nat_abs b ≤ 2 ^ 42 → nat_abs c ≤ 2 ^ 42 → (l : ℕ) → l < 2 → nat_abs (part (b ∷ c ∷ []) l) ≤ 2 ^ 42
two_small b c hb hc zero l = hb
two_small b c hb hc (suc zero) l = hc
two_small b c hb hc (suc (suc k)) l = absurd (omega arith)

-- How many contributions complex numbers have.
use Rattle.std.proofs.Common.{ℕ, zero, suc, ◌+◌, ◌*◌, ◌≤◌, ℤ, pos, neg_ℤ, Bool, true, false, cond, List, [], ◌∷◌, ◌++◌, length, length-append, arith}
use Rattle.std.specs.Ordering.{int_eq}
use Rattle.fd_arith.specs.declared.terms.Term.{Term}
use Rattle.fd_arith.specs.declared.terms.NodeAt.{NodeAt}
use Rattle.fd_arith.specs.declared.terms.NodeAt.TheVariants.{Ground, Node}
use Rattle.fd_system.specs.Contributions.{one, complex_terms, concat_below}

pub joined_few : (a b : ℕ) (ts us : List Term) → length ts ≤ a → length us ≤ b → length (ts ++ us) ≤ a + b
joined_few a b ts us h k = rw (length-append ts us) (omega arith)

pub concat_few : (b : ℕ) (f : ℕ → List Term) (n : ℕ) → ((k : ℕ) → length (f k) ≤ b) → length (concat_below f n) ≤ n * b
concat_few b f zero h = omega arith
concat_few b f (suc n) h =
    let j = joined_few (n * b) b (concat_below f n) (f n) (concat_few b f n h) (h n) in
    omega (arith, j)

pub one_few : (r c : ℕ) (n d : ℤ) → length (one r c n d) ≤ 1
one_few r c n d = by_zero (int_eq n (pos 0)) (record { row = r; col = c; num = n; den = d })
  where
    by_zero : (t : Bool) (x : Term) → length (cond t [] (x ∷ [])) ≤ 1
    by_zero true x = omega arith
    by_zero false x = omega arith

pub complex_few : (r c : NodeAt) (a b d : ℤ) → length (complex_terms r c a b d) ≤ 4
complex_few (Node r) (Node c) a b d =
    joined_few 1 3 (one (2 * r) (2 * c) a d) _ (one_few (2 * r) (2 * c) a d)
    (joined_few 1 2 (one (2 * r) (2 * c + 1) (neg_ℤ b) d) _ (one_few (2 * r) (2 * c + 1) (neg_ℤ b) d)
    (joined_few 1 1 (one (2 * r + 1) (2 * c) b d) _ (one_few (2 * r + 1) (2 * c) b d) (one_few (2 * r + 1) (2 * c + 1) a d)))
complex_few (Node r) Ground a b d = omega arith
complex_few Ground c a b d = omega arith

-- a number without an imaginary part, and one without a real part
pub real_few : (r c : NodeAt) (a d : ℤ) → length (complex_terms r c a (pos 0) d) ≤ 2
real_few (Node r) (Node c) a d = joined_few 1 1 (one (2 * r) (2 * c) a d) _ (one_few (2 * r) (2 * c) a d) (one_few (2 * r + 1) (2 * c + 1) a d)
real_few (Node r) Ground a d = omega arith
real_few Ground c a d = omega arith

pub imaginary_few : (r c : NodeAt) (b d : ℤ) → length (complex_terms r c (pos 0) b d) ≤ 2
imaginary_few (Node r) (Node c) b d =
    joined_few 1 1 (one (2 * r) (2 * c + 1) (neg_ℤ b) d) (one (2 * r + 1) (2 * c) b d ++ [])
    (one_few (2 * r) (2 * c + 1) (neg_ℤ b) d) (joined_few 1 0 (one (2 * r + 1) (2 * c) b d) [] (one_few (2 * r + 1) (2 * c) b d) (omega arith))
imaginary_few (Node r) Ground b d = omega arith
imaginary_few Ground c b d = omega arith

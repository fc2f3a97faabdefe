-- Each contribution of a complex number has the number's denominator.
use Rattle.std.proofs.Common.{ℕ, zero, suc, ◌+◌, ◌*◌, ◌^◌, ℤ, pos, neg_ℤ, ◌<ℤ◌, ◌≤ℤ◌, Bool, true, false, cond, List, [], ◌∷◌}
use Rattle.std.specs.List.{All}
use Rattle.std.specs.Ordering.{int_eq}
use Rattle.std.proofs.lemmas.List.Elements.{All-nil, All-cons, All-append}
use Rattle.fd_arith.specs.declared.terms.Term.{Term}
use Rattle.fd_arith.specs.declared.terms.NodeAt.{NodeAt}
use Rattle.fd_arith.specs.declared.terms.NodeAt.TheVariants.{Ground, Node}
use Rattle.fd_system.specs.Contributions.{one, complex_terms, concat_below, IsDivided}

module _ (d : ℤ) (p : pos 0 <ℤ d) (m : d ≤ℤ pos (10 ^ 32)) where
  one_by : (t : Bool) (r c : ℕ) (n : ℤ) → All IsDivided (cond t [] (record { row = r; col = c; num = n; den = d } ∷ []))
  one_by true r c n = All-nil IsDivided
  one_by false r c n = All-cons IsDivided _ [] (record { positive = p; most = m }) (All-nil IsDivided)

  one_divided : (r c : ℕ) (n : ℤ) → All IsDivided (one r c n d)
  one_divided r c n = one_by (int_eq n (pos 0)) r c n

  pub complex_divided : (r c : NodeAt) (a b : ℤ) → All IsDivided (complex_terms r c a b d)
  complex_divided (Node r) (Node c) a b =
      All-append IsDivided (one (2 * r) (2 * c) a d) _ (one_divided (2 * r) (2 * c) a)
      (All-append IsDivided (one (2 * r) (2 * c + 1) (neg_ℤ b) d) _ (one_divided (2 * r) (2 * c + 1) (neg_ℤ b))
      (All-append IsDivided (one (2 * r + 1) (2 * c) b d) _ (one_divided (2 * r + 1) (2 * c) b) (one_divided (2 * r + 1) (2 * c + 1) a)))
  complex_divided (Node r) Ground a b = All-nil IsDivided
  complex_divided Ground c a b = All-nil IsDivided

pub concat_divided : (f : ℕ → List Term) (n : ℕ) → ((k : ℕ) → All IsDivided (f k)) → All IsDivided (concat_below f n)
concat_divided f zero h = All-nil IsDivided
concat_divided f (suc n) h = All-append IsDivided (concat_below f n) (f n) (concat_divided f n h) (h n)

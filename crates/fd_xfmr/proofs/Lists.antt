-- What the code adds for a phase is its list of contributions.
use Rattle.std.proofs.Common.{◌≡◌, ◌∙◌, ◌≤◌, ◌^◌, ℤ, pos, negsuc, neg_ℤ, nat_abs, FitsSigned, List, ◌++◌, append_assoc, arith}
use Rattle.std.specs.Int.{w128}
use Rattle.std.proofs.lemmas.Int.{ints}
use Rattle.fd_system.specs.fd_arith.declared.terms.Term.{Term}
use Rattle.fd_system.specs.Contributions.{complex_terms}
use Rattle.fd_xfmr.specs.declared.leakage.Coefficients.{Coefficients}
use Rattle.fd_xfmr.specs.declared.terms.PhaseAt.{PhaseAt}
use Rattle.fd_xfmr.specs.Leakage.{AreWithin}
use Rattle.fd_xfmr.specs.Transformer.{branch_list, current_list}

-- ---- the numbers in the code's type

pub size_fits : (z : ℤ) → nat_abs z ≤ 10 ^ 36 → FitsSigned w128 z
size_fits z h = omega (arith, ints)

pub opposite_fits : (z : ℤ) → nat_abs z ≤ 10 ^ 36 → FitsSigned w128 (neg_ℤ z)
opposite_fits z h = omega (arith, ints)

pub over_fits : (c : Coefficients) → AreWithin c → FitsSigned w128 c.ratio_over
over_fits c w = let l = w.over_least in let m = w.over_most in omega (arith, ints)

-- ---- lists that are added one after another

module _ (c : Coefficients) (p : PhaseAt) (ratio minus over : ℤ) (e : ratio ≡ c.ratio) (f : minus ≡ neg_ℤ c.ratio)
    (g : over ≡ c.ratio_over) where
  pub branch_added : (o n1 n2 n3 n4 n5 : List Term) (r x : ℤ)
      → n1 ≡ o ++ complex_terms p.branch p.winding1.first ratio (pos 0) over
      → n2 ≡ n1 ++ complex_terms p.branch p.winding1.second minus (pos 0) over
      → n3 ≡ n2 ++ complex_terms p.branch p.winding2.first (negsuc 0) (pos 0) (pos 1)
      → n4 ≡ n3 ++ complex_terms p.branch p.winding2.second (pos 1) (pos 0) (pos 1)
      → n5 ≡ n4 ++ complex_terms p.branch p.branch r x (pos (10 ^ 22))
      → r ≡ neg_ℤ c.r → x ≡ neg_ℤ c.x → n5 ≡ o ++ branch_list c p
  branch_added o n1 n2 n3 n4 n5 r x e1 e2 e3 e4 e5 h k =
      let s3 = complex_terms p.branch p.winding2.first (negsuc 0) (pos 0) (pos 1) in
      let s4 = complex_terms p.branch p.winding2.second (pos 1) (pos 0) (pos 1) in
      e5
      ∙ (λ i.
      (e4 ∙ (λ j.
      (e3 ∙ (λ m. (e2 ∙ (λ n. e1 n ++ complex_terms p.branch p.winding1.second minus (pos 0) over)) m ++ s3)) j
      ++ s4)) i ++ complex_terms p.branch p.branch r x (pos (10 ^ 22)))
      ∙ (λ i. ((((o ++ complex_terms p.branch p.winding1.first (e i) (pos 0) (g i))
      ++ complex_terms p.branch p.winding1.second (f i) (pos 0) (g i)) ++ s3) ++ s4)
      ++ complex_terms p.branch p.branch (h i) (k i) (pos (10 ^ 22)))
      ∙ simp append_assoc

  pub currents_added : (o n1 n2 n3 n4 : List Term)
      → n1 ≡ o ++ complex_terms p.winding1.first p.branch ratio (pos 0) over
      → n2 ≡ n1 ++ complex_terms p.winding1.second p.branch minus (pos 0) over
      → n3 ≡ n2 ++ complex_terms p.winding2.first p.branch (negsuc 0) (pos 0) (pos 1)
      → n4 ≡ n3 ++ complex_terms p.winding2.second p.branch (pos 1) (pos 0) (pos 1)
      → n4 ≡ o ++ current_list c p
  currents_added o n1 n2 n3 n4 e1 e2 e3 e4 =
      let s3 = complex_terms p.winding2.first p.branch (negsuc 0) (pos 0) (pos 1) in
      let s4 = complex_terms p.winding2.second p.branch (pos 1) (pos 0) (pos 1) in
      e4
      ∙ (λ i.
      (e3 ∙ (λ j. (e2 ∙ (λ m. e1 m ++ complex_terms p.winding1.second p.branch minus (pos 0) over)) j ++ s3)) i ++ s4)
      ∙ (λ i. (((o ++ complex_terms p.winding1.first p.branch (e i) (pos 0) (g i))
      ++ complex_terms p.winding1.second p.branch (f i) (pos 0) (g i)) ++ s3) ++ s4)
      ∙ simp append_assoc

-- What is read back of a list that was written, and what is told first.
use Rattle.std.proofs.Common.{◌≡◌, ◌∙◌, ◌++◌, ℕ, ◌<◌, ◌≤◌, ◌^◌, ℤ, pos, ◌≤ℤ◌, nat_abs, List, length, take, drop, Option, Some, None, Result, arith, ap, sym, subst}
use Rattle.std.specs.Global.{Vec}
use Rattle.std.specs.Option.{option_or}
use Rattle.std.proofs.lemmas.Int.{ints}
use Rattle.std.proofs.lemmas.List.{append-nil, drop_all, take_all}
use Rattle.fd_cert.specs.Columns.{HasEntries}
use Rattle.fd_cert.specs.fd_enclosure.fd_equations.Matrices.{IsMatrix, MatrixView, jacobian_amount}
use Rattle.fd_cert.specs.fd_enclosure.fd_equations.Rounded.{jacobian_entry}
use Rattle.fd_cert.specs.fd_enclosure.fd_exact.States.{part}
use Rattle.fd_cert.specs.fd_enclosure.fd_pattern.Views.{NetworkView}
use Rattle.fd_cert.proofs.CallerLemmas.{jacobian_made}
use Rattle.fd_bounds.specs.fd_derived.declared.entries.Equation.{Equation}
use Rattle.fd_rowcert.specs.Equations.{HaveCoefficients, Tells, first_wide}

pub written_back : (n : ℕ) (new old : List Equation) → length new ≡ n → length old ≡ n → (m : ℕ) → m ≡ n
    → take m (new ++ drop (length new) old) ≡ new
written_back n new old long old_long m e =
    ap (λ r. take m (new ++ r)) (drop_all (length new) old (omega (arith, long, old_long)))
    ∙ ap (take m) (append-nil new) ∙ take_all m new (omega (arith, long, e))

pub first_told : (a b : Option ℕ) (k : ℕ) → a ≡ Some k → option_or a b ≡ Some k
first_told a b k e = ap (λ o. option_or o b) e

pub later_told : (a b : Option ℕ) (o : Option ℕ) → a ≡ None → b ≡ o → option_or a b ≡ o
later_told a b o e f = ap (λ p. option_or p b) e ∙ f

pub weights_low : (n : ℕ) (ws xs : List ℤ) → xs ≡ ws
    → ((l : ℕ) → l < n → (pos (10 ^ 6) ≤ℤ part ws l) × (part ws l ≤ℤ pos (2 ^ 66))) → (l : ℕ) → l < n
    → nat_abs (part xs l) ≤ 2 ^ 66
weights_low n ws xs e h l lt =
    let r = subst (λ ys. (l : ℕ) → l < n → (pos (10 ^ 6) ≤ℤ part ys l) × (part ys l ≤ℤ pos (2 ^ 66))) (sym e) h l lt in
    omega (arith, ints, r.0, r.1)

-- what is told of the coefficients of a state
pub coefficients_told : (v : NetworkView) (x : List ℤ) (e : List ℕ) (j : MatrixView) (t : Result (Vec Equation) ℕ)
    → IsMatrix v.size j (jacobian_amount v x)
    → ((J : ℕ → ℕ → ℤ) → HasEntries j J → Tells (first_wide j.size J) t (λ es. HaveCoefficients j.size J e es.items))
    → Tells (first_wide v.size (jacobian_entry v x)) t (λ es. HaveCoefficients v.size (jacobian_entry v x) e es.items)
coefficients_told v x e j t is h =
    subst (λ n. Tells (first_wide n (jacobian_entry v x)) t (λ es. HaveCoefficients n
    (jacobian_entry v x) e es.items)) is.size
    (h (jacobian_entry v x) (jacobian_made v x j is))

-- What is told of one box, read of what was found in it.
use Rattle.std.proofs.Common.{◌≡◌, ℕ, ℤ, List, length, Result, Ok, Err, IfOk, subst, sym}
use Rattle.fd_cert.specs.fd_enclosure.fd_equations.Rounded.{jacobian_entry}
use Rattle.fd_cert.specs.fd_enclosure.fd_pattern.Views.{NetworkView}
use Rattle.fd_bounds.specs.fd_derived.declared.entries.Equation.{Equation}
use Rattle.fd_bounds.specs.fd_derived.declared.entries.Row.{Row}
use Rattle.fd_rowcert.specs.Boxed.{Either, EndsIn, StandIn}
use Rattle.fd_rowcert.specs.Equations.{HaveCoefficients, HaveNumbersOf}
use Rattle.fd_rowcert.specs.declared.bounding.Boxed.{Boxed}

module _ (v : NetworkView) (x : List ℤ) (rows : List Row) (old : List Equation) (parts : ℕ) (t : Result Boxed ℕ) where
  abbrev pub Told : Result Boxed ℕ → Type 0
  Told t = (e : List ℕ) → HaveCoefficients v.size (jacobian_entry v x) e old
      → Either t (λ (b : Boxed). StandIn v x e rows parts b.bounds) (EndsIn v x e rows parts)

  pub stood : Told t → (b : Boxed) → t ≡ Ok b → (e : List ℕ) → HaveCoefficients v.size (jacobian_entry v x) e old
      → StandIn v x e rows parts b.bounds
  stood h b is e have = subst Told is h e have

  pub ended : Told t → (q : ℕ) → t ≡ Err q → (e : List ℕ) → HaveCoefficients v.size (jacobian_entry v x) e old
      → EndsIn v x e rows parts q
  ended h q is e have = subst Told is h e have

  pub parts_are : IfOk t (λ (b : Boxed). b.parts ≡ parts) → (b : Boxed) → t ≡ Ok b → b.parts ≡ parts
  parts_are h b is = subst (λ t. IfOk t (λ (b : Boxed). b.parts ≡ parts)) is h

  pub numbers_are : (new : List Equation) → IfOk t (λ (_ : Boxed). (e : List ℕ) → length e ≡ v.size
      → HaveCoefficients v.size (jacobian_entry v x) e old → HaveNumbersOf v parts x e new) → (b : Boxed) → t ≡ Ok b
      → b.parts ≡ parts
      → (e : List ℕ) → length e ≡ v.size → HaveCoefficients v.size (jacobian_entry v x) e old
      → HaveNumbersOf v b.parts x e new
  numbers_are new h b is same e long have =
      subst (λ p. HaveNumbersOf v p x e new) (sym same)
      (subst (λ t. IfOk t (λ (_ : Boxed). (e : List ℕ) → length e ≡ v.size
      → HaveCoefficients v.size (jacobian_entry v x) e old
      → HaveNumbersOf v parts x e new)) is h e long have)

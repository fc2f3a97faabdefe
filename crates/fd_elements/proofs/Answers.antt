-- A load has just one power at a point.
use Rattle.std.proofs.Common.{◌≡◌, ◌∙◌, ℕ, ◌+◌, ◌-◌, ◌*◌, ◌^◌, ◌<◌, ◌≤◌, ◌⊎◌, ℤ, nat_abs, inl, inr, arith, ap, sym, subst}
use Rattle.std.proofs.lemmas.Bool.{cases_lt}
use Rattle.std.proofs.Math.Nat.{mul-le-mul, mul-le-mul_right}
use Rattle.dss_model.specs.fd_exact.Rounding.{signed, differ}
use Rattle.dss_model.specs.declared.words.ReactiveRule.{ReactiveRule}
use Rattle.dss_model.specs.declared.words.ReactiveRule.TheVariants as rule
use Rattle.dss_model.specs.declared.load.Load.{Load}
use Rattle.fd_elements.specs.declared.powers.LoadPower.{LoadPower}
use Rattle.fd_elements.specs.Powers.{IsByPowerFactor, IsLoadPower, IsReactive, square}

root_below : (x d r s : ℕ) → r * r * d ≤ x → x < (s + 1) * (s + 1) * d → r ≤ s
root_below x d r s h k = by (cases_lt s r)
  where
    by : (s < r) ⊎ (r ≤ s) → r ≤ s
    by (inl l) =
        let more : (s + 1) * (s + 1) ≤ r * r = mul-le-mul (omega arith) (omega arith) in
        let scaled : (s + 1) * (s + 1) * d ≤ r * r * d = mul-le-mul_right d more in
        absurd (omega arith)
    by (inr l) = l

same_reactive : (p pf a b : ℤ) → IsByPowerFactor p pf a → IsByPowerFactor p pf b → a ≡ b
same_reactive p pf a b h k =
    let u = root_below (square p * (10 ^ 18 - square pf)) (square pf) (nat_abs a) (nat_abs b) h.least k.most in
    let v = root_below (square p * (10 ^ 18 - square pf)) (square pf) (nat_abs b) (nat_abs a) k.least h.most in
    let e : nat_abs a ≡ nat_abs b = omega (arith, u, v) in
    h.sign ∙ ap (signed (differ p pf)) e ∙ sym k.sign

same_q : (f : ReactiveRule) (load : Load) (point p a b : ℤ) → IsReactive f load point p a → IsReactive f load point p b
    → a ≡ b
same_q rule.PowerFactor load point p a b h k = same_reactive p load.pf a b h k
same_q rule.Kvar load point p a b h k = h ∙ sym k

pub same_power : (load : Load) (point : ℤ) (a b : LoadPower) → IsLoadPower load point a → IsLoadPower load point b
    → a ≡ b
same_power load point a b h k =
    let p = h.p ∙ sym k.p in
    let q = same_q load.reactive load point b.p a.q b.q (subst (λ (t : ℤ). IsReactive load.reactive load point t a.q) p h.q) k.q in
    λ i. record { p = p i; q = q i }

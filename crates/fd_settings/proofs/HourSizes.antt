-- The powers of loads in range are modest.
use Rattle.std.proofs.Common.{ℕ, zero, suc, ◌+◌, ◌-◌, ◌*◌, ◌^◌, ◌<◌, ◌≤◌, ◌⊎◌, inl, inr, ℤ, pos, ◌*ℤ◌, nat_abs, List, [], ◌∷◌, get_or, replicate, Option, Some, None, IfSome, arith, subst, sym}
use Rattle.std.specs.List.{All, flat_map}
use Rattle.std.specs.Option.{unwrap_or}
use Rattle.std.proofs.Math.Nat.{mul-le-mul, mul-le-mul_left}
use Rattle.std.proofs.lemmas.Bool.{cases_lt}
use Rattle.std.proofs.lemmas.Int.{ints, unsigned_abs-mul}
use Rattle.std.proofs.lemmas.List.Elements.{All-append, All-cons, All-head, All-nil, All-replicate, All-tail, All-take}
use Rattle.fd_devices.specs.dss_model.InRange.{ElementInRange, LoadInRange}
use Rattle.fd_devices.specs.dss_model.Ranges.{IsBetween, IsOneOf, IsPower, ones}
use Rattle.fd_devices.specs.dss_model.SameElement.{same_element}
use Rattle.fd_devices.specs.dss_model.declared.element.Element.{Element}
use Rattle.fd_devices.specs.dss_model.declared.element.Element.TheVariants as the
use Rattle.fd_devices.specs.dss_model.declared.load.Load.{Load}
use Rattle.fd_devices.specs.dss_model.declared.names.Class.TheVariants as class
use Rattle.fd_devices.specs.dss_model.declared.names.ElementName.{ElementName}
use Rattle.fd_devices.specs.dss_model.declared.words.ReactiveRule.{ReactiveRule}
use Rattle.fd_devices.specs.dss_model.declared.words.ReactiveRule.TheVariants as rule
use Rattle.fd_devices.specs.dss_circuit.Lookups.{element_given}
use Rattle.fd_devices.proofs.CallerLemmas.dss_circuit.{of_found}
use Rattle.fd_devices.specs.dss_layout.Layout.{Elements}
use Rattle.fd_devices.specs.fd_exact.Nearest.{near_within}
use Rattle.fd_devices.specs.fd_elements.Powers.{IsReactive, phase_power}
use Rattle.fd_devices.proofs.CallerLemmas.fd_elements.{factor_least}
use Rattle.fd_devices.specs.Building.{IsModest}
use Rattle.fd_devices.specs.Kinds.{loads_in}
use Rattle.fd_settings.specs.Hours.{element_powers, followed_point, point_at}
use Rattle.fd_settings.specs.Modest.{ModestLaw}
use Rattle.fd_settings.specs.Snapshot.{power_of}
use Rattle.fd_settings.proofs.PowerOf.{is_load_power}

-- ---- points

abbrev IsPoint : ℤ → Type 0
IsPoint z = IsBetween (pos 0) (ones 1000) z

one_point : IsPoint (ones 1)
one_point = record { least = omega (arith, ints); most = omega (arith, ints) }

point_or : (zs : List ℤ) (k : ℕ) → All IsPoint zs → IsPoint (get_or zs k (pos 0))
point_or [] k h = record { least = omega (arith, ints); most = omega (arith, ints) }
point_or (z ∷ zs) zero h = All-head IsPoint z zs h
point_or (z ∷ zs) (suc k) h = point_or zs k (All-tail IsPoint z zs h)

point_of : (e : Element) (passed : ℕ) → ElementInRange e → IsPoint (followed_point (Some e) passed)
point_of (the.Loadshape shape) passed h = point_or _ _ (All-take IsPoint shape.npts shape.mult h.mult)
point_of e passed h = one_point

point_followed : (o : Option Element) (passed : ℕ) → IfSome o ElementInRange → IsPoint (followed_point o passed)
point_followed None passed h = one_point
point_followed (Some e) passed h = point_of e passed h

module _ (es : Elements) (h : All (λ (e : ElementName × Element). ElementInRange e.1) es) where
  given_in_range : (name : Option (List ℕ)) → IfSome (element_given es class.Loadshape name) ElementInRange
  given_in_range None = tt
  given_in_range (Some name) = of_found ElementInRange (same_element (record { class = class.Loadshape; name = name })) es h

  point_within : (load : Load) (hour : ℕ) → IsPoint (point_at es load hour)
  point_within load zero = one_point
  point_within load (suc passed) =
      point_followed (element_given es class.Loadshape load.daily) passed (given_in_range load.daily)

-- ---- powers

phase_most : (total point : ℤ) (phases : ℕ) → IsPower total → IsPoint point → 1 ≤ phases
    → nat_abs (phase_power total point phases) ≤ 3 * 10 ^ 14
phase_most total point phases h k some =
    let a : nat_abs total ≤ 3 * 10 ^ 14 = omega (arith, ints, h.least, h.most) in
    let b : nat_abs point ≤ 10 ^ 12 = omega (arith, ints, k.least, k.most) in
    let product : nat_abs total * nat_abs point ≤ 3 * 10 ^ 14 * 10 ^ 12 = mul-le-mul a b in
    near_within (total *ℤ point) (10 ^ 12 * phases) (3 * 10 ^ 14) (omega (arith, some))
    (omega (arith, unsigned_abs-mul total point, product, some))

-- a number by the power factor is at most a hundred times the power
root_small : (q f p : ℕ) → 10 ^ 7 ≤ f → p ≤ 3 * 10 ^ 14 → q * q * (f * f) ≤ p * p * (10 ^ 18 - f * f) → q ≤ 3 * 10 ^ 16
root_small q f p least most h = by (cases_lt (3 * 10 ^ 16) q)
  where
    by : (3 * 10 ^ 16 < q) ⊎ (q ≤ 3 * 10 ^ 16) → q ≤ 3 * 10 ^ 16
    by (inl l) =
        let factor : 10 ^ 7 * 10 ^ 7 ≤ f * f = mul-le-mul least least in
        let bound : p * p * (10 ^ 18 - f * f) ≤ p * p * 10 ^ 18 = mul-le-mul_left (p * p) (omega arith) in
        let power : p * p ≤ 3 * 10 ^ 14 * (3 * 10 ^ 14) = mul-le-mul most most in
        let low : 3 * 10 ^ 16 + 1 ≤ q = omega (arith, l) in
        let square : (3 * 10 ^ 16 + 1) * (3 * 10 ^ 16 + 1) ≤ q * q = mul-le-mul low low in
        let scaled : q * q * (10 ^ 7 * 10 ^ 7) ≤ q * q * (f * f) = mul-le-mul_left (q * q) factor in
        absurd (omega (arith, h, bound, power, square, scaled))
    by (inr l) = l

power_or : (o : Option ℤ) → IfSome o IsPower → IsPower (unwrap_or o (pos 0))
power_or None h = record { least = omega (arith, ints); most = omega (arith, ints) }
power_or (Some z) h = h

some_phases : (n : ℕ) → IsOneOf (1 ∷ 3 ∷ []) n → 1 ≤ n
some_phases n (inl h) = omega (arith, h)
some_phases n (inr h) = omega (arith, h)

reactive_most : (f : ReactiveRule) (load : Load) (point p q : ℤ) → LoadInRange load → IsPoint point
    → nat_abs p ≤ 3 * 10 ^ 14 → IsReactive f load point p q → nat_abs q ≤ 3 * 10 ^ 16
reactive_most rule.PowerFactor load point p q h k most is =
    root_small (nat_abs q) (nat_abs load.pf) (nat_abs p) (factor_least load.pf h.pf) most is.least
reactive_most rule.Kvar load point p q h k most is =
    let size = phase_most (unwrap_or load.kvar (pos 0)) point load.phases (power_or load.kvar h.kvar) k
    (some_phases load.phases h.phases) in
    subst (λ z. nat_abs z ≤ 3 * 10 ^ 16) (sym is) (omega (arith, size))

power_modest : (load : Load) (point : ℤ) → LoadInRange load → IsPoint point → IsModest (power_of load point)
power_modest load point h k =
    let is = is_load_power load point h.pf in
    let p = phase_most load.kw point load.phases h.kw k (some_phases load.phases h.phases) in
    let q = reactive_most load.reactive load point (power_of load point).p (power_of load point).q h k p is.q in
    record { p = omega (arith, p); q = omega (arith, q) }

-- ---- all loads

loads_in_range : (e : Element) → ElementInRange e → All LoadInRange (loads_in e)
loads_in_range (the.Load load) h = All-cons LoadInRange load [] h (All-nil LoadInRange)
loads_in_range e h = All-nil LoadInRange

module _ (es : Elements) (hour : ℕ) (within : All (λ (e : ElementName × Element). ElementInRange e.1) es) where
  loads_modest : (loads : List Load) → All LoadInRange loads
      → All IsModest (flat_map (λ (l : Load). replicate l.phases (power_of l (point_at es l hour))) loads)
  loads_modest [] h = All-nil IsModest
  loads_modest (l ∷ loads) h =
      All-append IsModest (replicate l.phases (power_of l (point_at es l hour))) _
      (All-replicate IsModest l.phases (power_of l (point_at es l hour))
      (power_modest l (point_at es l hour) (All-head LoadInRange l loads h) (point_within es within l hour)))
      (loads_modest loads (All-tail LoadInRange l loads h))

  all_modest : (rest : Elements) → All (λ (e : ElementName × Element). ElementInRange e.1) rest
      → All IsModest (flat_map (λ (e : ElementName × Element). element_powers es hour e.1) rest)
  all_modest [] h = All-nil IsModest
  all_modest (e ∷ rest) h =
      All-append IsModest (element_powers es hour e.1) _
      (loads_modest (loads_in e.1) (loads_in_range e.1 (All-head (λ (x : ElementName × Element). ElementInRange x.1) e rest h)))
      (all_modest rest (All-tail (λ (x : ElementName × Element). ElementInRange x.1) e rest h))

pub powers_modest : ModestLaw
powers_modest es hour h = all_modest es hour h es h

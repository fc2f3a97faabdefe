-- No two part loads of a circuit have their magnitude at one place.
use Rattle.std.proofs.Common.{◌≡◌, ◌≢◌, ◌∙◌, ℕ, zero, suc, ◌+◌, ◌*◌, ◌<◌, ◌≤◌, Bool, true, false, cond, eqb, if◌then◌else◌, List, [], ◌∷◌, ◌++◌, ◌⊎◌, length, slice_index, map, Some, None, arith, ap, refl, sym, subst, inl, inr, add-zero, zero-add}
use Rattle.std.specs.List.{flat_map}
use Rattle.std.proofs.lemmas.Bool.{cases_lt, ne_eqb}
use Rattle.fd_equations.specs.fd_exact.Sums.{list_n}
use Rattle.fd_equations.specs.fd_exact.SumLaws.{list_n-append}
use Rattle.dss_ready.specs.dss_model.declared.element.Element.{Element}
use Rattle.dss_ready.specs.dss_model.declared.element.Element.TheVariants as the
use Rattle.dss_ready.specs.dss_model.declared.load.Load.{Load}
use Rattle.dss_ready.specs.dss_model.declared.load.LoadKind.{LoadKind}
use Rattle.dss_ready.specs.dss_model.declared.load.LoadKind.TheVariants as kind
use Rattle.dss_ready.specs.dss_model.LoadKinds.{has_magnitude}
use Rattle.fd_devices.specs.fd_elements.declared.powers.LoadPower.{LoadPower}
use Rattle.fd_devices.specs.fd_elements.Loads.{parts_by, sole_model}
use Rattle.dss_ready.specs.dss_layout.Layout.{Elements, LayoutView, complex_count, ends_of, first_magnitude, layout_of, magnitude_phases, sums_before}
use Rattle.dss_ready.specs.fd_arith.declared.terms.NodeAt.{NodeAt}
use Rattle.fd_devices.specs.fd_system.declared.loads.LoadAt.{LoadAt}
use Rattle.fd_devices.specs.fd_system.System.{StampView}
use Rattle.fd_equations.specs.fd_pattern.Conditions.{AreApart, magnitude_count}
use Rattle.fd_devices.specs.fd_system.Contributions.{concat_below}
use Rattle.fd_equations.specs.fd_pattern.Terminals.{count_magnitude}
use Rattle.fd_devices.specs.Devices.{device_stamp, stamp_of_all}
use Rattle.fd_devices.specs.Scripted.{device_of, devices_from, part_at, power_at}
use Rattle.fd_devices.specs.Settings.{Settings, after, own}
use Rattle.fd_network.specs.Places.{AreMagnitudesFrom}

-- ---- a window

-- the magnitudes of part loads stand from lo on and before hi, each at a place of its own
pub record StandIn (lo hi : ℕ) (us : List LoadAt) : Type 0 where
  pub below : (l : ℕ) → l < lo → magnitude_count us l ≡ 0
  pub behind : (l : ℕ) → hi ≤ l → magnitude_count us l ≡ 0
  pub single : (l : ℕ) → magnitude_count us l ≤ 1

no_loads : (lo hi : ℕ) → StandIn lo hi []
no_loads lo hi = record { below = λ l h. refl; behind = λ l h. refl; single = λ l. omega arith }

joined_in : (a b c : ℕ) (us vs : List LoadAt) → a ≤ b → b ≤ c → StandIn a b us → StandIn b c vs → StandIn a c (us ++ vs)
joined_in a b c us vs h k p q = record {
  below = λ l m.
      let s = list_n-append (λ (u : LoadAt). count_magnitude l u.magnitude) us vs in
      let x = p.below l m in
      let y = q.below l (omega arith) in
      omega arith;
  behind = λ l m.
      let s = list_n-append (λ (u : LoadAt). count_magnitude l u.magnitude) us vs in
      let x = p.behind l (omega arith) in
      let y = q.behind l m in
      omega arith;
  single = λ l. one l (cases_lt l b);
}
  where
    one : (l : ℕ) → (l < b) ⊎ (b ≤ l) → magnitude_count (us ++ vs) l ≤ 1
    one l (inl m) = let s = list_n-append (λ (u : LoadAt). count_magnitude l u.magnitude) us vs in let x = p.single l in let y = q.below l m in omega arith
    one l (inr m) = let s = list_n-append (λ (u : LoadAt). count_magnitude l u.magnitude) us vs in let x = p.behind l m in let y = q.single l in omega arith

-- ---- the phases of a load

missed : (m l : ℕ) → m ≢ l → ◌≡◌ {A = ℕ} (cond (eqb m l) 1 0) 0
missed m l ne = ap (λ b. cond b 1 0) (ne_eqb m l ne)

at_most_one : (b : Bool) → ◌≤◌ (cond b 1 0) 1
at_most_one true = omega arith
at_most_one false = omega arith

one_in : (u : LoadAt) (m : ℕ) → u.magnitude ≡ Some m → StandIn m (m + 1) (u ∷ [])
one_in u m e = record {
  below = λ l h. let c = counted l ∙ missed m l (omega arith) in omega (arith, c);
  behind = λ l h. let c = counted l ∙ missed m l (omega arith) in omega (arith, c);
  single = λ l. let c = counted l in let k = at_most_one (eqb m l) in omega (arith, c, k);
}
  where
    counted : (l : ℕ) → ◌≡◌ {A = ℕ} (count_magnitude l u.magnitude) (cond (eqb m l) 1 0)
    counted l = ap (count_magnitude l) e

none_in : (u : LoadAt) (lo : ℕ) → u.magnitude ≡ None → StandIn lo lo (u ∷ [])
none_in u lo e = record {
  below = λ l m. let c = ap (count_magnitude l) e in omega (arith, c);
  behind = λ l m. let c = ap (count_magnitude l) e in omega (arith, c);
  single = λ l. let c = ap (count_magnitude l) e in omega (arith, c);
}

-- of three part loads the second one's
middle_in : (u v w : LoadAt) (m : ℕ) → u.magnitude ≡ None → v.magnitude ≡ Some m → w.magnitude ≡ None
    → StandIn m (m + 1) (u ∷ v ∷ w ∷ [])
middle_in u v w m first second third =
    joined_in m m (m + 1) (u ∷ []) (v ∷ w ∷ []) (omega arith) (omega arith) (none_in u m first)
    (joined_in m (m + 1) (m + 1) (v ∷ []) (w ∷ []) (omega arith) (omega arith) (one_in v m second) (none_in w (m + 1) third))

module _ (f : ℕ → List LoadAt) (first : ℕ) where
  with_places : ((k : ℕ) → StandIn (first + k) (first + k + 1) (f k)) → (n : ℕ) → StandIn first (first + n) (concat_below f n)
  with_places h zero = no_loads first (first + 0)
  with_places h (suc n) =
      let end : first + n + 1 ≡ first + suc n = omega arith in
      subst (λ b. StandIn first b (concat_below f n ++ f n)) end
      (joined_in first (first + n) (first + n + 1) (concat_below f n) (f n) (omega arith) (omega arith) (with_places h n) (h n))

  without : ((k : ℕ) → StandIn first first (f k)) → (n : ℕ) → StandIn first (first + 0) (concat_below f n)
  without h zero = no_loads first (first + 0)
  without h (suc n) =
      let end : first + 0 ≡ first = omega arith in
      joined_in first (first + 0) (first + 0) (concat_below f n) (f n) (omega arith) (omega arith) (without h n)
      (subst (λ b. StandIn b b (f n)) (sym end) (h n))

-- the part loads of the phases of a load of a kind
module _ (load : Load) (ns : List NodeAt) (first : ℕ) (powers : List LoadPower) where
  phases_in : (kind : LoadKind) (n : ℕ) → StandIn first (first + (if has_magnitude kind then n else 0))
      (concat_below (λ k. map (part_at load ns first k) (parts_by (sole_model kind) load (power_at powers k))) n)
  phases_in kind.ConstantPower n = without _ first (λ k. none_in _ first refl) n
  phases_in kind.ConstantImpedance n = without _ first (λ k. none_in _ first refl) n
  phases_in kind.ConstantCurrent n = with_places _ first (λ k. one_in _ (first + k) refl) n
  phases_in kind.Zip n = with_places _ first (λ k. middle_in _ _ _ (first + k) refl refl refl) n

-- ---- elements

-- the part loads of an element, of which the first magnitude stands at a place
element_in : (layout : LayoutView) (hertz place first : ℕ) (e : Element) (s : Settings)
    → first_magnitude layout place ≡ first
    → StandIn first (first + magnitude_phases e) (device_stamp (device_of layout hertz place e s)).loads
element_in layout hertz place first (the.Load l) s h =
    subst (λ m.
    StandIn m (m + magnitude_phases (the.Load l)) (device_stamp (device_of layout hertz place (the.Load l) s)).loads)
    h (phases_in l (ends_of layout place (the.Load l)).first (first_magnitude layout place) s.powers l.model l.phases)
element_in layout hertz place first e s h = no_loads first (first + 0)

elements_in : (layout : LayoutView) (hertz place first : ℕ) (es : Elements) (s : Settings)
    → AreMagnitudesFrom layout first place es
    → StandIn first (first + list_n (λ e. magnitude_phases e.1) es)
    (flat_map (λ (x : StampView). x.loads) (map device_stamp (devices_from layout hertz place es s)))
elements_in layout hertz place first [] s h = no_loads first (first + 0)
elements_in layout hertz place first (e ∷ es) s h =
    let m = magnitude_phases e.1 in
    let end : first + m + list_n (λ x. magnitude_phases x.1) es ≡ first + list_n (λ x. magnitude_phases x.1) (e ∷ es) = omega arith in
    subst (λ b. StandIn first b (flat_map (λ (x : StampView). x.loads) (map device_stamp (devices_from layout hertz place (e ∷ es) s)))) end
    (joined_in first (first + m) (first + m + list_n (λ x. magnitude_phases x.1) es) _ _ (omega arith) (omega arith)
    (element_in layout hertz place first e.1 (own e.1 s) h.0) (elements_in layout hertz (place + 1) (first + m) es (after e.1 s) h.1))

pub apart : (layout : LayoutView) (hertz first : ℕ) (es : Elements) (s : Settings)
    → AreMagnitudesFrom layout first 0 es → AreApart (stamp_of_all (devices_from layout hertz 0 es s)).loads
apart layout hertz first es s h = (elements_in layout hertz 0 first es s h).single

-- ---- the layout of a circuit

laid_from : (layout : LayoutView) (sum place : ℕ) (es : Elements)
    → ((k : ℕ) → k < length es
    → slice_index layout.magnitudes_before (place + k) ≡ slice_index (sums_before magnitude_phases sum es) k)
    → AreMagnitudesFrom layout (2 * complex_count layout + sum) place es
laid_from layout sum place [] h = tt
laid_from layout sum place (e ∷ es) h =
    let m = magnitude_phases e.1 in
    let end : 2 * complex_count layout + (sum + m) ≡ 2 * complex_count layout + sum + m = omega arith in (
      ap (λ n. 2 * complex_count layout + n) (ap (slice_index layout.magnitudes_before) (sym (add-zero place)) ∙ h 0 (omega arith)),
      subst (λ f. AreMagnitudesFrom layout f (place + 1) es) end (laid_from layout (sum + m) (place + 1) es (λ k l.
          let same : place + 1 + k ≡ place + suc k = omega arith in
          ap (slice_index layout.magnitudes_before) same ∙ h (suc k) (omega arith))),
    )

-- the magnitudes of all elements follow one another behind the complex unknowns
pub magnitudes_follow : (es : Elements) → AreMagnitudesFrom (layout_of es) (2 * complex_count (layout_of es)) 0 es
magnitudes_follow es =
    subst (λ f. AreMagnitudesFrom (layout_of es) f 0 es) (add-zero (2 * complex_count (layout_of es)))
    (laid_from (layout_of es) 0 0 es (λ k l. ap (slice_index (layout_of es).magnitudes_before) (zero-add k)))

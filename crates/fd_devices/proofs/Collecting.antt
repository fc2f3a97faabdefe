-- Devices one after another: what they add, and that it stays bounded.
use Rattle.std.proofs.Common.{◌≡◌, ◌∙◌, ℕ, suc, ◌+◌, ◌*◌, List, [], ◌∷◌, ◌++◌, length, length-append, map, arith, ap, sym, refl, subst}
use Rattle.std.specs.List.{flat_map}
use Rattle.std.proofs.lemmas.Grind.{flat_map-append}
use Rattle.std.proofs.lemmas.List.{append-nil, map-append}
use Rattle.std.proofs.lemmas.List.Elements.{All-nil, All-cons, All-append}
use Rattle.dss_layout.specs.fd_exact.Sums.{list_n}
use Rattle.dss_layout.specs.fd_exact.SumLaws.{list_n-append}
use Rattle.fd_xfmr.specs.fd_system.Contributions.{IsDivided, IsWithin}
use Rattle.fd_xfmr.specs.fd_system.System.{StampView, beside, joined}
use Rattle.fd_pattern.specs.Conditions.{IsKnown, IsServed}
use Rattle.dss_layout.specs.dss_model.declared.element.Element.{Element}
use Rattle.dss_layout.specs.dss_model.declared.names.ElementName.{ElementName}
use Rattle.dss_layout.specs.Layout.{Elements, LayoutView, branch_phases}
use Rattle.fd_devices.specs.Devices.{Device, IsGood, device_stamp, stamp_of_all}
use Rattle.fd_devices.specs.Settings.{Settings, after}
use Rattle.fd_devices.specs.Scripted.{devices_from}
use Rattle.fd_devices.specs.Building.{AreCollected, DeviceFits, IsBounded, IsInside, IsSettled}

-- ---- devices in order

pub devices_length : (layout : LayoutView) (hertz place : ℕ) (es : Elements) (s : Settings) → length (devices_from layout hertz place es s) ≡ length es
devices_length layout hertz place [] s = refl
devices_length layout hertz place (e ∷ es) s = ap suc (devices_length layout hertz (place + 1) es (after e.1 s))

-- ---- sums over lists

pub list_n-more : {A : Type 0} (f : A → ℕ) (xs : List A) (x : A) → list_n f (xs ++ x ∷ []) ≡ list_n f xs + f x
list_n-more f xs x = let all = list_n-append f xs (x ∷ []) in omega arith

-- ---- one device more

one_more : {A B : Type 0} (f : A → List B) (xs : List A) (x : A) → flat_map f (xs ++ x ∷ []) ≡ flat_map f xs ++ f x
one_more f xs x = flat_map-append f xs (x ∷ []) ∙ ap (λ r. flat_map f xs ++ r) (append-nil (f x))

joined_more : (ss : List StampView) (s : StampView) → joined (ss ++ s ∷ []) ≡ beside (joined ss) s
joined_more ss s =
    let c = one_more (λ (x : StampView). x.constants) ss s in
    let t = one_more (λ (x : StampView). x.terms) ss s in
    let l = one_more (λ (x : StampView). x.loads) ss s in
    let d = list_n-more (λ (x : StampView). x.draw) ss s in
    λ i. record { constants = c i; terms = t i; loads = l i; draw = d i }

pub stamp_more : (ds : List Device) (d : Device) → stamp_of_all (ds ++ d ∷ []) ≡ beside (stamp_of_all ds) (device_stamp d)
stamp_more ds d = ap joined (map-append device_stamp ds (d ∷ [])) ∙ joined_more (map device_stamp ds) (device_stamp d)

pub bounded_more : (nodes n size m k b c : ℕ) (a p : StampView) → IsBounded nodes n size m b a
    → IsBounded nodes n size k c p → IsBounded nodes n size (m + k) (b + c) (beside a p)
bounded_more nodes n size m k b c a p h g =
    let terms = length-append a.terms p.terms in
    let constants = length-append a.constants p.constants in
    let few = h.terms.few in
    let few' = g.terms.few in
    let loads = length-append a.loads p.loads in
    let served = h.few_loads in
    let served' = g.few_loads in
    let known = h.few_constants in
    let known' = g.few_constants in
    let draw = h.draw in
    let draw' = g.draw in
    record {
      terms = record {
        inside = All-append (IsInside n) a.terms p.terms h.terms.inside g.terms.inside;
        divided = All-append IsDivided a.terms p.terms h.terms.divided g.terms.divided;
        within = All-append IsWithin a.terms p.terms h.terms.within g.terms.within;
        few = omega arith;
      };
      constants = All-append (IsKnown (2 * n)) a.constants p.constants h.constants g.constants;
      few_constants = omega arith;
      loads = All-append (IsServed nodes n size) a.loads p.loads h.loads g.loads;
      few_loads = omega arith;
      draw = omega arith;
    }

-- one element and its device more
pub collected_more : (nodes n size : ℕ) (es : Elements) (e : ElementName × Element) (ds : List Device) (d : Device)
    (a p b : StampView)
    → AreCollected nodes n size es ds a → IsSettled nodes n size (branch_phases e.1) d → p ≡ device_stamp d
    → b ≡ beside a p → AreCollected nodes n size (es ++ e ∷ []) (ds ++ d ∷ []) b
collected_more nodes n size es e ds d a p b h s pe be =
    let more : b ≡ beside a (device_stamp d) = be ∙ ap (beside a) pe in
    let count : length (es ++ e ∷ []) ≡ length es + 1 = length-append es (e ∷ []) in
    let branches = list_n-more (λ (x : ElementName × Element). branch_phases x.1) es e in
    let bounded =
    bounded_more nodes n size (length es) 1 (list_n (λ (x : ElementName × Element). branch_phases x.1) es)
    (branch_phases e.1) a (device_stamp d) h.bounded s.bounded in
    record {
      stamp = more ∙ ap (λ x. beside x (device_stamp d)) h.stamp ∙ sym (stamp_more ds d);
      fits = All-append DeviceFits ds (d ∷ []) h.fits (All-cons DeviceFits d [] s.fits (All-nil DeviceFits));
      good = All-append IsGood ds (d ∷ []) h.good (All-cons IsGood d [] s.good (All-nil IsGood));
      bounded = subst (IsBounded nodes n size (length (es ++ e ∷ []))
          (list_n (λ (x : ElementName × Element). branch_phases x.1) (es ++ e ∷ [])))
          (sym more) (subst (λ m. IsBounded nodes n size m (list_n (λ (x : ElementName × Element).
          branch_phases x.1) (es ++ e ∷ [])) (beside a (device_stamp d))) (sym count)
          (subst (λ m. IsBounded nodes n size (length es + 1) m (beside a (device_stamp d))) (sym branches) bounded));
    }

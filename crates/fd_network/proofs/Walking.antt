-- What is kept of the first elements.
use Rattle.std.proofs.Common.{◌≡◌, ◌∙◌, ℕ, zero, suc, ◌+◌, ◌<◌, List, [], ◌∷◌, ◌++◌, ◌⊎◌, inl, inr, length, length-append, slice_get, get_or, take, drop, Some, arith, ap, refl, sym, subst}
use Rattle.std.specs.List.{All, flat_map}
use Rattle.std.proofs.lemmas.List.{append-nil}
use Rattle.std.proofs.lemmas.List.Concat.{flat_map-append}
use Rattle.std.proofs.lemmas.List.Elements.{All-head, All-tail}
use Rattle.std.proofs.lemmas.Option.{slice_get-get_or}
use Rattle.dss_ready.specs.dss_model.declared.element.Element.{Element}
use Rattle.dss_ready.specs.dss_model.declared.names.ElementName.{ElementName}
use Rattle.dss_ready.specs.dss_layout.Layout.{Elements, LayoutView}
use Rattle.dss_ready.proofs.CallerLemmas.dss_layout.{take-more}
use Rattle.fd_devices.specs.declared.kept.Kept.{Kept}
use Rattle.fd_devices.specs.Devices.{Device}
use Rattle.fd_devices.specs.Kept.{IsKeptOf}
use Rattle.fd_devices.specs.Reach.{device_places}
use Rattle.fd_network.proofs.Taking.{here_from}

-- what is kept of the first n elements
pub record AreKeptTo (layout : LayoutView) (hertz : ℕ) (es : Elements) (n : ℕ) (ks : List Kept) : Type 0 where
  pub count : length ks ≡ n
  pub each : (k : ℕ) (e : ElementName × Element) (x : Kept) → slice_get es k ≡ Some e → slice_get ks k ≡ Some x → IsKeptOf layout hertz k e.1 x

-- what stands in a list with one more
either_part : {A : Type 0} (xs : List A) (x y : A) (k : ℕ) → slice_get (xs ++ x ∷ []) k ≡ Some y → (slice_get xs k ≡ Some y) ⊎ ((k ≡ length xs) × (y ≡ x))
either_part [] x y zero h = inr (refl, cc)
either_part [] x y (suc k) h = cc
either_part (z ∷ xs) x y zero h = inl h
either_part (z ∷ xs) x y (suc k) h = by (either_part xs x y k h)
  where
    by : (slice_get xs k ≡ Some y) ⊎ ((k ≡ length xs) × (y ≡ x)) → (slice_get (z ∷ xs) (suc k) ≡ Some y) ⊎ ((suc k ≡ length (z ∷ xs)) × (y ≡ x))
    by (inl g) = inl g
    by (inr g) = inr (ap suc g.0, g.1)

some_same : {A : Type 0} (x y : A) → Some x ≡ Some y → x ≡ y
some_same x y h = cc

-- what holds of all holds of what stands at a place
pub at_place : {A : Type 0} (P : A → Type 0) (xs : List A) (k : ℕ) (x : A) → slice_get xs k ≡ Some x → All P xs → P x
at_place P [] k x h all = cc
at_place P (y ∷ ys) zero x h all = subst P (some_same y x h) (All-head P y ys all)
at_place P (y ∷ ys) (suc k) x h all = at_place P ys k x h (All-tail P y ys all)

-- what an index gives stands there
pub stands_at : {A : Type 0} (xs : List A) (k : ℕ) (x : A) → k < length xs → x ≡ get_or xs k x → slice_get xs k ≡ Some x
stands_at xs k x l e = slice_get-get_or xs k x l ∙ ap Some (sym e)

-- the places that one more device reaches
pub places_more : (ds : List Device) (k : ℕ) (d : Device) (rest : List Device) (ps : List (ℕ × ℕ))
    → drop k ds ≡ d ∷ rest → ps ≡ flat_map device_places (take k ds)
    → ps ++ device_places d ≡ flat_map device_places (take (k + 1) ds)
places_more ds k d rest ps h e =
    let one = append-nil (device_places d) in
    let more = ap (flat_map device_places) (take-more ds k d (here_from ds k d rest h)) ∙ flat_map-append device_places (take k ds) (d ∷ []) in
    sym (more ∙ (λ i. sym e i ++ one i))

module _ (layout : LayoutView) (hertz : ℕ) (es : Elements) where
  pub kept_next : (n : ℕ) (ks : List Kept) (e : ElementName × Element) (x : Kept) → AreKeptTo layout hertz es n ks
      → slice_get es n ≡ Some e → IsKeptOf layout hertz n e.1 x → AreKeptTo layout hertz es (n + 1) (ks ++ x ∷ [])
  kept_next n ks e x h here k = record {
    count = omega (arith, h.count, length-append ks (x ∷ []));
    each = λ m d y at there. by m d y at (either_part ks x y m there);
  }
    where
      by : (m : ℕ) (d : ElementName × Element) (y : Kept) → slice_get es m ≡ Some d
          → (slice_get ks m ≡ Some y) ⊎ ((m ≡ length ks) × (y ≡ x)) → IsKeptOf layout hertz m d.1 y
      by m d y at (inl g) = h.each m d y at g
      by m d y at (inr g) =
          let same : m ≡ n = g.0 ∙ h.count in
          let d_is : d ≡ e = some_same d e (sym at ∙ ap (slice_get es) same ∙ here) in
          subst (λ q. IsKeptOf layout hertz q d.1 y) (sym same)
          (subst (λ q. IsKeptOf layout hertz n q.1 y) (sym d_is) (subst (IsKeptOf layout hertz n e.1) (sym g.1) k))

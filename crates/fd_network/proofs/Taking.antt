-- Elements taken one after another, each with its own settings.
use Rattle.std.proofs.Common.{◌≡◌, ◌∙◌, ℕ, suc, ◌+◌, ◌≤◌, List, ◌∷◌, length, length-drop, drop, slice_get, Some, add-zero, arith, ap, sym, subst}
use Rattle.std.proofs.lemmas.List.{length-take-le}
use Rattle.std.proofs.lemmas.List.Elements.{All-drop, All-take}
use Rattle.dss_ready.specs.dss_model.declared.element.Element.{Element}
use Rattle.dss_ready.specs.dss_model.declared.names.ElementName.{ElementName}
use Rattle.dss_ready.specs.dss_layout.Layout.{Elements, LayoutView}
use Rattle.dss_ready.proofs.CallerLemmas.dss_layout.{drop-more}
use Rattle.fd_devices.specs.fd_xfmr.Leakage.{AreTaps}
use Rattle.fd_devices.specs.Building.{IsModest}
use Rattle.fd_devices.specs.Devices.{Device}
use Rattle.fd_devices.specs.Scripted.{device_of, devices_from}
use Rattle.fd_devices.specs.Settings.{AreOwn, AreSettings, HasOwn, Settings, after, bank_count, own, power_count, tap_count}
use Rattle.fd_devices.proofs.CallerLemmas.{first_left}
use Rattle.fd_devices.specs.Standing.{HasPlace}
use Rattle.fd_network.specs.Collecting.{AreTakenFrom, IsTakenAt}

-- ---- the first of the rest

-- as many are there as one element and the others have
counted : {A : Type 0} (xs : List A) (own others : ℕ) → length xs ≡ own + others → (own ≤ length xs) × (length (drop own xs) ≡ others)
counted xs own others h = let left = length-drop own xs in (omega arith, omega arith)

-- of the settings of elements those of the first, and those of the others
pub settings_first : (e : ElementName × Element) (es : Elements) (s : Settings) → AreSettings (e ∷ es) s → HasOwn e.1 s
settings_first e es s h = record {
  taps = (counted s.taps (tap_count e.1) _ h.taps).0;
  closed = (counted s.closed (bank_count e.1) _ h.closed).0;
  powers = (counted s.powers (power_count e.1) _ h.powers).0;
}

pub settings_rest : (e : ElementName × Element) (es : Elements) (s : Settings) → AreSettings (e ∷ es) s → AreSettings es (after e.1 s)
settings_rest e es s h = record {
  taps = (counted s.taps (tap_count e.1) _ h.taps).1;
  closed = (counted s.closed (bank_count e.1) _ h.closed).1;
  powers = (counted s.powers (power_count e.1) _ h.powers).1;
}

pub first_taken : (layout : LayoutView) (hertz place : ℕ) (e : ElementName × Element) (es : Elements) (s : Settings)
    → AreTakenFrom layout hertz place (e ∷ es) s → IsTakenAt layout hertz place e.1 s
first_taken layout hertz place e es s h = record {
  frequency = h.frequency;
  known = subst (HasPlace layout) (add-zero place) (h.places 0 (omega arith));
  ready = h.ready.0;
  own = settings_first e es s h.settings;
  within = h.within;
  modest = h.modest;
}

-- its own settings
pub own_settings : (layout : LayoutView) (hertz place : ℕ) (e : Element) (s : Settings) → IsTakenAt layout hertz place e s → AreOwn e (own e s)
own_settings layout hertz place e s h = record {
  taps = length-take-le (tap_count e) s.taps h.own.taps;
  closed = length-take-le (bank_count e) s.closed h.own.closed;
  powers = length-take-le (power_count e) s.powers h.own.powers;
  within = All-take AreTaps (tap_count e) s.taps h.within;
}

pub rest_taken : (layout : LayoutView) (hertz place : ℕ) (e : ElementName × Element) (es : Elements) (s : Settings)
    → AreTakenFrom layout hertz place (e ∷ es) s → AreTakenFrom layout hertz (place + 1) es (after e.1 s)
rest_taken layout hertz place e es s h = record {
  frequency = h.frequency;
  places = λ k low. let at : place + suc k ≡ place + 1 + k = omega arith in subst (HasPlace layout) at (h.places (suc k) (omega arith));
  ready = h.ready.1;
  settings = settings_rest e es s h.settings;
  within = All-drop AreTaps (tap_count e.1) s.taps h.within;
  modest = All-drop IsModest (power_count e.1) s.powers h.modest;
}

-- ---- a walk over all

-- the elements from a place on are taken with the settings that are left, and their devices are the rest of all devices
pub record IsAt (layout : LayoutView) (hertz : ℕ) (es : Elements) (ds : List Device) (place : ℕ) (left : Settings) : Type 0 where
  pub taken : AreTakenFrom layout hertz place (drop place es) left
  pub rest : devices_from layout hertz place (drop place es) left ≡ drop place ds

-- what stands at a place from which on the rest is known
pub here_from : {A : Type 0} (xs : List A) (k : ℕ) (x : A) (rest : List A) → drop k xs ≡ x ∷ rest → slice_get xs k ≡ Some x
here_from xs k x rest h = sym (first_left xs k) ∙ ap (λ ys. slice_get ys 0) h

module _ (layout : LayoutView) (hertz : ℕ) (es : Elements) (ds : List Device) (place : ℕ) (left : Settings)
    (e : ElementName × Element) (here : slice_get es place ≡ Some e) (at : IsAt layout hertz es ds place left) where
  taken_here : AreTakenFrom layout hertz place (e ∷ drop (place + 1) es) left
  taken_here = subst (λ r. AreTakenFrom layout hertz place r left) (drop-more es place e here) at.taken

  -- the element at the place is taken
  pub taken_at : IsTakenAt layout hertz place e.1 left
  taken_at = first_taken layout hertz place e (drop (place + 1) es) left taken_here

  -- its device is the next
  pub device_next : drop place ds
      ≡ device_of layout hertz place e.1 (own e.1 left)
      ∷ devices_from layout hertz (place + 1) (drop (place + 1) es) (after e.1 left)
  device_next = sym at.rest ∙ ap (λ r. devices_from layout hertz place r left) (drop-more es place e here)

  -- and the walk goes on
  pub next_at : IsAt layout hertz es ds (place + 1) (after e.1 left)
  next_at = record {
    taken = rest_taken layout hertz place e (drop (place + 1) es) left taken_here;
    rest = ap (drop 1) (sym device_next ∙ drop-more ds place _ (here_from ds place _ _ device_next));
  }

-- a walk begins
pub begun_at : (layout : LayoutView) (hertz : ℕ) (es : Elements) (s left : Settings) → left ≡ s
    → AreTakenFrom layout hertz 0 es s → IsAt layout hertz es (devices_from layout hertz 0 es s) 0 left
begun_at layout hertz es s left e h =
    subst (IsAt layout hertz es (devices_from layout hertz 0 es s) 0) (sym e)
    (record { taken = h; rest = λ i. devices_from layout hertz 0 es s })

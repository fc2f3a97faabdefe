-- The positions with which a Solve starts: what the script set since the Solve before, and else those of before.
use Rattle.std.specs.Prelude.{◌≡◌, ℕ, ◌+◌, ◌==◌, Bool, List, [], ◌∷◌, ◌++◌, drop, map, slice_get, All, Option, Some, None, if◌then◌else◌}
use Rattle.fd_devices.specs.fd_arith.declared.terms.TapPair.{TapPair}
use Rattle.fd_devices.specs.dss_model.declared.transformer.Transformer.{Transformer}
use Rattle.fd_devices.specs.dss_model.declared.transformer.Winding.{Winding}
use Rattle.fd_devices.specs.dss_model.declared.capacitor.Capacitor.{Capacitor}
use Rattle.fd_devices.specs.dss_model.declared.element.Element.{Element}
use Rattle.fd_devices.specs.dss_model.InRange.{ElementInRange}
use Rattle.fd_devices.specs.dss_layout.Layout.{Elements}
use Rattle.fd_devices.specs.fd_xfmr.Leakage.{AreTaps}
use Rattle.fd_devices.specs.Kinds.{banks_in, transformers_in}
use Rattle.fd_devices.specs.Settings.{AreSettings, Settings, bank_count, tap_count}
use Rattle.fd_settings.specs.Snapshot.{is_closed, snapshot_of}

-- ---- one element

-- it was set since the Solve before: when it was set, there were as many Solves as now without the one that starts
abbrev pub is_set : ℕ → ℕ → Bool
is_set solves set_at = set_at + 1 == solves

-- the tap of a winding, which had this tap before
abbrev pub next_tap : ℕ → Winding → ℕ → ℕ
next_tap solves winding before = if is_set solves winding.set_at then winding.tap else before

-- the taps of a transformer, which had these taps before, if it was there
abbrev pub next_pair : ℕ → Transformer → Option TapPair → TapPair
next_pair solves t None = record { first = t.first.tap; second = t.second.tap }
next_pair solves t (Some before) = record { first = next_tap solves t.first before.first; second = next_tap solves t.second before.second }

-- whether a bank is closed, which was so before, if it was there
abbrev pub next_state : ℕ → Capacitor → Option Bool → Bool
next_state solves bank None = is_closed bank.states
next_state solves bank (Some before) = if is_set solves bank.set_at then is_closed bank.states else before

abbrev pub next_taps_of : ℕ → Element → Option TapPair → List TapPair
next_taps_of solves e before = map (λ (t : Transformer). next_pair solves t before) (transformers_in e)

abbrev pub next_closed_of : ℕ → Element → Option Bool → List Bool
next_closed_of solves e before = map (λ (bank : Capacitor). next_state solves bank before) (banks_in e)

-- ---- all elements in order

-- what f gives for each element and the first of those of before that are left; an element takes as many of them as count says
abbrev pub in_order : {A : Type 0} → (Element → Option A → List A) → (Element → ℕ) → Elements → List A → List A
in_order f count [] before = []
in_order f count (e ∷ es) before = f e.1 (slice_get before 0) ++ in_order f count es (drop (count e.1) before)

abbrev pub next_taps : ℕ → Elements → List TapPair → List TapPair
next_taps solves elements before = in_order (next_taps_of solves) tap_count elements before

abbrev pub next_closed : ℕ → Elements → List Bool → List Bool
next_closed solves elements before = in_order (next_closed_of solves) bank_count elements before

-- these positions, with the powers of a snapshot
abbrev pub next_settings : ℕ → Elements → List TapPair → List Bool → Settings
next_settings solves elements taps closed = record {
  taps = next_taps solves elements taps;
  closed = next_closed solves elements closed;
  powers = (snapshot_of elements).powers;
}

-- there are as many of each kind as the elements have; where the elements and the taps of before are in range, so are the taps; and
-- where nothing was before, they are those of the script
pub record AreNext (solves : ℕ) (elements : Elements) (taps : List TapPair) (closed : List Bool) : Type 0 where
  pub counts : AreSettings elements (next_settings solves elements taps closed)
  pub within : All (λ e. ElementInRange e.1) elements → All AreTaps taps → All AreTaps (next_taps solves elements taps)
  pub script : next_settings solves elements [] [] ≡ snapshot_of elements

abbrev pub NextLaw : Type 0
NextLaw = (solves : ℕ) (elements : Elements) (taps : List TapPair) (closed : List Bool) → AreNext solves elements taps closed

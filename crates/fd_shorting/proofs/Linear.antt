-- The circuit of a short circuit has no load, so its equations are linear.
use Rattle.std.proofs.Common.{◌≡◌, ◌∙◌, ℕ, ◌+◌, Bool, true, false, ◌&&◌, cond, List, [], ◌∷◌, ◌++◌, All, refl, sym, ap}
use Rattle.std.proofs.Common.{subst}
use Rattle.std.specs.List.{list_all}
use Rattle.std.proofs.lemmas.List.Elements.{All-nil}
use Rattle.fd_fault.specs.dss_model.declared.element.Element.{Element}
use Rattle.fd_fault.specs.dss_model.declared.element.Element.TheVariants as the
use Rattle.fd_fault.specs.dss_circuit.Circuit.{CircuitView, Elements}
use Rattle.fd_fault.specs.dss_layout.Layout.{LayoutView, layout_of}
use Rattle.fd_fault.specs.declared.kind.Kind.{Kind}
use Rattle.fd_fault.specs.FaultCircuit.{fault_circuit_of, fault_elements, fault_entry, stays, stripped}
use Rattle.fd_solving.specs.fd_devices.Devices.{device_stamp, stamp_of_all}
use Rattle.fd_solving.specs.fd_devices.Scripted.{device_of, devices_from}
use Rattle.fd_solving.specs.fd_devices.Settings.{Settings, after, own}
use Rattle.fd_solving.specs.fd_enclosure.Encloses.{IsImpedance}
use Rattle.fd_solving.specs.fd_queue.Controls.{Positions}
use Rattle.fd_solving.specs.fd_settings.Hours.{hour_powers}
use Rattle.fd_solving.specs.fd_settle.Plant.{network_at, settings_at}
use Rattle.fd_solving.specs.fd_system.declared.loads.LoadAt.{LoadAt}
use Rattle.fd_solving.specs.Headline.{IsLinear}
use Rattle.fd_shorting.specs.Shorting.{snapshot}

abbrev all_stay : Elements → Bool
all_stay es = list_all (λ e. stays e.1) es

first_of : (a b : Bool) → a && b ≡ true → a ≡ true
first_of true b h = refl
first_of false b h = absurd (cc h)

second_of : (a b : Bool) → a && b ≡ true → b ≡ true
second_of true b h = h
second_of false b h = absurd (cc h)

-- what stays, with the line, stays
line_stays : (es : Elements) (bus : List ℕ) (kind : Kind) (k : ℕ) → all_stay (fault_elements es bus kind k) ≡ true
line_stays [] bus kind k = refl
line_stays (e ∷ es) bus kind k = by (stays e.1) refl (line_stays es bus kind k)
  where
    by : (b : Bool) → stays e.1 ≡ b → all_stay (fault_elements es bus kind k) ≡ true
        → all_stay (cond b (e ∷ stripped es) (stripped es) ++ fault_entry bus kind k ∷ []) ≡ true
    by true t rest = ap (λ (b : Bool). b && all_stay (fault_elements es bus kind k)) t ∙ rest
    by false t rest = rest

-- an element that stays draws as no load does
unloaded : (layout : LayoutView) (hertz place : ℕ) (e : Element) (s : Settings) → stays e ≡ true
    → (device_stamp (device_of layout hertz place e s)).loads ≡ []
unloaded layout hertz place (the.Vsource x) s h = refl
unloaded layout hertz place (the.Linecode x) s h = refl
unloaded layout hertz place (the.Line x) s h = refl
unloaded layout hertz place (the.Transformer x) s h = refl
unloaded layout hertz place (the.Loadshape x) s h = refl
unloaded layout hertz place (the.Capacitor x) s h = absurd (cc h)
unloaded layout hertz place (the.Load x) s h = absurd (cc h)
unloaded layout hertz place (the.RegControl x) s h = absurd (cc h)
unloaded layout hertz place (the.CapControl x) s h = absurd (cc h)

none_loaded : (layout : LayoutView) (hertz place : ℕ) (es : Elements) (s : Settings) → all_stay es ≡ true
    → (stamp_of_all (devices_from layout hertz place es s)).loads ≡ []
none_loaded layout hertz place [] s h = refl
none_loaded layout hertz place (e ∷ es) s h =
    let here = unloaded layout hertz place e.1 (own e.1 s) (first_of (stays e.1) (all_stay es) h) in
    let rest = none_loaded layout hertz (place + 1) es (after e.1 s) (second_of (stays e.1) (all_stay es) h) in
    λ i. here i ++ rest i

pub is_linear : (c : CircuitView) (bus : List ℕ) (kind : Kind) (k hour : ℕ) (at : Positions)
    → IsLinear (snapshot (fault_circuit_of c bus kind k)) hour at
unfolding network_at
is_linear c bus kind k hour at =
    let d = snapshot (fault_circuit_of c bus kind k) in
    let none = none_loaded (layout_of d.elements) d.options.defaultbasefrequency 0 d.elements
    (settings_at (hour_powers d.elements hour) at) (line_stays c.elements bus kind k) in
    subst (λ (us : List LoadAt). All IsImpedance us) (sym none) (All-nil IsImpedance)

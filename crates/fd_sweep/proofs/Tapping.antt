-- The taps of each Transformer are in range, where all are.
use Rattle.std.proofs.Common.{◌≡◌, zero, suc, ◌≤◌, List, [], ◌∷◌, length, length-drop, drop, Some, None, All, subst, arith}
use Rattle.std.proofs.lemmas.List.Elements.{All-drop}
use Rattle.fd_network.specs.fd_exact.Sums.{list_n}
use Rattle.fd_network.specs.dss_model.declared.element.Element.{Element}
use Rattle.fd_network.specs.dss_model.declared.element.Element.TheVariants as the
use Rattle.fd_network.specs.dss_model.declared.names.ElementName.{ElementName}
use Rattle.fd_network.specs.dss_circuit.Circuit.{Elements}
use Rattle.fd_network.specs.fd_xfmr.Leakage.{AreTaps}
use Rattle.fd_network.specs.fd_devices.Scripted.{first_taps}
use Rattle.fd_network.specs.fd_devices.Settings.{tap_count}
use Rattle.fd_series.specs.fd_rungs.fd_arith.declared.terms.TapPair.{TapPair}
use Rattle.fd_sweep.specs.Ladders.{AreTapped, IsTapped, taps_from}

-- an element has taps of its own among these
tapped_here : (e : Element) (taps : List TapPair) → tap_count e ≤ length taps → All AreTaps taps → IsTapped e (first_taps taps)
tapped_here (the.Vsource v) taps own within = tt
tapped_here (the.Linecode l) taps own within = tt
tapped_here (the.Line l) taps own within = tt
tapped_here (the.Transformer t) taps own within = within 0 (record { first = 0; second = 0 }) (omega (arith, own))
tapped_here (the.Capacitor c) taps own within = tt
tapped_here (the.Load l) taps own within = tt
tapped_here (the.RegControl c) taps own within = tt
tapped_here (the.CapControl c) taps own within = tt
tapped_here (the.Loadshape s) taps own within = tt

-- there are as many taps as these elements have
pub all_tapped : (es : Elements) (taps : List TapPair) → length taps ≡ list_n (λ (e : ElementName × Element). tap_count e.1) es
    → All AreTaps taps → AreTapped es (taps_from es taps)
all_tapped [] taps count within k e at = absurd (let no : None ≡ Some e = at in cc)
all_tapped (x ∷ es) taps count within zero e at =
    let same : x ≡ e = cc in
    subst (λ (y : ElementName × Element). IsTapped y.1 (first_taps taps)) same (tapped_here x.1 taps (omega (arith, count)) within)
all_tapped (x ∷ es) taps count within (suc k) e at =
    all_tapped es (drop (tap_count x.1) taps) (omega (arith, count, length-drop (tap_count x.1) taps)) (All-drop AreTaps (tap_count x.1) taps within) k e at

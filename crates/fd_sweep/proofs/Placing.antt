-- The elements up to a place in order, by their taps and their shunts.
use Rattle.std.proofs.Common.{◌≡◌, ◌∙◌, ℕ, ◌+◌, Bool, List, [], ◌∷◌, ◌++◌, drop, slice_get, Some, ap, sym, append_assoc}
use Rattle.fd_network.specs.dss_model.declared.element.Element.{Element}
use Rattle.fd_network.specs.dss_model.declared.names.ElementName.{ElementName}
use Rattle.fd_network.specs.dss_circuit.Circuit.{Elements}
use Rattle.fd_network.specs.dss_layout.Layout.{LayoutView}
use Rattle.fd_network.specs.fd_devices.Scripted.{first_state, first_taps}
use Rattle.fd_network.specs.fd_devices.Settings.{bank_count, tap_count}
use Rattle.fd_network.proofs.CallerLemmas.dss_layout.{drop-more}
use Rattle.fd_series.specs.fd_rungs.fd_arith.declared.terms.TapPair.{TapPair}
use Rattle.fd_series.specs.fd_rungs.declared.branch.Shunt.{Shunt}
use Rattle.fd_sweep.specs.Ladders.{shunts_from, shunts_of, taps_from}

-- the taps of one more element
pub taps_next : (es : Elements) (k : ℕ) (e : ElementName × Element) (made more left rest all : List TapPair)
    → slice_get es k ≡ Some e → more ≡ made ++ first_taps left ∷ [] → rest ≡ drop (tap_count e.1) left
    → made ++ taps_from (drop k es) left ≡ all → more ++ taps_from (drop (k + 1) es) rest ≡ all
taps_next es k e made more left rest all at pushed moved so_far =
    ap (λ m. m ++ taps_from (drop (k + 1) es) rest) pushed
    ∙ ap (λ l. (made ++ first_taps left ∷ []) ++ taps_from (drop (k + 1) es) l) moved
    ∙ append_assoc made (first_taps left ∷ []) (taps_from (drop (k + 1) es) (drop (tap_count e.1) left))
    ∙ ap (λ xs. made ++ taps_from xs left) (sym (drop-more es k e at))
    ∙ so_far

-- the shunts of one more element
pub shunts_next : (layout : LayoutView) (hertz : ℕ) (es : Elements) (k : ℕ) (e : ElementName × Element) (made more all : List Shunt)
    (left rest : List Bool) → slice_get es k ≡ Some e → more ≡ made ++ shunts_of layout hertz k e.1 (first_state left)
    → rest ≡ drop (bank_count e.1) left → made ++ shunts_from layout hertz k (drop k es) left ≡ all
    → more ++ shunts_from layout hertz (k + 1) (drop (k + 1) es) rest ≡ all
shunts_next layout hertz es k e made more all left rest at pushed moved so_far =
    let now : List Shunt = shunts_of layout hertz k e.1 (first_state left) in
    ap (λ m. m ++ shunts_from layout hertz (k + 1) (drop (k + 1) es) rest) pushed
    ∙ ap (λ l. (made ++ now) ++ shunts_from layout hertz (k + 1) (drop (k + 1) es) l) moved
    ∙ append_assoc made now (shunts_from layout hertz (k + 1) (drop (k + 1) es) (drop (bank_count e.1) left))
    ∙ ap (λ xs. made ++ shunts_from layout hertz k xs left) (sym (drop-more es k e at))
    ∙ so_far

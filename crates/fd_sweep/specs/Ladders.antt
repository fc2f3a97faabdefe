-- The ladder of a circuit at its positions: the rungs of the elements in the order of a radial circuit, seen from the
-- source, and the shunts of all elements.
use Rattle.std.specs.Prelude.{◌≡◌, ℕ, ◌+◌, Bool, true, false, List, [], ◌∷◌, ◌++◌, drop, get_or, length, set, slice_get, replicate, Option, Some, None}
use Rattle.std.specs.List.{fold, list_all}
use Rattle.std.specs.Option.{option_map}
use Rattle.fd_network.specs.dss_layout.Layout.{Elements, LayoutView, ends_of, layout_of}
use Rattle.fd_network.specs.dss_model.declared.element.Element.{Element}
use Rattle.fd_network.specs.dss_model.declared.element.Element.TheVariants as the
use Rattle.fd_network.specs.dss_model.declared.names.ElementName.{ElementName}
use Rattle.fd_network.specs.dss_circuit.Circuit.{CircuitView}
use Rattle.fd_network.specs.fd_devices.Data.{cap_data_of, xfmr_data_of}
use Rattle.fd_network.specs.fd_devices.Scripted.{first_state, first_taps}
use Rattle.fd_network.specs.fd_devices.Settings.{bank_count, tap_count}
use Rattle.fd_network.specs.fd_devices.declared.settings.Positions.{Positions}
use Rattle.fd_network.specs.fd_xfmr.Leakage.{AreTaps}
use Rattle.fd_ladder.specs.Radial.{order_of}
use Rattle.fd_series.specs.fd_rungs.declared.branch.Branch.{Branch}
use Rattle.fd_series.specs.fd_rungs.declared.branch.Shunt.{Shunt}
use Rattle.fd_series.specs.fd_rungs.Elements.{bank_shunts, transformer_branches}
use Rattle.fd_series.specs.fd_rungs.Sweeps.{LadderView}
use Rattle.fd_series.specs.fd_rungs.fd_arith.declared.terms.NodeAt.{NodeAt}
use Rattle.fd_series.specs.fd_rungs.fd_arith.declared.terms.NodeAt.TheVariants.{Ground, Node}
use Rattle.fd_series.specs.fd_rungs.fd_arith.declared.terms.TapPair.{TapPair}
use Rattle.fd_series.specs.Scripted.{scripted_charges, scripted_line, scripted_source}

-- ---- which nodes are reached

-- a node is reached, where these are
abbrev pub is_reached : List Bool → NodeAt → Bool
is_reached reached Ground = true
is_reached reached (Node k) = get_or reached k false

abbrev pub with_outer : List Bool → Branch → List Bool
with_outer reached b = by b.outer
  where
    by : NodeAt → List Bool
    by Ground = reached
    by (Node k) = set reached k true

-- the outer nodes of branches are reached too
abbrev pub reached_by : List Branch → List Bool → List Bool
reached_by bs reached = fold with_outer reached bs

-- ---- rungs

-- the taps that an element would take, if it is a Transformer
abbrev pub taps_from : Elements → List TapPair → List TapPair
taps_from [] taps = []
taps_from (e ∷ es) taps = first_taps taps ∷ taps_from es (drop (tap_count e.1) taps)

abbrev pub taps_at : List TapPair → ℕ → TapPair
taps_at taps place = get_or taps place (record { first = 0; second = 0 })

-- the branches of an element: those of a Line from the end whose nodes are reached
abbrev pub branches_of : LayoutView → ℕ → ℕ → Element → TapPair → List Bool → List Branch
branches_of layout hertz place (the.Vsource v) taps reached = scripted_source v (ends_of layout place (the.Vsource v))
branches_of layout hertz place (the.Line l) taps reached =
    scripted_line l hertz (ends_of layout place (the.Line l)) (list_all (is_reached reached) (ends_of layout place (the.Line l)).first)
branches_of layout hertz place (the.Transformer t) taps reached =
    transformer_branches (xfmr_data_of t) taps (ends_of layout place (the.Transformer t))
branches_of layout hertz place other taps reached = []

abbrev pub branches_where : LayoutView → ℕ → ℕ → List TapPair → List Bool → Option (ElementName × Element) → List Branch
branches_where layout hertz place taps reached None = []
branches_where layout hertz place taps reached (Some e) =
    branches_of layout hertz place e.1 (taps_at taps place) reached

-- the rungs of these elements, by their numbers, where these nodes are reached
abbrev pub rungs_from : LayoutView → ℕ → Elements → List TapPair → List Bool → List ℕ → List (List Branch)
rungs_from layout hertz elements taps reached [] = []
rungs_from layout hertz elements taps reached (place ∷ order) =
    let rung = branches_where layout hertz place taps reached (slice_get elements place) in
    rung ∷ rungs_from layout hertz elements taps (reached_by rung reached) order

-- ---- shunts

-- those of an element: the charging of a Line, and a closed bank
abbrev pub shunts_of : LayoutView → ℕ → ℕ → Element → Bool → List Shunt
shunts_of layout hertz place (the.Line l) closed = scripted_charges l hertz (ends_of layout place (the.Line l))
shunts_of layout hertz place (the.Capacitor c) closed = bank_shunts (cap_data_of c) closed (ends_of layout place (the.Capacitor c))
shunts_of layout hertz place other closed = []

-- those of elements of which the first stands at a place in order, with the states of their banks
abbrev pub shunts_from : LayoutView → ℕ → ℕ → Elements → List Bool → List Shunt
shunts_from layout hertz place [] closed = []
shunts_from layout hertz place (e ∷ es) closed =
    shunts_of layout hertz place e.1 (first_state closed) ++ shunts_from layout hertz (place + 1) es (drop (bank_count e.1) closed)

-- ---- the ladder

-- the source first, with no node reached, then the Lines and Transformers in order
unfoldable pub ladder_of : CircuitView → Positions → LadderView
ladder_of c at =
    let layout = layout_of c.elements in
    let hertz = c.options.defaultbasefrequency in
    record {
      rungs = rungs_from layout hertz c.elements (taps_from c.elements at.taps) (replicate (length layout.nodes) false) (0 ∷ order_of c.elements);
      shunts = shunts_from layout hertz 0 c.elements at.closed;
    }

-- ---- conditions

-- the element of this number
abbrev pub IsElementAt : Elements → ℕ → Element → Type 0
IsElementAt elements place element = option_map (λ e. e.1) (slice_get elements place) ≡ Some element

-- the taps of a Transformer are in range
abbrev pub IsTapped : Element → TapPair → Type 0
IsTapped (the.Transformer t) taps = AreTaps taps
IsTapped other taps = Unit {0}

abbrev pub AreTapped : Elements → List TapPair → Type 0
AreTapped elements taps = (k : ℕ) (e : ElementName × Element) → slice_get elements k ≡ Some e → IsTapped e.1 (taps_at taps k)

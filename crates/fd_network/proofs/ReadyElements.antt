-- The elements of a circuit that passed the tests of Solve are ready to be taken into a network.
use Rattle.std.proofs.Common.{◌≡◌, ℕ, suc, ◌+◌, ◌<◌, ◌≤◌, ◌^◌, [], ◌∷◌, length, slice_index, slice_index_or, take, All, None, sym, subst, add-zero, zero-add, arith}
use Rattle.std.proofs.lemmas.Option.{slice_get-get_or}
use Rattle.fd_equations.specs.fd_exact.Sums.{list_n}
use Rattle.dss_ready.specs.dss_model.InRange.{ElementInRange}
use Rattle.dss_ready.specs.dss_model.declared.element.Element.{Element}
use Rattle.dss_ready.specs.dss_model.declared.element.Element.TheVariants as the
use Rattle.dss_ready.specs.dss_model.declared.names.ElementName.{ElementName}
use Rattle.dss_ready.specs.dss_layout.Limits.{most_complex}
use Rattle.dss_ready.specs.dss_layout.Layout.{Elements, LayoutView, branch_phases, complex_count, ends_of, first_magnitude, first_too_many, layout_of, magnitude_phases, size_of}
use Rattle.dss_ready.specs.dss_circuit.Circuit.{CircuitView}
use Rattle.dss_ready.proofs.CallerLemmas.dss_layout.{few_complex, few_magnitudes, length-phases, length-sums_before, mentions_among, sum_with_own, sum_within}
use Rattle.dss_ready.specs.Passed.{AreValuesFit}
use Rattle.dss_ready.specs.Ready.{HasPassed}
use Rattle.dss_ready.proofs.CallerLemmas.{passed}
use Rattle.fd_devices.specs.Sound.{AreValuesSound, IsSound}
use Rattle.fd_devices.specs.Standing.{IsReadyAt}
use Rattle.fd_devices.proofs.CallerLemmas.{StandsAmong, side_counts, sited}
use Rattle.fd_network.specs.Places.{AreReadyFrom}
use Rattle.fd_network.proofs.ReadyPlaces.{stands_among}

-- ---- limits

-- the branch phases are few
pub few_branches : (elements : Elements) → first_too_many elements ≡ None → list_n (λ e. branch_phases e.1) elements ≤ most_complex
few_branches elements h =
    let few = few_complex elements h in
    let count = length-phases branch_phases elements in
    omega arith

-- ---- places

-- the layout has the number of branch phases before each element
pub branches_within : (elements : Elements) (place : ℕ) → place < length elements → place < length (layout_of elements).branches_before
branches_within elements place h = subst (λ n. place < n) (sym (length-sums_before branch_phases 0 elements)) h

-- and the number of magnitudes before each element
pub magnitudes_within : (elements : Elements) (place : ℕ) → place < length elements → place < length (layout_of elements).magnitudes_before
magnitudes_within elements place h = subst (λ n. place < n) (sym (length-sums_before magnitude_phases 0 elements)) h

-- the first magnitude of an element is in range
pub small_first_magnitude : (elements : Elements) (place : ℕ) → first_too_many elements ≡ None → place < length elements
    → first_magnitude (layout_of elements) place < 2 ^ 31
small_first_magnitude elements place h within =
    let sum = sum_within magnitude_phases 0 elements place within in
    let few = few_complex elements h in
    let some = few_magnitudes elements h in
    omega arith

-- ---- elements

-- the elements of which each is ready at its place
ready_from : (layout : LayoutView) (place : ℕ) (es : Elements)
    → ((k : ℕ) (d : ElementName × Element) → k < length es → IsReadyAt layout (place + k) (slice_index_or es k d).1) → AreReadyFrom layout place es
ready_from layout place [] h = tt
ready_from layout place (e ∷ es) h = (
  subst (λ n. IsReadyAt layout n e.1) (add-zero place) (h 0 e (omega arith)),
  ready_from layout (place + 1) es (λ k d lt. later k d (h (suc k) d (omega arith))),
)
  where
    later : (k : ℕ) (d : ElementName × Element) → IsReadyAt layout (place + suc k) (slice_index_or es k d).1
        → IsReadyAt layout (place + 1 + k) (slice_index_or es k d).1
    later k d r = let same : place + suc k ≡ place + 1 + k = omega arith in subst (λ n. IsReadyAt layout n (slice_index_or es k d).1) same r

-- where the nodes, the branches and the magnitudes of the element at a place stand
pub stands_at : (elements : Elements) (place : ℕ) (d : ElementName × Element) → place < length elements
    → ElementInRange (slice_index_or elements place d).1 → IsSound (slice_index_or elements place d).1
    → (let e = (slice_index_or elements place d).1 in
    StandsAmong (length (layout_of elements).nodes) (complex_count (layout_of elements))
    (size_of (layout_of elements)) (first_magnitude (layout_of elements) place) (ends_of (layout_of elements) place e)
    e)
stands_at elements place d within in_range sound =
    let layout = layout_of elements in
    let e = (slice_index_or elements place d).1 in
    let sum = sum_with_own branch_phases 0 elements place d within in
    let room : slice_index layout.branches_before place + branch_phases e ≤ length layout.branches = omega arith in
    let own = sum_with_own magnitude_phases 0 elements place d within in
    let behind : slice_index layout.magnitudes_before place + magnitude_phases e ≤ length layout.magnitudes = omega arith in
    stands_among layout place e (side_counts e in_range sound.terminals) (mentions_among elements place d within) room behind

-- the values of an element that fits
values_sound : (elements before : Elements) (name : ElementName) (e : Element) → AreValuesFit elements before name e → AreValuesSound e
values_sound elements before name (the.Vsource v) fit = fit.below
values_sound elements before name (the.Line l) fit = (fit.matrices, fit.impedance)
values_sound elements before name e fit = tt

module _ (circuit : CircuitView) (has_passed : HasPassed circuit) where
  -- the element at a place is sound
  sound_at : (place : ℕ) (d : ElementName × Element) → place < length circuit.elements → IsSound (slice_index_or circuit.elements place d).1
  sound_at place d within =
      let e = slice_index_or circuit.elements place d in
      let fit = (passed circuit has_passed).each place e (slice_get-get_or circuit.elements place d within) in
      record { terminals = fit.terminals; values = values_sound circuit.elements (take place circuit.elements) e.0 e.1 fit.values }

  -- the element at a place is ready to be taken
  pub ready_at : All (λ e. ElementInRange e.1) circuit.elements
      → (place : ℕ) (d : ElementName × Element) → place < length circuit.elements
      → IsReadyAt (layout_of circuit.elements) place (slice_index_or circuit.elements place d).1
  ready_at in_range place d within =
      let elements = circuit.elements in
      let e = (slice_index_or elements place d).1 in
      let range : ElementInRange e = in_range place d within in
      let sound : IsSound e = sound_at place d within in
      record {
        in_range = range;
        sound = sound;
        sited = sited (length (layout_of elements).nodes) (complex_count (layout_of elements))
            (size_of (layout_of elements)) (first_magnitude (layout_of elements) place)
            (ends_of (layout_of elements) place e) e range (stands_at elements place d within range sound);
      }

  -- all are
  pub ready : All (λ e. ElementInRange e.1) circuit.elements → AreReadyFrom (layout_of circuit.elements) 0 circuit.elements
  ready in_range =
      let elements = circuit.elements in
      ready_from (layout_of elements) 0 elements
      (λ k d lt. subst (λ n. IsReadyAt (layout_of elements) n (slice_index_or elements k d).1) (sym (zero-add k)) (ready_at in_range k d lt))

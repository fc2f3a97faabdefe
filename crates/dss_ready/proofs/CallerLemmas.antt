-- What a caller needs to know of the tests of Solve.
use Rattle.std.proofs.Common.{◌≡◌, ℕ, [], take, slice_get, All, Some, subst}
use Rattle.std.proofs.lemmas.Option.{slice_get_within, get_or_from_slice_get}
use Rattle.dss_circuit.specs.dss_model.declared.element.Element.{Element}
use Rattle.dss_circuit.specs.dss_model.declared.names.ElementName.{ElementName}
use Rattle.dss_circuit.specs.Circuit.{Elements}
use Rattle.dss_layout.specs.Among.{IsAmong}
use Rattle.dss_ready.specs.Feeding.{IsFed}
use Rattle.dss_layout.specs.Layout.{nodes_of}
use Rattle.dss_layout.specs.Terminals.{mentions, terminal_numbers, tested}
use Rattle.dss_layout.proofs.CallerLemmas.{few_complex, few_magnitudes, mentions_among}
use Rattle.dss_ready.specs.Passed.{IsFit, PassedLaw}
use Rattle.dss_ready.specs.Support.{frequency_of}
use Rattle.dss_ready.proofs.Fitting.{same_frequency, values_fit, without_fault}
use Rattle.dss_ready.proofs.Passing.{Passes, each_passes}
pub use Rattle.dss_ready.proofs.Limits.{too_many_within}
pub use Rattle.dss_ready.proofs.Labelled.{first_isolated_at, fed_up_to}
pub use Rattle.dss_circuit.proofs.CallerLemmas.dss_model as dss_model
pub use Rattle.dss_circuit.proofs.CallerLemmas as dss_circuit
pub use Rattle.dss_layout.proofs.CallerLemmas as dss_layout

-- what holds of all elements holds of the one at a place
at_place : (P : ElementName × Element → Type 0) (elements : Elements) (place : ℕ) (entry : ElementName × Element)
    → All P elements → slice_get elements place ≡ Some entry → P entry
at_place P elements place entry all is =
    subst P (get_or_from_slice_get elements place entry entry is)
    (all place entry (slice_get_within elements place entry is))

-- a circuit that passed the tests of Solve is what the law says
pub passed : PassedLaw
passed circuit h = record {
  complex = few_complex circuit.elements h.not_many;
  magnitudes = few_magnitudes circuit.elements h.not_many;
  each = fit;
}
  where
    fit : (place : ℕ) (entry : ElementName × Element) → slice_get circuit.elements place ≡ Some entry
        → IsFit circuit (take place circuit.elements) entry
    fit place entry is =
        let hertz = circuit.options.defaultbasefrequency in
        let p : Passes hertz circuit.elements (take place circuit.elements) entry =
        each_passes hertz circuit.elements [] circuit.elements h.no_own place entry is in
        record {
          terminals = without_fault (tested (terminal_numbers entry.1)) p.count p.support;
          frequency = same_frequency hertz (frequency_of entry.1) p.frequency;
          values = values_fit circuit.elements (take place circuit.elements) entry.0 entry.1 p.inside p.parts p.powers p.second p.impedance;
          nodes = at_place (λ e. All (IsAmong (nodes_of circuit.elements)) (mentions e.1)) circuit.elements place entry (mentions_among circuit.elements) is;
          fed = at_place (IsFed circuit.elements) circuit.elements place entry h.all_fed is;
        }

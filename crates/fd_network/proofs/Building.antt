-- A circuit that passed the tests of Solve can be built.
use Rattle.std.proofs.Common.{◌≡◌, ◌∙◌, ℕ, ◌<◌, List, [], ◌∷◌, length, Option, Some, None, ap, subst, sym, zero-add}
use Rattle.std.specs.List.{All}
use Rattle.std.specs.Option.{option_and_then, option_or}
use Rattle.dss_ready.specs.dss_model.declared.fault.ModelFault.TheVariants as cause
use Rattle.dss_ready.specs.dss_model.Ranges.{IsOneOf}
use Rattle.dss_ready.specs.dss_layout.Layout.{Elements, LayoutView, first_too_many, layout_of}
use Rattle.dss_ready.specs.Ready.{blame_at}
use Rattle.fd_devices.specs.fd_xfmr.Leakage.{AreTaps}
use Rattle.fd_devices.specs.Building.{IsModest, device_fits, has_small_sums}
use Rattle.fd_devices.specs.declared.fault.BuildFault.{BuildFault}
use Rattle.fd_devices.specs.Devices.{Device, stamp_of_all}
use Rattle.fd_devices.specs.Scripted.{devices_from}
use Rattle.fd_devices.specs.declared.kept.Kept.{Kept}
use Rattle.fd_devices.specs.Settings.{AreSettings, Settings}
use Rattle.fd_devices.specs.Standing.{HasPlace}
use Rattle.fd_network.specs.Collecting.{AreTakenFrom}
use Rattle.fd_network.specs.Faults.{IsFaultOf, first_out_of_range, first_without, range_blame}
use Rattle.fd_network.specs.Keeping.{AreKept, Reaches}
use Rattle.fd_network.specs.Places.{AreReadyFrom}
use Rattle.fd_network.proofs.Faulty.{first_within}
use Rattle.dss_ready.proofs.CallerLemmas.dss_layout.{few_complex}
use Rattle.fd_network.proofs.ReadyElements.{branches_within, magnitudes_within, small_first_magnitude}

-- ---- taken

has_place : (es : Elements) (place : ℕ) → first_too_many es ≡ None → place < length es → HasPlace (layout_of es) place
has_place es place few low = record {
  branches = branches_within es place low;
  magnitudes = record {
    known = magnitudes_within es place low;
    few = few_complex es few;
    first = small_first_magnitude es place few low;
  };
}

-- the elements of a circuit, with all its settings
pub are_taken : (hertz : ℕ) (es : Elements) (s : Settings) → IsOneOf (50 ∷ 60 ∷ []) hertz → first_too_many es ≡ None
    → AreReadyFrom (layout_of es) 0 es → AreSettings es s → All AreTaps s.taps → All IsModest s.powers
    → AreTakenFrom (layout_of es) hertz 0 es s
are_taken hertz es s frequency few ready settings within modest = record {
  frequency = frequency;
  places = λ k low. subst (HasPlace (layout_of es)) (sym (zero-add k)) (has_place es k few low);
  ready = ready;
  settings = settings;
  within = within;
  modest = modest;
}

-- the same of what is equal
pub taken_as : (l l' : LayoutView) (h h' : ℕ) (es es' : Elements) (s s' : Settings) → l ≡ l' → h ≡ h' → es ≡ es'
    → s ≡ s' → AreTakenFrom l' h' 0 es' s' → AreTakenFrom l h 0 es s
taken_as l l' h h' es es' s s' el eh ees e taken =
    subst (λ x. AreTakenFrom x h 0 es s) (sym el) (subst (λ x. AreTakenFrom l' x 0 es s) (sym eh)
    (subst (λ x. AreTakenFrom l' h' 0 x s) (sym ees) (subst (AreTakenFrom l' h' 0 es') (sym e) taken)))

pub same_devices : (l l' : LayoutView) (h h' : ℕ) (es es' : Elements) (s s' : Settings) → l ≡ l' → h ≡ h' → es ≡ es'
    → s ≡ s' → devices_from l h 0 es s ≡ devices_from l' h' 0 es' s'
same_devices l l' h h' es es' s s' el eh ees e = λ i. devices_from (el i) (eh i) 0 (ees i) (e i)

pub kept_as : (l l' : LayoutView) (h h' : ℕ) (es es' : Elements) (ks : List Kept) → l ≡ l' → h ≡ h' → es ≡ es' → AreKept l' h' es' ks → AreKept l h es ks
kept_as l l' h h' es es' ks el eh ees kept =
    subst (λ x. AreKept x h es ks) (sym el)
    (subst (λ x. AreKept l' x es ks) (sym eh) (subst (λ x. AreKept l' h' x ks) (sym ees) kept))

pub reaches_as : (l l' : LayoutView) (h h' : ℕ) (es es' : Elements) (ps : List (ℕ × ℕ)) → l ≡ l' → h ≡ h' → es ≡ es' → Reaches l' h' es' ps → Reaches l h es ps
reaches_as l l' h h' es es' ps el eh ees reach =
    subst (λ x. Reaches x h es ps) (sym el)
    (subst (λ x. Reaches l' x es ps) (sym eh) (subst (λ x. Reaches l' h' x ps) (sym ees) reach))

-- ---- blame

either_within : (p q : Option ℕ) (n place : ℕ) → ((k : ℕ) → p ≡ Some k → k < n) → ((k : ℕ) → q ≡ Some k → k < n) → option_or p q ≡ Some place → place < n
either_within None q n place hp hq e = hq place e
either_within (Some k) q n place hp hq e = hp place e

-- the first device out of range is one of them
pub out_of_range_within : (ds : List Device) (place : ℕ) → first_out_of_range ds ≡ Some place → place < length ds
out_of_range_within ds place e =
    either_within (first_without device_fits ds) (first_without (has_small_sums (stamp_of_all ds).terms) ds) (length ds) place
    (λ k. first_within device_fits ds k) (λ k. first_within (has_small_sums (stamp_of_all ds).terms) ds k) e

-- the fault that names the element at the place of the first device out of range is the one that is due
pub fault_named : (es es' : Elements) (ds : List Device) (place : ℕ) (f : BuildFault) → es' ≡ es
    → first_out_of_range ds ≡ Some place → IsFaultOf (blame_at cause.Range es' place) f
    → IsFaultOf (range_blame es ds) f
fault_named es es' ds place f same e h =
    subst (λ b. IsFaultOf b f) (ap (λ x. blame_at cause.Range x place) same ∙ sym (ap (option_and_then (blame_at cause.Range es)) e)) h

pub no_blame : (es : Elements) (ds : List Device) → first_out_of_range ds ≡ None → range_blame es ds ≡ None
no_blame es ds e = ap (option_and_then (blame_at cause.Range es)) e

-- The first device that fails a test.
use Rattle.std.proofs.Common.{◌≡◌, ◌∙◌, ℕ, ◌<◌, Bool, IsTrue, false, not, List, ◌∷◌, length, take, drop, Option, Some, None, ap, sym, subst}
use Rattle.std.specs.List.{All, AllPass}
use Rattle.std.proofs.lemmas.Bool.{false_from_ne_true, not_from_false}
use Rattle.std.proofs.lemmas.List.Elements.{All-drop, All-head, All-weaker}
use Rattle.fd_equations.specs.fd_exact.FirstLaws.{such_at, such_below, such_none}
use Rattle.fd_devices.specs.Building.{DeviceFits, device_fits}
use Rattle.fd_devices.specs.Devices.{Device}
use Rattle.fd_network.specs.declared.fault.PlaceFault.{PlaceFault}
use Rattle.fd_network.specs.declared.fault.PlaceFault.TheVariants as place_fault
use Rattle.fd_network.specs.Collecting.{IsMisfit, NamesPlace}
use Rattle.fd_network.specs.Faults.{first_without}

-- ---- the first device

module _ (holds : Device → Bool) where
  -- there is none where it holds of each
  pub none_without : (ds : List Device) → AllPass holds ds → first_without holds ds ≡ None
  none_without ds h = such_none (λ d. not (holds d)) ds (All-weaker (λ d. IsTrue (holds d)) (λ d. not (holds d) ≡ false) (λ d. ap not) ds h)

  -- it is the one after those of which it holds
  pub first_at : (ds : List Device) (place : ℕ) (d : Device) (rest : List Device)
      → AllPass holds (take place ds) → drop place ds ≡ d ∷ rest → ¬ (IsTrue (holds d)) → first_without holds ds ≡ Some place
  first_at ds place d rest h e n =
      such_at (λ d. not (holds d)) ds place d rest
      (All-weaker (λ d. IsTrue (holds d)) (λ d. not (holds d) ≡ false) (λ d. ap not) (take place ds) h)
      e (not_from_false (holds d) (false_from_ne_true (holds d) n))

-- it is one of the devices
pub first_within : (holds : Device → Bool) (ds : List Device) (place : ℕ) → first_without holds ds ≡ Some place → place < length ds
first_within holds = such_below (λ d. not (holds d))

-- ---- faults of places

-- the device at a place, after which others come
pub holds_next : (P : Device → Type 0) (ds : List Device) (place : ℕ) (d : Device) (rest : List Device) → All P ds → drop place ds ≡ d ∷ rest → P d
holds_next P ds place d rest h e = All-head P d rest (subst (All P) e (All-drop P place ds h))

-- a device that doesn't fit, after those that do
pub misfit_first : (ds : List Device) (place : ℕ) (d : Device) (rest : List Device) (f : PlaceFault)
    → All DeviceFits (take place ds) → drop place ds ≡ d ∷ rest → IsMisfit place d f
    → NamesPlace (first_without device_fits ds) f
misfit_first ds place d rest (place_fault.OutOfRange k) h e m = first_at device_fits ds place d rest h e m.1 ∙ ap Some (sym m.0)
misfit_first ds place d rest place_fault.NoMemory h e m = tt

-- where each device fits there is none
pub no_misfit : (said : Option ℕ) (ds : List Device) (place : ℕ) (d : Device) (rest : List Device) (f : PlaceFault)
    → All DeviceFits ds → drop place ds ≡ d ∷ rest → IsMisfit place d f → NamesPlace said f
no_misfit said ds place d rest (place_fault.OutOfRange k) h e m = absurd (m.1 (holds_next DeviceFits ds place d rest h e))
no_misfit said ds place d rest place_fault.NoMemory h e m = tt

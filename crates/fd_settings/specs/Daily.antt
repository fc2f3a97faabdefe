-- What is kept of a circuit's loads through the hours of a Solve.
use Rattle.std.specs.Prelude.{◌≡◌, ℕ, List, [], ◌∷◌, slice_get, Option, Some, None}
use Rattle.std.specs.Option.{option_map}
use Rattle.fd_devices.specs.dss_model.Ranges.{ones}
use Rattle.fd_devices.specs.dss_model.declared.load.Load.{Load}
use Rattle.fd_devices.specs.dss_model.declared.element.Element.{Element}
use Rattle.fd_devices.specs.dss_model.declared.element.Element.TheVariants as the
use Rattle.fd_devices.specs.dss_model.declared.names.Class.TheVariants as class
use Rattle.fd_devices.specs.dss_model.declared.names.ElementName.{ElementName}
use Rattle.fd_devices.specs.dss_layout.Layout.{Elements}
use Rattle.fd_devices.specs.dss_circuit.Lookups.{element_given}
use Rattle.fd_devices.specs.Building.{IsModest}
use Rattle.fd_settings.specs.declared.hours.DailyLoad.{DailyLoad}
use Rattle.fd_settings.specs.Snapshot.{power_of}

-- the element at a place, where there is one
abbrev pub element_at : Elements → Option ℕ → Option Element
element_at es None = None
element_at es (Some place) = option_map (λ (e : ElementName × Element). e.1) (slice_get es place)

-- of a load: the place of the shape that it names, and the power of one phase at point 1
pub record IsDaily (es : Elements) (load : Load) (d : DailyLoad) : Type 0 where
  pub shape : element_at es d.shape ≡ element_given es class.Loadshape load.daily
  pub base : d.base ≡ power_of load (ones 1)
  pub modest : IsModest d.base

-- of an element, if it is a load
abbrev pub IsDailyAt : Elements → Element → DailyLoad → Type 0
IsDailyAt es e d = (load : Load) → e ≡ the.Load load → IsDaily es load d

-- of each of these elements, which stand among all
abbrev pub AreDailyOf : Elements → Elements → List DailyLoad → Type 0
AreDailyOf all [] [] = Unit {0}
AreDailyOf all [] (d ∷ ds) = ⊥
AreDailyOf all (e ∷ es) [] = ⊥
AreDailyOf all (e ∷ es) (d ∷ ds) = IsDailyAt all e.1 d × AreDailyOf all es ds

abbrev pub AreDaily : Elements → List DailyLoad → Type 0
AreDaily es ds = AreDailyOf es es ds

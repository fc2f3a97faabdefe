-- What is asked of the model of a load.
use Rattle.std.specs.Prelude.{Bool, true, false, ◌&&◌, is_none}
use Rattle.dss_model.specs.declared.load.Load.{Load}
use Rattle.dss_model.specs.declared.load.LoadKind.{LoadKind}
use Rattle.dss_model.specs.declared.load.LoadKind.TheVariants as kind

-- the phases of a load with a part of constant current have the magnitudes of their voltages among the unknowns, also where the share of
-- that part is 0
abbrev pub has_magnitude : LoadKind → Bool
has_magnitude kind.ConstantPower = false
has_magnitude kind.ConstantImpedance = false
has_magnitude kind.ConstantCurrent = true
has_magnitude kind.Zip = true

abbrev pub is_zip : LoadKind → Bool
is_zip kind.Zip = true
is_zip other = false

-- a load of model 8 whose shares weren't given
abbrev pub lacks_shares : Load → Bool
lacks_shares load = is_zip load.model && is_none load.zipv

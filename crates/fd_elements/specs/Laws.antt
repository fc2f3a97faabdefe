-- Powers that the relation states are the only ones that it allows.
use Rattle.std.specs.Prelude.{◌≡◌, ℤ}
use Rattle.dss_model.specs.declared.load.Load.{Load}
use Rattle.fd_elements.specs.declared.powers.LoadPower.{LoadPower}
use Rattle.fd_elements.specs.Powers.{IsLoadPower}

-- a load has one power at a point of its shape
abbrev pub PowerLaw : Type 0
PowerLaw = (load : Load) (point : ℤ) (a b : LoadPower) → IsLoadPower load point a → IsLoadPower load point b → a ≡ b

-- What is asked of the model of a load.
use Rattle.std.specs.Prelude.{Bool, true, false}
use Rattle.fd_arith.specs.declared.terms.LoadModel.{LoadModel}
use Rattle.fd_arith.specs.declared.terms.LoadModel.TheVariants.{ConstantPower, ConstantImpedance, ConstantCurrent}

-- of three values the one of the model: of constant power, of constant impedance, of constant current
abbrev pub by_model : {A : Type 0} → LoadModel → A → A → A → A
by_model ConstantPower power impedance current = power
by_model ConstantImpedance power impedance current = impedance
by_model ConstantCurrent power impedance current = current

-- the current of constant impedance alone is linear in the voltage: it stands in the contributions
abbrev pub is_linear : LoadModel → Bool
is_linear ConstantPower = false
is_linear ConstantImpedance = true
is_linear ConstantCurrent = false

-- constant current alone has the magnitudes of its voltages among the unknowns
abbrev pub has_magnitude : LoadModel → Bool
has_magnitude ConstantPower = false
has_magnitude ConstantImpedance = false
has_magnitude ConstantCurrent = true

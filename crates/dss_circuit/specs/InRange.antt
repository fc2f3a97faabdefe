-- The values of a circuit are in range.
use Rattle.std.specs.Prelude.{◌≤◌, length, All}
use Rattle.dss_model.specs.declared.options.Options.{Options}
use Rattle.dss_model.specs.InRange.{ElementInRange, OptionsInRange}
use Rattle.dss_circuit.specs.Circuit.{Elements}
use Rattle.dss_circuit.specs.Limits.{most_elements}
use Rattle.dss_circuit.specs.WellFormed.{AreWellFormed}

-- the values of each element are in range
abbrev pub AllInRange : Elements → Type 0
AllInRange elements = All (λ entry. ElementInRange entry.1) elements

-- what holds of every circuit
pub record IsWithinLimits (elements : Elements) (options : Options) : Type 0 where
  pub well_formed : AreWellFormed elements
  pub few : length elements ≤ most_elements
  pub elements_in_range : AllInRange elements
  pub options_in_range : OptionsInRange options

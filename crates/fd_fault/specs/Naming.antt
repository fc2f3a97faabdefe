-- A name is the one that the line of a short circuit takes.
use Rattle.std.specs.Prelude.{◌≡◌, ℕ}
use Rattle.dss_ready.specs.dss_model.declared.names.ElementName.{ElementName}
use Rattle.dss_ready.specs.dss_circuit.Circuit.{Elements}
use Rattle.fd_fault.specs.ShortNames.{IsShortName, line_name}

pub record IsNamed (elements : Elements) (name : ElementName) : Type 0 where
  pub number : ℕ
  pub first : IsShortName elements number
  pub is : name ≡ line_name number

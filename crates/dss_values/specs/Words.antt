-- The values that are words, with their names in scripts.
use Rattle.std.specs.Prelude.{ℕ, List, [], ◌∷◌, codes, Bool, true, false}
use Rattle.dss_model.specs.declared.words.Connection.{Connection}
use Rattle.dss_model.specs.declared.words.Connection.TheVariants as connection
use Rattle.dss_model.specs.declared.words.Units.{Units}
use Rattle.dss_model.specs.declared.words.Units.TheVariants as unit
use Rattle.dss_model.specs.declared.words.ControlQuantity.{ControlQuantity}
use Rattle.dss_model.specs.declared.words.ControlQuantity.TheVariants as quantity
use Rattle.dss_model.specs.declared.words.LeadLag.{LeadLag}
use Rattle.dss_model.specs.declared.words.LeadLag.TheVariants as lead
use Rattle.dss_model.specs.declared.words.Mode.{Mode}
use Rattle.dss_model.specs.declared.words.Mode.TheVariants as mode
use Rattle.dss_model.specs.declared.words.ControlMode.{ControlMode}
use Rattle.dss_model.specs.declared.words.ControlMode.TheVariants as control
use Rattle.dss_model.specs.declared.words.StepSize.{StepSize}
use Rattle.dss_model.specs.declared.words.StepSize.TheVariants as step

abbrev pub connections : List (List ℕ × Connection)
connections = (codes "wye", connection.Wye) ∷ (codes "ln", connection.Wye) ∷ (codes "delta", connection.Delta) ∷ (codes "ll", connection.Delta) ∷ []

abbrev pub units : List (List ℕ × Units)
units =
    (codes "mi", unit.Mile) ∷ (codes "kft", unit.Kilofoot) ∷ (codes "km", unit.Kilometre) ∷ (codes "m", unit.Metre)
    ∷ (codes "ft", unit.Foot) ∷ (codes "in", unit.Inch) ∷ (codes "cm", unit.Centimetre) ∷ (codes "none", unit.None)
    ∷ []

abbrev pub truths : List (List ℕ × Bool)
truths =
    (codes "y", true) ∷ (codes "n", false) ∷ (codes "yes", true) ∷ (codes "no", false) ∷ (codes "t", true)
    ∷ (codes "f", false) ∷ (codes "true", true) ∷ (codes "false", false) ∷ []

abbrev pub quantities : List (List ℕ × ControlQuantity)
quantities = (codes "voltage", quantity.Voltage) ∷ (codes "current", quantity.Current) ∷ (codes "kvar", quantity.Kvar) ∷ []

abbrev pub lead_lags : List (List ℕ × LeadLag)
lead_lags = (codes "lag", lead.Lag) ∷ (codes "ansi", lead.Ansi) ∷ []

abbrev pub modes : List (List ℕ × Mode)
modes = (codes "snap", mode.Snapshot) ∷ (codes "snapshot", mode.Snapshot) ∷ (codes "daily", mode.Daily) ∷ []

abbrev pub control_modes : List (List ℕ × ControlMode)
control_modes = (codes "static", control.Static) ∷ (codes "off", control.Off) ∷ (codes "time", control.Time) ∷ []

abbrev pub step_sizes : List (List ℕ × StepSize)
step_sizes = (codes "1h", step.Hour) ∷ (codes "60m", step.Minutes) ∷ (codes "3600", step.Seconds) ∷ []

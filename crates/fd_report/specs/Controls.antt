-- The records of controls and of what they leave, as lists of fields.
use Rattle.std.specs.Prelude.{ℕ, ℤ, Bool, true, false, List, [], ◌∷◌, codes}
use Rattle.std.specs.Fmt.{signed_decimal}
use Rattle.dss_script.specs.dss_model.declared.names.ElementName.{ElementName}
use Rattle.fd_report.specs.declared.controls.Position.{Position}
use Rattle.fd_report.specs.declared.controls.Position.TheVariants.{Tap, Open, Closed}
use Rattle.dss_script.specs.fd_decimal.Decimals.{fixed_text}
use Rattle.fd_report.specs.Names.{element_field}

-- a time in whole milliseconds: seconds with three decimals
abbrev pub time_text : ℕ → List ℕ
time_text time = fixed_text 3 time

-- a tap in whole 10^-5: five decimals
abbrev pub tap_text : ℕ → List ℕ
tap_text tap = fixed_text 5 tap

-- a tap, or how a bank stands
abbrev pub position_text : Position → List ℕ
position_text (Tap tap) = tap_text tap
position_text Open = codes "open"
position_text Closed = codes "closed"

abbrev pub bank_position : Bool → Position
bank_position true = Closed
bank_position false = Open

-- an act of a control at a time in milliseconds: by so many steps with their sign, and the position behind it
abbrev pub act_fields : ℕ → ElementName → ℤ → Position → List (List ℕ)
act_fields time control steps after = codes "act" ∷ time_text time ∷ element_field control ∷ signed_decimal steps ∷ position_text after ∷ []

-- the tap of a regulator's winding
abbrev pub tap_fields : ElementName → ℕ → List (List ℕ)
tap_fields control tap = codes "tap" ∷ element_field control ∷ tap_text tap ∷ []

abbrev pub way_text : Bool → List ℕ
way_text true = codes "up"
way_text false = codes "down"

-- an entry that waits in the queue: its time in milliseconds, its control, and which way that is to go
abbrev pub pending_fields : ℕ → ElementName → Bool → List (List ℕ)
pending_fields time control up = codes "pending" ∷ time_text time ∷ element_field control ∷ way_text up ∷ []

-- whether a bank is closed
abbrev pub bank_fields : ElementName → Bool → List (List ℕ)
bank_fields bank is_closed = codes "bank" ∷ element_field bank ∷ position_text (bank_position is_closed) ∷ []

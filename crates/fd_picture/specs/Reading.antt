-- What a report's lines come to. A line is a list of bytes, and a record a list of fields.
use Rattle.std.specs.Prelude.{◌≡◌, ℕ, ◌+◌, ◌-◌, ◌^◌, ◌==◌, ◌&&◌, ◌||◌, nat_lt, Bool, true, false, List, [], ◌∷◌, ◌++◌, length, Option, Some, None, Result, Ok, Err, is_some, option_to_list, if◌then◌else◌, codes}
use Rattle.std.specs.Str.{is_utf8}
use Rattle.fd_exact.specs.Answers as answers
use Rattle.fd_picture.specs.Drafts.{DraftView, ReportView, empty_draft}
use Rattle.csv.specs.Reading.{default_config, records_from, strip_bom}
use Rattle.csv.specs.declared.parser.State.TheVariants as st
use Rattle.fd_picture.specs.Fields.{at, spaced}
use Rattle.fd_picture.specs.Lines.{is_at, unfit_in}
use Rattle.fd_picture.specs.Numbers.{before_dot, behind_dot, decimal_of, is_bank_position, is_decimal, is_name, is_position, is_signed, is_steps, text_eq, whole_of}
use Rattle.fd_picture.specs.declared.fault.Cause.{Cause}
use Rattle.fd_picture.specs.declared.fault.Cause.TheVariants as cause
use Rattle.fd_picture.specs.declared.fault.ReportFault.{ReportFault}
use Rattle.fd_picture.specs.declared.fault.ReportFault.TheVariants as fault
use Rattle.fd_picture.specs.declared.fault.Stop.{Stop}
use Rattle.fd_picture.specs.declared.fault.Stop.TheVariants as stop
use Rattle.fd_picture.specs.declared.report.Entry.{Entry}
use Rattle.fd_picture.specs.declared.report.Kind.{Kind}
use Rattle.fd_picture.specs.declared.report.Kind.TheVariants as kind
use Rattle.fd_picture.specs.declared.report.Node.{Node}
use Rattle.fd_picture.specs.declared.report.Panel.{Panel}

-- ---- the records' forms

abbrev pub named_node : List ℕ → Option ℕ → Option ℕ → Option ℕ → Option Node
named_node bus (Some number) (Some low) (Some high) = if is_name bus then Some (record { bus = bus; number = number; low = low; high = high }) else None
named_node bus number low high = None

-- the name BUS.NODE, and low and high in microvolts
abbrev pub bare_node : List (List ℕ) → Option Node
bare_node fields = named_node (before_dot (at fields 1)) (whole_of (behind_dot (at fields 1))) (decimal_of 6 (at fields 6)) (decimal_of 6 (at fields 7))

-- the form of a node's other fields: real and imaginary part, radius and box, both mismatches
abbrev pub has_node_form : List (List ℕ) → Bool
has_node_form fields = is_signed 6 (at fields 2) && is_signed 6 (at fields 3) && is_decimal 6 (at fields 4) && is_decimal 6 (at fields 5)
    && is_decimal 6 (at fields 8) && is_decimal 6 (at fields 9)

unfoldable pub node_in : List (List ℕ) → Option Node
node_in fields = if has_node_form fields then bare_node fields else None

-- the form of a branch: its element, its phase, the current's parts, their radius and both mismatches; and of a phase of a
-- short circuit: its bus, its node, the current's parts, their radius, and the least and the greatest size
unfoldable pub has_branch_form : List (List ℕ) → Bool
has_branch_form fields = is_name (at fields 1) && is_some (whole_of (at fields 2)) && is_signed 6 (at fields 3) && is_signed 6 (at fields 4)
    && is_decimal 6 (at fields 5) && is_decimal 6 (at fields 6) && is_decimal 6 (at fields 7)

-- the form of a magnitude: its load, its phase, its value, radius, box and mismatch
unfoldable pub has_magnitude_form : List (List ℕ) → Bool
has_magnitude_form fields = is_name (at fields 1) && is_some (whole_of (at fields 2)) && is_signed 6 (at fields 3)
    && is_decimal 6 (at fields 4) && is_decimal 6 (at fields 5) && is_decimal 6 (at fields 6)

-- how many fields a record of this name has; a fault has two or more, and a ladder sweep by what it came to
abbrev pub counts : List (List ℕ) → ℕ → Bool
counts fields n = length fields == n

-- the form of a ladder sweep: how many sweeps and both differences; or an unknown, with a sweep where one is out of range
unfoldable pub has_ladder_form : List (List ℕ) → Bool
has_ladder_form fields =
    if text_eq (at fields 1) (codes "agrees") then
    counts fields 5 && is_some (whole_of (at fields 2)) && is_decimal 6 (at fields 3) && is_decimal 6 (at fields 4)
    else if text_eq (at fields 1) (codes "out of range") then counts fields 4 && is_name (at fields 2) && is_some (whole_of (at fields 3))
    else if text_eq (at fields 1) (codes "not converged") then counts fields 3 && is_some (whole_of (at fields 2))
    else (text_eq (at fields 1) (codes "apart") || text_eq (at fields 1) (codes "wide")) && counts fields 3 && is_name (at fields 2)

unfoldable pub has_act_form : List (List ℕ) → Bool
has_act_form fields = is_decimal 3 (at fields 1) && is_name (at fields 2) && is_steps (at fields 3) && is_position (at fields 4)

abbrev pub has_tap_form : List (List ℕ) → Bool
has_tap_form fields = is_name (at fields 1) && is_decimal 5 (at fields 2)

abbrev pub has_bank_form : List (List ℕ) → Bool
has_bank_form fields = is_name (at fields 1) && is_bank_position (at fields 2)

-- the form of an entry that waits: its time, its control, and up or down
abbrev pub has_pending_form : List (List ℕ) → Bool
has_pending_form fields = is_decimal 3 (at fields 1) && is_name (at fields 2) && (text_eq (at fields 3) (codes "up") || text_eq (at fields 3) (codes "down"))

-- ---- what a record makes of a draft

-- the panels that the next round doesn't replace: those of other settles and hours
abbrev pub kept_panels : List Panel → Option Panel → ℕ → ℕ → List Panel
kept_panels done None settle hour = done
kept_panels done (Some last) settle hour = if (last.settle == settle) && (last.hour == hour) then done else done ++ last ∷ []

abbrev pub with_round : DraftView → Option ℕ → Option ℕ → Option ℕ → Result DraftView Cause
with_round d (Some settle) (Some hour) (Some round) =
    Ok (record d { done = kept_panels d.done d.current settle hour; current = Some (record { settle = settle; hour = hour; round = round; nodes = [] }) })
with_round d settle hour round = Err cause.BadField

-- the number of the settle, its hour and the round
abbrev pub solution_to : DraftView → List (List ℕ) → Result DraftView Cause
solution_to d fields = with_round d (whole_of (at fields 1)) (whole_of (at fields 2)) (whole_of (at fields 3))

abbrev pub with_node : Panel → Option Node → Result Panel Cause
with_node panel None = Err cause.BadField
with_node panel (Some node) = if nat_lt node.high node.low then Err cause.LowAboveHigh else Ok (record panel { nodes = panel.nodes ++ node ∷ [] })

abbrev pub with_open : DraftView → Result Panel Cause → Result DraftView Cause
with_open d (Ok panel) = Ok (record d { current = Some panel })
with_open d (Err cause) = Err cause

abbrev pub node_to : DraftView → List (List ℕ) → Result DraftView Cause
node_to d fields = elim d.current [
  | None ↦ Err cause.NoSolution
  | Some panel ↦ with_open d (with_node panel (node_in fields))
]

-- a record that isn't drawn, by whether it has its form
abbrev pub passed_over : DraftView → Bool → Result DraftView Cause
passed_over d form = elim d.current [
  | None ↦ Err cause.NoSolution
  | Some panel ↦ if form then Ok d else Err cause.BadField
]

abbrev pub entry_by : Panel → Kind → List ℕ → List ℕ → List ℕ → List ℕ → Entry
entry_by panel kind time element steps position =
    record { settle = panel.settle; hour = panel.hour; kind = kind; time = time; element = element; steps = steps; position = position }

abbrev pub with_entry : DraftView → Bool → Entry → Result DraftView Cause
with_entry d form entry = if form then Ok (record d { entries = d.entries ++ entry ∷ [] }) else Err cause.BadField

abbrev pub act_to : DraftView → List (List ℕ) → Result DraftView Cause
act_to d fields = elim d.current [
  | None ↦ Err cause.NoSolution
  | Some panel ↦ with_entry d (has_act_form fields) (entry_by panel kind.Act (at fields 1) (at fields 2) (at fields 3) (at fields 4))
]

abbrev pub tap_to : DraftView → List (List ℕ) → Result DraftView Cause
tap_to d fields = elim d.current [
  | None ↦ Err cause.NoSolution
  | Some panel ↦ with_entry d (has_tap_form fields) (entry_by panel kind.Tap [] (at fields 1) [] (at fields 2))
]

abbrev pub bank_to : DraftView → List (List ℕ) → Result DraftView Cause
bank_to d fields = elim d.current [
  | None ↦ Err cause.NoSolution
  | Some panel ↦ with_entry d (has_bank_form fields) (entry_by panel kind.Bank [] (at fields 1) [] (at fields 2))
]

-- the row of a tap or a bank, by whether its fields have their form. A clause of a private function alone cites this.
abbrev pub position_to : DraftView → Kind → Bool → List (List ℕ) → Result DraftView Cause
position_to d kind form fields = elim d.current [
  | None ↦ Err cause.NoSolution
  | Some panel ↦ with_entry d form (entry_by panel kind [] (at fields 1) [] (at fields 2))
]

abbrev pub with_base : DraftView → List ℕ → Option ℕ → Result DraftView Cause
with_base d bus None = Err cause.BadField
with_base d bus (Some base) =
    if is_name bus && nat_lt 0 base then Ok (record d { bases = d.bases ++ record { bus = bus; micro_kilovolts = base } ∷ [] }) else Err cause.BadField

abbrev pub base_to : DraftView → List (List ℕ) → Result DraftView Cause
base_to d fields = with_base d (at fields 1) (decimal_of 6 (at fields 2))

-- the fields of a fault are kept as text
abbrev pub fault_to : DraftView → List (List ℕ) → Result DraftView Cause
fault_to d fields = if is_utf8 (spaced fields) then Ok (record d { fault = Some (spaced fields) }) else Err cause.BadField

-- ---- a record

abbrev pub counted : Bool → Result DraftView Cause → Result DraftView Cause
counted right answer = if right then answer else Err cause.FieldCount

abbrev pub is_kind : List (List ℕ) → List ℕ → Bool
is_kind fields name = text_eq (at fields 0) name

-- the records that aren't of one solution alone, and those of controls
unfoldable pub other_record : DraftView → List (List ℕ) → Result DraftView Cause
other_record d fields =
    if is_kind fields (codes "act") then counted (counts fields 5) (act_to d fields)
    else if is_kind fields (codes "tap") then counted (counts fields 3) (tap_to d fields)
    else if is_kind fields (codes "bank") then counted (counts fields 3) (bank_to d fields)
    else if is_kind fields (codes "pending") then counted (counts fields 4) (passed_over d (has_pending_form fields))
    else if is_kind fields (codes "base") then counted (counts fields 3) (base_to d fields)
    else if is_kind fields (codes "fault") then counted (nat_lt 1 (length fields)) (fault_to d fields)
    else Err cause.UnknownRecord

unfoldable pub record_to : DraftView → List (List ℕ) → Result DraftView Cause
record_to d fields =
    if is_kind fields (codes "solution") then counted (counts fields 4) (solution_to d fields)
    else if is_kind fields (codes "node") then counted (counts fields 10) (node_to d fields)
    else if is_kind fields (codes "branch") then counted (counts fields 8) (passed_over d (has_branch_form fields))
    else if is_kind fields (codes "magnitude") then counted (counts fields 7) (passed_over d (has_magnitude_form fields))
    else if is_kind fields (codes "short") then counted (counts fields 8) (passed_over d (has_branch_form fields))
    else if is_kind fields (codes "ladder") then passed_over d (has_ladder_form fields)
    else other_record d fields

-- a record behind those of a draft
unfoldable pub row_to : DraftView → List (List ℕ) → Result DraftView Cause
row_to d fields = if is_some d.fault then Err cause.BehindFault else record_to d fields

-- ---- the report

-- a cause with its line
pub record Bad : Type 0 where
  pub line : ℕ
  pub cause : Cause

abbrev pub finished : DraftView → ReportView
finished d = record { panels = d.done ++ option_to_list d.current; entries = d.entries; bases = d.bases; fault = d.fault }

-- an unfit line is no record
abbrev pub unless_unfit : Option ℕ → ℕ → Result ReportView Bad → Result ReportView Bad
unless_unfit unfit n answer = if is_at unfit n then Err (record { line = n; cause = cause.NotOneRecord }) else answer

-- the records in order, which are numbered as their lines from this number on; the first that is refused ends it
abbrev pub read_from : Option ℕ → ℕ → DraftView → List (List (List ℕ)) → Result ReportView Bad
read_from unfit n d [] = unless_unfit unfit n (Ok (finished d))
read_from unfit n d (row ∷ rows) = unless_unfit unfit n (elim (row_to d row) [
  | Ok next ↦ read_from unfit (n + 1) next rows
  | Err cause ↦ Err (record { line = n; cause = cause })
])

-- the report that bytes are, or the first line that is no record of one. The records are those of `csv`, which passes
-- over empty lines: the first of these is refused, and so each record before it has its line's number. (No memory
-- holds 2^64 records.)
unfoldable pub report_of : List ℕ → Result ReportView Bad
report_of bytes = read_from (unfit_in bytes) 1 empty_draft (records_from default_config (2 ^ 64 - 2) st.StartRecord (strip_bom bytes))

-- ---- answers

-- the cause of a stop, unless memory ran out
abbrev pub cause_of : Stop → Option Cause
cause_of (stop.Refused cause) = Some cause
cause_of stop.NoMemory = None

-- the cause of a fault with its line, unless memory ran out
abbrev pub bad_of : ReportFault → Option Bad
bad_of (fault.Refused line cause) = Some (record { line = line; cause = cause })
bad_of fault.NoMemory = None

-- what is answered is what is said
abbrev pub Gives : {X : Type 0} → Result X Stop → Result X Cause → Type 0
Gives = answers.Gives cause_of (λ x. x)

-- a value has become what is said. Clauses of private functions alone cite this and `Fills`.
abbrev pub Makes : {X : Type 0} → X → Result Unit Stop → Result X Cause → Type 0
Makes = answers.Makes cause_of

-- a draft has become that of the report that is said
abbrev pub Fills : DraftView → Result Unit ReportFault → Result ReportView Bad → Type 0
Fills draft = answers.Makes bad_of (finished draft)

abbrev pub Reads : Result ReportView ReportFault → Result ReportView Bad → Type 0
Reads = answers.Gives bad_of (λ report. report)

abbrev pub CountGives : Result Unit Stop → Bool → Type 0
CountGives (Ok _) right = right ≡ true
CountGives (Err e) right = (right ≡ false) × (e ≡ stop.Refused cause.FieldCount)

-- a stop with its line
abbrev pub AtLine : ℕ → Stop → ReportFault → Type 0
AtLine line (stop.Refused cause) e = e ≡ fault.Refused line cause
AtLine line stop.NoMemory e = e ≡ fault.NoMemory

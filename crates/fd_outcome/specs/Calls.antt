-- What a command line does to the outside, in order.
use Rattle.std.specs.Prelude.{ℕ, pos, List, [], ◌∷◌, ◌++◌, map, Option, Some, None}
use Rattle.std.specs.List.{flat_map}
use Rattle.fd_report.specs.dss_model.Names.{bytes}
use Rattle.fd_report.specs.Faults.{fields}
use Rattle.fd_report.specs.Lines.{line_of}
use Rattle.fd_report.specs.declared.faults.Fault.{Fault}
use Rattle.fd_outcome.specs.Events.{Event, History, name_in, settle}
use Rattle.fd_certfile.specs.Lines.{header, line_bytes}
use Rattle.fd_certfile.specs.Lines as text
use Rattle.fd_outcome.specs.Certificates.{certificate_texts}
use Rattle.fd_outcome.specs.Pages.{report_texts}
use Rattle.fd_outcome.specs.Settles.{Settle}

-- a file of this name is asked of the library, or a text is handed to the sink by one write
pub data Call : Type 0 where
  reads : List ℕ → Call
  writes : List ℕ → Call

-- ---- ways to print

pub record Style : Type 0 where
  -- the names that an event asks of the library, and its texts
  pub asked_in : Event → List (List ℕ)
  pub texts_in : Event → List (List ℕ)
  -- texts that stand before all others, and texts that stand last where there is no fault
  pub opening : List (List ℕ)
  pub closing : List (List ℕ)

abbrev pub report : Style
report = record { asked_in = name_in; texts_in = report_texts; opening = []; closing = [] }

-- a settle, and with it what stands behind it
abbrev pub texts_with : (Settle → List Event) → Event → List (List ℕ)
texts_with beside (settle s) = report_texts (settle s) ++ flat_map report_texts (beside s)
texts_with beside other = report_texts other

-- the report of these events and of what stands behind their settles
abbrev pub report_with : (Settle → List Event) → Style
report_with beside = record { asked_in = name_in; texts_in = texts_with beside; opening = []; closing = [] }

-- the version stands before the first block, or before the end where there is none
abbrev pub certificate : Style
certificate = record {
  asked_in = name_in;
  texts_in = certificate_texts;
  opening = line_bytes (header (pos 2)) ∷ [];
  closing = line_bytes text.end ∷ [];
}

-- ---- calls

abbrev pub calls_in : Style → Event → List Call
calls_in style e = map reads (style.asked_in e) ++ map writes (style.texts_in e)

-- these texts stand directly before the first that is written, and not without one
abbrev pub opened : List (List ℕ) → List Call → List Call
opened first [] = []
opened first (reads name ∷ calls) = reads name ∷ opened first calls
opened first (writes text ∷ calls) = map writes first ++ writes text ∷ calls

abbrev pub body : Style → List Event → List Call
body style events = flat_map (λ e. calls_in style e) events

-- what these events come to, whatever follows
abbrev pub so_far : Style → List Event → List Call
so_far style events = opened style.opening (body style events)

abbrev pub fault_text : Fault → List ℕ
fault_text fault = line_of (fields fault)

abbrev pub calls_of : Style → List Event → Option Fault → List Call
calls_of style events None = opened style.opening (body style events ++ map writes style.closing)
calls_of style events (Some fault) = so_far style events ++ writes (fault_text fault) ∷ []

-- all calls, and the end
pub record Doing : Type 0 where
  pub calls : List Call
  pub end : Option Fault

abbrev pub doing : Style → History → Doing
doing style h = record { calls = calls_of style h.events h.end; end = h.end }

-- ---- projections

-- a library is asked by the bytes of a name
abbrev pub name_read : Call → List (List ℕ)
name_read (reads name) = bytes name ∷ []
name_read (writes text) = []

abbrev pub text_written : Call → List (List ℕ)
text_written (reads name) = []
text_written (writes text) = text ∷ []

abbrev pub names_read : List Call → List (List ℕ)
names_read calls = flat_map name_read calls

abbrev pub texts_written : List Call → List (List ℕ)
texts_written calls = flat_map text_written calls

-- With which machine a settle ends, and where nothing is to be told of what waits.
use Rattle.std.proofs.Common.{◌≡◌, ◌∙◌, ℕ, false, List, [], ◌∷◌, Some, None, refl}
use Rattle.std.specs.List.{AllByRecursion}
use Rattle.fd_checking.specs.dss_circuit.Circuit.{CircuitView}
use Rattle.fd_checking.specs.fd_check.Checking.{Checking}
use Rattle.fd_checking.specs.fd_queue.Machine.{Machine, rule_of}
use Rattle.fd_checking.specs.fd_queue.declared.entry.Entry.{Entry}
use Rattle.fd_checking.specs.fd_queue.declared.timing.Timing.{Timing}
use Rattle.fd_checking.specs.fd_queue.declared.timing.Timing.TheVariants as timing
use Rattle.fd_checking.specs.fd_settle.Laws.{NothingDue}
use Rattle.fd_checking.specs.fd_settle.Plant.{setup_of, timing_of}
use Rattle.fd_checking.specs.fd_outcome.Events as event
use Rattle.fd_checking.specs.fd_outcome.Events.{Event, asked, row, settle, swept, waits}
use Rattle.fd_app.specs.Steady.{AreSteady}
use Rattle.fd_app.specs.Waiting.{IsAtRest, Waiting, queue_behind}

-- ---- nothing is due

none_static : (t : Timing) (now : ℕ) (es : List Entry) → AllByRecursion (λ e. (rule_of t).is_due now e ≡ false) es
    → t ≡ timing.Static → es ≡ []
none_static timing.Static now [] h is = refl
none_static timing.Static now (e ∷ es) h is = absurd (let no : ⊥ = cc (h.0) in no)
none_static timing.Clock now es h is = absurd (let no : ⊥ = cc is in no)

pub rests : (c : CircuitView) (m : Machine) → NothingDue (setup_of c) m → IsAtRest c m
rests c m h = record { none_due = h; empty = none_static (timing_of c.options.controlmode) m.now m.queue h }

-- ---- nothing is to be told

-- of an empty queue
untold : (w : Waiting) (events : List Event) (t : Checking) → w.entries ≡ [] → AreSteady events (Some w) t
    → AreSteady events None t
untold w [] t none h = absurd (let no : ⊥ = cc h in no)
untold w (settle x ∷ events) t none h = absurd (let no : ⊥ = cc (h.0) in no)
untold w (waits c es ∷ events) t none h = (h.0.1 ∙ none, h.1)
untold w (asked n ∷ events) t none h = absurd (let no : ⊥ = cc (h.0) in no)
untold w (swept c m l ∷ events) t none h = absurd (let no : ⊥ = cc (h.0) in no)
untold w (row fields ∷ events) t none h = absurd (let no : ⊥ = cc (h.0) in no)
untold w (event.line text ∷ events) t none h = absurd (let no : ⊥ = cc (h.0) in no)

-- nor before an hour
pub none_behind : (c : CircuitView) (m : Machine) (hours : List ℕ) (events : List Event) (t : Checking) → m.queue ≡ []
    → AreSteady events (queue_behind c m hours) t → AreSteady events None t
none_behind c m [] events t none h = untold (record { circuit = c; entries = m.queue }) events t none h
none_behind c m (hour ∷ hours) events t none h = h

-- The entries that wait: when a run has ended, and for how long a control goes on wanting what it waits for.
use Rattle.std.specs.Prelude.{◌≡◌, List, [], ◌∷◌, get_or, Some}
use Rattle.fd_daily.specs.fd_queue.Controls.{Positions}
use Rattle.fd_daily.specs.fd_queue.Decisions.{Hold, way_of}
use Rattle.fd_daily.specs.fd_queue.Machine.{Machine, Setup}
use Rattle.fd_daily.specs.fd_queue.declared.entry.Entry.{Entry}
use Rattle.fd_daily.specs.fd_settle.Laws.{ThenAgree}
use Rattle.fd_daily.specs.fd_settle.Sampling.{Sampling, Decided, Unclear}
use Rattle.fd_daily.specs.fd_settle.Settle.{Settle, outcome_of}
use Rattle.fd_daily.specs.Run.{left_by_run}

-- of a run from this machine on
abbrev pub left_waiting : Machine → List Settle → List Entry
left_waiting m run = (left_by_run m run).queue

-- the control of an entry wants its way, where the sampling is decided
abbrev pub WantsStill : Entry → Sampling → Type 0
WantsStill e (Decided ds) = way_of (get_or ds e.control Hold) ≡ Some e.up
WantsStill e (Unclear k u) = Unit {0}

-- it does so in each sampling of a settle
abbrev pub GoesOnWanting : {X : Type 0} → Entry → Setup → (Positions → X → Sampling) → Machine → List X → Type 0
GoesOnWanting e s look m [] = Unit {0}
GoesOnWanting e s look m (x ∷ xs) =
    WantsStill e (look m.at x) × ThenAgree (outcome_of s m (look m.at x)) (λ n. GoesOnWanting e s look n xs)

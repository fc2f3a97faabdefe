-- The laws of the queue machine.
use Rattle.std.specs.Prelude.{◌≡◌, ℕ, ◌+◌, ◌≤◌, ◌<◌, List, [], ◌∷◌, length, get_or, Bool, false, if◌then◌else◌, ◌==◌, Option, Some, None}
use Rattle.std.specs.List.{AllByRecursion}
use Rattle.fd_queue.specs.Decisions.{Decision, Hold, way_of}
use Rattle.fd_queue.specs.declared.entry.Entry.{Entry}
use Rattle.fd_queue.specs.Queue.{IsQueue, has_entry, least_time}
use Rattle.fd_queue.specs.Machine.{Machine, Setup, Step, Quiet, AtLimit, Acts, sampled, step_of}

-- a queue of controls that are numbered below n
pub record IsQueueOf (n next : ℕ) (es : List Entry) : Type 0 where
  pub queue : IsQueue next es
  pub controls : AllByRecursion (λ e. e.control < n) es

abbrev pub KeepsQueue : ℕ → Machine → Type 0
KeepsQueue n m = IsQueueOf n m.next m.queue

-- P of the machine that a step leaves
abbrev pub Leaves : (Machine → Type 0) → Step → Type 0
Leaves P (Quiet m) = P m
Leaves P (AtLimit m) = P m
Leaves P (Acts m acts) = P m

-- each step leaves a sorted list, with one entry of a control at most
abbrev pub QueueLaw : Type 0
QueueLaw = (s : Setup) (vs : List Decision) (m : Machine) →
    KeepsQueue (length s.controls) m → Leaves (KeepsQueue (length s.controls)) (step_of s vs m)

-- no entry of a queue is before its least time
abbrev pub LeastLaw : Type 0
LeastLaw = (next : ℕ) (es : List Entry) → IsQueue next es → AllByRecursion (λ e. least_time es ≤ e.time) es

-- a queue has at most as many entries as there are controls, and fewer where a control has none
abbrev pub RoomLaw : Type 0
RoomLaw = (n next : ℕ) (es : List Entry) → IsQueueOf n next es → length es ≤ n

abbrev pub SpareLaw : Type 0
SpareLaw = (n next k : ℕ) (es : List Entry) → IsQueueOf n next es → k < n → has_entry k es ≡ false → length es < n

-- acts are counted, and there are no more than are allowed
pub record IsCounted (s : Setup) (m : Machine) (after : Machine) : Type 0 where
  pub one_more : after.made ≡ m.made + 1
  pub allowed : m.made < s.limit

abbrev pub CountsActs : Setup → Machine → Step → Type 0
CountsActs s m (Quiet after) = after.made ≡ m.made
CountsActs s m (AtLimit after) = (after.made ≡ m.made) × (s.limit ≤ m.made)
CountsActs s m (Acts after acts) = IsCounted s m after

abbrev pub CountLaw : Type 0
CountLaw = (s : Setup) (vs : List Decision) (m : Machine) → CountsActs s m (step_of s vs m)

-- a step takes at most one sequence number for each control
abbrev pub FewNumbers : ℕ → Machine → Machine → Type 0
FewNumbers n m after = after.next ≤ m.next + n

abbrev pub NextLaw : Type 0
NextLaw = (s : Setup) (vs : List Decision) (m : Machine) → Leaves (FewNumbers (length s.controls) m) (step_of s vs m)

-- a step that ends a settle leaves no entry that is due
abbrev pub IsQuiet : Setup → Step → Type 0
IsQuiet s (Quiet m) = AllByRecursion (λ e. s.rule.is_due m.now e ≡ false) m.queue
IsQuiet s (AtLimit m) = Unit {0}
IsQuiet s (Acts m acts) = Unit {0}

abbrev pub QuietLaw : Type 0
QuietLaw = (s : Setup) (vs : List Decision) (m : Machine) → IsQuiet s (step_of s vs m)

-- the way of the entry of a control, if there is one
abbrev pub entry_way : ℕ → List Entry → Option Bool
entry_way k [] = None
entry_way k (e ∷ es) = if e.control == k then Some e.up else entry_way k es

-- after a sampling the controls that want to move, and no others, have an entry, which goes the way of the decision
abbrev pub SampledLaw : Type 0
SampledLaw = (s : Setup) (vs : List Decision) (m : Machine) (k : ℕ) → KeepsQueue (length s.controls) m →
    length vs ≡ length s.controls → k < length vs → entry_way k (sampled 0 s.controls vs m).queue ≡ way_of (get_or vs k Hold)

-- so each entry goes the way that its control decided last
abbrev pub OwnLaw : Type 0
OwnLaw = (s : Setup) (vs : List Decision) (m : Machine) → KeepsQueue (length s.controls) m →
    length vs ≡ length s.controls → AllByRecursion (λ e. way_of (get_or vs e.control Hold) ≡ Some e.up) (sampled 0 s.controls vs m).queue

-- The queue: entries in order of time, and at one time in order of sequence number, one entry a control at most.
use Rattle.std.specs.Prelude.{◌≡◌, ◌≢◌, ◌⊎◌, ℕ, ◌<◌, ◌==◌, nat_le, nat_lt, Bool, not, ◌||◌, List, [], ◌∷◌, ◌++◌, Option, find, filter}
use Rattle.std.specs.List.{AllByRecursion, list_any}
use Rattle.fd_queue.specs.Decisions.{is_way}
use Rattle.fd_queue.specs.declared.entry.Entry.{Entry}

abbrev pub has_entry : ℕ → List Entry → Bool
has_entry control es = list_any (λ e. e.control == control) es

-- the entry of a control, and a queue without it
abbrev pub entry_of : ℕ → List Entry → Option Entry
entry_of control es = find (λ e. e.control == control) es

abbrev pub without : ℕ → List Entry → List Entry
without control es = filter (λ e. not (e.control == control)) es

-- a queue without the entry of a control, unless that goes the way that is wanted
abbrev pub kept_way : ℕ → Option Bool → List Entry → List Entry
kept_way control wanted es = filter (λ e. not (e.control == control) || is_way e.up wanted) es

-- with an entry whose sequence number is new: behind those of its time and of earlier times
abbrev pub queued : Entry → List Entry → List Entry
queued e es = filter (λ x. nat_le x.time e.time) es ++ e ∷ filter (λ x. nat_lt e.time x.time) es

-- the least time of a queue
abbrev pub least_time : List Entry → ℕ
least_time [] = 0
least_time (e ∷ es) = e.time

-- the entries of the least time, and the others
abbrev pub nearest : List Entry → List Entry
nearest es = filter (λ e. e.time == least_time es) es

abbrev pub later : List Entry → List Entry
later es = filter (λ e. not (e.time == least_time es)) es

-- ---- what a queue keeps to

-- R holds of each element and each later one
abbrev pub InPairs : {A : Type 0} → (A → A → Type 0) → List A → Type 0
InPairs R [] = Unit {0}
InPairs R (x ∷ xs) = AllByRecursion (R x) xs × InPairs R xs

abbrev pub IsBefore : Entry → Entry → Type 0
IsBefore a b = (a.time < b.time) ⊎ ((a.time ≡ b.time) × (a.seq < b.seq))

abbrev pub HaveOneEach : List Entry → Type 0
HaveOneEach es = InPairs (λ a b. a.control ≢ b.control) es

-- the sequence numbers are below the next one
pub record IsQueue (next : ℕ) (es : List Entry) : Type 0 where
  pub sorted : InPairs IsBefore es
  pub one_each : HaveOneEach es
  pub numbers : AllByRecursion (λ e. e.seq < next) es

-- ---- what contracts see of the code's queue

-- the entries in order, the next sequence number, and for how many entries more there is room
pub record QueueView : Type 0 where
  pub entries : List Entry
  pub next : ℕ
  pub spare : ℕ

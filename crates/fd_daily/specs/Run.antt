-- A run: the settles of a Solve, hour by hour.
use Rattle.std.specs.Prelude.{ℕ, Bool, true, false, if◌then◌else◌, List, [], ◌∷◌, map, IsTrue}
use Rattle.std.specs.List.{AllByRecursion}
use Rattle.fd_settings.specs.dss_circuit.Circuit.{CircuitView}
use Rattle.fd_settle.specs.fd_queue.Controls.{Positions}
use Rattle.fd_settle.specs.fd_queue.Machine.{Machine, Setup}
use Rattle.fd_settle.specs.Sampling.{Sampling}
use Rattle.fd_settle.specs.Settle.{Settle, End, Open, Settled, Limited, Undecidable, settle_of}
use Rattle.fd_settle.specs.Plant.{setup_of}
use Rattle.fd_daily.specs.Day.{resumed}
use Rattle.fd_daily.specs.Hours.{hours_of}

-- an hour: what is sampled in it, the machine's setup, and how the machine starts from what the hour before left
pub record Hour (C : Type 0) : Type 0 where
  pub circuit : C
  pub setup : Setup
  pub start : Machine → Machine

abbrev pub is_settled : End → Bool
is_settled Settled = true
is_settled Open = false
is_settled Limited = false
is_settled (Undecidable k u) = false

-- one hour after the other, with the items of each hour's solves, up to the first settle that doesn't end well
abbrev pub run_of : {C X : Type 0} → (C → Positions → X → Sampling) → List (Hour C) → Machine → List (List X)
    → List Settle
run_of look [] m xss = []
run_of look (h ∷ hs) m [] = []
run_of look (h ∷ hs) m (xs ∷ xss) =
    let s = settle_of h.setup (look h.circuit) (h.start m) xs in
    s ∷ (if is_settled s.end then run_of look hs s.machine xss else [])

-- ---- of a circuit

-- hour k begins by what the hour before left
abbrev pub hour_of : {C : Type 0} → (ℕ → C) → CircuitView → ℕ → Hour C
hour_of at_hour c k = record { circuit = at_hour k; setup = setup_of c; start = resumed c k }

-- the hours of its Solve
abbrev pub day_of : {C : Type 0} → (ℕ → C) → CircuitView → List (Hour C)
day_of at_hour c = map (hour_of at_hour c) (hours_of c.options)

-- ---- how a run goes on

-- what the settles so far left
abbrev pub left_by_run : Machine → List Settle → Machine
left_by_run m [] = m
left_by_run m (s ∷ ss) = left_by_run s.machine ss

-- each of them ended well
abbrev pub AreWell : List Settle → Type 0
AreWell ss = AllByRecursion (λ s. IsTrue (is_settled s.end)) ss

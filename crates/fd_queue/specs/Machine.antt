-- The queue machine: a step takes one decision for each control, in the script's order.
use Rattle.std.specs.Prelude.{◌≡◌, ℕ, ◌+◌, ◌*◌, max, nat_le, ℤ, pos, neg_ℤ, Bool, true, false, not, if◌then◌else◌, List, [], ◌∷◌, get_or, map, set, Option, Some, None}
use Rattle.std.specs.List.{fold, list_any}
use Rattle.fd_queue.specs.Decisions.{Decision, Hold, steps_of, way_of, is_way}
use Rattle.fd_queue.specs.Controls.{Control, Regulates, Switches, BankSwitch, Positions, tap_at, with_tap, moved_tap, is_closed, with_bank}
use Rattle.fd_queue.specs.declared.entry.Entry.{Entry}
use Rattle.fd_queue.specs.declared.timing.Timing.{Timing}
use Rattle.fd_queue.specs.declared.timing.Timing.TheVariants as timing
use Rattle.fd_queue.specs.Queue.{QueueView, has_entry, kept_way, queued, nearest, later}

pub record Machine : Type 0 where
  pub at : Positions
  pub now : ℕ
  -- the last opening time of each bank, and the latest move of each control, up or down
  pub opened : List (Option ℕ)
  pub moves : List (Option Bool)
  pub queue : List Entry
  -- the next sequence number
  pub next : ℕ
  -- the number of acts
  pub made : ℕ

-- which entries are due, and at which time an entry acts, by the time of the machine
pub record Rule : Type 0 where
  pub is_due : ℕ → Entry → Bool
  pub acts_at : ℕ → Entry → ℕ

-- in a settle the time stands still: every entry is due, and acts at its own time
abbrev pub settle_rule : Rule
settle_rule = record { is_due = λ now e. true; acts_at = λ now e. e.time }

-- where the time goes on with the hours, an entry is due from its time on, and acts at the time of the machine
abbrev pub clock_rule : Rule
clock_rule = record { is_due = λ now e. nat_le e.time now; acts_at = λ now e. now }

abbrev pub rule_of : Timing → Rule
rule_of timing.Static = settle_rule
rule_of timing.Clock = clock_rule

-- The machine with which an hour begins at this time, by what the hour before in its Solve left. Positions and opening
-- times stay, and acts are counted anew. In static mode an hour begins with an empty queue and no moves, and numbers
-- entries anew; by the clock all of these stay, so that an entry waits over the hours for its time.
abbrev pub hour_begun : Timing → ℕ → Machine → Machine
hour_begun timing.Static now m = record m { now = now; moves = map (λ x. None) m.moves; queue = []; next = 0; made = 0 }
hour_begun timing.Clock now m = record m { now = now; made = 0 }

pub record Setup : Type 0 where
  pub rule : Rule
  pub controls : List Control
  -- the most acts
  pub limit : ℕ

-- ---- sampling

-- without the control's entry, unless the decision goes the same way
abbrev pub kept : ℕ → Decision → List Entry → List Entry
kept k v es = kept_way k (way_of v) es

-- the greater of a time and the last opening with the dead time
abbrev pub after_opening : ℕ → ℕ → Option ℕ → ℕ
after_opening time dead_time None = time
after_opening time dead_time (Some opened) = max time (opened + dead_time)

-- a tap changer waits the shorter time where its latest move went the same way
abbrev pub tap_time : ℕ → ℕ → ℕ → Option Bool → Bool → ℕ
tap_time now delay tap_delay moved up = now + (if is_way up moved then tap_delay else delay)

abbrev pub switch_time : ℕ → BankSwitch → Option ℕ → Bool → ℕ
switch_time now b opened true = after_opening (now + b.delay) b.dead_time opened
switch_time now b opened false = now + b.delay_off

abbrev pub entry_time : Machine → ℕ → Control → Bool → ℕ
entry_time m k (Regulates r) up = tap_time m.now r.delay r.tap_delay (get_or m.moves k None) up
entry_time m k (Switches b) up = switch_time m.now b (get_or m.opened b.bank None) up

abbrev pub new_entry : Machine → ℕ → Control → Bool → Entry
new_entry m k c up = record { time = entry_time m k c up; seq = m.next; control = k; up = up }

-- a control that has no entry gets one, if it wants to go a way
abbrev pub asked : Control → ℕ → Option Bool → Machine → Machine
asked c k None m = m
asked c k (Some up) m = (if has_entry k m.queue then m
    else record m { queue = queued (new_entry m k c up) m.queue; next = m.next + 1 })

abbrev pub reacted : Control → ℕ → Decision → Machine → Machine
reacted c k v m = asked c k (way_of v) (record m { queue = kept k v m.queue })

-- the controls from number k on, in order
abbrev pub sampled : ℕ → List Control → List Decision → Machine → Machine
sampled k (c ∷ cs) (v ∷ vs) m = sampled (k + 1) cs vs (reacted c k v m)
sampled k (c ∷ cs) [] m = m
sampled k [] vs m = m

-- the machine shows the code's queue, and the time
pub record ShowsQueue (m : Machine) (q : QueueView) (time : ℕ) : Type 0 where
  pub entries : m.queue ≡ q.entries
  pub next : m.next ≡ q.next
  pub now : m.now ≡ time

-- ---- acting

-- when a control moved its device, by how many steps, up or down, and where the device then stands
pub record Act : Type 0 where
  pub time : ℕ
  pub control : ℕ
  pub steps : ℤ
  pub after : ℕ

abbrev pub signed_steps : Bool → ℕ → ℤ
signed_steps up n = if up then pos n else neg_ℤ (pos n)

-- the device of a control moved by the steps of its decision
abbrev pub moved_by : Rule → Control → Decision → Machine → Entry → Machine
moved_by rule (Regulates r) v m e =
    record m {
      at = with_tap m.at r (moved_tap e.up (tap_at m.at r) (steps_of v * r.tap_step));
      moves = set m.moves e.control (Some e.up);
    }
moved_by rule (Switches b) v m e =
    record m {
      at = with_bank m.at b e.up;
      moves = set m.moves e.control (Some e.up);
      opened = if e.up then m.opened else set m.opened b.bank (Some (rule.acts_at m.now e));
    }

-- where a device stands: its tap, or 1 for a closed bank and 0 for an open one
abbrev pub stands : Positions → Control → ℕ
stands at (Regulates r) = tap_at at r
stands at (Switches b) = if is_closed at b then 1 else 0

abbrev pub acted : Rule → Control → Decision → Machine → Entry → Act
acted rule c v m e = record {
  time = rule.acts_at m.now e;
  control = e.control;
  steps = signed_steps e.up (steps_of v);
  after = stands (moved_by rule c v m e).at c;
}

-- the control of a number; a queue names none past the end
abbrev pub no_control : Control
no_control = Switches (record { bank = 0; delay = 0; delay_off = 0; dead_time = 0 })

abbrev pub moved : Setup → List Decision → Machine → Entry → Machine
moved s vs m e = moved_by s.rule (get_or s.controls e.control no_control) (get_or vs e.control Hold) m e

-- the acts of these entries, one after the other
abbrev pub acts_of : Setup → List Decision → Machine → List Entry → List Act
acts_of s vs m [] = []
acts_of s vs m (e ∷ es) =
    acted s.rule (get_or s.controls e.control no_control) (get_or vs e.control Hold) m e
    ∷ acts_of s vs (moved s vs m e) es

-- ---- the step

-- how a step ends: no entry is due, or one is after as many acts as are allowed, or these acts are made
pub data Step : Type 0 where
  Quiet : Machine → Step
  AtLimit : Machine → Step
  Acts : Machine → List Act → Step

-- all entries of the least time act together: one act of the machine
abbrev pub all_acted : Setup → List Decision → Machine → Machine
all_acted s vs m =
    let after = fold (moved s vs) (record m { queue = later m.queue }) (nearest m.queue) in
    record after { made = m.made + 1 }

abbrev pub due_step : Setup → List Decision → Machine → Step
due_step s vs m = (if not (list_any (s.rule.is_due m.now) m.queue) then Quiet m
    else if nat_le s.limit m.made then AtLimit m
    else Acts (all_acted s vs m) (acts_of s vs m (nearest m.queue)))

unfoldable pub step_of : Setup → List Decision → Machine → Step
step_of s vs m = due_step s vs (sampled 0 s.controls vs m)

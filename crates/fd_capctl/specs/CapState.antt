-- What contracts see of the state of a bank's control, and how the queue machine shows it.
use Rattle.std.specs.Prelude.{◌≡◌, ℕ, ℤ, ◌<◌, ◌^◌, Bool, false, if◌then◌else◌, Option, None, Some, length, get_or}
use Rattle.fd_queue.specs.Decisions.{Decision, Raise, Hold, Lower, is_raise, steps_of}
use Rattle.fd_queue.specs.Controls.{Switches, BankSwitch}
use Rattle.fd_queue.specs.Queue.{QueueView}
use Rattle.fd_queue.specs.Machine.{Machine, Rule, ShowsQueue, reacted, moved_by, acted}
use Rattle.fd_queue.specs.declared.entry.Entry.{Entry}

-- the control's number, its delays and the bank's last opening time in milliseconds, the latest verdict and the latest
-- move
pub record CapView : Type 0 where
  pub control : ℕ
  pub delay : ℕ
  pub delay_off : ℕ
  pub dead_time : ℕ
  pub opened : Option ℕ
  pub verdict : Decision
  pub moved : Option Bool

-- the machine's control with these settings, of this bank
abbrev pub switch : CapView → ℕ → BankSwitch
switch s bank = record { bank = bank; delay = s.delay; delay_off = s.delay_off; dead_time = s.dead_time }

abbrev pub IsEarly : Option ℕ → Type 0
IsEarly None = Unit {0}
IsEarly (Some time) = time < 2 ^ 62

-- times from which an entry's time can be made
pub record AreEarly (s : CapView) (now : ℕ) : Type 0 where
  pub start : now < 2 ^ 62
  pub delay : s.delay < 2 ^ 62
  pub delay_off : s.delay_off < 2 ^ 62
  pub dead_time : s.dead_time < 2 ^ 62
  pub opened : IsEarly s.opened

-- ---- sampling

-- the machine shows the queue, the time and the bank's last opening time
pub record ShowsWaiting (m : Machine) (s : CapView) (bank : ℕ) (q : QueueView) (time : ℕ) : Type 0 where
  pub queue : ShowsQueue m q time
  pub opened : get_or m.opened bank None ≡ s.opened

-- what one machine shows before, it shows after the sampling rules
abbrev pub Reacts : CapView → CapView → QueueView → QueueView → ℕ → Decision → Type 0
Reacts s new q after time v = (bank : ℕ) (m : Machine) → ShowsWaiting m s bank q time →
    ShowsWaiting (reacted (Switches (switch s bank)) s.control v m) new bank after time

-- ---- acting

abbrev pub IsMove : Decision → Type 0
IsMove (Raise n) = Unit {0}
IsMove Hold = ⊥
IsMove (Lower n) = Unit {0}

-- an opening bank's last opening time is this one
abbrev pub opened_at : ℕ → Bool → Option ℕ → Option ℕ
opened_at time up opened = if up then opened else Some time

-- the machine shows the bank, its last opening time and the control's latest move
pub record ShowsBank (m : Machine) (s : CapView) (bank : ℕ) (closed : Bool) : Type 0 where
  pub state : get_or m.at.closed bank false ≡ closed
  pub has_state : bank < length m.at.closed
  pub opened : get_or m.opened bank None ≡ s.opened
  pub has_opened : bank < length m.opened
  pub move : get_or m.moves s.control None ≡ s.moved
  pub has_move : s.control < length m.moves

-- an entry of the control that goes the way of its latest verdict, of one step, and acts at this time
pub record IsOwn (rule : Rule) (s : CapView) (m : Machine) (time : ℕ) (e : Entry) : Type 0 where
  pub control : e.control ≡ s.control
  pub way : e.up ≡ is_raise s.verdict
  pub one_step : steps_of s.verdict ≡ 1
  pub acts : rule.acts_at m.now e ≡ time

-- where its entry acts, what the machine shows before, it shows after, and the act has these steps
pub record ActsAs (rule : Rule) (s new : CapView) (after : Bool) (bank : ℕ) (m : Machine) (e : Entry)
    (steps : ℤ) : Type 0 where
  pub shows : ShowsBank (moved_by rule (Switches (switch s bank)) s.verdict m e) new bank after
  pub moves : (acted rule (Switches (switch s bank)) s.verdict m e).steps ≡ steps

abbrev pub ActsInMachine : CapView → CapView → ℕ → Bool → Bool → ℤ → Type 0
ActsInMachine s new time closed after steps = (rule : Rule) (bank : ℕ) (m : Machine) (e : Entry) →
    IsOwn rule s m time e → ShowsBank m s bank closed → ActsAs rule s new after bank m e steps

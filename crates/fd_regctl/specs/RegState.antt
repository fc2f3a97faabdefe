-- What contracts see of the state of a regulator's control, and how the queue machine shows it.
use Rattle.std.specs.Prelude.{◌≡◌, ℕ, ℤ, ◌+◌, ◌*◌, ◌≤◌, ◌<◌, ◌^◌, Bool, Option, None, length, get_or}
use Rattle.fd_queue.specs.fd_arith.declared.terms.TapPair.{TapPair}
use Rattle.fd_queue.specs.Decisions.{Decision, Raise, Hold, Lower, is_raise, steps_of}
use Rattle.fd_queue.specs.Controls.{Regulates, TapChanger, no_taps, tap_of, set_tap, moved_tap}
use Rattle.fd_queue.specs.Queue.{QueueView}
use Rattle.fd_queue.specs.Machine.{Machine, Rule, ShowsQueue, reacted, moved_by, acted}
use Rattle.fd_queue.specs.declared.entry.Entry.{Entry}

-- the control's number, its settings (the tap step in 10^-5, the delays in milliseconds), the latest verdict and the
-- latest move
pub record RegView : Type 0 where
  pub control : ℕ
  pub is_second : Bool
  pub tap_step : ℕ
  pub delay : ℕ
  pub tap_delay : ℕ
  pub verdict : Decision
  pub moved : Option Bool

-- the machine's control with these settings, of this transformer
abbrev pub changer : RegView → ℕ → TapChanger
changer s transformer = record {
  transformer = transformer;
  is_second = s.is_second;
  tap_step = s.tap_step;
  delay = s.delay;
  tap_delay = s.tap_delay;
}

-- ---- sampling

-- the machine shows the queue, the time and the control's latest move
pub record ShowsWaiting (m : Machine) (s : RegView) (q : QueueView) (time : ℕ) : Type 0 where
  pub queue : ShowsQueue m q time
  pub move : get_or m.moves s.control None ≡ s.moved

-- what one machine shows before, it shows after the sampling rules
abbrev pub Reacts : RegView → RegView → QueueView → QueueView → ℕ → Decision → Type 0
Reacts s new q after time v = (transformer : ℕ) (m : Machine) → ShowsWaiting m s q time →
    ShowsWaiting (reacted (Regulates (changer s transformer)) s.control v m) new after time

-- ---- acting

-- the pair of taps after the steps of the latest verdict
abbrev pub moved_pair : RegView → TapPair → TapPair
moved_pair s pair =
    let tap = moved_tap (is_raise s.verdict) (tap_of s.is_second pair) (steps_of s.verdict * s.tap_step) in
    set_tap s.is_second tap pair

-- the verdict is one that moves, and the moved tap is from 0 to 2^32 - 1
abbrev pub CanMove : Decision → ℕ → ℕ → Type 0
CanMove (Raise n) tap step = tap + n * step < 2 ^ 32
CanMove Hold tap step = ⊥
CanMove (Lower n) tap step = n * step ≤ tap

-- the machine shows the taps of the control's transformer and its latest move
pub record ShowsTaps (m : Machine) (s : RegView) (transformer : ℕ) (pair : TapPair) : Type 0 where
  pub taps : get_or m.at.taps transformer no_taps ≡ pair
  pub has_pair : transformer < length m.at.taps
  pub move : get_or m.moves s.control None ≡ s.moved
  pub has_move : s.control < length m.moves

-- an entry of the control that goes the way of its latest verdict
pub record IsOwn (s : RegView) (e : Entry) : Type 0 where
  pub control : e.control ≡ s.control
  pub way : e.up ≡ is_raise s.verdict

-- where its entry acts, what the machine shows before, it shows after, and the act has these steps
pub record ActsAs (rule : Rule) (s new : RegView) (pair after : TapPair) (transformer : ℕ) (m : Machine) (e : Entry)
    (steps : ℤ) : Type 0 where
  pub shows : ShowsTaps (moved_by rule (Regulates (changer s transformer)) s.verdict m e) new transformer after
  pub moves : (acted rule (Regulates (changer s transformer)) s.verdict m e).steps ≡ steps

abbrev pub ActsInMachine : RegView → RegView → TapPair → TapPair → ℤ → Type 0
ActsInMachine s new pair after steps = (rule : Rule) (transformer : ℕ) (m : Machine) (e : Entry) → IsOwn s e →
    ShowsTaps m s transformer pair → ActsAs rule s new pair after transformer m e steps

-- A step leaves a queue.
use Rattle.std.proofs.Common.{◌≡◌, ℕ, ◌+◌, ◌<◌, ◌≤◌, Bool, true, false, cond, not, List, [], ◌∷◌, length, Option, Some, None, get_or, refl, arith}
use Rattle.std.specs.Prelude.{nat_le, ◌==◌, ◌||◌}
use Rattle.std.specs.List.{fold, list_any}
use Rattle.fd_queue.specs.Decisions.{Decision, Hold, way_of, is_way}
use Rattle.fd_queue.specs.Controls.{Control, Regulates, Switches}
use Rattle.fd_queue.specs.declared.entry.Entry.{Entry}
use Rattle.fd_queue.specs.Queue.{has_entry, queued, nearest, later, least_time}
use Rattle.fd_queue.specs.Machine.{Act, Machine, Setup, Rule, Quiet, AtLimit, Acts, kept, entry_time, asked, reacted, sampled, moved, moved_by, no_control, acts_of, all_acted, due_step, step_of}
use Rattle.fd_queue.specs.MachineLaws.{KeepsQueue, Leaves}
use Rattle.fd_queue.proofs.Queues.{filter_keeps, queued_keeps}

asked_by : (n : ℕ) (m new : Machine) (t : Bool) → KeepsQueue n m → (t ≡ false → KeepsQueue n new) →
    KeepsQueue n (cond t m new)
asked_by n m new true h k = h
asked_by n m new false h k = k refl

asked_keeps : (n : ℕ) (c : Control) (k : ℕ) (o : Option Bool) (m : Machine) → k < n → KeepsQueue n m →
    KeepsQueue n (asked c k o m)
asked_keeps n c k None m i q = q
asked_keeps n c k (Some up) m i q =
    asked_by n m (record m {
      queue =
          queued (record { time = entry_time m k c up; seq = m.next; control = k; up = up }) m.queue;
      next = m.next + 1;
    })
    (has_entry k m.queue) q
    (λ e. queued_keeps n m.next (record { time = entry_time m k c up; seq = m.next; control = k; up = up })
    m.queue refl i e q)

pub reacted_keeps : (n : ℕ) (c : Control) (k : ℕ) (v : Decision) (m : Machine) → k < n → KeepsQueue n m →
    KeepsQueue n (reacted c k v m)
reacted_keeps n c k v m i q = asked_keeps n c k (way_of v) (record m { queue = kept k v m.queue }) i
    (filter_keeps n m.next (λ e. not (e.control == k) || is_way e.up (way_of v)) m.queue q)

pub sampled_keeps : (n k : ℕ) (cs : List Control) (vs : List Decision) (m : Machine) → k + length cs ≤ n →
    KeepsQueue n m → KeepsQueue n (sampled k cs vs m)
sampled_keeps n k [] vs m i q = q
sampled_keeps n k (c ∷ cs) [] m i q = q
sampled_keeps n k (c ∷ cs) (v ∷ vs) m i q =
    sampled_keeps n (k + 1) cs vs (reacted c k v m) (omega arith) (reacted_keeps n c k v m (omega arith) q)

-- a move leaves the queue alone
moved_alone : (n : ℕ) (rule : Rule) (c : Control) (v : Decision) (m : Machine) (e : Entry) → KeepsQueue n m →
    KeepsQueue n (moved_by rule c v m e)
moved_alone n rule (Regulates r) v m e q = q
moved_alone n rule (Switches b) v m e q = q

all_moved_keeps : (n : ℕ) (s : Setup) (vs : List Decision) (m : Machine) (es : List Entry) → KeepsQueue n m →
    KeepsQueue n (fold (moved s vs) m es)
all_moved_keeps n s vs m [] q = q
all_moved_keeps n s vs m (e ∷ es) q =
    all_moved_keeps n s vs (moved s vs m e) es
    (moved_alone n s.rule (get_or s.controls e.control no_control) (get_or vs e.control Hold) m e q)

by_tests : (P : Machine → Type 0) (t u : Bool) (m after : Machine) (acts : List Act) → P m → P after →
    Leaves P (cond (not t) (Quiet m) (cond u (AtLimit m) (Acts after acts)))
by_tests P true true m after acts h k = h
by_tests P true false m after acts h k = k
by_tests P false u m after acts h k = h

due_keeps : (n : ℕ) (s : Setup) (vs : List Decision) (m : Machine) → KeepsQueue n m →
    Leaves (KeepsQueue n) (due_step s vs m)
due_keeps n s vs m q = by_tests (KeepsQueue n) (list_any (s.rule.is_due m.now) m.queue) (nat_le s.limit m.made) m
    (all_acted s vs m) (acts_of s vs m (nearest m.queue)) q
    (all_moved_keeps n s vs (record m { queue = later m.queue }) (nearest m.queue)
    (filter_keeps n m.next (λ e. not (e.time == least_time m.queue)) m.queue q))

pub step_keeps : (s : Setup) (vs : List Decision) (m : Machine) → KeepsQueue (length s.controls) m →
    Leaves (KeepsQueue (length s.controls)) (step_of s vs m)
unfolding step_of
step_keeps s vs m q = due_keeps (length s.controls) s vs (sampled 0 s.controls vs m)
    (sampled_keeps (length s.controls) 0 s.controls vs m (omega arith) q)

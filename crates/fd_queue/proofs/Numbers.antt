-- A step takes at most one sequence number for each control.
use Rattle.std.proofs.Common.{ℕ, ◌+◌, ◌≤◌, Bool, true, false, cond, not, List, [], ◌∷◌, length, Option, Some, None, get_or, arith}
use Rattle.std.specs.Prelude.{nat_le}
use Rattle.std.specs.List.{fold, list_any}
use Rattle.fd_queue.specs.Decisions.{Decision, Hold, way_of}
use Rattle.fd_queue.specs.Controls.{Control, Regulates, Switches}
use Rattle.fd_queue.specs.declared.entry.Entry.{Entry}
use Rattle.fd_queue.specs.Queue.{has_entry, queued, nearest, later}
use Rattle.fd_queue.specs.Machine.{Act, Machine, Setup, Rule, Quiet, AtLimit, Acts, kept, entry_time, asked, reacted, sampled, moved, moved_by, no_control, acts_of, all_acted, step_of}
use Rattle.fd_queue.specs.MachineLaws.{FewNumbers, Leaves}

one_by : (t : Bool) (m new : Machine) (n : ℕ) → m.next ≤ n → new.next ≤ n → (cond t m new).next ≤ n
one_by true m new n h k = h
one_by false m new n h k = k

asked_numbers : (c : Control) (k : ℕ) (o : Option Bool) (m : Machine) → (asked c k o m).next ≤ m.next + 1
asked_numbers c k None m = omega arith
asked_numbers c k (Some up) m =
    one_by (has_entry k m.queue) m
    (record m {
      queue = queued (record { time = entry_time m k c up; seq = m.next; control = k; up = up }) m.queue;
      next = m.next + 1;
    }) (m.next + 1) (omega arith) (omega arith)

sampled_numbers : (k : ℕ) (cs : List Control) (vs : List Decision) (m : Machine) →
    (sampled k cs vs m).next ≤ m.next + length cs
sampled_numbers k [] vs m = omega arith
sampled_numbers k (c ∷ cs) [] m = omega arith
sampled_numbers k (c ∷ cs) (v ∷ vs) m =
    let rest : (sampled (k + 1) cs vs (reacted c k v m)).next ≤ (reacted c k v m).next + length cs =
    sampled_numbers (k + 1) cs vs (reacted c k v m) in
    let here : (reacted c k v m).next ≤ m.next + 1 =
    asked_numbers c k (way_of v) (record m { queue = kept k v m.queue }) in
    omega arith

moved_numbers : (n : ℕ) (rule : Rule) (c : Control) (v : Decision) (m : Machine) (e : Entry) → m.next ≤ n →
    (moved_by rule c v m e).next ≤ n
moved_numbers n rule (Regulates r) v m e h = h
moved_numbers n rule (Switches b) v m e h = h

all_numbers : (n : ℕ) (s : Setup) (vs : List Decision) (m : Machine) (es : List Entry) → m.next ≤ n →
    (fold (moved s vs) m es).next ≤ n
all_numbers n s vs m [] h = h
all_numbers n s vs m (e ∷ es) h =
    all_numbers n s vs (moved s vs m e) es
    (moved_numbers n s.rule (get_or s.controls e.control no_control) (get_or vs e.control Hold) m e h)

by_tests : (P : Machine → Type 0) (t u : Bool) (m after : Machine) (acts : List Act) → P m → P after →
    Leaves P (cond (not t) (Quiet m) (cond u (AtLimit m) (Acts after acts)))
by_tests P true true m after acts h k = h
by_tests P true false m after acts h k = k
by_tests P false u m after acts h k = h

pub step_numbers : (s : Setup) (vs : List Decision) (m : Machine) →
    Leaves (FewNumbers (length s.controls) m) (step_of s vs m)
unfolding step_of
step_numbers s vs m = let n = sampled 0 s.controls vs m in
    let few : n.next ≤ m.next + length s.controls = sampled_numbers 0 s.controls vs m in
    by_tests (FewNumbers (length s.controls) m) (list_any (s.rule.is_due n.now) n.queue) (nat_le s.limit n.made) n
    (all_acted s vs n) (acts_of s vs n (nearest n.queue)) few
    (all_numbers (m.next + length s.controls) s vs (record n { queue = later n.queue }) (nearest n.queue) few)

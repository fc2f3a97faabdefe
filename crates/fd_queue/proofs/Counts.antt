-- Acts are counted, and no entry is due at the end.
use Rattle.std.proofs.Common.{◌≡◌, ℕ, ◌+◌, ◌<◌, ◌≤◌, Bool, true, false, cond, not, List, [], ◌∷◌, Option, Some, None, refl, ◌∙◌, arith}
use Rattle.std.specs.Prelude.{nat_le}
use Rattle.std.specs.List.{AllByRecursion, list_any}
use Rattle.std.proofs.lemmas.Bool.Decides.{nat_tests}
use Rattle.fd_queue.specs.Decisions.{Decision, way_of}
use Rattle.fd_queue.specs.Controls.{Control}
use Rattle.fd_queue.specs.Queue.{has_entry, queued, nearest}
use Rattle.fd_queue.specs.Machine.{Act, Machine, Setup, Quiet, AtLimit, Acts, kept, entry_time, asked, reacted, sampled, acts_of, all_acted, step_of}
use Rattle.fd_queue.specs.MachineLaws.{CountsActs, IsQuiet}
use Rattle.fd_queue.proofs.Pairs.{none_passes}

either : (t : Bool) (m new : Machine) (k : ℕ) → m.made ≡ k → new.made ≡ k → (cond t m new).made ≡ k
either true m new k e f = e
either false m new k e f = f

asked_count : (c : Control) (k : ℕ) (o : Option Bool) (m : Machine) → (asked c k o m).made ≡ m.made
asked_count c k None m = refl
asked_count c k (Some up) m =
    either (has_entry k m.queue) m
    (record m {
      queue = queued (record { time = entry_time m k c up; seq = m.next; control = k; up = up }) m.queue;
      next = m.next + 1;
    }) m.made refl refl

pub sampled_count : (k : ℕ) (cs : List Control) (vs : List Decision) (m : Machine) → (sampled k cs vs m).made ≡ m.made
sampled_count k [] vs m = refl
sampled_count k (c ∷ cs) [] m = refl
sampled_count k (c ∷ cs) (v ∷ vs) m = sampled_count (k + 1) cs vs (reacted c k v m)
    ∙ asked_count c k (way_of v) (record m { queue = kept k v m.queue })

not_at : (limit made : ℕ) → nat_le limit made ≡ false → made < limit
not_at limit made h = grind (arith, nat_tests)

at : (limit made : ℕ) → nat_le limit made ≡ true → limit ≤ made
at limit made h = grind (arith, nat_tests)

counts_by : (s : Setup) (m n after : Machine) (acts : List Act) (t u : Bool) → n.made ≡ m.made →
    after.made ≡ n.made + 1 → (u ≡ true → s.limit ≤ n.made) → (u ≡ false → n.made < s.limit) →
    CountsActs s m (cond (not t) (Quiet n) (cond u (AtLimit n) (Acts after acts)))
counts_by s m n after acts false u e f h k = e
counts_by s m n after acts true true e f h k = (e, omega (arith, h refl))
counts_by s m n after acts true false e f h k = record { one_more = omega arith; allowed = omega (arith, k refl) }

pub step_counts : (s : Setup) (vs : List Decision) (m : Machine) → CountsActs s m (step_of s vs m)
unfolding step_of
step_counts s vs m = let n = sampled 0 s.controls vs m in
    counts_by s m n (all_acted s vs n) (acts_of s vs n (nearest n.queue)) (list_any (s.rule.is_due n.now) n.queue)
    (nat_le s.limit n.made) (sampled_count 0 s.controls vs m) refl (at s.limit n.made) (not_at s.limit n.made)

quiet_by : (s : Setup) (n after : Machine) (acts : List Act) (t u : Bool) →
    (t ≡ false → AllByRecursion (λ e. s.rule.is_due n.now e ≡ false) n.queue) →
    IsQuiet s (cond (not t) (Quiet n) (cond u (AtLimit n) (Acts after acts)))
quiet_by s n after acts false u h = h refl
quiet_by s n after acts true true h = tt
quiet_by s n after acts true false h = tt

pub step_quiet : (s : Setup) (vs : List Decision) (m : Machine) → IsQuiet s (step_of s vs m)
unfolding step_of
step_quiet s vs m = let n = sampled 0 s.controls vs m in
    quiet_by s n (all_acted s vs n) (acts_of s vs n (nearest n.queue)) (list_any (s.rule.is_due n.now) n.queue)
    (nat_le s.limit n.made) (none_passes (s.rule.is_due n.now) n.queue)

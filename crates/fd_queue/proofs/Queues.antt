-- A queue stays one.
use Rattle.std.proofs.Common.{◌≡◌, ◌≢◌, ◌⊎◌, inl, inr, ⊎_elim, ℕ, ◌+◌, ◌<◌, ◌≤◌, Bool, true, false, List, [], ◌∷◌, arith}
use Rattle.std.specs.Prelude.{nat_le, nat_lt, ◌==◌}
use Rattle.std.specs.List.{AllByRecursion, filter}
use Rattle.std.proofs.lemmas.Bool.Decides.{nat_tests}
use Rattle.fd_queue.specs.declared.entry.Entry.{Entry}
use Rattle.fd_queue.specs.Queue.{InPairs, IsBefore, IsQueue, has_entry, queued, least_time}
use Rattle.fd_queue.specs.MachineLaws.{IsQueueOf}
use Rattle.fd_queue.proofs.Pairs.{each_filter, each_weaker, each_both, each_append, each_passes, none_passes, pairs_filter, pairs_append, pairs_split}

pub queue_filter : (next : ℕ) (p : Entry → Bool) (es : List Entry) → IsQueue next es → IsQueue next (filter p es)
queue_filter next p es q = record {
  sorted = pairs_filter IsBefore p es q.sorted;
  one_each = pairs_filter (λ a b. a.control ≢ b.control) p es q.one_each;
  numbers = each_filter (λ e. e.seq < next) p es q.numbers;
}

pub filter_keeps : (n next : ℕ) (p : Entry → Bool) (es : List Entry) → IsQueueOf n next es →
    IsQueueOf n next (filter p es)
filter_keeps n next p es q = record {
  queue = queue_filter next p es q.queue;
  controls = each_filter (λ e. e.control < n) p es q.controls;
}

le_time : (a b : ℕ) → nat_le a b ≡ true → a ≤ b
le_time a b h = grind (arith, nat_tests)

lt_time : (a b : ℕ) → nat_lt a b ≡ true → a < b
lt_time a b h = grind (arith, nat_tests)

apart : (a b : ℕ) → (a == b) ≡ false → a ≢ b
apart a b h = grind (arith, nat_tests)

no_less : (a b : ℕ) → a ≤ b → (a < b) ⊎ (a ≡ b)
no_less a b h = grind arith

before_new : (x e : Entry) → x.time ≤ e.time → x.seq < e.seq → IsBefore x e
before_new x e h k = ⊎_elim (λ less. inl less) (λ same. inr (same, k)) (no_less x.time e.time h)

pub queued_sorted : (next : ℕ) (e : Entry) (es : List Entry) → e.seq ≡ next → InPairs IsBefore es →
    AllByRecursion (λ x. x.seq < next) es → InPairs IsBefore (queued e es)
queued_sorted next e es s sorted numbers =
    let front : Entry → Bool = λ x. nat_le x.time e.time in
    let back : Entry → Bool = λ x. nat_lt e.time x.time in
    let early : AllByRecursion (λ x. (front x ≡ true) × (x.seq < next)) (filter front es) =
    each_both (λ x. front x ≡ true) (λ x. x.seq < next) (filter front es) (each_passes front es)
    (each_filter (λ x. x.seq < next) front es numbers) in
    let late : AllByRecursion (λ x. back x ≡ true) (filter back es) = each_passes back es in
    pairs_append IsBefore (filter front es) (e ∷ filter back es)
    (pairs_filter IsBefore front es sorted) (
      each_weaker (λ x. back x ≡ true) (IsBefore e) (λ x h. inl (lt_time e.time x.time h)) (filter back es) late,
      pairs_filter IsBefore back es sorted,
    )
    (each_weaker (λ x. (front x ≡ true) × (x.seq < next)) (λ x. AllByRecursion (IsBefore x) (e ∷ filter back es))
    (λ x h. let le : x.time ≤ e.time = le_time x.time e.time h.0 in (
      before_new x e le (omega (arith, h.1, s)),
      each_weaker (λ y. back y ≡ true) (IsBefore x)
          (λ y k. inl (omega (arith, le, lt_time e.time y.time k))) (filter back es) late,
    ))
    (filter front es) early)

pub queued_numbers : (next : ℕ) (e : Entry) (es : List Entry) → e.seq ≡ next → AllByRecursion (λ x. x.seq < next) es →
    AllByRecursion (λ x. x.seq < next + 1) (queued e es)
queued_numbers next e es s numbers =
    let front : Entry → Bool = λ x. nat_le x.time e.time in
    let back : Entry → Bool = λ x. nat_lt e.time x.time in
    let more : AllByRecursion (λ x. x.seq < next + 1) es =
    each_weaker (λ x. x.seq < next) (λ x. x.seq < next + 1) (λ x h. omega arith) es numbers in
    each_append (λ x. x.seq < next + 1) (filter front es) (e ∷ filter back es)
    (each_filter (λ x. x.seq < next + 1) front es more)
    (omega (arith, s), each_filter (λ x. x.seq < next + 1) back es more)

pub queue_put : (next : ℕ) (e : Entry) (es : List Entry) → e.seq ≡ next → has_entry e.control es ≡ false →
    IsQueue next es → IsQueue (next + 1) (queued e es)
queue_put next e es s f q =
    let front : Entry → Bool = λ x. nat_le x.time e.time in
    let back : Entry → Bool = λ x. nat_lt e.time x.time in
    let other : AllByRecursion (λ x. x.control ≢ e.control) es =
    each_weaker _ _ (λ x h. apart x.control e.control h) es (none_passes (λ x. x.control == e.control) es f) in
    record {
      sorted = queued_sorted next e es s q.sorted q.numbers;
      one_each = pairs_append (λ a b. a.control ≢ b.control) (filter front es) (e ∷ filter back es)
          (pairs_filter (λ a b. a.control ≢ b.control) front es q.one_each) (
            each_filter (λ x. e.control ≢ x.control) back es
                (each_weaker (λ x. x.control ≢ e.control) (λ x. e.control ≢ x.control) (λ x h k. h (omega arith))
                es other),
            pairs_filter (λ a b. a.control ≢ b.control) back es q.one_each,
          )
          (each_both (λ x. x.control ≢ e.control) (λ x. AllByRecursion (λ y. x.control ≢ y.control) (filter back es))
          (filter front es)
          (each_filter (λ x. x.control ≢ e.control) front es other)
          (pairs_split (λ a b. a.control ≢ b.control) (λ x y h k. h (omega arith)) front back
          (λ x h k. absurd (omega (arith, le_time x.time e.time h, lt_time e.time x.time k))) es q.one_each));
      numbers = queued_numbers next e es s q.numbers;
    }

pub queued_keeps : (n next : ℕ) (e : Entry) (es : List Entry) → e.seq ≡ next → e.control < n →
    has_entry e.control es ≡ false → IsQueueOf n next es → IsQueueOf n (next + 1) (queued e es)
queued_keeps n next e es s i f q =
    let front : Entry → Bool = λ x. nat_le x.time e.time in
    let back : Entry → Bool = λ x. nat_lt e.time x.time in
    record {
      queue = queue_put next e es s f q.queue;
      controls = each_append (λ x. x.control < n) (filter front es) (e ∷ filter back es)
          (each_filter (λ x. x.control < n) front es q.controls)
          (i, each_filter (λ x. x.control < n) back es q.controls);
    }

not_less : (a b : Entry) → IsBefore a b → a.time ≤ b.time
not_less a b h = ⊎_elim (λ less. omega arith) (λ same. omega (arith, same.0)) h

pub none_before : (next : ℕ) (es : List Entry) → IsQueue next es → AllByRecursion (λ e. least_time es ≤ e.time) es
none_before next [] q = tt
none_before next (e ∷ es) q = (omega arith, each_weaker (IsBefore e) (λ x. e.time ≤ x.time) (not_less e) es q.sorted.0)

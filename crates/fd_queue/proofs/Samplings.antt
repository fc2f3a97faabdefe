-- After a sampling the controls that want to move have an entry.
use Rattle.std.proofs.Common.{◌≡◌, ◌≢◌, ◌⊎◌, inl, inr, ⊎_elim, ℕ, zero, suc, ◌+◌, ◌<◌, ◌≤◌, Bool, true, false, cond, not, List, [], ◌∷◌, ◌++◌, length, get_or, Option, Some, None, refl, ◌∙◌, ap, arith, sym}
use Rattle.std.specs.Prelude.{◌==◌, ◌||◌, nat_le, nat_lt}
use Rattle.std.specs.List.{AllByRecursion, filter}
use Rattle.std.proofs.lemmas.Bool.Decides.{nat_tests}
use Rattle.fd_queue.specs.Decisions.{Decision, Hold, way_of, is_way}
use Rattle.fd_queue.specs.Controls.{Control}
use Rattle.fd_queue.specs.declared.entry.Entry.{Entry}
use Rattle.fd_queue.specs.Queue.{InPairs, has_entry, queued}
use Rattle.fd_queue.specs.Machine.{Machine, Setup, kept, entry_time, asked, reacted, sampled}
use Rattle.fd_queue.specs.MachineLaws.{KeepsQueue, entry_way}
use Rattle.fd_queue.proofs.Steps.{reacted_keeps, sampled_keeps}
use Rattle.fd_queue.proofs.Pairs.{none_passes, each_filter, each_weaker, each_both, pairs_filter}

-- ---- the way of an entry

abbrev or_else : Option Bool → Option Bool → Option Bool
or_else None b = b
or_else (Some a) b = Some a

append_by : (t : Bool) (up : Bool) (a b c : Option Bool) → a ≡ or_else b c →
    cond t (Some up) a ≡ or_else (cond t (Some up) b) c
append_by true up a b c h = refl
append_by false up a b c h = h

way_append : (k : ℕ) (xs ys : List Entry) → entry_way k (xs ++ ys) ≡ or_else (entry_way k xs) (entry_way k ys)
way_append k [] ys = refl
way_append k (x ∷ xs) ys =
    append_by (x.control == k) x.up (entry_way k (xs ++ ys)) (entry_way k xs) (entry_way k ys) (way_append k xs ys)

none_by : (t : Bool) (a b : Option Bool) → t ≡ false → b ≡ None → cond t a b ≡ None
none_by true a b e h = absurd (cc)
none_by false a b e h = h

-- no entry is of the control
way_none : (k : ℕ) (es : List Entry) → AllByRecursion (λ e. (e.control == k) ≡ false) es → entry_way k es ≡ None
way_none k [] h = refl
way_none k (e ∷ es) h = none_by (e.control == k) (Some e.up) (entry_way k es) h.0 (way_none k es h.1)

passed_by : (u : Bool) (a v w : Option Bool) → (u ≡ true → ⊥) → v ≡ w → v ≡ cond u a w
passed_by true a v w h k = absurd (h refl)
passed_by false a v w h k = k

filter_by : (k : ℕ) (e : Entry) (fs : List Entry) (t : Bool) (w : Option Bool) →
    ((e.control == k) ≡ true → t ≡ true) → entry_way k fs ≡ w →
    entry_way k (cond t (e ∷ fs) fs) ≡ cond (e.control == k) (Some e.up) w
filter_by k e fs true w h i = ap (cond (e.control == k) (Some e.up)) i
filter_by k e fs false w h i = passed_by (e.control == k) (Some e.up) (entry_way k fs) w (λ u. let f = h u in cc) i

-- a filter that keeps the entries of the control
way_filter : (k : ℕ) (p : Entry → Bool) (es : List Entry) → ((e : Entry) → (e.control == k) ≡ true → p e ≡ true) →
    entry_way k (filter p es) ≡ entry_way k es
way_filter k p [] h = refl
way_filter k p (e ∷ es) h = filter_by k e (filter p es) (p e) (entry_way k es) (h e) (way_filter k p es h)

first_by : (u : Bool) (up : Bool) (a b w : Option Bool) → or_else a b ≡ w →
    or_else (cond u (Some up) a) b ≡ cond u (Some up) w
first_by true up a b w h = refl
first_by false up a b w h = h

second_by : (u : Bool) (up : Bool) (a b w : Option Bool) → (u ≡ true → a ≡ None) → or_else a b ≡ w →
    or_else a (cond u (Some up) b) ≡ cond u (Some up) w
second_by true up a b w n h = ap (λ o. or_else o (Some up)) (n refl)
second_by false up a b w n h = h

split_by : (k : ℕ) (e : Entry) (fs gs : List Entry) (w : Option Bool) (t u : Bool) → u ≡ not t →
    ((e.control == k) ≡ true → entry_way k fs ≡ None) → or_else (entry_way k fs) (entry_way k gs) ≡ w →
    or_else (entry_way k (cond t (e ∷ fs) fs)) (entry_way k (cond u (e ∷ gs) gs)) ≡ cond (e.control == k) (Some e.up) w
split_by k e fs gs w true true h n i = absurd (cc)
split_by k e fs gs w true false h n i = first_by (e.control == k) e.up (entry_way k fs) (entry_way k gs) w i
split_by k e fs gs w false true h n i = second_by (e.control == k) e.up (entry_way k fs) (entry_way k gs) w n i
split_by k e fs gs w false false h n i = absurd (cc)

not_that : (a b k : ℕ) → (a == k) ≡ true → a ≢ b → (b == k) ≡ false
not_that a b k h d = grind (arith, nat_tests)

-- a split in two
way_split : (k : ℕ) (p q : Entry → Bool) (es : List Entry) → ((e : Entry) → q e ≡ not (p e)) →
    InPairs (λ a b. a.control ≢ b.control) es →
    or_else (entry_way k (filter p es)) (entry_way k (filter q es)) ≡ entry_way k es
way_split k p q [] h a = refl
way_split k p q (e ∷ es) h a = split_by k e (filter p es) (filter q es) (entry_way k es) (p e) (q e) (h e)
    (λ u. way_none k (filter p es)
    (each_filter (λ x. (x.control == k) ≡ false) p es
    (each_weaker (λ x. e.control ≢ x.control) (λ x. (x.control == k) ≡ false)
    (λ x d. not_that e.control x.control k u d) es a.0)))
    (way_split k p q es h a.1)

-- ---- a new entry

flip_test : (a b : ℕ) → nat_lt b a ≡ not (nat_le a b)
flip_test a b = grind (arith, nat_tests)

same_test : (k : ℕ) → (k == k) ≡ true
same_test k = grind (arith, nat_tests)

new_by : (u : Bool) (up : Bool) (a b : Option Bool) → u ≡ true → a ≡ None → or_else a (cond u (Some up) b) ≡ Some up
new_by true up a b e h = ap (λ o. or_else o (Some up)) h
new_by false up a b e h = absurd (cc)

queued_new : (e : Entry) (es : List Entry) → has_entry e.control es ≡ false →
    entry_way e.control (queued e es) ≡ Some e.up
queued_new e es h = way_append e.control (filter (λ x. nat_le x.time e.time) es)
    (e ∷ filter (λ x. nat_lt e.time x.time) es)
    ∙ new_by (e.control == e.control) e.up (entry_way e.control (filter (λ x. nat_le x.time e.time) es))
    (entry_way e.control (filter (λ x. nat_lt e.time x.time) es)) (same_test e.control)
    (way_none e.control (filter (λ x. nat_le x.time e.time) es)
    (each_filter (λ x. (x.control == e.control) ≡ false) (λ x. nat_le x.time e.time) es
    (none_passes (λ x. x.control == e.control) es h)))

old_by : (u : Bool) (up : Bool) (a b w : Option Bool) → u ≡ false → or_else a b ≡ w → or_else a (cond u (Some up) b) ≡ w
old_by true up a b w e h = absurd (cc)
old_by false up a b w e h = h

queued_other : (k : ℕ) (e : Entry) (es : List Entry) → (e.control == k) ≡ false →
    InPairs (λ a b. a.control ≢ b.control) es → entry_way k (queued e es) ≡ entry_way k es
queued_other k e es d a = way_append k (filter (λ x. nat_le x.time e.time) es)
    (e ∷ filter (λ x. nat_lt e.time x.time) es)
    ∙ old_by (e.control == k) e.up (entry_way k (filter (λ x. nat_le x.time e.time) es))
    (entry_way k (filter (λ x. nat_lt e.time x.time) es)) (entry_way k es) d
    (way_split k (λ x. nat_le x.time e.time) (λ x. nat_lt e.time x.time) es (λ x. flip_test x.time e.time) a)

-- ---- one control

is_that_way : (up : Bool) (w : Option Bool) → is_way up w ≡ true → Some up ≡ w
is_that_way up None h = absurd (cc)
is_that_way true (Some true) h = refl
is_that_way false (Some true) h = absurd (cc)
is_that_way true (Some false) h = absurd (cc)
is_that_way false (Some false) h = refl

kept_by : (c t : Bool) (up : Bool) (w a b : Option Bool) → (t ≡ true → Some up ≡ w) → (a ≡ None) ⊎ (a ≡ w) →
    b ≡ cond (not c || t) (cond c (Some up) a) a → (b ≡ None) ⊎ (b ≡ w)
kept_by true true up w a b h i e = inr (e ∙ h refl)
kept_by true false up w a b h i e = ⊎_elim (λ n. inl (e ∙ n)) (λ s. inr (e ∙ s)) i
kept_by false t up w a b h i e = ⊎_elim (λ n. inl (e ∙ n)) (λ s. inr (e ∙ s)) i

way_cond : (k : ℕ) (t : Bool) (e : Entry) (fs : List Entry) →
    entry_way k (cond t (e ∷ fs) fs) ≡ cond t (cond (e.control == k) (Some e.up) (entry_way k fs)) (entry_way k fs)
way_cond k true e fs = refl
way_cond k false e fs = refl

kept_way : (k : ℕ) (v : Decision) (es : List Entry) →
    (entry_way k (kept k v es) ≡ None) ⊎ (entry_way k (kept k v es) ≡ way_of v)
kept_way k v [] = inl refl
kept_way k v (e ∷ es) = kept_by (e.control == k) (is_way e.up (way_of v)) e.up (way_of v) (entry_way k (kept k v es))
    _ (is_that_way e.up (way_of v)) (kept_way k v es)
    (way_cond k (not (e.control == k) || is_way e.up (way_of v)) e (kept k v es))

none_has_by : (c t : Bool) (up : Bool) (w : Option Bool) → (w ≡ None → t ≡ false) → cond c (Some up) w ≡ None →
    (c || t) ≡ false
none_has_by true t up w h e = absurd (cc)
none_has_by false t up w h e = h e

none_has : (k : ℕ) (es : List Entry) → entry_way k es ≡ None → has_entry k es ≡ false
none_has k [] h = refl
none_has k (e ∷ es) h = none_has_by (e.control == k) (has_entry k es) e.up (entry_way k es) (none_has k es) h

asked_by : (k : ℕ) (o : Option Bool) (t : Bool) (m new : Machine) → (t ≡ true → entry_way k m.queue ≡ o) →
    (t ≡ false → entry_way k new.queue ≡ o) → entry_way k (cond t m new).queue ≡ o
asked_by k o true m new h i = h refl
asked_by k o false m new h i = i refl

asked_way : (c : Control) (k : ℕ) (o : Option Bool) (m : Machine) →
    (entry_way k m.queue ≡ None) ⊎ (entry_way k m.queue ≡ o) → entry_way k (asked c k o m).queue ≡ o
asked_way c k None m h = ⊎_elim (λ n. n) (λ s. s) h
asked_way c k (Some up) m h =
    asked_by k (Some up) (has_entry k m.queue) m
    (record m {
      queue = queued (record { time = entry_time m k c up; seq = m.next; control = k; up = up }) m.queue;
      next = m.next + 1;
    })
    (λ t. ⊎_elim (λ n. absurd (let f = none_has k m.queue n in cc)) (λ s. s) h)
    (λ f. queued_new (record { time = entry_time m k c up; seq = m.next; control = k; up = up }) m.queue f)

reacted_way : (c : Control) (k : ℕ) (v : Decision) (m : Machine) → entry_way k (reacted c k v m).queue ≡ way_of v
reacted_way c k v m = asked_way c k (way_of v) (record m { queue = kept k v m.queue }) (kept_way k v m.queue)

-- ---- another control

left_true : (c t : Bool) → c ≡ false → (not c || t) ≡ true
left_true true t h = absurd (cc)
left_true false t h = refl

other_false : (c k j : ℕ) → k ≢ j → (c == k) ≡ true → (c == j) ≡ false
other_false c k j d h = grind (arith, nat_tests)

apart_test : (j k : ℕ) → k ≢ j → (j == k) ≡ false
apart_test j k d = grind (arith, nat_tests)

stays_by : (k j : ℕ) (up : Bool) (w : Option Bool) (c : ℕ) → k ≢ j → (c == k) ≡ true →
    (not (c == j) || is_way up w) ≡ true
stays_by k j up w c d h = left_true (c == j) (is_way up w) (other_false c k j d h)

other_of : (c : Control) (j k : ℕ) (o : Option Bool) (m : Machine) → k ≢ j →
    InPairs (λ a b. a.control ≢ b.control) m.queue → entry_way k (asked c j o m).queue ≡ entry_way k m.queue
other_of c j k None m d a = refl
other_of c j k (Some up) m d a =
    asked_by k (entry_way k m.queue) (has_entry j m.queue) m
    (record m {
      queue = queued (record { time = entry_time m j c up; seq = m.next; control = j; up = up }) m.queue;
      next = m.next + 1;
    })
    (λ t. refl)
    (λ f. queued_other k (record { time = entry_time m j c up; seq = m.next; control = j; up = up }) m.queue
    (apart_test j k d) a)

reacted_other : (c : Control) (j k : ℕ) (v : Decision) (m : Machine) → k ≢ j →
    InPairs (λ a b. a.control ≢ b.control) m.queue → entry_way k (reacted c j v m).queue ≡ entry_way k m.queue
reacted_other c j k v m d a =
    other_of c j k (way_of v) (record m { queue = kept j v m.queue }) d
    (pairs_filter (λ a b. a.control ≢ b.control) (λ e. not (e.control == j) || is_way e.up (way_of v)) m.queue a)
    ∙ way_filter k (λ e. not (e.control == j) || is_way e.up (way_of v)) m.queue
    (λ e h. stays_by k j e.up (way_of v) e.control d h)

-- ---- all controls

before_them : (n i k : ℕ) (cs : List Control) (vs : List Decision) (m : Machine) → i < k → k + length cs ≤ n →
    KeepsQueue n m → entry_way i (sampled k cs vs m).queue ≡ entry_way i m.queue
before_them n i k [] vs m l b q = refl
before_them n i k (c ∷ cs) [] m l b q = refl
before_them n i k (c ∷ cs) (v ∷ vs) m l b q =
    before_them n i (k + 1) cs vs (reacted c k v m) (omega arith) (omega arith)
    (reacted_keeps n c k v m (omega arith) q)
    ∙ reacted_other c k i v m (λ e. omega arith) q.queue.one_each

from_there : (n k i : ℕ) (cs : List Control) (vs : List Decision) (m : Machine) → length vs ≡ length cs →
    i < length vs → k + length cs ≤ n → KeepsQueue n m →
    entry_way (k + i) (sampled k cs vs m).queue ≡ way_of (get_or vs i Hold)
from_there n k i [] [] m e l b q = absurd (omega arith)
from_there n k i [] (v ∷ vs) m e l b q = absurd (omega arith)
from_there n k i (c ∷ cs) [] m e l b q = absurd (omega arith)
from_there n k zero (c ∷ cs) (v ∷ vs) m e l b q =
    let here : k + 0 ≡ k = omega arith in
    ap (λ j. entry_way j (sampled (k + 1) cs vs (reacted c k v m)).queue) here
    ∙ before_them n k (k + 1) cs vs (reacted c k v m) (omega arith) (omega arith)
    (reacted_keeps n c k v m (omega arith) q)
    ∙ reacted_way c k v m
from_there n k (suc i) (c ∷ cs) (v ∷ vs) m e l b q =
    let next : k + suc i ≡ k + 1 + i = omega arith in
    ap (λ j. entry_way j (sampled (k + 1) cs vs (reacted c k v m)).queue) next
    ∙ from_there n (k + 1) i cs vs (reacted c k v m) (omega arith) (omega arith) (omega arith)
    (reacted_keeps n c k v m (omega arith) q)

pub sampled_ways : (s : Setup) (vs : List Decision) (m : Machine) (k : ℕ) → KeepsQueue (length s.controls) m →
    length vs ≡ length s.controls → k < length vs →
    entry_way k (sampled 0 s.controls vs m).queue ≡ way_of (get_or vs k Hold)
sampled_ways s vs m k q e i =
    let here : k ≡ 0 + k = omega arith in
    ap (λ j. entry_way j (sampled 0 s.controls vs m).queue) here
    ∙ from_there (length s.controls) 0 k s.controls vs m e i (omega arith) q

-- ---- each entry

here_by : (t : Bool) (up : Bool) (w : Option Bool) → t ≡ true → cond t (Some up) w ≡ Some up
here_by true up w h = refl
here_by false up w h = absurd (cc)

there_by : (t : Bool) (up other : Bool) (w : Option Bool) → t ≡ false → w ≡ Some other → cond t (Some up) w ≡ Some other
there_by true up other w h e = absurd (cc)
there_by false up other w h e = e

own_ways : (es : List Entry) → InPairs (λ a b. a.control ≢ b.control) es →
    AllByRecursion (λ e. entry_way e.control es ≡ Some e.up) es
own_ways [] a = tt
own_ways (x ∷ xs) a = (
  here_by (x.control == x.control) x.up (entry_way x.control xs) (same_test x.control),
  each_weaker (λ e. (entry_way e.control xs ≡ Some e.up) × (x.control ≢ e.control))
      (λ e. entry_way e.control (x ∷ xs) ≡ Some e.up)
      (λ e h. there_by (x.control == e.control) x.up e.up (entry_way e.control xs)
      (apart_test x.control e.control (λ i. h.1 (sym i))) h.0) xs
      (each_both (λ e. entry_way e.control xs ≡ Some e.up) (λ e. x.control ≢ e.control) xs (own_ways xs a.1) a.0),
)

pub own_entries : (s : Setup) (vs : List Decision) (m : Machine) → KeepsQueue (length s.controls) m →
    length vs ≡ length s.controls →
    AllByRecursion (λ e. way_of (get_or vs e.control Hold) ≡ Some e.up) (sampled 0 s.controls vs m).queue
own_entries s vs m q l =
    let es = (sampled 0 s.controls vs m).queue in
    let after = sampled_keeps (length s.controls) 0 s.controls vs m (omega arith) q in
    each_weaker (λ e. (entry_way e.control es ≡ Some e.up) × (e.control < length s.controls))
    (λ e. way_of (get_or vs e.control Hold) ≡ Some e.up)
    (λ e h. sym (sampled_ways s vs m e.control q l (omega (arith, h.1))) ∙ h.0) es
    (each_both (λ e. entry_way e.control es ≡ Some e.up) (λ e. e.control < length s.controls) es
    (own_ways es after.queue.one_each) after.controls)

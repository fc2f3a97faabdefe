-- A queue has at most one entry for each control.
use Rattle.std.proofs.Common.{◌≡◌, ◌≢◌, ℕ, zero, suc, ◌+◌, ◌<◌, ◌≤◌, Bool, true, false, cond, not, List, [], ◌∷◌, length, refl, ◌∙◌, arith}
use Rattle.std.specs.Prelude.{◌==◌}
use Rattle.std.specs.List.{AllByRecursion}
use Rattle.std.proofs.lemmas.Bool.Decides.{nat_tests}
use Rattle.fd_queue.specs.declared.entry.Entry.{Entry}
use Rattle.fd_queue.specs.Queue.{InPairs, has_entry, without}
use Rattle.fd_queue.specs.MachineLaws.{IsQueueOf}
use Rattle.fd_queue.proofs.Pairs.{each_filter, each_weaker, each_both, each_passes, none_passes, pairs_filter}

Apart : List Entry → Type 0
Apart es = InPairs (λ a b. a.control ≢ b.control) es

not_one : (a b : ℕ) → a ≢ b → (b == a) ≡ false
not_one a b h = grind (arith, nat_tests)

that_one : (a b : ℕ) → (a == b) ≡ true → a ≡ b
that_one a b h = grind (arith, nat_tests)

other_one : (a b : ℕ) → not (a == b) ≡ true → a ≢ b
other_one a b h = grind (arith, nat_tests)

stay_by : (t : Bool) (e : Entry) (es fs : List Entry) → t ≡ false → length fs ≡ length es →
    length (cond (not t) (e ∷ fs) fs) ≡ suc (length es)
stay_by true e es fs h k = absurd (cc)
stay_by false e es fs h k = omega arith

goes_by : (t : Bool) (e : Entry) (es fs : List Entry) → (t ≡ true → length fs ≡ length es) →
    length es ≤ length fs + 1 → suc (length es) ≤ length (cond (not t) (e ∷ fs) fs) + 1
goes_by true e es fs h k = omega (arith, h refl)
goes_by false e es fs h k = omega arith

-- where no entry is of the control, all stay
all_stay : (k : ℕ) (es : List Entry) → AllByRecursion (λ e. k ≢ e.control) es → length (without k es) ≡ length es
all_stay k [] h = refl
all_stay k (e ∷ es) h = stay_by (e.control == k) e es (without k es) (not_one k e.control h.0) (all_stay k es h.1)

-- at most one goes
one_goes : (n : ℕ) (es : List Entry) → Apart es → length es ≤ length (without n es) + 1
unfolding Apart
one_goes n [] h = omega arith
one_goes n (e ∷ es) h = goes_by (e.control == n) e es (without n es)
    (λ t. all_stay n es (each_weaker (λ b. e.control ≢ b.control) (λ b. n ≢ b.control)
    (λ b p q. p (that_one e.control n t ∙ q)) es h.0))
    (one_goes n es h.1)

below_last : (a n : ℕ) → a < suc n → a ≢ n → a < n
below_last a n h k = omega arith

few : (n : ℕ) (es : List Entry) → Apart es → AllByRecursion (λ e. e.control < n) es → length es ≤ n
unfolding Apart
few zero [] h k = omega arith
few zero (e ∷ es) h k = absurd (omega (arith, k.0))
few (suc n) es h k =
    let rest : length (without n es) ≤ n =
    few n (without n es) (pairs_filter (λ a b. a.control ≢ b.control) (λ e. not (e.control == n)) es h)
    (each_weaker (λ e. (not (e.control == n) ≡ true) × (e.control < suc n)) (λ e. e.control < n)
    (λ e p. below_last e.control n p.1 (other_one e.control n p.0)) (without n es)
    (each_both (λ e. not (e.control == n) ≡ true) (λ e. e.control < suc n) (without n es)
    (each_passes (λ e. not (e.control == n)) es)
    (each_filter (λ e. e.control < suc n) (λ e. not (e.control == n)) es k))) in
    omega (arith, one_goes n es h)

pub few_entries : (n next : ℕ) (es : List Entry) → IsQueueOf n next es → length es ≤ n
unfolding Apart
few_entries n next es q = few n es q.queue.one_each q.controls

other_way : (a b : ℕ) → (a == b) ≡ false → b ≢ a
other_way a b h = grind (arith, nat_tests)

pub fewer_entries : (n next k : ℕ) (es : List Entry) → IsQueueOf n next es → k < n → has_entry k es ≡ false →
    length es < n
unfolding Apart
fewer_entries n next k es q i h = few n (record { time = 0; seq = 0; control = k; up = true } ∷ es) (
  each_weaker (λ x. (x.control == k) ≡ false) (λ x. k ≢ x.control) (λ x p. other_way x.control k p) es
      (none_passes (λ x. x.control == k) es h),
  q.queue.one_each,
)
    (i, q.controls)

-- A regulator's verdicts never go back.
use Rattle.std.proofs.Common.{◌≡◌, ℕ, zero, suc, ◌≤◌, ◌≤ℤ◌, not, true, false, Bool, cond, refl, arith}
use Rattle.std.proofs.lemmas.Int.{ints}
use Rattle.fd_queue.specs.Decisions.{Raise, Hold, Lower, place, GoesAlong}
use Rattle.fd_regctl.specs.Regulator.{Regulator, greatest_within, capped, steps_up, steps_down, regulator_verdict}

at_most_by : (t : Bool) (n g : ℕ) → g ≤ n → cond t (suc n) g ≤ suc n
at_most_by true n g h = omega arith
at_most_by false n g h = omega arith

pub at_most : (p : ℕ → Bool) (n : ℕ) → greatest_within p n ≤ n
at_most p zero = omega arith
at_most p (suc n) = at_most_by (p (suc n)) n (greatest_within p n) (at_most p n)

less_by : (t u : Bool) (n g k : ℕ) → (t ≡ true → u ≡ true) → g ≤ k → g ≤ n → cond t (suc n) g ≤ cond u (suc n) k
less_by true true n g k h le in' = omega arith
less_by true false n g k h le in' = absurd (let e = h refl in cc)
less_by false true n g k h le in' = omega arith
less_by false false n g k h le in' = le

-- where more pass, the greatest is no less
pub less_within : (p u : ℕ → Bool) → ((n : ℕ) → p n ≡ true → u n ≡ true) → (n : ℕ) →
    greatest_within p n ≤ greatest_within u n
less_within p u h zero = omega arith
less_within p u h (suc n) =
    less_by (p (suc n)) (u (suc n)) n (greatest_within p n) (greatest_within u n) (h (suc n)) (less_within p u h n)
    (at_most p n)

less_capped : (most room g k : ℕ) → g ≤ k → capped most room g ≤ capped most room k
less_capped most room g k h = omega arith

pub not_back : (t u : Bool) → (t ≡ true → u ≡ true) → not u ≡ true → not t ≡ true
not_back true true h e = e
not_back true false h e = absurd (let f = h refl in cc)
not_back false u h e = refl

-- by the tests of two quantities
along_by : (a b c d : Bool) (m n k l : ℕ) → (c ≡ true → a ≡ true) → (b ≡ true → d ≡ true) → k ≤ m → n ≤ l →
    place (cond a (Raise m) (cond b (Lower n) Hold)) ≤ℤ place (cond c (Raise k) (cond d (Lower l) Hold))
along_by true b true d m n k l f g h i = omega (arith, ints)
along_by true b false true m n k l f g h i = omega (arith, ints)
along_by true b false false m n k l f g h i = omega (arith, ints)
along_by false b true d m n k l f g h i = absurd (let e = f refl in cc)
along_by false true false true m n k l f g h i = omega (arith, ints)
along_by false true false false m n k l f g h i = absurd (let e = g refl in cc)
along_by false false false true m n k l f g h i = omega (arith, ints)
along_by false false false false m n k l f g h i = omega (arith, ints)

pub regulator_along : (r : Regulator) → GoesAlong (regulator_verdict r)
regulator_along r q s h = along_by (q.below r.lo) (q.above r.hi) (s.below r.lo) (s.above r.hi) (steps_up r q)
    (steps_down r q) (steps_up r s) (steps_down r s)
    (h.below r.lo) (h.above r.hi)
    (less_capped r.most r.room_up _ _
    (less_within (λ n. not (s.above (r.under n))) (λ n. not (q.above (r.under n)))
    (λ n. not_back (q.above (r.under n)) (s.above (r.under n)) (h.above (r.under n))) r.most))
    (less_capped r.most r.room_down _ _
    (less_within (λ n. not (q.below (r.over n))) (λ n. not (s.below (r.over n)))
    (λ n. not_back (s.below (r.over n)) (q.below (r.over n)) (h.below (r.over n))) r.most))

-- Edges.
use Rattle.std.proofs.Common.{◌≡◌, ◌≢◌, ◌⊎◌, inl, inr, ⊎_elim, ℕ, zero, suc, ◌<◌, ◌≤◌, ℤ, ◌≤ℤ◌, min, not, true, false, Bool, cond, refl, sym, ap, ◌∙◌, subst, arith}
use Rattle.std.specs.Prelude.{int_lt, nat_le}
use Rattle.std.proofs.lemmas.Bool.Decides.{nat_tests}
use Rattle.std.proofs.lemmas.Int.{ints}
use Rattle.fd_queue.specs.Quantities.{Quantity, AtMost}
use Rattle.fd_queue.specs.Decisions.{Decision, Raise, Hold, Lower, IsEdge}
use Rattle.fd_regctl.specs.Regulator.{Regulator, AreSteps, regulator_edge, greatest_within, capped, steps_up, steps_down, regulator_verdict}
use Rattle.fd_regctl.specs.RegulatorLaws.{IsGreatest}
use Rattle.fd_queue.proofs.CallerLemmas.{either, not_below}
use Rattle.fd_regctl.proofs.Regulators.{at_most, less_within, not_back}

-- ---- counting steps

last_or : (n k : ℕ) → n ≤ suc k → (n ≤ k) ⊎ (n ≡ suc k)
last_or n k l = grind arith

reaches_by : (t : Bool) (n g k : ℕ) → (n ≡ suc k → t ≡ true) → (n ≤ k → n ≤ g) → n ≤ suc k → n ≤ cond t (suc k) g
reaches_by true n g k h i l = l
reaches_by false n g k h i l = ⊎_elim (λ le. i le) (λ e. absurd (let f = h e in cc)) (last_or n k l)

-- where p holds at n, the greatest is at least n
reaches : (p : ℕ → Bool) (n k : ℕ) → p n ≡ true → n ≤ k → n ≤ greatest_within p k
reaches p n zero h l = omega arith
reaches p n (suc k) h l = reaches_by (p (suc k)) n (greatest_within p k) k (λ e. subst (λ (j : ℕ). p j ≡ true) e h)
    (λ m. reaches p n k h m) l

le_or : (n k : ℕ) → (n ≤ k) ⊎ (k < n)
le_or n k = grind arith

stays_by : (t : Bool) (n g k : ℕ) → (n ≤ suc k → t ≡ false) → 0 < n → g < n → cond t (suc k) g < n
stays_by true n g k h o l = ⊎_elim (λ le. absurd (let f = h le in cc)) (λ more. more) (le_or n (suc k))
stays_by false n g k h o l = l

-- where p holds at no number from n on, the greatest is less
stays : (p : ℕ → Bool) (n k : ℕ) → 0 < n → ((j : ℕ) → n ≤ j → p j ≡ false) → greatest_within p k < n
stays p n zero o h = o
stays p n (suc k) o h = stays_by (p (suc k)) n (greatest_within p k) k (h (suc k)) o (stays p n k o h)

equal_by : (n g : ℕ) → n ≤ g → g < suc n → n ≡ g
equal_by n g h l = omega arith

at_least : (p : ℕ → Bool) (n k : ℕ) → (0 < n → p n ≡ true) → n ≤ k → n ≤ greatest_within p k
at_least p zero k h l = omega arith
at_least p (suc n) k h l = reaches p (suc n) k (h (omega arith)) l

all_of : (p : ℕ → Bool) (n most : ℕ) → IsGreatest p n → ((j k : ℕ) → j ≤ k → p k ≡ true → p j ≡ true) → most < n →
    most ≤ greatest_within p most
all_of p n most h down l = at_least p most most (λ o. down most n (omega arith) (h.holds (omega arith))) (omega arith)

past_most : (n most room g : ℕ) → most < n → most ≤ g → g ≤ most → capped most room n ≡ capped most room g
past_most n most room g l h k = omega arith

pub same_steps : (p : ℕ → Bool) (n most room : ℕ) → IsGreatest p n → ((j k : ℕ) → j ≤ k → p k ≡ true → p j ≡ true) →
    capped most room n ≡ capped most room (greatest_within p most)
same_steps p n most room h down = ⊎_elim
    (λ le. ap (capped most room)
    (equal_by n (greatest_within p most) (at_least p n most h.holds le)
    (stays p (suc n) most (omega arith) (λ j l. h.none j (omega arith)))))
    (λ more. past_most n most room (greatest_within p most) more (all_of p n most h down more) (at_most p most))
    (le_or n most)

-- ---- regulators

is_raise : (r : Regulator) (q : Quantity) → q.below r.lo ≡ true → regulator_verdict r q ≡ Raise (steps_up r q)
is_raise r q t = ap (λ b. cond b (Raise (steps_up r q)) (cond (q.above r.hi) (Lower (steps_down r q)) Hold)) t

is_lower : (r : Regulator) (q : Quantity) → q.below r.lo ≡ false → q.above r.hi ≡ true →
    regulator_verdict r q ≡ Lower (steps_down r q)
is_lower r q f t = ap (λ b. cond b (Raise (steps_up r q)) (cond (q.above r.hi) (Lower (steps_down r q)) Hold)) f
    ∙ ap (λ b. cond b (Lower (steps_down r q)) Hold) t

is_hold : (r : Regulator) (q : Quantity) → q.below r.lo ≡ false → q.above r.hi ≡ false → regulator_verdict r q ≡ Hold
is_hold r q f g = ap (λ b. cond b (Raise (steps_up r q)) (cond (q.above r.hi) (Lower (steps_down r q)) Hold)) f
    ∙ ap (λ b. cond b (Lower (steps_down r q)) Hold) g

not_raise : (r : Regulator) (q : Quantity) (n : ℕ) → q.below r.lo ≡ false → regulator_verdict r q ≢ Raise n
not_raise r q n f e = ⊎_elim (λ t. absurd (let g = is_lower r q f t in cc))
    (λ t. absurd (let g = is_hold r q f t in cc)) (either (q.above r.hi))

-- the counts of two quantities in order
ups : (r : Regulator) → Quantity → ℕ
ups r q = greatest_within (λ n. not (q.above (r.under n))) r.most

downs : (r : Regulator) → Quantity → ℕ
downs r q = greatest_within (λ n. not (q.below (r.over n))) r.most

fewer_ups : (r : Regulator) (q s : Quantity) → AtMost q s → ups r s ≤ ups r q
unfolding ups
fewer_ups r q s h = less_within (λ n. not (s.above (r.under n))) (λ n. not (q.above (r.under n)))
    (λ n. not_back (q.above (r.under n)) (s.above (r.under n)) (h.above (r.under n))) r.most

more_downs : (r : Regulator) (q s : Quantity) → AtMost q s → downs r q ≤ downs r s
unfolding downs
more_downs r q s h = less_within (λ n. not (q.below (r.over n))) (λ n. not (s.below (r.over n)))
    (λ n. not_back (s.below (r.over n)) (q.below (r.over n)) (h.below (r.over n))) r.most

flip : (t : Bool) → t ≡ false → not t ≡ true
flip t e = ap not e

flop : (t : Bool) → t ≡ true → not t ≡ false
flop t e = ap not e

cap_few : (most room g h : ℕ) → capped most room g < 2 → h ≤ g → capped most room h ≡ capped most room g
cap_few most room g h l k = omega arith

cap_many : (most room g h : ℕ) → 2 ≤ capped most room g → capped most room g ≤ h → h ≤ g →
    capped most room h ≡ capped most room g
cap_many most room g h l k m = omega arith

cap_less : (most room g h : ℕ) → 2 ≤ capped most room g → h < capped most room g →
    capped most room h ≢ capped most room g
cap_less most room g h l k e = omega arith

cap_most : (most room g : ℕ) → capped most room g ≤ most
cap_most most room g = omega arith

cap_down : (most room g h : ℕ) → g ≤ h → h < suc (capped most room g) → capped most room h ≡ capped most room g
cap_down most room g h l k = omega arith

cap_more : (most room g h : ℕ) → g ≤ h → capped most room h ≢ capped most room g →
    suc (capped most room g) ≤ min most room
cap_more most room g h l k = omega arith

cap_past : (most room g h : ℕ) → suc (capped most room g) ≤ min most room → suc (capped most room g) ≤ h →
    capped most room h ≢ capped most room g
cap_past most room g h l k e = omega arith

two_or : (n : ℕ) → ((nat_le 2 n ≡ true) × (2 ≤ n)) ⊎ ((nat_le 2 n ≡ false) × (n < 2))
two_or n = grind (arith, nat_tests)

lesser_or : (a b : ℤ) → ((cond (int_lt a b) a b ≡ a) × (a ≤ℤ b)) ⊎ ((cond (int_lt a b) a b ≡ b) × (b ≤ℤ a))
lesser_or a b = grind (arith, ints)

-- ---- the low end raises

raise_step : (m n : ℕ) → Raise m ≡ Raise n → m ≡ n
raise_step m n e = cc

lower_step : (m n : ℕ) → Lower m ≡ Lower n → m ≡ n
lower_step m n e = cc

few_raises : (r : Regulator) (low high : Quantity) → low.below r.lo ≡ true → steps_up r low < 2 →
    IsEdge (regulator_verdict r) low high r.lo
unfolding ups
few_raises r low high b few = record {
  same = λ q proper l u t. is_raise r q t
      ∙ ap Raise (cap_few r.most r.room_up (ups r low) (ups r q) few (fewer_ups r low q l)) ∙ sym (is_raise r low b);
  other = λ q proper l u t e. not_raise r q (steps_up r low) (not_below q r.lo proper t) (e ∙ is_raise r low b);
}

many_raises : (r : Regulator) (low high : Quantity) (edge : ℤ) → AreSteps r → low.below r.lo ≡ true →
    2 ≤ steps_up r low → edge ≤ℤ r.lo → edge ≤ℤ r.under (steps_up r low) →
    (edge ≡ r.lo) ⊎ (edge ≡ r.under (steps_up r low)) → IsEdge (regulator_verdict r) low high edge
unfolding ups
many_raises r low high edge s b many le_lo le_under which = record {
  same = λ q proper l u t.
      let reached : steps_up r low ≤ ups r q = reaches (λ n. not (q.above (r.under n))) (steps_up r low) r.most
      (flip (q.above (r.under (steps_up r low)))
      (proper.apart (r.under (steps_up r low)) (proper.below_up edge (r.under (steps_up r low)) le_under t)))
      (cap_most r.most r.room_up (ups r low)) in
      is_raise r q (proper.below_up edge r.lo le_lo t)
      ∙ ap Raise (cap_many r.most r.room_up (ups r low) (ups r q) many reached (fewer_ups r low q l))
      ∙ sym (is_raise r low b);
  other = λ q proper l u t e.
      let no_raise = λ (f : q.below r.lo ≡ false). not_raise r q (steps_up r low) f (e ∙ is_raise r low b) in
      ⊎_elim (λ same. no_raise (not_below q r.lo proper (subst (λ (z : ℤ). q.above z ≡ true) same t)))
      (λ same. ⊎_elim
      (λ raised. cap_less r.most r.room_up (ups r low) (ups r q) many
      (stays (λ n. not (q.above (r.under n))) (steps_up r low) r.most (omega (arith, many))
      (λ j m. flop (q.above (r.under j))
      (proper.above_down (r.under j) (r.under (steps_up r low)) (s.falls (steps_up r low) j m)
      (subst (λ (z : ℤ). q.above z ≡ true) same t))))
      (raise_step (steps_up r q) (steps_up r low) (sym (is_raise r q raised) ∙ e ∙ is_raise r low b)))
      (λ f. no_raise f)
      (either (q.below r.lo)))
      which;
}

raise_edges : (r : Regulator) (low high : Quantity) → AreSteps r → low.below r.lo ≡ true →
    IsEdge (regulator_verdict r) low high (regulator_edge r (Raise (steps_up r low)))
raise_edges r low high s b = ⊎_elim
    (λ many. subst (λ (t : Bool). IsEdge (regulator_verdict r) low high
    (cond t (cond (int_lt (r.under (steps_up r low)) r.lo) (r.under (steps_up r low)) r.lo) r.lo)) (sym many.0)
    (⊎_elim
    (λ p. subst (λ (z : ℤ). IsEdge (regulator_verdict r) low high z) (sym p.0)
    (many_raises r low high (r.under (steps_up r low)) s b many.1 p.1 (omega (arith, ints)) (inr refl)))
    (λ p. subst (λ (z : ℤ). IsEdge (regulator_verdict r) low high z) (sym p.0)
    (many_raises r low high r.lo s b many.1 (omega (arith, ints)) p.1 (inl refl)))
    (lesser_or (r.under (steps_up r low)) r.lo)))
    (λ few. subst (λ (t : Bool). IsEdge (regulator_verdict r) low high
    (cond t (cond (int_lt (r.under (steps_up r low)) r.lo) (r.under (steps_up r low)) r.lo) r.lo)) (sym few.0)
    (few_raises r low high b few.1))
    (two_or (steps_up r low))

-- ---- the low end holds or lowers

stays_over : (r : Regulator) (q s : Quantity) → AtMost q s → q.below r.lo ≡ false → s.below r.lo ≡ false
stays_over r q s h f = ⊎_elim (λ t. absurd (let g = h.below r.lo t in cc)) (λ g. g) (either (s.below r.lo))

hold_edges : (r : Regulator) (low high : Quantity) → low.below r.lo ≡ false → low.above r.hi ≡ false →
    IsEdge (regulator_verdict r) low high r.hi
hold_edges r low high f g = record {
  same = λ q proper l u t. is_hold r q (stays_over r low q l f) (proper.apart r.hi t) ∙ sym (is_hold r low f g);
  other = λ q proper l u t e. let a = is_lower r q (stays_over r low q l f) t in let b = is_hold r low f g in cc;
}

through : (a b c : ℕ) → a ≤ b → b ≤ c → a ≤ c
through a b c h k = omega arith

least_of : (n a b : ℕ) → n ≤ min a b → n ≤ a
least_of n a b h = omega arith

lower_edges : (r : Regulator) (low high : Quantity) → AreSteps r →
    regulator_verdict r low ≢ regulator_verdict r high → low.below r.lo ≡ false → low.above r.hi ≡ true →
    IsEdge (regulator_verdict r) low high (r.over (suc (steps_down r low)))
unfolding downs
lower_edges r low high s d f t = record {
  same = λ q proper l u b.
      let less : downs r q < suc (steps_down r low) =
      stays (λ n. not (q.below (r.over n))) (suc (steps_down r low)) r.most (omega arith)
      (λ j m. flop (q.below (r.over j))
      (proper.below_up (r.over (suc (steps_down r low))) (r.over j) (s.rises (suc (steps_down r low)) j m) b)) in
      is_lower r q (stays_over r low q l f) (l.above r.hi t)
      ∙ ap Lower (cap_down r.most r.room_down (downs r low) (downs r q) (more_downs r low q l) less)
      ∙ sym (is_lower r low f t);
  other = λ q proper l u b e.
      let there = is_lower r high (stays_over r q high u (stays_over r low q l f)) (u.above r.hi (l.above r.hi t)) in
      let differ : steps_down r high ≢ steps_down r low = λ k. d (is_lower r low f t ∙ ap Lower (sym k) ∙ sym there) in
      let room = cap_more r.most r.room_down (downs r low) (downs r high)
      (through (downs r low) (downs r q) (downs r high) (more_downs r low q l) (more_downs r q high u)) differ in
      let reached : suc (steps_down r low) ≤ downs r q =
      reaches (λ n. not (q.below (r.over n))) (suc (steps_down r low)) r.most
      (flip (q.below (r.over (suc (steps_down r low)))) (not_below q (r.over (suc (steps_down r low))) proper b))
      (least_of (suc (steps_down r low)) r.most r.room_down room) in
      cap_past r.most r.room_down (downs r low) (downs r q) room reached
      (lower_step (steps_down r q) (steps_down r low)
      (sym (is_lower r q (stays_over r low q l f) (l.above r.hi t)) ∙ e ∙ is_lower r low f t));
}

by_verdict : (r : Regulator) (low high : Quantity) (v : Decision) → regulator_verdict r low ≡ v →
    IsEdge (regulator_verdict r) low high (regulator_edge r v) →
    IsEdge (regulator_verdict r) low high (regulator_edge r (regulator_verdict r low))
by_verdict r low high v e h =
    subst (λ (w : Decision). IsEdge (regulator_verdict r) low high (regulator_edge r w)) (sym e) h

pub regulator_edges : (r : Regulator) (low high : Quantity) → AreSteps r →
    regulator_verdict r low ≢ regulator_verdict r high →
    IsEdge (regulator_verdict r) low high (regulator_edge r (regulator_verdict r low))
regulator_edges r low high s d = ⊎_elim
    (λ b. by_verdict r low high (Raise (steps_up r low)) (is_raise r low b) (raise_edges r low high s b))
    (λ f. ⊎_elim
    (λ t. by_verdict r low high (Lower (steps_down r low)) (is_lower r low f t) (lower_edges r low high s d f t))
    (λ g. by_verdict r low high Hold (is_hold r low f g) (hold_edges r low high f g))
    (either (low.above r.hi)))
    (either (low.below r.lo))

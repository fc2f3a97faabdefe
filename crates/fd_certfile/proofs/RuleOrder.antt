-- The rule that is named is the first that a block breaks.
use Rattle.std.proofs.Common.{◌≡◌, ℕ, zero, suc, ◌+◌, ◌^◌, ◌<◌, ◌≤◌, Bool, true, false, ℤ, pos, negsuc, List, [], ◌∷◌, ◌++◌, inl, inr, Option, Some, None, refl, ap, sym, subst, ◌∙◌, arith}
use Rattle.std.specs.Prelude.{not, ◌≤ℤ◌, T, int_le, unsigned_abs}
use Rattle.std.specs.Bool.{Decides}
use Rattle.std.specs.Cmp.Lexicographic.{pointwise}
use Rattle.std.specs.List.{AllByRecursion, list_all}
use Rattle.std.proofs.lemmas.Bool.{cases_Bool, cases_eq, cond-true, cond-false, leb-true, le-leb, eqb-true, eq-eqb, and_parts, and_from, not-true}
use Rattle.std.proofs.lemmas.Bool.Decides.{Decides-and, Decides-like, Decides-int_eq}
use Rattle.std.proofs.lemmas.Slice.Eq.{slice_eq-Decides}
use Rattle.fd_certfile.specs.Blocks.{Act, Block, is_place}
use Rattle.fd_certfile.specs.Rules.{Where, Broken, Sampled, undecided, moves, at_limit, Judge, claim_of, ball_of, part_of, row_of, IsDue, IsInRange, Holds, is_due, is_within, is_in_range, is_mismatch, is_radius, same_act, is_undecided, is_limit, acts_due, least_from, broken_by, unless, unless_at, rules, first_some, first_broken}
use Rattle.fd_settle.specs.fd_cert.declared.rule.Rule.{Rule}
use Rattle.fd_certfile.specs.RuleLaws.{IsFirst, RuleLaw}

some_none : {X : Type 0} {x : X} → Some x ≡ None → ⊥
some_none e = cc

some_is : {X : Type 0} {x y : X} → Some x ≡ Some y → x ≡ y
some_is e = cc

-- ---- the least place

pub least_none : (n i : ℕ) (test : ℕ → Bool) → least_from i n test ≡ None → (j : ℕ) → i ≤ j → j < i + n → test j ≡ true
least_none zero i test e j l m = absurd (omega (arith, l, m))
least_none (suc n) i test e j l m =
    let below = least_none n (suc i) test in
    elim (cases_Bool (test i)) [
      | inl holds ↦
          elim (cases_eq i j) [
            | inl here ↦ sym (ap test here) ∙ holds
            | inr other ↦ below (sym (cond-true (test i) _ _ holds) ∙ e) j (omega (arith, l, other)) (omega (arith, m))
          ]
      | inr fails ↦ absurd (let h = sym (cond-false (test i) _ _ fails) ∙ e in some_none h)
    ]

pub least_all : (n i : ℕ) (test : ℕ → Bool) → ((j : ℕ) → i ≤ j → j < i + n → test j ≡ true) → least_from i n test ≡ None
least_all zero i test h = refl
least_all (suc n) i test h = cond-true (test i) _ _ (h i (omega arith) (omega arith))
    ∙ least_all n (suc i) test (λ j l m. h j (omega (arith, l)) (omega (arith, m)))

pub record IsLeast (n i : ℕ) (test : ℕ → Bool) (k : ℕ) : Type 0 where
  pub from : i ≤ k
  pub below : k < i + n
  pub fails : test k ≡ false
  pub least : (j : ℕ) → i ≤ j → j < k → test j ≡ true

pub least_some : (n i : ℕ) (test : ℕ → Bool) (k : ℕ) → least_from i n test ≡ Some k → IsLeast n i test k
least_some zero i test k e = absurd cc
least_some (suc n) i test k e =
    let rest = least_some n (suc i) test k in
    elim (cases_Bool (test i)) [
      | inl holds ↦
          let r = rest (sym (cond-true (test i) _ _ holds) ∙ e) in
          record {
            from = omega (arith, r.from);
            below = omega (arith, r.below);
            fails = r.fails;
            least = λ j l m. elim (cases_eq i j) [
              | inl here ↦ sym (ap test here) ∙ holds
              | inr other ↦ r.least j (omega (arith, l, other)) m
            ];
          }
      | inr fails ↦
          let same : i ≡ k = some_is (sym (cond-false (test i) _ _ fails) ∙ e) in
          record
          { from = omega (arith, same); below = omega (arith, same); fails = sym (ap test same) ∙ fails; least = λ j l m. absurd (omega (arith, l, m, same)) }
    ]

-- ---- the first rule

none_all : {X : Type 0} (os : List (Option X)) → first_some os ≡ None → AllByRecursion (λ o. o ≡ None) os
none_all [] e = tt
none_all (None ∷ os) e = (refl, none_all os e)
none_all (Some x ∷ os) e = absurd (some_none e)

all_none : {X : Type 0} (os : List (Option X)) → AllByRecursion (λ o. o ≡ None) os → first_some os ≡ None
all_none [] h = refl
all_none (None ∷ os) h = all_none os h.1
all_none (Some x ∷ os) h = absurd (some_none h.0)

record Splits {X : Type 0} (os : List (Option X)) (x : X) : Type 0 where
  before : List (Option X)
  after : List (Option X)
  os_are : os ≡ before ++ Some x ∷ after
  hold : AllByRecursion (λ o. o ≡ None) before

splits : {X : Type 0} (os : List (Option X)) (x : X) → first_some os ≡ Some x → Splits os x
splits [] x e = absurd cc
splits (None ∷ os) x e = let s = splits os x e in record
    { before = None ∷ s.before; after = s.after; os_are = ap (λ (l : List (Option _)). None ∷ l) s.os_are; hold = (refl, s.hold) }
splits (Some y ∷ os) x e = record { before = []; after = os; os_are = ap (λ z. Some z ∷ os) (some_is e); hold = tt }

-- ---- one rule

unless_holds : (rule : Rule) (place : Where) (b : Bool) → unless rule place b ≡ None → b ≡ true
unless_holds rule place true e = refl
unless_holds rule place false e = absurd (some_none e)

holds_unless : (rule : Rule) (place : Where) (b : Bool) → b ≡ true → unless rule place b ≡ None
holds_unless rule place b e = ap (unless rule place) e

broken_none : (rule : Rule) (o : Option ℕ) → broken_by rule o ≡ None → o ≡ None
broken_none rule None e = refl
broken_none rule (Some i) e = absurd (some_none e)

at_holds : (rule : Rule) (n : ℕ) (test : ℕ → Bool) → unless_at rule n test ≡ None → (i : ℕ) → i < n → test i ≡ true
at_holds rule n test e i l = least_none n 0 test (broken_none rule (least_from 0 n test) e) i (omega arith) (omega (arith, l))

holds_at : (rule : Rule) (n : ℕ) (test : ℕ → Bool) → ((i : ℕ) → i < n → test i ≡ true) → unless_at rule n test ≡ None
holds_at rule n test h = ap (broken_by rule) (least_all n 0 test (λ j l m. h j (omega (arith, m))))

-- ---- what the tests decide

Decides-le : (a b : ℤ) → Decides (int_le a b) (a ≤ℤ b)
Decides-le a b = (λ e. record { le = subst T (sym e) tt }, λ h. told (int_le a b) h.le) where
  told : (t : Bool) → T t → t ≡ true
  told true h = refl
  told false h = absurd h

pub Decides-place : (i : ℕ) (z : ℤ) → Decides (is_place i z) (z ≡ pos i)
Decides-place i (pos n) = (λ e. ap pos (eqb-true n i e), λ e. eq-eqb n i (let h : n ≡ i = cc in h))
Decides-place i (negsuc n) = (λ e. absurd cc, λ e. absurd cc)

pub Decides-within : (limit : ℕ) (z : ℤ) → Decides (is_within limit z) (unsigned_abs z ≤ limit)
Decides-within limit z = (leb-true (unsigned_abs z) limit, le-leb (unsigned_abs z) limit)

pub Decides-all : {X : Type 0} (test : X → Bool) (P : X → Type 0) → ((x : X) → Decides (test x) (P x)) → (xs : List X)
    → Decides (list_all test xs) (AllByRecursion P xs)
Decides-all test P h [] = (λ e. tt, λ e. refl)
Decides-all test P h (x ∷ xs) = Decides-and (test x) (list_all test xs) (h x) (Decides-all test P h xs)

Decides-due : (judge : Judge) (b : Block) → Decides (is_due judge b) (IsDue judge b)
Decides-due judge b =
    Decides-like (is_due judge b) (λ h. record { number = h.0; hour = h.1.0; round = h.1.1.0; size = h.1.1.1 })
    (λ h. (h.number, (h.hour, (h.round, h.size))))
    (Decides-and _ _ (Decides-place judge.number b.number) (Decides-and _ _ (Decides-place judge.hour b.hour)
    (Decides-and _ _ (Decides-place judge.round b.round) (Decides-place judge.size b.size))))

Decides-range : (b : Block) (i : ℕ) → Decides (is_in_range b i) (IsInRange b i)
Decides-range b i = Decides-like (is_in_range b i) (λ h. record {
  centre = h.0;
  radius = h.1.0;
  not_negative = h.1.1.0;
  entries = h.1.1.1;
}) (λ h. (h.centre, (h.radius, (h.not_negative, h.entries))))
    (Decides-and _ _ (Decides-within (2 ^ 40) (part_of b i).centre)
    (Decides-and _ _ (Decides-within (2 ^ 40) (part_of b i).radius)
    (Decides-and _ _ (Decides-le (pos 0) (part_of b i).radius)
    (Decides-all (is_within (2 ^ 56)) (λ e. unsigned_abs e ≤ 2 ^ 56) (Decides-within (2 ^ 56)) (row_of b i)))))

act_same : (a b : Act) → a.time ≡ b.time → a.control ≡ b.control → a.steps ≡ b.steps → a ≡ b
act_same a b t c s =
    let P : ℤ → ℤ → ℤ → Act = λ x y z. record { time = x; control = y; steps = z } in
    ap (λ (x : ℤ). P x a.control a.steps) t ∙ ap (λ (y : ℤ). P b.time y a.steps) c
    ∙ ap (λ (z : ℤ). P b.time b.control z) s

Decides-act : (a b : Act) → Decides (same_act a b) (a ≡ b)
Decides-act a b =
    Decides-like (same_act a b)
    (λ h. let t : a.time ≡ b.time = h.0 in let c : a.control ≡ b.control = h.1.0 in let s : a.steps ≡ b.steps = h.1.1 in act_same a b t c s)
    (λ h. (ap (λ (x : Act). x.time) h, (ap (λ (x : Act). x.control) h, ap (λ (x : Act). x.steps) h)))
    (Decides-and _ _ (Decides-int_eq a.time b.time) (Decides-and _ _ (Decides-int_eq a.control b.control) (Decides-int_eq a.steps b.steps)))

Decides-acts : (xs ys : List Act) → Decides (pointwise same_act xs ys) (xs ≡ ys)
Decides-acts xs ys = slice_eq-Decides Decides-act xs ys (pointwise same_act xs ys) refl

moves_from : (s : Sampled) (acts : List Act) → not (is_undecided s) ≡ true → pointwise same_act (acts_due s) acts ≡ true
    → not (is_limit s) ≡ true → s ≡ moves acts
moves_from undecided acts a b c = absurd cc
moves_from (moves xs) acts a b c = ap moves ((Decides-acts xs acts).0 b)
moves_from at_limit acts a b c = absurd cc

-- ---- the law

holds_from : (judge : Judge) (b : Block) → first_broken judge b ≡ None → Holds judge b
unfolding first_broken
holds_from judge b e =
    let h = none_all (rules judge b) e in
    record {
      due = (Decides-due judge b).0 (unless_holds _ _ (is_due judge b) h.0);
      range = λ i l. (Decides-range b i).0 (at_holds _ judge.size (is_in_range b) h.1.0 i l);
      mismatch = λ i l.
          let p = and_parts _ _ (at_holds _ judge.size (is_mismatch judge b) h.1.1.0 i l) in
          ((Decides-le _ _).0 p.0, (Decides-le _ _).0 p.1);
      bound = λ i l. not-true (judge.reaches_one (claim_of b) i) (at_holds _ judge.size (λ i. not (judge.reaches_one (claim_of b) i)) h.1.1.1.0 i l);
      radius = λ i l. (Decides-le _ _).0 (at_holds _ judge.size (is_radius judge b) h.1.1.1.1.0 i l);
      acts = moves_from (judge.sampled (ball_of b)) b.acts (unless_holds _ _ _ h.1.1.1.1.1.0)
          (unless_holds _ _ _ h.1.1.1.1.1.1.0) (unless_holds _ _ _ h.1.1.1.1.1.1.1.0);
    }

from_holds : (judge : Judge) (b : Block) → Holds judge b → first_broken judge b ≡ None
unfolding first_broken
from_holds judge b h =
    all_none (rules judge b) (
      holds_unless _ _ (is_due judge b) ((Decides-due judge b).1 h.due),
      (
        holds_at _ judge.size (is_in_range b) (λ i l. (Decides-range b i).1 (h.range i l)),
        (
          holds_at _ judge.size (is_mismatch judge b) (λ i l. and_from _ _ ((Decides-le _ _).1 (h.mismatch i l).0) ((Decides-le _ _).1 (h.mismatch i l).1)),
          (
            holds_at _ judge.size (λ i. not (judge.reaches_one (claim_of b) i)) (λ i l. ap not (h.bound i l)),
            (
              holds_at _ judge.size (is_radius judge b) (λ i l. (Decides-le _ _).1 (h.radius i l)),
              (
                holds_unless _ _ _ (ap (λ s. not (is_undecided s)) h.acts),
                (
                  holds_unless _ _ _ (ap (λ s. pointwise same_act (acts_due s) b.acts) h.acts ∙ (Decides-acts b.acts b.acts).1 refl),
                  (holds_unless _ _ _ (ap (λ s. not (is_limit s)) h.acts), tt),
                ),
              ),
            ),
          ),
        ),
      ),
    )

named : (judge : Judge) (b : Block) (broken : Broken) → first_broken judge b ≡ Some broken → IsFirst judge b broken
unfolding first_broken
named judge b broken e = let s = splits (rules judge b) broken e in record { before = s.before; after = s.after; rules_are = s.os_are; hold = s.hold }

pub rule_law : RuleLaw
rule_law = record {
  none = λ judge b. (holds_from judge b, from_holds judge b);
  named = named;
  least = λ n i test e. let l = least_some n 0 test i e in (omega (arith, l.below), l.fails, λ j m. l.least j (omega arith) m);
}

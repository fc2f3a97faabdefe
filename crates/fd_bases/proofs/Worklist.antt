-- An element is taken: it isn't due any more, and those that touch a bus that is new by it are.
use Rattle.std.proofs.Common.{◌≡◌, ℕ, ◌+◌, ◌≤◌, ◌<◌, nat_lt, Bool, true, false, cond, ◌||◌, List, [], ◌∷◌, ◌++◌, length, drop, slice_get, Some, None, ◌⊎◌, inl, inr, refl, sym, ap, ◌∙◌, subst, arith}
use Rattle.std.specs.List.{list_any}
use Rattle.std.specs.BTreeMap.{is_at}
use Rattle.std.specs.BTreeSet.{BTreeSet}
use Rattle.std.specs.Ordering.{nat_cmp}
use Rattle.std.proofs.lemmas.Bool.{or_parts, or_cases}
use Rattle.std.proofs.lemmas.Bool.Decides.{nat_tests}
use Rattle.std.proofs.lemmas.Option.{slice_get_past}
use Rattle.dss_circuit.specs.Circuit.{Elements}
use Rattle.fd_bases.specs.declared.nominal.Nominal.{Nominal}
use Rattle.fd_bases.specs.Walk.{Reached, pass, passes, reached_in}
use Rattle.fd_bases.specs.Due.{Noted, AreTouching, AreDue, IsFirstFrom, NoneFrom, is_noted, is_due, is_idle_where, is_idle_at, taken_at, touches_at}
use Rattle.fd_bases.proofs.Walking.{stays}
use Rattle.fd_bases.proofs.Idle.{taken_at_idle, taken_at_one, idle_at_kept, touches_within, next_taken, none_taken, OneMore}

is_at_same : (place q : ℕ) → is_at (nat_cmp place) q ≡ true → place ≡ q
is_at_same place q h = grind (arith, nat_tests)

-- only what was due stays due without the element that was taken, which is idle
not_due : (es : Elements) (due without : BTreeSet ℕ) (place : ℕ) (r : Reached) → AreDue es due r
    → ((q : ℕ) → is_due without q ≡ cond (is_at (nat_cmp place) q) false (is_due due q))
    → (q : ℕ) → is_due without q ≡ false → (place ≡ q) ⊎ (is_idle_at es q r ≡ true)
not_due es due without place r h removed q out = by (is_at (nat_cmp place) q) refl
  where
    by : (b : Bool) → is_at (nat_cmp place) q ≡ b → (place ≡ q) ⊎ (is_idle_at es q r ≡ true)
    by true is = inl (is_at_same place q is)
    by false is =
        let kept : is_due without q ≡ is_due due q = removed q ∙ ap (λ b. cond b false (is_due due q)) is in
        inr (h.idle q (sym kept ∙ out))

still_within : (es : Elements) (due without : BTreeSet ℕ) (place : ℕ) (r : Reached) → AreDue es due r
    → ((q : ℕ) → is_due without q ≡ cond (is_at (nat_cmp place) q) false (is_due due q))
    → (q : ℕ) → is_due without q ≡ true → q < length es
still_within es due without place r h removed q there = by (is_at (nat_cmp place) q) refl
  where
    by : (b : Bool) → is_at (nat_cmp place) q ≡ b → q < length es
    by true is =
        let none : is_due without q ≡ false = removed q ∙ ap (λ b. cond b false (is_due due q)) is in
        absurd (let no : true ≡ false = sym there ∙ none in cc)
    by false is =
        let kept : is_due without q ≡ is_due due q = removed q ∙ ap (λ b. cond b false (is_due due q)) is in
        h.within q (sym kept ∙ there)

last_of : (r : Reached) (b : List ℕ × Nominal) → slice_get (r ++ b ∷ []) (length r) ≡ Some b
last_of [] b = refl
last_of (x ∷ r) b = last_of r b

none_behind : (r : Reached) → slice_get r (length r) ≡ None
none_behind [] = refl
none_behind (x ∷ r) = none_behind r

-- no bus is new
pub none_woken : (es : Elements) (due without : BTreeSet ℕ) (place : ℕ) (r s : Reached) → AreDue es due r
    → ((q : ℕ) → is_due without q ≡ cond (is_at (nat_cmp place) q) false (is_due due q))
    → s ≡ taken_at es place r → slice_get s (length r) ≡ None → AreDue es without s
none_woken es due without place r s h removed is none = record {
  within = still_within es due without place r h removed;
  idle = λ q out. by q (not_due es due without place r h removed q out);
}
  where
    same : OneMore r (taken_at es place r) → s ≡ r
    same (inl e) = is ∙ e
    same (inr e) =
        absurd (let found : slice_get s (length r) ≡ Some e.0 = ap (λ x. slice_get x (length r)) (is ∙ e.1) ∙ last_of r e.0 in
        let no : None ≡ Some e.0 = sym none ∙ found in cc)

    by : (q : ℕ) → (place ≡ q) ⊎ (is_idle_at es q r ≡ true) → is_idle_at es q s ≡ true
    by q (inl e) = subst (λ i. is_idle_at es i s ≡ true) e (subst (λ x. is_idle_at es place x ≡ true) (sym is) (taken_at_idle es place r))
    by q (inr e) = subst (λ x. is_idle_at es q x ≡ true) (sym (same (taken_at_one es place r))) e

-- a bus is new, and all that touch it are due
pub some_woken : (es : Elements) (noted : Noted) (due without woken : BTreeSet ℕ) (place : ℕ) (r s : Reached) (bus : List ℕ) (nominal : Nominal)
    → AreTouching es noted → AreDue es due r
    → ((q : ℕ) → is_due without q ≡ cond (is_at (nat_cmp place) q) false (is_due due q))
    → s ≡ taken_at es place r → slice_get s (length r) ≡ Some (bus, nominal)
    → ((q : ℕ) → is_due woken q ≡ (is_due without q || is_noted noted bus q)) → AreDue es woken s
some_woken es noted due without woken place r s bus nominal touching h removed is some wakes = record {
  within = λ q there. among q (or_cases (is_due without q) (is_noted noted bus q) (sym (wakes q) ∙ there));
  idle = λ q out.
      let parts = or_parts (is_due without q) (is_noted noted bus q) (sym (wakes q) ∙ out) in
      by q (sym (touching bus q) ∙ parts.1) (not_due es due without place r h removed q parts.0);
}
  where
    among : (q : ℕ) → (is_due without q ≡ true) ⊎ (is_noted noted bus q ≡ true) → q < length es
    among q (inl e) = still_within es due without place r h removed q e
    among q (inr e) = touches_within es q bus (sym (touching bus q) ∙ e)

    same : OneMore r (taken_at es place r) → s ≡ r ++ (bus, nominal) ∷ []
    same (inl e) =
        absurd (let none : slice_get s (length r) ≡ None = ap (λ x. slice_get x (length r)) (is ∙ e) ∙ none_behind r in
        let no : None ≡ Some (bus, nominal) = sym none ∙ some in cc)
    same (inr e) =
        let found : slice_get s (length r) ≡ Some e.0 = ap (λ x. slice_get x (length r)) (is ∙ e.1) ∙ last_of r e.0 in
        let new : Some e.0 ≡ Some (bus, nominal) = sym found ∙ some in
        let one : e.0 ≡ (bus, nominal) = cc in
        is ∙ e.1 ∙ ap (λ b. r ++ b ∷ []) one

    by : (q : ℕ) → touches_at es q bus ≡ false → (place ≡ q) ⊎ (is_idle_at es q r ≡ true) → is_idle_at es q s ≡ true
    by q apart (inl e) = subst (λ i. is_idle_at es i s ≡ true) e (subst (λ x. is_idle_at es place x ≡ true) (sym is) (taken_at_idle es place r))
    by q apart (inr e) =
        subst (λ x. is_idle_at es q x ≡ true) (sym (same (taken_at_one es place r))) (idle_at_kept es q r bus nominal e apart)

-- ---- passes

-- the first that is due is taken
pub next_due_taken : (es : Elements) (due : BTreeSet ℕ) (from place : ℕ) (r s all : Reached) → AreDue es due r
    → IsFirstFrom due from place → s ≡ taken_at es place r → pass (drop from es) r ≡ all
    → pass (drop (place + 1) es) s ≡ all
next_due_taken es due from place r s all h first is so_far =
    ap (pass (drop (place + 1) es)) is
    ∙ next_taken es from place r first.at_least (λ q low below. h.idle q (first.none_before q low below))
    ∙ so_far

-- none is due to the end of the pass
pub pass_ends : (es : Elements) (due : BTreeSet ℕ) (from : ℕ) (r all : Reached) → AreDue es due r → NoneFrom due from
    → pass (drop from es) r ≡ all → r ≡ all
pass_ends es due from r all h none so_far = sym (none_taken es from r (λ q low. h.idle q (none q low))) ∙ so_far

-- none is due at all: no later pass reaches another bus
pub all_passed : (n : ℕ) (es : Elements) (due : BTreeSet ℕ) (r : Reached) → AreDue es due r → NoneFrom due 0
    → passes n es r ≡ reached_in es → r ≡ reached_in es
all_passed n es due r h none so_far =
    let whole : pass es r ≡ r = none_taken es 0 r (λ q low. h.idle q (none q (omega arith))) in
    sym (stays n es r whole) ∙ so_far

-- at first all are
pub all_are_due : (es : Elements) (due : BTreeSet ℕ) (r : Reached) → ((q : ℕ) → is_due due q ≡ nat_lt q (length es))
    → AreDue es due r
all_are_due es due r all = record {
  within = λ q there. let is : nat_lt q (length es) ≡ true = sym (all q) ∙ there in grind (arith, nat_tests);
  idle = λ q out.
      let is : nat_lt q (length es) ≡ false = sym (all q) ∙ out in
      let behind : length es ≤ q = grind (arith, nat_tests) in
      ap (λ found. is_idle_where found r) (slice_get_past es q behind);
}

pub empty_none : (due : BTreeSet ℕ) → length due.keys ≡ 0 → NoneFrom due 0
empty_none due h q low = by due.keys h
  where
    by : (keys : List ℕ) → length keys ≡ 0 → list_any (is_at (nat_cmp q)) keys ≡ false
    by [] e = refl
    by (k ∷ ks) e = absurd (omega (arith, e))

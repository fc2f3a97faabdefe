-- A pass takes the first section that is due, and where none is due no later pass takes any.
use Rattle.std.proofs.Common.{◌≡◌, ℕ, zero, suc, ◌+◌, ◌-◌, ◌≤◌, ◌<◌, false, cond, List, [], ◌∷◌, length, drop, slice_get, Option, Some, None, refl, sym, ap, ◌∙◌, arith}
use Rattle.std.specs.List.{list_any}
use Rattle.std.specs.BTreeMap.{is_at}
use Rattle.std.specs.BTreeSet.{BTreeSet}
use Rattle.std.specs.Ordering.{nat_cmp}
use Rattle.std.proofs.lemmas.List.{drop_all}
use Rattle.fd_ladder.specs.declared.section.Section.{Section}
use Rattle.fd_ladder.specs.Radial.{Reach, with_taken, pass, passes}
use Rattle.fd_ladder.specs.Due.{AreDue, IsFirstFrom, NoneFrom, is_next_where, taken_where}

-- ---- the section at a place

not_taken : (r : Reach) (found : Option Section) → is_next_where r found ≡ false → taken_where found r ≡ r
not_taken r None h = refl
not_taken r (Some s) h = ap (λ b. cond b (with_taken r s) r) h

step_at : (sections : List Section) (q : ℕ) (r : Reach)
    → pass (drop q sections) r ≡ pass (drop (suc q) sections) (taken_where (slice_get sections q) r)
step_at [] zero r = refl
step_at [] (suc q) r = refl
step_at (s ∷ sections) zero r = refl
step_at (s ∷ sections) (suc q) r = step_at sections q r

skipped : (k from : ℕ) (sections : List Section) (r : Reach)
    → ((q : ℕ) → from ≤ q → q < k + from → is_next_where r (slice_get sections q) ≡ false)
    → pass (drop from sections) r ≡ pass (drop (k + from) sections) r
skipped zero from sections r h = let none : from ≡ 0 + from = omega arith in ap (λ i. pass (drop i sections) r) none
skipped (suc k) from sections r h =
    let here = not_taken r (slice_get sections from) (h from (omega arith) (omega arith)) in
    let on : k + suc from ≡ suc k + from = omega arith in
    step_at sections from r
    ∙ ap (pass (drop (suc from) sections)) here
    ∙ skipped k (suc from) sections r (λ q low high. h q (omega arith) (omega arith))
    ∙ ap (λ i. pass (drop i sections) r) on

-- the first that is due is looked at
pub next_due_taken : (sections : List Section) (due : BTreeSet ℕ) (from place : ℕ) (r t all : Reach)
    → AreDue sections due r → IsFirstFrom due from place → taken_where (slice_get sections place) r ≡ t
    → pass (drop from sections) r ≡ all → pass (drop (place + 1) sections) t ≡ all
next_due_taken sections due from place r t all h first is so_far =
    let low = first.at_least in
    let on : (place - from) + from ≡ place = omega (arith, low) in
    let more : suc place ≡ place + 1 = omega arith in
    let skip = skipped (place - from) from sections r (λ q at_least below. h q (first.none_before q at_least (omega (arith, low, below)))) in
    ap (pass (drop (place + 1) sections)) (sym is)
    ∙ ap (λ i. pass (drop i sections) (taken_where (slice_get sections place) r)) (sym more)
    ∙ sym (step_at sections place r)
    ∙ ap (λ i. pass (drop i sections) r) (sym on)
    ∙ sym skip
    ∙ so_far

none_taken : (sections : List Section) (from : ℕ) (r : Reach)
    → ((q : ℕ) → from ≤ q → is_next_where r (slice_get sections q) ≡ false) → pass (drop from sections) r ≡ r
none_taken sections from r h =
    skipped (length sections) from sections r (λ q at_least below. h q at_least)
    ∙ ap (λ xs. pass xs r) (drop_all (length sections + from) sections (omega arith))

-- none is due to the end of the pass
pub pass_ends : (sections : List Section) (due : BTreeSet ℕ) (from : ℕ) (r all : Reach) → AreDue sections due r
    → NoneFrom due from → pass (drop from sections) r ≡ all → all ≡ r
pass_ends sections due from r all h none so_far = sym so_far ∙ none_taken sections from r (λ q low. h q (none q low))

-- the first that is due stands behind all sections
pub pass_ends_behind : (sections : List Section) (due : BTreeSet ℕ) (from place : ℕ) (r all : Reach) → AreDue sections due r
    → IsFirstFrom due from place → length sections ≤ place → pass (drop from sections) r ≡ all → all ≡ r
pass_ends_behind sections due from place r all h first past so_far =
    let low = first.at_least in
    let on : (place - from) + from ≡ place = omega (arith, low) in
    sym so_far
    ∙ skipped (place - from) from sections r (λ q at_least below. h q (first.none_before q at_least (omega (arith, low, below))))
    ∙ ap (λ i. pass (drop i sections) r) on
    ∙ ap (λ xs. pass xs r) (drop_all place sections past)

-- ---- passes

pub stays : (n : ℕ) (sections : List Section) (r : Reach) → pass sections r ≡ r → passes n sections r ≡ r
stays zero sections r h = refl
stays (suc n) sections r h = ap (passes n sections) h ∙ stays n sections r h

-- the number of passes that are left is one less after each
pub more_passes : (n k : ℕ) (sections : List Section) (r t all : Reach) → k < n → pass sections r ≡ t
    → passes (n - k) sections r ≡ all → passes (n - (k + 1)) sections t ≡ all
more_passes n k sections r t all h is so_far =
    let next : n - k ≡ suc (n - (k + 1)) = omega (arith, h) in
    ap (passes (n - (k + 1)) sections) (sym is) ∙ ap (λ m. passes m sections r) (sym next) ∙ so_far

-- none is due at all: no later pass takes another
pub all_passed : (n : ℕ) (sections : List Section) (due : BTreeSet ℕ) (r all : Reach) → AreDue sections due r → NoneFrom due 0
    → passes n sections r ≡ all → r ≡ all
all_passed n sections due r all h none so_far =
    let whole : pass sections r ≡ r = none_taken sections 0 r (λ q low. h q (none q (omega arith))) in
    sym (stays n sections r whole) ∙ so_far

pub empty_none : (due : BTreeSet ℕ) → length due.keys ≡ 0 → NoneFrom due 0
empty_none due h q low = by due.keys h
  where
    by : (keys : List ℕ) → length keys ≡ 0 → list_any (is_at (nat_cmp q)) keys ≡ false
    by [] e = refl
    by (k ∷ ks) e = absurd (omega (arith, e))

-- A control's entry, kept or taken out.
use Rattle.std.proofs.Common.{◌≡◌, ◌≢◌, ◌+◌, ◌<◌, ◌≤◌, suc, length, Bool, true, false, cond, not, ℕ, List, [], ◌∷◌, Option, Some, None, refl, sym, ap, ◌∙◌}
use Rattle.std.specs.Prelude.{◌==◌, ◌||◌}
use Rattle.std.specs.List.{AllByRecursion, filter}
use Rattle.std.proofs.lemmas.Bool.Decides.{nat_tests}
use Rattle.std.proofs.Common.{arith}
use Rattle.fd_queue.specs.declared.entry.Entry.{Entry}
use Rattle.fd_queue.specs.Queue.{InPairs, entry_of, has_entry, without}
use Rattle.fd_queue.specs.Decisions.{is_way}
use Rattle.fd_queue.proofs.Pairs.{each_weaker}

Apart : List Entry → Type 0
Apart es = InPairs (λ a b. a.control ≢ b.control) es

-- the test of the entries that stay
abbrev pub stays : ℕ → Option Bool → Entry → Bool
stays k w e = not (e.control == k) || is_way e.up w

-- ---- no entry is of the control

all_stay : (k : ℕ) (w : Option Bool) (es : List Entry) → AllByRecursion (λ e. (e.control == k) ≡ false) es →
    filter (stays k w) es ≡ es
all_stay k w [] h = refl
all_stay k w (x ∷ xs) h = ap
    (λ (t : Bool). cond (not t || is_way x.up w) (x ∷ filter (stays k w) xs) (filter (stays k w) xs)) h.0
    ∙ ap (λ (ys : List Entry). x ∷ ys) (all_stay k w xs h.1)

none_out : (k : ℕ) (es : List Entry) → AllByRecursion (λ e. (e.control == k) ≡ false) es → without k es ≡ es
none_out k [] h = refl
none_out k (x ∷ xs) h = ap (λ (t : Bool). cond (not t) (x ∷ without k xs) (without k xs)) h.0
    ∙ ap (λ (ys : List Entry). x ∷ ys) (none_out k xs h.1)

no_entry : (k : ℕ) (es : List Entry) → AllByRecursion (λ e. (e.control == k) ≡ false) es → has_entry k es ≡ false
no_entry k [] h = refl
no_entry k (x ∷ xs) h = ap (λ (t : Bool). t || has_entry k xs) h.0 ∙ no_entry k xs h.1

record IsNone (t : Bool) (o : Option Entry) : Type 0 where
  test : t ≡ false
  rest : o ≡ None

none_by : (t : Bool) (x : Entry) (o : Option Entry) → cond t (Some x) o ≡ None → IsNone t o
none_by true x o e = absurd (cc)
none_by false x o e = record { test = refl; rest = e }

none_of : (k : ℕ) (es : List Entry) → entry_of k es ≡ None → AllByRecursion (λ e. (e.control == k) ≡ false) es
none_of k [] e = tt
none_of k (x ∷ xs) e = let h = none_by (x.control == k) x (entry_of k xs) e in (h.test, none_of k xs h.rest)

pub none_kept : (k : ℕ) (w : Option Bool) (es : List Entry) → None ≡ entry_of k es → es ≡ filter (stays k w) es
none_kept k w es e = sym (all_stay k w es (none_of k es (sym e)))

pub none_left : (k : ℕ) (es : List Entry) → None ≡ entry_of k es → false ≡ has_entry k es
none_left k es e = sym (no_entry k es (none_of k es (sym e)))

-- ---- one is

not_that : (a b k : ℕ) → (a == k) ≡ true → a ≢ b → (b == k) ≡ false
not_that a b k h d = grind (arith, nat_tests)

others : (k : ℕ) (x : Entry) (xs : List Entry) → (x.control == k) ≡ true →
    AllByRecursion (λ y. x.control ≢ y.control) xs → AllByRecursion (λ e. (e.control == k) ≡ false) xs
others k x xs t h = each_weaker (λ y. x.control ≢ y.control) (λ y. (y.control == k) ≡ false)
    (λ y d. not_that x.control y.control k t d) xs h

same_by : (t : Bool) (w : Option Bool) (x e : Entry) (xs fs : List Entry) (o : Option Entry) →
    cond t (Some x) o ≡ Some e → is_way e.up w ≡ true → (t ≡ true → fs ≡ xs) → (t ≡ false → o ≡ Some e → fs ≡ xs) →
    cond (not t || is_way x.up w) (x ∷ fs) fs ≡ x ∷ xs
same_by true w x e xs fs o i d h g =
    let same : x ≡ e = cc in
    ap (λ (t : Bool). cond t (x ∷ fs) fs) (ap (λ (y : Entry). is_way y.up w) same ∙ d)
    ∙ ap (λ (ys : List Entry). x ∷ ys) (h refl)
same_by false w x e xs fs o i d h g = ap (λ (ys : List Entry). x ∷ ys) (g refl i)

same_stays : (k : ℕ) (w : Option Bool) (e : Entry) (es : List Entry) → Apart es → entry_of k es ≡ Some e →
    is_way e.up w ≡ true → filter (stays k w) es ≡ es
unfolding Apart
same_stays k w e [] a i d = refl
same_stays k w e (x ∷ xs) a i d = same_by (x.control == k) w x e xs (filter (stays k w) xs) (entry_of k xs) i d
    (λ t. all_stay k w xs (others k x xs t a.0)) (λ f j. same_stays k w e xs a.1 j d)

pub same_kept : (k : ℕ) (w : Option Bool) (e : Entry) (es : List Entry) → InPairs (λ a b. a.control ≢ b.control) es →
    Some e ≡ entry_of k es → is_way e.up w ≡ true → es ≡ filter (stays k w) es
unfolding Apart
same_kept k w e es a i d = sym (same_stays k w e es a (sym i) d)

left_by : (t u : Bool) (x e : Entry) (o : Option Entry) → cond t (Some x) o ≡ Some e → (o ≡ Some e → u ≡ true) →
    (t || u) ≡ true
left_by true u x e o i h = refl
left_by false u x e o i h = h i

has_one : (k : ℕ) (e : Entry) (es : List Entry) → entry_of k es ≡ Some e → has_entry k es ≡ true
has_one k e [] i = absurd (cc)
has_one k e (x ∷ xs) i = left_by (x.control == k) (has_entry k xs) x e (entry_of k xs) i (has_one k e xs)

pub same_left : (k : ℕ) (e : Entry) (es : List Entry) → Some e ≡ entry_of k es → true ≡ has_entry k es
same_left k e es i = sym (has_one k e es (sym i))

other_by : (t : Bool) (x e : Entry) (w : Option Bool) (fs gs : List Entry) (o : Option Entry) →
    cond t (Some x) o ≡ Some e → is_way e.up w ≡ false → (t ≡ true → fs ≡ gs) → (t ≡ false → o ≡ Some e → fs ≡ gs) →
    cond (not t || is_way x.up w) (x ∷ fs) fs ≡ cond (not t) (x ∷ gs) gs
other_by true x e w fs gs o i d h g =
    let same : x ≡ e = cc in
    ap (λ (t : Bool). cond t (x ∷ fs) fs) (ap (λ (y : Entry). is_way y.up w) same ∙ d) ∙ h refl
other_by false x e w fs gs o i d h g = ap (λ (ys : List Entry). x ∷ ys) (g refl i)

other_stays : (k : ℕ) (w : Option Bool) (e : Entry) (es : List Entry) → Apart es → entry_of k es ≡ Some e →
    is_way e.up w ≡ false → filter (stays k w) es ≡ without k es
unfolding Apart
other_stays k w e [] a i d = refl
other_stays k w e (x ∷ xs) a i d =
    other_by (x.control == k) x e w (filter (stays k w) xs) (without k xs) (entry_of k xs) i d
    (λ t. all_stay k w xs (others k x xs t a.0) ∙ sym (none_out k xs (others k x xs t a.0)))
    (λ f j. other_stays k w e xs a.1 j d)

pub other_kept : (k : ℕ) (w : Option Bool) (e : Entry) (es new : List Entry) →
    InPairs (λ a b. a.control ≢ b.control) es → Some e ≡ entry_of k es → is_way e.up w ≡ false → new ≡ without k es →
    new ≡ filter (stays k w) es
unfolding Apart
other_kept k w e es new a i d n = n ∙ sym (other_stays k w e es a (sym i) d)

fewer_by : (t : Bool) (x e : Entry) (fs xs : List Entry) (o : Option Entry) → cond t (Some x) o ≡ Some e →
    length fs ≤ length xs → (o ≡ Some e → suc (length fs) ≤ length xs) →
    suc (length (cond (not t) (x ∷ fs) fs)) ≤ suc (length xs)
fewer_by true x e fs xs o i l h = omega arith
fewer_by false x e fs xs o i l h = omega (arith, h i)

few_by : (t : Bool) (x : Entry) (fs xs : List Entry) → length fs ≤ length xs →
    length (cond (not t) (x ∷ fs) fs) ≤ suc (length xs)
few_by true x fs xs l = omega arith
few_by false x fs xs l = omega arith

few : (k : ℕ) (es : List Entry) → length (without k es) ≤ length es
few k [] = omega arith
few k (x ∷ xs) = few_by (x.control == k) x (without k xs) xs (few k xs)

fewer : (k : ℕ) (e : Entry) (es : List Entry) → entry_of k es ≡ Some e → suc (length (without k es)) ≤ length es
fewer k e [] i = absurd (cc)
fewer k e (x ∷ xs) i = fewer_by (x.control == k) x e (without k xs) xs (entry_of k xs) i (few k xs)
    (λ j. fewer k e xs j)

pub more_room : (k : ℕ) (e : Entry) (es new : List Entry) (spare after : ℕ) → Some e ≡ entry_of k es →
    new ≡ without k es → after + length new ≡ spare + length es → 0 < after
more_room k e es new spare after i n h = omega (arith, fewer k e es (sym i), ap length n)

out_by : (t u : Bool) (k : ℕ) (x : Entry) (fs : List Entry) → t ≡ (x.control == k) → has_entry k fs ≡ false →
    has_entry k (cond (not t) (x ∷ fs) fs) ≡ false
out_by true u k x fs e h = h
out_by false u k x fs e h = ap (λ (t : Bool). t || has_entry k fs) (sym e) ∙ h

without_has : (k : ℕ) (es : List Entry) → has_entry k (without k es) ≡ false
without_has k [] = refl
without_has k (x ∷ xs) = out_by (x.control == k) true k x (without k xs) refl (without_has k xs)

pub other_left : (k : ℕ) (es new : List Entry) → new ≡ without k es → false ≡ has_entry k new
other_left k es new n = sym (ap (has_entry k) n ∙ without_has k es)

-- Of a sorted list some entry is due exactly where the first is.
use Rattle.std.proofs.Common.{◌≡◌, ⊎_elim, ℕ, ◌≤◌, Bool, true, false, List, [], ◌∷◌, Option, Some, None, refl, sym, subst, arith}
use Rattle.std.specs.Prelude.{nat_le, slice_get, ◌||◌}
use Rattle.std.specs.List.{AllByRecursion, list_any}
use Rattle.std.proofs.lemmas.Bool.Decides.{nat_tests}
use Rattle.fd_queue.specs.declared.entry.Entry.{Entry}
use Rattle.fd_queue.specs.declared.timing.Timing.{Timing}
use Rattle.fd_queue.specs.declared.timing.Timing.TheVariants as timing
use Rattle.fd_queue.specs.Machine.{rule_of}
use Rattle.fd_queue.specs.Queue.{InPairs, IsBefore}

later_test : (a b now : ℕ) → a ≤ b → nat_le a now ≡ false → nat_le b now ≡ false
later_test a b now l h = grind (arith, nat_tests)

not_due : (t : Timing) (now : ℕ) (a b : Entry) → IsBefore a b → (rule_of t).is_due now a ≡ false → (rule_of t).is_due now b ≡ false
not_due timing.Static now a b before h = absurd (cc)
not_due timing.Clock now a b before h =
    let l : a.time ≤ b.time = ⊎_elim (λ less. omega (arith, less)) (λ same. omega (arith, same.0)) before in
    later_test a.time b.time now l h

none_by : (t u : Bool) → t ≡ false → u ≡ false → (t || u) ≡ false
none_by true u h i = absurd (cc)
none_by false u h i = i

none_due : (t : Timing) (now : ℕ) (e : Entry) (es : List Entry) → AllByRecursion (IsBefore e) es
    → (rule_of t).is_due now e ≡ false → list_any ((rule_of t).is_due now) es ≡ false
none_due t now e [] h n = refl
none_due t now e (x ∷ xs) h n =
    none_by ((rule_of t).is_due now x) (list_any ((rule_of t).is_due now) xs) (not_due t now e x h.0 n) (none_due t now e xs h.1 n)

first_by : (a b : Bool) → (a ≡ false → b ≡ false) → a ≡ (a || b)
first_by true b h = refl
first_by false b h = sym (h refl)

first_due : (t : Timing) (now : ℕ) (e : Entry) (es : List Entry) → InPairs IsBefore (e ∷ es)
    → (rule_of t).is_due now e ≡ list_any ((rule_of t).is_due now) (e ∷ es)
first_due t now e es h =
    first_by ((rule_of t).is_due now e) (list_any ((rule_of t).is_due now) es) (none_due t now e es h.0)

-- by the first entry
pub due_by_first : (t : Timing) (now : ℕ) (e : Entry) (es : List Entry) → InPairs IsBefore es → slice_get es 0 ≡ Some e
    → (rule_of t).is_due now e ≡ list_any ((rule_of t).is_due now) es
due_by_first t now e [] h first = absurd (cc)
due_by_first t now e (x ∷ xs) h first =
    let same : x ≡ e = cc in
    subst (λ (y : Entry). (rule_of t).is_due now y ≡ list_any ((rule_of t).is_due now) (x ∷ xs)) same (first_due t now x xs h)

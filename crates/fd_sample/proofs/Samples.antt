-- The verdict of a sample from those at the ends of its interval, and what it says of every quantity between.
use Rattle.std.proofs.Common.{◌≡◌, ◌≢◌, ℕ, ◌*◌, ◌<◌, ◌≤◌, ◌^◌, ℤ, pos, negsuc, ◌*ℤ◌, ◌≤ℤ◌, Bool, true, false, cond, Some, None, refl, sym, ap, ◌∙◌, subst, arith}
use Rattle.std.specs.Prelude.{IsSome}
use Rattle.std.proofs.lemmas.Int.{ints}
use Rattle.std.proofs.lemmas.Bool.Decides.{Decides-int_eq}
use Rattle.fd_network.specs.fd_exact.Integers.{spread}
use Rattle.fd_network.specs.fd_exact.Order.{scale}
use Rattle.fd_regctl.specs.fd_arith.Limits.{non_negative}
use Rattle.fd_regctl.specs.fd_arith.Interval.{Bounds, Holds}
use Rattle.fd_regctl.specs.fd_queue.Quantities.{Quantity, magnitude, value}
use Rattle.fd_regctl.specs.fd_queue.Decisions.{Decision, place, same_decision, IsOfAll, IsEdge}
use Rattle.fd_regctl.specs.fd_queue.Verdicts.{decision}
use Rattle.fd_regctl.specs.fd_queue.declared.verdict.Verdict.{Verdict}
use Rattle.fd_regctl.specs.fd_queue.declared.verdict.Verdict.TheVariants as verdict
use Rattle.fd_regctl.proofs.CallerLemmas.fd_queue.{magnitude_order, value_order}
use Rattle.fd_sample.specs.Samples.{decision_of, IfUndecided, agreed, least_root, greatest_root, AreRootEnds, IsRootSample, least_value, greatest_value, AreValueEnds, IsValueSample, TellsEdge}

-- ---- from the ends

two_decisions : (v w : Decision) → same_decision v w ≡ false → v ≢ w
two_decisions v w f e = absurd (let t = (Decides-int_eq (place v) (place w)).1 (ap place e) in cc)

not_some : (t : Bool) (v : Decision) → cond t (Some v) None ≡ None → t ≡ false
not_some true v e = absurd (cc)
not_some false v e = refl

-- where nothing is decided over an interval with ends, these want different things
pub ends_differ : (s : Bounds) (v w : Decision) → IsSome s → agreed s v w ≡ None → v ≢ w
ends_differ None v w some e = absurd (cc)
ends_differ (Some b) v w some e = two_decisions v w (not_some (same_decision v w) v e)

-- the same at ALL, if they do there
pub all_differ : (s : Bounds) (v w : Decision) → (s ≡ None → v ≢ w) → agreed s v w ≡ None → v ≢ w
all_differ None v w all e = all refl
all_differ (Some b) v w all e = ends_differ (Some b) v w refl e

agreed_same : (s : Bounds) (low high v w : Decision) → (IsSome s → low ≡ v) → (IsSome s → high ≡ w)
    → agreed s low high ≡ agreed s v w
agreed_same None low high v w e h = refl
agreed_same (Some b) low high v w e h = let j = e refl in let k = h refl in cc

both_of : {P Q R : ℤ → ℤ → ℤ → Type 0} (v : Verdict) → ((lo hi at : ℤ) → P lo hi at → Q lo hi at → R lo hi at)
    → IfUndecided v P →
    IfUndecided v Q → IfUndecided v R
both_of (verdict.Raise n) f p q = tt
both_of verdict.Hold f p q = tt
both_of (verdict.Lower n) f p q = tt
both_of (verdict.Undecided lo hi at) f p q = f lo hi at p q

pub root_sample : (f : Quantity → Decision) (edge_of : Decision → ℤ) (s : Bounds) (v low high : Verdict) (edge : ℤ) →
    (IsSome s → decision low ≡ f (least_root s)) → (IsSome s → decision high ≡ f (greatest_root s)) → edge ≡ edge_of (f (least_root s)) →
    decision_of v ≡ agreed s (decision low) (decision high) → IfUndecided v (λ lo hi at. AreRootEnds s lo hi) →
    IfUndecided v (λ lo hi at. at ≡ edge) → IsRootSample f edge_of s v
root_sample f edge_of s v low high edge at_low at_high e d ends same = record {
  decides = d ∙ agreed_same s (decision low) (decision high) (f (least_root s)) (f (greatest_root s)) at_low at_high;
  reports = both_of v (λ lo hi at p q. record { ends = p; edge = q ∙ e }) ends same;
}

pub value_sample : (f : Quantity → Decision) (edge_of : Decision → ℤ) (s : Bounds) (v low high : Verdict) (edge : ℤ) →
    (IsSome s → decision low ≡ f (least_value s)) → (IsSome s → decision high ≡ f (greatest_value s)) → edge ≡ edge_of (f (least_value s)) →
    decision_of v ≡ agreed s (decision low) (decision high) → IfUndecided v (λ lo hi at. AreValueEnds s lo hi) →
    IfUndecided v (λ lo hi at. at ≡ edge) → IsValueSample f edge_of s v
value_sample f edge_of s v low high edge at_low at_high e d ends same = record {
  decides = d ∙ agreed_same s (decision low) (decision high) (f (least_value s)) (f (greatest_value s)) at_low at_high;
  reports = both_of v (λ lo hi at p q. record { ends = p; edge = q ∙ e }) ends same;
}

-- the edge of an undecided verdict
pub tells_edge : (f : Quantity → Decision) (least greatest : Quantity) (edge : ℤ) (v : Verdict) →
    (decision_of v ≡ None → IsEdge f least greatest edge) → IfUndecided v (λ lo hi at. at ≡ edge) → TellsEdge f least greatest v
tells_edge f least greatest edge (verdict.Raise n) h e = tt
tells_edge f least greatest edge verdict.Hold h e = tt
tells_edge f least greatest edge (verdict.Lower n) h e = tt
tells_edge f least greatest edge (verdict.Undecided lo hi at) h e = subst (λ (z : ℤ). IsEdge f least greatest z) (sym e) (h refl)

-- ---- at every quantity between

lower_most : (z : ℤ) (m d : ℕ) → (z *ℤ pos d) ≤ℤ pos m → non_negative z * d ≤ m
lower_most (pos n) m d h = omega (arith, ints)
lower_most (negsuc n) m d h = omega arith

upper_least : (z : ℤ) (m d : ℕ) → pos m ≤ℤ (z *ℤ pos d) → m ≤ non_negative z * d
upper_least (pos n) m d h = omega (arith, ints)
upper_least (negsuc n) m d h = grind (arith, ints)

some_by : (t : Bool) (v w : Decision) → cond t (Some v) None ≡ Some w → (t ≡ true) × (v ≡ w)
some_by true v w e = (refl, cc)
some_by false v w e = absurd (cc)

-- what is decided over an interval of squares is so at every magnitude whose square it holds
pub root_of_all : (f : Quantity → Decision) (s : Bounds) (m d : ℕ) (v : Decision) → IsOfAll f → 0 < d
    → Holds s (record { top = pos m; over = d }) →
    agreed s (f (least_root s)) (f (greatest_root s)) ≡ Some v → f (magnitude m d) ≡ v
root_of_all f None m d v all p h e = absurd (cc)
root_of_all f (Some b) m d v all p h e = all (least_root (Some b)) (magnitude m d) (greatest_root (Some b)) v
    (magnitude_order (non_negative b.0) 1 m d (omega arith) p (omega (arith, lower_most b.0 m d h.0)))
    (magnitude_order m d (non_negative b.1) 1 p (omega arith) (omega (arith, upper_least b.1 m d h.1)))
    e

-- and over an interval of values
pub value_of_all : (f : Quantity → Decision) (s : Bounds) (n : ℤ) (d : ℕ) (v : Decision) → IsOfAll f → 0 < d
    → Holds s (record { top = n; over = d }) →
    agreed s (f (least_value s)) (f (greatest_value s)) ≡ Some v → f (value n (d * 10 ^ 6)) ≡ v
value_of_all f None n d v all p h e = absurd (cc)
value_of_all f (Some b) n d v all p h e = all (least_value (Some b)) (value n (d * 10 ^ 6)) (greatest_value (Some b)) v
    (value_order b.0 n (10 ^ 6) (d * 10 ^ 6) (omega arith) (omega arith) (rw (spread b.0 d (10 ^ 6)) (scale (b.0 *ℤ pos d) n (10 ^ 6) h.0)))
    (value_order n b.1 (d * 10 ^ 6) (10 ^ 6) (omega arith) (omega arith) (rw (spread b.1 d (10 ^ 6)) (scale n (b.1 *ℤ pos d) (10 ^ 6) h.1)))
    e

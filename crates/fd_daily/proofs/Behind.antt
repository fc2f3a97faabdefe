-- What is left of a Solve's hours behind one.
use Rattle.std.proofs.Common.{◌≡◌, ◌∙◌, ℕ, ◌+◌, ◌*◌, ◌-◌, ◌≤◌, ◌^◌, Bool, true, false, List, ◌∷◌, Option, Some, None, Result, Ok, Err, refl, sym, subst, ap, arith}
use Rattle.std.specs.Prelude.{IfSome, IsSome, OnOk, if◌then◌else◌, is_ok, nat_lt}
use Rattle.std.specs.List.{range_with_len}
use Rattle.fd_settle.specs.fd_queue.Machine.{Machine, hour_begun}
use Rattle.fd_settle.specs.fd_queue.declared.timing.Timing.{Timing}
use Rattle.fd_settle.specs.fd_queue.declared.timing.Timing.TheVariants as timing
use Rattle.fd_daily.specs.Day.{DayView, IsDay, MayBegin, hour_in, hour_kept, hours_done, hours_left}
use Rattle.fd_daily.specs.Hours.{hour_after, hours_from}
use Rattle.fd_daily.proofs.CallerLemmas.{next_first}

-- the hours behind hour k
after_by : (k last : ℕ) (t : Bool) → nat_lt k last ≡ t
    → hours_from (if t then Some (k + 1) else None) last ≡ range_with_len (k + 1) (last - k)
after_by k last true h = let few : last + 1 - (k + 1) ≡ last - k = grind arith in ap (range_with_len (k + 1)) few
after_by k last false h = let none : last - k ≡ 0 = grind (arith, h) in ap (range_with_len (k + 1)) (sym none)

left_by : (d : DayView) (w : Bool) → IsDay d → IsSome d.hour
    → hours_left d ≡ hours_done w (hour_in d) (hours_from (hour_kept w (hour_in d) d) d.last)
left_by d true is some =
    next_first d is some ∙ ap (λ (hs : List ℕ). hour_in d ∷ hs) (sym (after_by (hour_in d) d.last (nat_lt (hour_in d) d.last) refl))
left_by d false is some = refl

-- the day behind an hour: kept where it ended well or not, from the day while it ran
pub left_behind : (d e : DayView) (w well : Bool) (k : ℕ) → IsDay d → IsSome d.hour
    → k ≡ hour_in d → e.hour ≡ hour_kept well k d → e.last ≡ d.last → well ≡ w
    → hours_left d ≡ hours_done w (hour_in d) (hours_left e)
left_behind d e w well k is some there hour_now last_now same =
    left_by d w is some ∙ ap (hours_done w (hour_in d)) (sym left)
  where
    kept : (x : Bool) → hour_kept x k d ≡ hour_kept x (hour_in d) d
    kept true = ap (λ (n : ℕ). hour_after n d.last) there
    kept false = refl

    left : hours_left e ≡ hours_from (hour_kept w (hour_in d) d) d.last
    left =
        ap (λ (o : Option ℕ). hours_from o e.last) (hour_now ∙ ap (λ (x : Bool). hour_kept x k d) same ∙ kept w)
        ∙ ap (hours_from (hour_kept w (hour_in d) d)) last_now

-- the hour behind hour k is no later than the last
after_within : (k last : ℕ) (t : Bool) → nat_lt k last ≡ t → IfSome (if t then Some (k + 1) else None) (λ n. n ≤ last)
after_within k last true h = grind (arith, h)
after_within k last false h = tt

kept_within : (d : DayView) (w : Bool) (k : ℕ) → IsDay d → IfSome (hour_kept w k d) (λ n. n ≤ d.last)
kept_within d true k is = after_within k d.last (nat_lt k d.last) refl
kept_within d false k is = is.hour

pub day_behind : (d e : DayView) (w : Bool) (k : ℕ) → IsDay d → e.hour ≡ hour_kept w k d → e.last ≡ d.last → IsDay e
day_behind d e w k is hour last = record {
  hour = subst (λ (n : ℕ). IfSome e.hour (λ j. j ≤ n)) (sym last)
      (subst (λ (o : Option ℕ). IfSome o (λ j. j ≤ d.last)) (sym hour) (kept_within d w k is));
  last = subst (λ (n : ℕ). n ≤ 8760) (sym last) is.last;
}

-- ---- sequence numbers

-- the hour behind hour k may begin with what hour k left
after_begins : (k last next : ℕ) (t : Bool) → next ≤ 2 ^ 25 * k + 2 ^ 25
    → IfSome (if t then Some (k + 1) else None) (λ n. MayBegin n next)
after_begins k last next true h = omega (arith, h)
after_begins k last next false h = tt

pub may_begin : {T F : Type 0} (d e : DayView) (r : Result T F) (w : Bool) (k next : ℕ) → w ≡ is_ok r → e.hour ≡ hour_kept w k d
    → next ≤ 2 ^ 25 * k + 2 ^ 25 → OnOk r (IfSome e.hour (λ n. MayBegin n next))
may_begin d e (Ok x) w k next well hour few =
    subst (λ (o : Option ℕ). IfSome o (λ n. MayBegin n next)) (sym (hour ∙ ap (λ (x : Bool). hour_kept x k d) well))
    (after_begins k d.last next (nat_lt k d.last) few)
may_begin d e (Err f) w k next well hour few = tt

-- what an hour begins with has no later number than what the hour before left
pub begun_numbers : (t : Timing) (now : ℕ) (m : Machine) (k : ℕ) → MayBegin k m.next → MayBegin k (hour_begun t now m).next
begun_numbers timing.Static now m k h = omega arith
begun_numbers timing.Clock now m k h = h

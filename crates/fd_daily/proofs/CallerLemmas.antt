-- Lemmas on the hours that are left, for callers.
use Rattle.std.proofs.Common.{◌≡◌, ◌∙◌, ℕ, zero, suc, ◌+◌, ◌-◌, ◌≤◌, List, [], ◌∷◌, Option, Some, None, true, Result, refl, sym, ap, subst, arith}
use Rattle.std.specs.Prelude.{IfSome, IsSome, is_none}
use Rattle.std.specs.List.{AllByRecursion, range_with_len}
use Rattle.std.specs.Option.{unwrap_or}
use Rattle.std.specs.declared.alloc.Global.{Global}
use Rattle.std.specs.declared.vec.Vec.{Vec}
use Rattle.std.proofs.lemmas.List.FromFn.{length-range_with_len}
use Rattle.fd_settings.specs.dss_model.InRange.{OptionsInRange}
use Rattle.fd_settings.specs.dss_model.declared.options.Options.{Options}
use Rattle.fd_settings.specs.dss_model.declared.words.Mode.{Mode}
use Rattle.fd_settings.specs.dss_model.declared.words.Mode.TheVariants as mode
use Rattle.fd_settings.specs.dss_circuit.Circuit.{CircuitView}
use Rattle.fd_settings.specs.fd_pattern.Views.{NetworkView}
use Rattle.fd_settle.specs.fd_enclosure.Sound.{Claim}
use Rattle.fd_settle.specs.fd_queue.Machine.{Machine, hour_begun}
use Rattle.fd_settle.specs.fd_queue.declared.timing.Timing.{Timing}
use Rattle.fd_settle.specs.fd_queue.declared.timing.Timing.TheVariants as timing
use Rattle.fd_settle.specs.Journals.{HoldsAll}
use Rattle.fd_settle.specs.Plant.{timing_of}
use Rattle.fd_settle.specs.declared.fault.SettleFault.{SettleFault}
use Rattle.fd_settle.specs.declared.round.Round.{Round}
use Rattle.fd_daily.specs.Day.{DayView, IsDay, hour_in, hours_left, resumed}
use Rattle.fd_daily.specs.Hours.{AreHours, hours_from, hours_in, hours_of, time_of}
use Rattle.fd_daily.specs.Underway.{HasSettledHour, IsSettledHour}
pub use Rattle.fd_settle.proofs.CallerLemmas.dss_ready as dss_ready
pub use Rattle.fd_settle.proofs.CallerLemmas.fd_equations as fd_equations
pub use Rattle.fd_settle.proofs.CallerLemmas.fd_inverse as fd_inverse
pub use Rattle.fd_settle.proofs.CallerLemmas.fd_inject as fd_inject
pub use Rattle.fd_settle.proofs.CallerLemmas.fd_enclosure as fd_enclosure
pub use Rattle.fd_settle.proofs.CallerLemmas.fd_sample as fd_sample
pub use Rattle.fd_settle.proofs.CallerLemmas as fd_settle

-- ---- an hour begins

at_by : (t : Timing) (now : ℕ) (m : Machine) → (hour_begun t now m).at ≡ m.at
at_by timing.Static now m = refl
at_by timing.Clock now m = refl

-- at the positions that the hour before left
pub begun_at : (c : CircuitView) (hour : ℕ) (m : Machine) → (resumed c hour m).at ≡ m.at
begun_at c hour m = at_by (timing_of c.options.controlmode) (time_of hour) m

made_by : (t : Timing) (now : ℕ) (m : Machine) → (hour_begun t now m).made ≡ 0
made_by timing.Static now m = refl
made_by timing.Clock now m = refl

-- with no act
pub begun_made : (c : CircuitView) (hour : ℕ) (m : Machine) → (resumed c hour m).made ≡ 0
begun_made c hour m = made_by (timing_of c.options.controlmode) (time_of hour) m

-- ---- the hours that are left

hours_more : (k last : ℕ) → k ≤ last → hours_from (Some k) last ≡ k ∷ range_with_len (k + 1) (last - k)
hours_more k last h = let more : last + 1 - k ≡ suc (last - k) = omega (arith, h) in ap (range_with_len k) more

open_by : (o : Option ℕ) (last : ℕ) → IsSome o → IfSome o (λ k. k ≤ last)
    → hours_from o last ≡ unwrap_or o 0 ∷ range_with_len (unwrap_or o 0 + 1) (last - unwrap_or o 0)
open_by None last s h = absurd (cc s)
open_by (Some k) last s h = hours_more k last h

-- the hours behind the next
abbrev pub hours_behind : DayView → List ℕ
hours_behind d = range_with_len (hour_in d + 1) (d.last - hour_in d)

-- an hour that comes next is the first of those that are left
pub next_first : (d : DayView) → IsDay d → IsSome d.hour
    → hours_left d ≡ hour_in d ∷ hours_behind d
next_first d is some = open_by d.hour d.last some is.hour

within_by : (o : Option ℕ) (last : ℕ) → IfSome o (λ k. k ≤ last) → last ≤ 8760 → unwrap_or o 0 ≤ 8760
within_by None last h most = omega arith
within_by (Some k) last h most = omega (arith, h, most)

-- no hour is past 8,760
pub hour_within : (d : DayView) → IsDay d → hour_in d ≤ 8760
hour_within d is = within_by d.hour d.last is.hour is.last

each_from : (k n : ℕ) → k + n ≤ 8761 → AllByRecursion (λ hour. hour ≤ 8760) (range_with_len k n)
each_from k zero h = tt
each_from k (suc n) h = (omega (arith, h), each_from (k + 1) n (omega (arith, h)))

hours_within : (k n : ℕ) → k + n ≤ 8761 → AreHours (range_with_len k n)
hours_within k n h = record { few = omega (arith, h, length-range_with_len k n); each = each_from k n h }

left_by : (o : Option ℕ) (last : ℕ) → IfSome o (λ k. k ≤ last) → last ≤ 8760 → AreHours (hours_from o last)
left_by None last h within = record { few = omega arith; each = tt }
left_by (Some k) last h within = hours_within k (last + 1 - k) (omega (arith, h, within))

pub left_hours : (d : DayView) → IsDay d → AreHours (hours_left d)
left_hours d is = left_by d.hour d.last is.hour is.last

hours_by : (m : Mode) (number : ℕ) → number ≤ 8760 → AreHours (hours_in m number)
hours_by mode.Snapshot number h = record { few = omega arith; each = (omega arith, tt) }
hours_by mode.Daily number h = hours_within 1 number (omega (arith, h))

pub all_hours : (o : Options) → OptionsInRange o → AreHours (hours_of o)
all_hours o h = hours_by o.mode o.number h.number.most

none_by : (o : Option ℕ) → is_none o ≡ true → o ≡ None
none_by None h = refl
none_by (Some k) h = absurd (cc h)

-- none is left where none comes next
pub none_left : (d : DayView) (o : Option ℕ) → o ≡ d.hour → is_none o ≡ true → hours_left d ≡ []
none_left d o next none = ap (λ (x : Option ℕ). hours_from x d.last) (sym next ∙ none_by o none)

-- ---- rounds that are kept whole

-- are those of the hour
pub whole_hour : {V T F : Type 0} (gives : V → NetworkView → Result Claim F → V → Type 0) (c : CircuitView) (d : DayView)
    (v w : V) (m n : Machine) (rounds : Vec Round Global) (result : Result T (SettleFault F))
    → HasSettledHour gives HoldsAll c d v w m n rounds result → IsSettledHour gives c d v w m n result rounds.items
whole_hour gives c d v w m n rounds result h = subst (IsSettledHour gives c d v w m n result) (sym h.held) h.settled

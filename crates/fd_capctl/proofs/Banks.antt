-- A bank's verdicts never go back.
use Rattle.std.proofs.Common.{◌≡◌, inl, inr, ℤ, ◌≤ℤ◌, true, false, Bool, cond, refl, arith}
use Rattle.std.proofs.lemmas.Int.{ints}
use Rattle.fd_queue.specs.Quantities.{Quantity}
use Rattle.fd_queue.specs.Decisions.{Decision, Raise, Hold, Lower, place, IsMonotone}
use Rattle.fd_capctl.specs.Bank.{Bank, Kind, Voltage, Current, Kvar, bank_verdict}
use Rattle.fd_capctl.specs.BankLaws.{GoesBy}

lower_by : (a b : Bool) → (a ≡ true → b ≡ true) → place (cond a (Lower 1) Hold) ≤ℤ place (cond b (Lower 1) Hold)
lower_by true true h = omega (arith, ints)
lower_by true false h = absurd (let e = h refl in cc)
lower_by false true h = omega (arith, ints)
lower_by false false h = omega (arith, ints)

raise_by : (a b : Bool) → (a ≡ true → b ≡ true) → place (cond b (Raise 1) Hold) ≤ℤ place (cond a (Raise 1) Hold)
raise_by true true h = omega (arith, ints)
raise_by true false h = absurd (let e = h refl in cc)
raise_by false true h = omega (arith, ints)
raise_by false false h = omega (arith, ints)

by_kind : (k : Kind) (on off : ℤ) (closed : Bool) →
    GoesBy k (bank_verdict (record { kind = k; on = on; off = off }) closed)
by_kind Voltage on off true = λ q r h. lower_by (q.above off) (r.above off) (h.above off)
by_kind Voltage on off false = λ q r h. raise_by (r.below on) (q.below on) (h.below on)
by_kind Current on off true = λ q r h. lower_by (r.below off) (q.below off) (h.below off)
by_kind Current on off false = λ q r h. raise_by (q.above on) (r.above on) (h.above on)
by_kind Kvar on off true = λ q r h. lower_by (r.below off) (q.below off) (h.below off)
by_kind Kvar on off false = λ q r h. raise_by (q.above on) (r.above on) (h.above on)

pub bank_by : (b : Bank) (closed : Bool) → GoesBy b.kind (bank_verdict b closed)
bank_by b closed = by_kind b.kind b.on b.off closed

monotone_by : (k : Kind) (f : Quantity → Decision) → GoesBy k f → IsMonotone f
monotone_by Voltage f h = inl h
monotone_by Current f h = inr h
monotone_by Kvar f h = inr h

pub bank_monotone : (b : Bank) (closed : Bool) → IsMonotone (bank_verdict b closed)
bank_monotone b closed = monotone_by b.kind (bank_verdict b closed) (bank_by b closed)

-- The edge of a bank's undecided interval.
use Rattle.std.proofs.Common.{◌≡◌, ◌≢◌, ℤ, true, false, Bool, cond, refl, sym, ap}
use Rattle.fd_queue.specs.Quantities.{Quantity}
use Rattle.fd_queue.specs.Decisions.{Decision, Raise, Hold, Lower, IsEdge}
use Rattle.fd_queue.proofs.CallerLemmas.{not_below}
use Rattle.fd_capctl.specs.Bank.{Bank, Kind, Voltage, Current, Kvar, bank_verdict, bank_edge}

rise_same : (a b : Bool) (v w : Decision) → (a ≡ true → b ≡ true) → b ≡ false → cond b v w ≡ cond a v w
rise_same true true v w h e = refl
rise_same true false v w h e = absurd (let f = h refl in cc)
rise_same false true v w h e = absurd (cc)
rise_same false false v w h e = refl

rise_other : (a b c : Bool) (v w : Decision) → v ≢ w → (b ≡ true → c ≡ true) → cond a v w ≢ cond c v w → b ≡ true →
    cond b v w ≢ cond a v w
rise_other true true true v w d h n e = λ k. n refl
rise_other true true false v w d h n e = absurd (let f = h refl in cc)
rise_other false true c v w d h n e = d
rise_other a false c v w d h n e = absurd (cc)

fall_same : (a b : Bool) (v w : Decision) → (b ≡ true → a ≡ true) → b ≡ true → cond b v w ≡ cond a v w
fall_same true b v w h e = ap (λ t. cond t v w) e
fall_same false true v w h e = absurd (let f = h refl in cc)
fall_same false false v w h e = refl

fall_other : (a b c : Bool) (v w : Decision) → v ≢ w → (c ≡ true → b ≡ true) → cond a v w ≢ cond c v w → b ≡ false →
    cond b v w ≢ cond a v w
fall_other a true c v w d h n e = absurd (cc)
fall_other a false true v w d h n e = absurd (let f = h refl in cc)
fall_other true false false v w d h n e = λ k. d (sym k)
fall_other false false false v w d h n e = λ k. n refl

rise_edge : (low high : Quantity) (e : ℤ) (v w : Decision) → v ≢ w →
    cond (low.above e) v w ≢ cond (high.above e) v w → IsEdge (λ q. cond (q.above e) v w) low high e
rise_edge low high e v w d n = record {
  same = λ q proper l u t. rise_same (low.above e) (q.above e) v w (l.above e) (proper.apart e t);
  other = λ q proper l u t. rise_other (low.above e) (q.above e) (high.above e) v w d (u.above e) n t;
}

fall_edge : (low high : Quantity) (e : ℤ) (v w : Decision) → v ≢ w →
    cond (low.below e) v w ≢ cond (high.below e) v w → IsEdge (λ q. cond (q.below e) v w) low high e
fall_edge low high e v w d n = record {
  same = λ q proper l u t. fall_same (low.below e) (q.below e) v w (l.below e) t;
  other = λ q proper l u t. fall_other (low.below e) (q.below e) (high.below e) v w d (u.below e) n
      (not_below q e proper t);
}

-- ---- banks

lowers : Lower 1 ≢ Hold
lowers e = cc

raises : Raise 1 ≢ Hold
raises e = cc

by_kind : (k : Kind) (on off : ℤ) (closed : Bool) (low high : Quantity) →
    bank_verdict (record { kind = k; on = on; off = off }) closed low ≢ bank_verdict
    (record { kind = k; on = on; off = off }) closed high →
    IsEdge (bank_verdict (record { kind = k; on = on; off = off }) closed) low high
    (bank_edge (record { kind = k; on = on; off = off }) closed)
by_kind Voltage on off true low high n = rise_edge low high off (Lower 1) Hold lowers n
by_kind Voltage on off false low high n = fall_edge low high on (Raise 1) Hold raises n
by_kind Current on off true low high n = fall_edge low high off (Lower 1) Hold lowers n
by_kind Current on off false low high n = rise_edge low high on (Raise 1) Hold raises n
by_kind Kvar on off true low high n = fall_edge low high off (Lower 1) Hold lowers n
by_kind Kvar on off false low high n = rise_edge low high on (Raise 1) Hold raises n

pub bank_edges : (b : Bank) (closed : Bool) (low high : Quantity) →
    bank_verdict b closed low ≢ bank_verdict b closed high →
    IsEdge (bank_verdict b closed) low high (bank_edge b closed)
bank_edges b closed low high n = by_kind b.kind b.on b.off closed low high n

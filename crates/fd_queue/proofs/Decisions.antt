-- A decided decision is that of every quantity between the ends.
use Rattle.std.proofs.Common.{◌≡◌, ⊎_elim, zero, suc, ℤ, pos, negsuc, ◌≤ℤ◌, true, false, Bool, Some, None, cond, refl, sym, ap, ◌∙◌, arith}
use Rattle.std.proofs.lemmas.Int.{ints}
use Rattle.std.proofs.lemmas.Bool.Decides.{Decides-int_eq}
use Rattle.fd_queue.specs.Quantities.{Quantity}
use Rattle.fd_queue.specs.Decisions.{Decision, Raise, Hold, Lower, place, same_decision, IsMonotone, IsOfAll}

-- what stands at a place
decision_at : ℤ → Decision
decision_at (negsuc n) = Raise n
decision_at (pos zero) = Hold
decision_at (pos (suc n)) = Lower n

decision_of_place : (v : Decision) → decision_at (place v) ≡ v
unfolding decision_at
decision_of_place (Raise n) = refl
decision_of_place Hold = refl
decision_of_place (Lower n) = refl

-- no two decisions have one place
pub one_place : (v w : Decision) → place v ≡ place w → v ≡ w
one_place v w e = sym (decision_of_place v) ∙ ap decision_at e ∙ decision_of_place w

some_by : (t : Bool) (v w : Decision) → cond t (Some v) None ≡ Some w → (t ≡ true) × (v ≡ w)
some_by true v w e = (refl, cc)
some_by false v w e = absurd (cc)

between : (a b c : ℤ) → a ≡ c → a ≤ℤ b → b ≤ℤ c → b ≡ a
between a b c e l u = omega (arith, ints)

pub decided_of_all : (f : Quantity → Decision) → IsMonotone f → IsOfAll f
decided_of_all f h low q high v l u e =
    let parts = some_by (same_decision (f low) (f high)) (f low) v e in
    let same : place (f low) ≡ place (f high) = (Decides-int_eq (place (f low)) (place (f high))).0 parts.0 in
    let here : place (f q) ≡ place (f low) = ⊎_elim
    (λ along. between (place (f low)) (place (f q)) (place (f high)) same (along low q l) (along q high u))
    (λ against. between (place (f high)) (place (f q)) (place (f low)) (sym same) (against q high u) (against low q l)
    ∙ sym same)
    h in
    one_place (f q) (f low) here ∙ parts.1

-- Lemmas that the crates of the controls use.
use Rattle.std.proofs.Common.{◌≡◌, ◌⊎◌, inl, inr, ⊎_elim, ℤ, Bool, true, false, refl}
use Rattle.fd_queue.specs.Quantities.{Quantity, IsProper}
use Rattle.fd_queue.specs.Decisions.{Decision, IsMonotone, IsOfAll}
use Rattle.fd_queue.specs.DecisionLaws.{MagnitudeLaw, ValueLaw}
use Rattle.fd_queue.specs.MachineLaws.{CountLaw, QuietLaw}
use Rattle.fd_queue.proofs.Counts.{step_counts, step_quiet}
use Rattle.fd_queue.proofs.Decisions.{decided_of_all}
use Rattle.fd_queue.proofs.Quantities.{magnitudes_in_order, values_in_order}

pub decided_everywhere : (f : Quantity → Decision) → IsMonotone f → IsOfAll f
decided_everywhere f h = decided_of_all f h

pub either : (t : Bool) → (t ≡ true) ⊎ (t ≡ false)
either true = inl refl
either false = inr refl

pub not_below : (q : Quantity) (e : ℤ) → IsProper q → q.above e ≡ true → q.below e ≡ false
not_below q e h t = ⊎_elim (λ b. absurd (let f = h.apart e b in cc)) (λ b. b) (either (q.below e))

-- numbers in order are quantities in order
pub magnitude_order : MagnitudeLaw
magnitude_order = magnitudes_in_order

pub value_order : ValueLaw
value_order = values_in_order

-- acts are counted
pub counted : CountLaw
counted = step_counts

-- no entry is due where a step ends a settle
pub quiet : QuietLaw
quiet = step_quiet

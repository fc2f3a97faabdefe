-- The laws of quantities and decisions.
use Rattle.std.specs.Prelude.{ℕ, ℤ, ◌*ℤ◌, ◌≤ℤ◌, pos, ◌*◌, ◌≤◌, ◌<◌}
use Rattle.fd_queue.specs.Quantities.{Quantity, AtMost, IsProper, magnitude, value}
use Rattle.fd_queue.specs.Decisions.{Decision, IsMonotone, IsOfAll}

-- numbers in order are quantities in order
abbrev pub MagnitudeLaw : Type 0
MagnitudeLaw = (n d m e : ℕ) → 0 < d → 0 < e → n * e ≤ m * d → AtMost (magnitude n d) (magnitude m e)

abbrev pub ValueLaw : Type 0
ValueLaw = (n m : ℤ) (d e : ℕ) → 0 < d → 0 < e → (n *ℤ pos e) ≤ℤ (m *ℤ pos d) → AtMost (value n d) (value m e)

-- numbers stand to edges as numbers do
abbrev pub ProperLaw : Type 0
ProperLaw = ((n d : ℕ) → IsProper (magnitude n d)) × ((n : ℤ) (d : ℕ) → IsProper (value n d))

-- where decisions never go back, what is decided over an interval is so at every quantity that it holds
abbrev pub DecidedLaw : Type 0
DecidedLaw = (f : Quantity → Decision) → IsMonotone f → IsOfAll f

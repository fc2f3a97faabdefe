-- The square root of a whole number, rounded down and up.
use Rattle.std.specs.Prelude.{ℕ, zero, suc, ◌+◌, ◌*◌, nat_le, eqb, if◌then◌else◌}

abbrev pub root_down : ℕ → ℕ
root_down zero = zero
root_down (suc n) = (if nat_le ((root_down n + 1) * (root_down n + 1)) (suc n) then root_down n + 1 else root_down n)

abbrev pub root_up : ℕ → ℕ
root_up n = (if eqb (root_down n * root_down n) n then root_down n else root_down n + 1)

-- The draws of a script: a sequence of numbers below 2^64, of each of which but the first the upper bits are drawn.
use Rattle.std.specs.Prelude.{ℕ, zero, suc, ◌+◌, ◌*◌, ◌/◌, ◌%◌, ◌^◌}

-- the number that follows one
abbrev pub next : ℕ → ℕ
next x = (6364136223846793005 * x + 1442695040888963407) % 2 ^ 64

-- the number of the sequence after so many steps from its first
unfoldable pub number_after : ℕ → ℕ → ℕ
number_after first zero = first
number_after first (suc steps) = next (number_after first steps)

-- what a number gives: its upper 31 bits
abbrev pub drawn : ℕ → ℕ
drawn x = x / 2 ^ 33

-- the draws in order, counted from 1: nothing is drawn from the first number
abbrev pub draw : ℕ → ℕ → ℕ
draw first n = drawn (number_after first n)

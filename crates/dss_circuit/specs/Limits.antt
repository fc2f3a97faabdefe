-- The limit on a circuit's elements.
use Rattle.std.specs.Prelude.{ℕ, ◌^◌}

-- the most elements of a circuit
abbrev pub most_elements : ℕ
most_elements = 2 ^ 17

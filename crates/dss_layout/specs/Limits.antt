-- The limits on a circuit's unknowns.
use Rattle.std.specs.Prelude.{ℕ}

-- the most nodes and branch phases, counted together
abbrev pub most_complex : ℕ
most_complex = 480

-- the most phases of loads with a part of constant current
abbrev pub most_magnitudes : ℕ
most_magnitudes = 96

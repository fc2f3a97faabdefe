-- The limit of the impedance of a source that is given by its short-circuit powers.
use Rattle.std.specs.Prelude.{ℕ, ℤ, nat_abs, nat_lt, ◌*◌, ◌/◌, Bool, ◌||◌}

-- the square of the nominal voltage over a short-circuit power, in 10^-9 ohm and rounded down, for a voltage in
-- 10^-9 kV and a power in 10^-9 MVA
abbrev pub short_circuit_ohms : ℤ → ℤ → ℕ
short_circuit_ohms basekv mva = nat_abs basekv * nat_abs basekv / nat_abs mva

-- 10^4 ohm, in 10^-9 ohm
abbrev pub most_source_ohms : ℕ
most_source_ohms = 10_000_000_000_000

-- by this power it is above 10^4 ohm
abbrev pub is_above_limit : ℤ → ℤ → Bool
is_above_limit basekv mva = nat_lt most_source_ohms (short_circuit_ohms basekv mva)

-- by the power of three phases or by that of one it is
abbrev pub is_source_above_limit : ℤ → ℤ → ℤ → Bool
is_source_above_limit basekv mvasc3 mvasc1 = is_above_limit basekv mvasc3 || is_above_limit basekv mvasc1

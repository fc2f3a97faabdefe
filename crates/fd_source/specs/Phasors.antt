-- The phase voltages of a source.
use Rattle.std.specs.Prelude.{ℕ, ◌+◌, ◌*◌, ◌/◌, ◌%◌, ◌^◌, ℤ, pos, neg_ℤ, ◌+ℤ◌, ◌-ℤ◌, ◌*ℤ◌, nat_abs, List, [], ◌∷◌, get_or}
use Rattle.fd_system.specs.fd_exact.Rounding.{near_div}
use Rattle.fd_source.specs.declared.data.SourceData.{SourceData}

-- the cosines of 0, 30, .. 330 degrees in 10^-15, by the half of root three, 0.866025403784439
abbrev pub cosines : List ℤ
cosines =
    pos 1000000000000000 ∷ pos 866025403784439 ∷ pos 500000000000000 ∷ pos 0
    ∷ neg_ℤ (pos 500000000000000) ∷ neg_ℤ (pos 866025403784439) ∷ neg_ℤ (pos 1000000000000000) ∷ neg_ℤ (pos 866025403784439)
    ∷ neg_ℤ (pos 500000000000000) ∷ pos 0 ∷ pos 500000000000000 ∷ pos 866025403784439 ∷ []

-- the cosine of this many steps of 30 degrees
abbrev pub cosine : ℕ → ℤ
cosine steps = get_or cosines (steps % 12) (pos 0)

-- the angle of phase k, 120 k degrees behind the first, in steps of 30 degrees and two turns ahead
abbrev pub steps_of : SourceData → ℕ → ℕ
steps_of s k = nat_abs ((s.angle +ℤ pos 720) -ℤ pos (120 * k)) / 30

-- the volts times the cosine and the sine of the angle, each to the nearest microvolt; the sine is the cosine of 270 degrees more
abbrev pub volts_re : SourceData → ℕ → ℤ
volts_re s k = near_div (s.volts *ℤ cosine (steps_of s k)) (10 ^ 15)

abbrev pub volts_im : SourceData → ℕ → ℤ
volts_im s k = near_div (s.volts *ℤ cosine (steps_of s k + 9)) (10 ^ 15)

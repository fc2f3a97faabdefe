-- Root three, to the nearest whole 10^-15.
use Rattle.std.specs.Prelude.{ℕ}

abbrev pub root_three : ℕ
root_three = 1_732_050_807_568_877

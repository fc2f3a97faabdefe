-- What contracts see of a fixed-point number, and the answers of its operators.
use Rattle.std.specs.Prelude.{ℤ, neg_ℤ, ◌+ℤ◌, ◌-ℤ◌, ◌*ℤ◌, ◌^◌, ℕ, Option, None, Some}
use Rattle.fd_exact.specs.Rounding.{near_div}
use Rattle.fd_arith.specs.Limits.{within}

abbrev pub fix_sum : Option ℤ → Option ℤ → Option ℤ
fix_sum (Some a) (Some b) = within (a +ℤ b)
fix_sum (Some a) None = None
fix_sum None b = None

abbrev pub fix_difference : Option ℤ → Option ℤ → Option ℤ
fix_difference (Some a) (Some b) = within (a -ℤ b)
fix_difference (Some a) None = None
fix_difference None b = None

abbrev pub fix_negation : Option ℤ → Option ℤ
fix_negation (Some a) = within (neg_ℤ a)
fix_negation None = None

-- z / d to the nearest, or OUT past the limit
abbrev pub nearest : ℤ → ℕ → Option ℤ
nearest z d = within (near_div z d)

-- the product with a coefficient, to the nearest
abbrev pub fix_product : Option ℤ → Option ℤ → Option ℤ
fix_product (Some a) (Some f) = nearest (a *ℤ f) (2 ^ 40)
fix_product (Some a) None = None
fix_product None f = None

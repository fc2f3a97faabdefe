-- The answers of bounded whole numbers.
use Rattle.std.specs.Prelude.{ℕ, ℤ, pos, ◌+ℤ◌, ◌-ℤ◌, ◌*ℤ◌, Option, None, Some}
use Rattle.std.specs.Int.RustNames.{unsigned_abs}
use Rattle.fd_exact.specs.Rounding.{ceil_div}
use Rattle.fd_arith.specs.Limits.{within}

abbrev pub wide_sum : Option ℤ → Option ℤ → Option ℤ
wide_sum (Some a) (Some b) = within (a +ℤ b)
wide_sum (Some a) None = None
wide_sum None b = None

abbrev pub wide_difference : Option ℤ → Option ℤ → Option ℤ
wide_difference (Some a) (Some b) = within (a -ℤ b)
wide_difference (Some a) None = None
wide_difference None b = None

abbrev pub wide_product : Option ℤ → Option ℤ → Option ℤ
wide_product (Some a) (Some b) = within (a *ℤ b)
wide_product (Some a) None = None
wide_product None b = None

abbrev pub wide_size : Option ℤ → Option ℤ
wide_size (Some a) = within (pos (unsigned_abs a))
wide_size None = None

-- the quotient rounded up
abbrev pub wide_quotient : Option ℤ → ℕ → Option ℤ
wide_quotient (Some a) d = within (ceil_div a d)
wide_quotient None d = None

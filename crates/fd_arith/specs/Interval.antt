-- What contracts see of an interval, what it holds, and the answers of its operators.
use Rattle.std.specs.Prelude.{◌≡◌, ℕ, ℤ, pos, neg_ℤ, ◌+ℤ◌, ◌-ℤ◌, ◌*ℤ◌, ◌≤ℤ◌, ◌<ℤ◌, ◌^◌, Option, None, Some, ◌&&◌, int_le, if◌then◌else◌}
use Rattle.std.specs.Int.{int_min, int_max}
use Rattle.std.specs.Int.RustNames.{unsigned_abs}
use Rattle.fd_exact.specs.Fractions.{Fraction}
use Rattle.fd_exact.specs.Rounding.{floor_div, ceil_div}
use Rattle.fd_arith.specs.Limits.{Fits, fits, IsRoot, IsRootUp, non_negative}

-- the lower and the upper end, or none: then the interval is ALL, which holds every number
abbrev pub Bounds : Type 0
Bounds = Option (ℤ × ℤ)

abbrev pub IsBounds : Bounds → Type 0
IsBounds None = Unit {0}
IsBounds (Some e) = Fits e.0 × (Fits e.1 × (e.0 ≤ℤ e.1))

-- n / d lies between the ends
abbrev pub Between : Bounds → ℤ → ℕ → Type 0
Between None n d = Unit {0}
Between (Some e) n d = ((e.0 *ℤ pos d) ≤ℤ n) × (n ≤ℤ (e.1 *ℤ pos d))

-- an interval holds x, a number of its units
abbrev pub Holds : Bounds → Fraction → Type 0
Holds a x = Between a x.top x.over

-- an interval of coefficients, whose unit is 2^-40, holds the number x
abbrev pub HoldsCoef : Bounds → Fraction → Type 0
HoldsCoef a x = Between a (x.top *ℤ pos (2 ^ 40)) x.over

-- these ends, or ALL where one of them passes the limit
unfoldable pub capped : ℤ → ℤ → Bounds
capped lo hi = (if fits lo && fits hi then Some (lo, hi) else None)

abbrev pub sum : Bounds → Bounds → Bounds
sum (Some a) (Some b) = capped (a.0 +ℤ b.0) (a.1 +ℤ b.1)
sum (Some a) None = None
sum None b = None

abbrev pub negation : Bounds → Bounds
negation None = None
negation (Some a) = Some (neg_ℤ a.1, neg_ℤ a.0)

abbrev pub difference : Bounds → Bounds → Bounds
difference (Some a) (Some b) = capped (a.0 -ℤ b.1) (a.1 -ℤ b.0)
difference (Some a) None = None
difference None b = None

abbrev pub hull_of : Bounds → Bounds → Bounds
hull_of (Some a) (Some b) = Some (int_min a.0 b.0, int_max a.1 b.1)
hull_of (Some a) None = None
hull_of None b = None

-- z brought into lo to hi
abbrev pub clip : ℤ → ℤ → ℤ → ℤ
clip lo hi z = int_min (int_max z lo) hi

-- both ends brought into lo to hi
abbrev pub clamped : Bounds → ℤ → ℤ → Bounds
clamped None lo hi = capped lo hi
clamped (Some a) lo hi = capped (clip lo hi a.0) (clip lo hi a.1)

-- a fraction brought into lo to hi
abbrev pub clipped : ℤ → ℤ → Fraction → Fraction
clipped lo hi x = record { top = clip (lo *ℤ pos x.over) (hi *ℤ pos x.over) x.top; over = x.over }

-- the least and the greatest product of ends
abbrev pub least : ℤ × ℤ → ℤ × ℤ → ℤ
least a f = int_min (int_min (a.0 *ℤ f.0) (a.0 *ℤ f.1)) (int_min (a.1 *ℤ f.0) (a.1 *ℤ f.1))

abbrev pub greatest : ℤ × ℤ → ℤ × ℤ → ℤ
greatest a f = int_max (int_max (a.0 *ℤ f.0) (a.0 *ℤ f.1)) (int_max (a.1 *ℤ f.0) (a.1 *ℤ f.1))

-- z / d rounded outward
abbrev pub outward : ℤ → ℕ → Bounds
outward z d = capped (floor_div z d) (ceil_div z d)

-- z / 2^40 rounded outward
abbrev pub rounded : ℤ → Bounds
rounded z = outward z (2 ^ 40)

-- the product with coefficients, rounded outward
abbrev pub product : Bounds → Bounds → Bounds
product (Some a) (Some f) = capped (floor_div (least a f) (2 ^ 40)) (ceil_div (greatest a f) (2 ^ 40))
product (Some a) None = None
product None f = None

abbrev pub area_of : Bounds → Bounds → Bounds
area_of (Some a) (Some b) = capped (least a b) (greatest a b)
area_of (Some a) None = None
area_of None b = None

-- the least square of a number between the ends
abbrev pub least_square : ℤ × ℤ → ℤ
least_square a = (if int_le a.0 (pos 0) && int_le (pos 0) a.1 then pos 0 else int_min (a.0 *ℤ a.0) (a.1 *ℤ a.1))

abbrev pub square_of : Bounds → Bounds
square_of None = None
square_of (Some a) = capped (least_square a) (int_max (a.0 *ℤ a.0) (a.1 *ℤ a.1))

-- the lower root down and the upper root up, with a negative end taken as 0
abbrev pub IsRootOf : Bounds → Bounds → Type 0
IsRootOf None r = r ≡ None
IsRootOf (Some s) r = (lo : ℕ) × ((hi : ℕ) × ((r ≡ Some (pos lo, pos hi)) × (IsRoot (non_negative s.0) lo × IsRootUp (non_negative s.1) hi)))

-- x 2^40 / d rounded down and up
abbrev pub down_at : ℤ → ℤ → ℤ
down_at x d = floor_div (x *ℤ pos (2 ^ 40)) (unsigned_abs d)

abbrev pub up_at : ℤ → ℤ → ℤ
up_at x d = ceil_div (x *ℤ pos (2 ^ 40)) (unsigned_abs d)

-- the least and the greatest quotient of ends in units of 2^-40, rounded outward
unfoldable pub quotients : ℤ × ℤ → ℤ × ℤ → Bounds
quotients a d =
    capped (int_min (int_min (down_at a.0 d.0) (down_at a.0 d.1)) (int_min (down_at a.1 d.0) (down_at a.1 d.1)))
    (int_max (int_max (up_at a.0 d.0) (up_at a.0 d.1)) (int_max (up_at a.1 d.0) (up_at a.1 d.1)))

-- the quotient by a divisor whose lower end is positive and whose upper end is at most 10^32, and ALL for any other
abbrev pub IsQuotientOf : Bounds → Bounds → Bounds → Type 0
IsQuotientOf (Some a) (Some d) r = (pos 0 <ℤ d.0 → d.1 ≤ℤ pos (10 ^ 32) → r ≡ quotients a d) × ((d.0 ≤ℤ pos 0 → r ≡ None) × (pos (10 ^ 32) <ℤ d.1 → r ≡ None))
IsQuotientOf (Some a) None r = r ≡ None
IsQuotientOf None d r = r ≡ None

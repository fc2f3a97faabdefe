-- A part load at a terminal: the current that it draws, the row of its magnitude, and the contributions of constant impedance.
use Rattle.std.specs.Prelude.{◌≡◌, ℕ, ◌+◌, ◌*◌, ◌^◌, ◌<◌, ◌≤◌, min, max, ℤ, pos, negsuc, neg_ℤ, ◌+ℤ◌, ◌-ℤ◌, ◌*ℤ◌, nat_abs, false, true, cond, List, [], ◌∷◌, Option, Some, None}
use Rattle.fd_arith.specs.fd_exact.Fractions.{Fraction, fraction}
use Rattle.fd_arith.specs.fd_exact.Rounding.{ceil_nat}
use Rattle.fd_arith.specs.fd_exact.States.{State, part}
use Rattle.fd_arith.specs.declared.terms.Term.{Term}
use Rattle.fd_arith.specs.declared.terms.NodeAt.{NodeAt}
use Rattle.fd_arith.specs.declared.terms.NodeAt.TheVariants.{Ground, Node}
use Rattle.fd_arith.specs.declared.terms.LoadModel.{LoadModel}
use Rattle.fd_arith.specs.LoadModels.{by_model, has_magnitude, is_linear}
use Rattle.fd_system.specs.declared.loads.LoadPhase.{LoadPhase}
use Rattle.fd_system.specs.declared.loads.LoadAt.{LoadAt}
use Rattle.fd_system.specs.Complex.{Complex, negative}
use Rattle.fd_system.specs.Contributions.{shunt_list}
use Rattle.fd_system.specs.Equations.{Part, both, alone}

-- the parts of a place's voltage, over the state's denominator
abbrev pub re_of : State → NodeAt → ℤ
re_of x Ground = pos 0
re_of x (Node k) = part x.parts (2 * k)

abbrev pub im_of : State → NodeAt → ℤ
im_of x Ground = pos 0
im_of x (Node k) = part x.parts (2 * k + 1)

abbrev pub magnitude_of : State → Option ℕ → ℤ
magnitude_of x None = pos 0
magnitude_of x (Some l) = part x.parts l

-- ---- (a p + b q) / D at the terminal voltage (p + j q) / d and the magnitude m / d, by the model

-- u brought into lo to hi
abbrev pub clamp : ℕ → ℕ → ℕ → ℕ
clamp u lo hi = min (max u lo) hi

abbrev pub square_of : ℤ → ℤ → ℕ
square_of p q = nat_abs p * nat_abs p + nat_abs q * nat_abs q

-- z, or 0 where it is negative
abbrev pub non_negative : ℤ → ℕ
non_negative (pos n) = n
non_negative (negsuc n) = 0

-- constant power: D is the square of the voltage, clamped between the squares lo and hi of the limits
abbrev pub constant_power : ℤ → ℤ → ℕ → ℕ → ℤ → ℤ → ℕ → Fraction
constant_power a b lo hi p q d =
    fraction ((a *ℤ p +ℤ b *ℤ q) *ℤ pos d) (clamp (square_of p q) (lo * (d * d)) (hi * (d * d)))

-- constant impedance: D is the square of the nominal voltage
abbrev pub constant_impedance : ℤ → ℤ → ℕ → ℤ → ℤ → ℕ → Fraction
constant_impedance a b vn p q d = fraction (a *ℤ p +ℤ b *ℤ q) (vn * vn * d)

-- constant current: D is the nominal voltage times the magnitude, clamped between the limits lo and hi
abbrev pub constant_current : ℤ → ℤ → ℕ → ℕ → ℕ → ℤ → ℤ → ℤ → ℕ → Fraction
constant_current a b vn lo hi p q m d =
    fraction (a *ℤ p +ℤ b *ℤ q) (vn * clamp (non_negative m) (lo * d) (hi * d))

abbrev pub drawn : LoadPhase → ℤ → ℤ → ℤ → ℤ → ℤ → ℕ → Fraction
drawn w a b p q m d =
    let vn = nat_abs w.vn in
    let lo = nat_abs w.vlo in
    let hi = nat_abs w.vhi in
    by_model w.model (constant_power a b (lo * lo) (hi * hi) p q d)
    (constant_impedance a b vn p q d)
    (constant_current a b vn lo hi p q m d)

-- ((P p + Q q) + j (P q - Q p)) 10^9 / D microamperes
abbrev pub load_current : LoadAt → State → Complex
load_current u x =
    let w = u.load in
    let p = re_of x u.first -ℤ re_of x u.second in
    let q = im_of x u.first -ℤ im_of x u.second in
    let m = magnitude_of x u.magnitude in
    let a = pos (10 ^ 9) *ℤ w.p in
    let b = pos (10 ^ 9) *ℤ w.q in
    record { re = drawn w a b p q m x.over; im = drawn w (neg_ℤ b) a p q m x.over }

-- ---- what it adds to the rows

-- (m^2 - u) / Vn at (p + j q) / d and m / d, u the square of the voltage
abbrev pub magnitude_row : ℕ → ℤ → ℤ → ℤ → ℕ → Fraction
magnitude_row vn p q m d = fraction (m *ℤ m -ℤ p *ℤ p -ℤ q *ℤ q) (vn * (d * d))

abbrev pub magnitude_parts : LoadAt → State → Option ℕ → List Part
magnitude_parts u x None = []
magnitude_parts u x (Some l) =
    alone l (magnitude_row (nat_abs u.load.vn) (re_of x u.first -ℤ re_of x u.second) (im_of x u.first -ℤ im_of x u.second) (part x.parts l) x.over) ∷ []

-- it draws its current at its first place, and gives it back at its second
abbrev pub load_parts : LoadAt → State → List Part
load_parts u x = both u.first (load_current u x) ∷ both u.second (negative (load_current u x)) ∷ magnitude_parts u x u.magnitude

-- there is a magnitude exactly where the model has one
abbrev pub FitsModel : LoadModel → Option ℕ → Type 0
FitsModel model None = has_magnitude model ≡ false
FitsModel model (Some l) = has_magnitude model ≡ true

-- voltages are positive, the limits are in order, and the magnitude fits the model
pub record IsLoad (u : LoadAt) : Type 0 where
  pub vn : 0 < nat_abs u.load.vn
  pub low : 0 < nat_abs u.load.vlo
  pub order : nat_abs u.load.vlo ≤ nat_abs u.load.vhi
  pub model : FitsModel u.load.model u.magnitude

-- ---- in the system: contributions of constant impedance, and what isn't linear of the other models

-- (P - j Q) 10^9 / Vn^2 at the terminal
abbrev pub impedance_list : LoadAt → List Term
impedance_list u =
    let a = pos (10 ^ 9) *ℤ u.load.p in
    let b = pos (10 ^ 9) *ℤ u.load.q in
    shunt_list u.first u.second a (neg_ℤ b) (u.load.vn *ℤ u.load.vn)

abbrev pub linear_list : LoadAt → List Term
linear_list u = cond (is_linear u.load.model) (impedance_list u) []

abbrev pub nonlinear_parts : LoadAt → State → List Part
nonlinear_parts u x = cond (is_linear u.load.model) [] (load_parts u x)

-- ---- at nominal voltage

-- what it draws there, (abs P + abs Q) / Vn, in whole microamperes and rounded up
abbrev pub draw_of : LoadAt → ℕ
draw_of u = ceil_nat ((nat_abs u.load.p + nat_abs u.load.q) * 10 ^ 9) (nat_abs u.load.vn)

-- What part loads of constant power and of constant current add beside the contributions. A part load of constant impedance
-- stands in the contributions, and adds nothing here.
use Rattle.std.specs.Prelude.{ℕ, ◌+◌, ◌*◌, ◌^◌, ℤ, pos, neg_ℤ, nat_abs, cond, List}
use Rattle.fd_mat.specs.fd_exact.Rounding.{near_div}
use Rattle.fd_mat.specs.fd_exact.Sums.{list_z, list_n}
use Rattle.fd_pattern.specs.fd_system.declared.loads.LoadPhase.{LoadPhase}
use Rattle.fd_pattern.specs.fd_arith.LoadModels.{is_linear}
use Rattle.fd_pattern.specs.fd_system.declared.loads.LoadAt.{LoadAt}
use Rattle.fd_pattern.specs.fd_load.Current.{divisor, excess, in_phase, quadrature}
use Rattle.fd_pattern.specs.fd_load.Slopes.{admittance, slope_row, slopes_of}
use Rattle.fd_pattern.specs.fd_load.declared.slopes.Slopes.{Slopes}
use Rattle.fd_pattern.specs.fd_load.declared.slopes.SlopeRow.{SlopeRow}
use Rattle.fd_pattern.specs.Terminals.{at_terminal, count_node, count_terminal, imaginary_of, magnitude_in, real_of}

-- ---- the rounded residual

-- what a part load adds to row l at the point x, each number to the nearest: its current at its first node, the same with its sign
-- turned at its second, and (m^2 - p^2 - q^2) / Vn at its magnitude
unfoldable pub load_row : List ℤ → ℕ → LoadAt → ℤ
load_row x l u =
    let p = real_of x u in
    let q = imaginary_of x u in
    let m = magnitude_in x u in
    cond (is_linear u.load.model) (pos 0) (at_terminal l u
    (near_div (in_phase u.load p q) (divisor u.load p q m))
    (near_div (quadrature u.load p q) (divisor u.load p q m))
    (near_div (excess p q m) (nat_abs u.load.vn)))

abbrev pub loads_row : List LoadAt → List ℤ → ℕ → ℤ
loads_row us x l = list_z (load_row x l) us

-- ---- matrices, in units of 2^-40

-- the slope of a row of a part load in the unknown of a column: the parts of the voltage grow with the first node's and fall with the
-- second's
abbrev pub slope_in : ℕ → LoadAt → SlopeRow → ℤ
slope_in col u r = at_terminal col u r.p r.q r.m

-- what a part load with these slopes adds in a row and a column
unfoldable pub load_entry : LoadAt → Slopes → ℕ → ℕ → ℤ
load_entry u s row col =
    cond (is_linear u.load.model) (pos 0)
    (at_terminal row u (slope_in col u s.real) (slope_in col u s.imaginary) (slope_in col u s.magnitude))

-- at the start its current is linear, with the admittance (P - j Q) 10^9 / Vn^2, and the row of its magnitude grows by 2 with the magnitude
unfoldable pub start_slopes : LoadPhase → Slopes
start_slopes w =
    let g = admittance w.p (nat_abs w.vn * nat_abs w.vn) in
    let b = admittance w.q (nat_abs w.vn * nat_abs w.vn) in
    record {
      real = slope_row g b (pos 0);
      imaginary = slope_row (neg_ℤ b) g (pos 0);
      magnitude = slope_row (pos 0) (pos 0) (pos (2 ^ 41));
    }

-- slopes of 0
unfoldable pub no_slopes : Slopes
no_slopes = record { real = slope_row (pos 0) (pos 0) (pos 0); imaginary = slope_row (pos 0) (pos 0) (pos 0); magnitude = slope_row (pos 0) (pos 0) (pos 0) }

-- its slopes at the point x
unfoldable pub slopes_there : List ℤ → LoadAt → Slopes
slopes_there x u = slopes_of u.load (real_of x u) (imaginary_of x u) (magnitude_in x u)

abbrev pub start_sum : List LoadAt → ℕ → ℕ → ℤ
start_sum us row col = list_z (λ u. load_entry u (start_slopes u.load) row col) us

abbrev pub slope_sum : List LoadAt → List ℤ → ℕ → ℕ → ℤ
slope_sum us x row col = list_z (λ u. load_entry u (slopes_there x u) row col) us

-- ---- how many there are

-- the currents and magnitude rows of a part load in row l
unfoldable pub current_count : ℕ → LoadAt → ℕ
current_count l u = cond (is_linear u.load.model) 0 (count_terminal l u)

-- the currents alone
unfoldable pub load_current_count : ℕ → LoadAt → ℕ
load_current_count l u = cond (is_linear u.load.model) 0 (count_node l u.first + count_node l u.second)

-- the slopes of a part load in a row and a column: each of its rows has one in each of its columns
unfoldable pub slope_count : ℕ → ℕ → LoadAt → ℕ
slope_count row col u = cond (is_linear u.load.model) 0 (count_terminal row u * count_terminal col u)

abbrev pub current_counts : List LoadAt → ℕ → ℕ
current_counts us l = list_n (current_count l) us

abbrev pub load_current_counts : List LoadAt → ℕ → ℕ
load_current_counts us l = list_n (load_current_count l) us

abbrev pub slope_counts : List LoadAt → ℕ → ℕ → ℕ
slope_counts us row col = list_n (slope_count row col) us

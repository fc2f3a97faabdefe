-- The impedance and the capacitance of a whole line.
use Rattle.std.specs.Prelude.{ℕ, ◌*◌, ◌≤◌, ◌^◌, ◌≡◌, ℤ, pos, ◌*ℤ◌, ◌≤ℤ◌, nat_abs, List, length, cond, eqb, All, ◌⊎◌}
use Rattle.fd_system.specs.fd_exact.Fractions.{Fraction, fraction}
use Rattle.fd_system.specs.fd_exact.States.{cell}
use Rattle.fd_system.specs.fd_exact.Rounding.{floor_div}
use Rattle.fd_system.specs.fd_exact.Ranges.{UpTo, Within}
use Rattle.fd_line.specs.declared.data.LineData.{LineData}
use Rattle.fd_line.specs.declared.data.LineForm.{LineForm}
use Rattle.fd_line.specs.declared.data.LineForm.TheVariants as line_form
use Rattle.fd_line.specs.declared.data.ChargeForm.{ChargeForm}
use Rattle.fd_line.specs.declared.data.ChargeForm.TheVariants as charge_form
use Rattle.fd_system.specs.Series.{sequence_entry}

-- ---- entries per unit of length, in 10^-9 ohm and 10^-9 nanofarad

abbrev pub matrix_entry : List ℤ → ℕ → ℕ → ℕ → Fraction
matrix_entry xs n k m = fraction (cell xs n k m) 1

abbrev pub resistance_entry : LineForm → ℕ → ℕ → ℕ → Fraction
resistance_entry (line_form.Sequence r1 x1 r0 x0) n k m = sequence_entry r1 r0 k m
resistance_entry (line_form.Matrix r x) n k m = matrix_entry r n k m

abbrev pub reactance_entry : LineForm → ℕ → ℕ → ℕ → Fraction
reactance_entry (line_form.Sequence r1 x1 r0 x0) n k m = sequence_entry x1 x0 k m
reactance_entry (line_form.Matrix r x) n k m = matrix_entry x n k m

abbrev pub capacitance_entry : ChargeForm → ℕ → ℕ → ℕ → Fraction
capacitance_entry (charge_form.Sequence c1 c0) n k m = sequence_entry c1 c0 k m
capacitance_entry (charge_form.Matrix c) n k m = matrix_entry c n k m

-- ---- over the whole line

-- entry x length x (the line's unit / the code's unit), rounded down: both numbers in 10^-9, the total in `grid` 10^-18
abbrev pub over_length : LineData → Fraction → ℕ → ℤ
over_length l entry grid = floor_div (entry.top *ℤ pos (nat_abs l.length * l.line_unit)) (entry.over * (grid * l.code_unit))

-- in 10^-12 ohm
abbrev pub resistance_of : LineData → ℕ → ℕ → ℤ
resistance_of l k m = over_length l (resistance_entry l.form l.phases k m) (10 ^ 6)

abbrev pub reactance_of : LineData → ℕ → ℕ → ℤ
reactance_of l k m = over_length l (reactance_entry l.form l.phases k m) (10 ^ 6)

-- in 10^-15 farad: a nanofarad has 10^6 of them
abbrev pub capacitance_of : LineData → ℕ → ℕ → ℤ
capacitance_of l k m = over_length l (capacitance_entry l.charge l.phases k m) (10 ^ 12)

-- two pi times the frequency, in 10^-12: 376.991118430775 at 60 hertz, 314.159265358979 at 50 hertz
abbrev pub angular_frequency : ℕ → ℤ
angular_frequency hertz = cond (eqb hertz 50) (pos 314159265358979) (pos 376991118430775)

-- ---- conditions

-- a matrix of n rows and columns with entries at most b in size
pub record IsMatrix (n b : ℕ) (xs : List ℤ) : Type 0 where
  pub count : length xs ≡ n * n
  pub within : All (Within b) xs

-- impedances are at most 10^4 ohm, capacitances at most 10^6 nanofarad
abbrev pub IsForm : ℕ → LineForm → Type 0
IsForm n (line_form.Sequence r1 x1 r0 x0) = UpTo (10 ^ 13) r1 × UpTo (10 ^ 13) x1 × UpTo (10 ^ 13) r0 × UpTo (10 ^ 13) x0
IsForm n (line_form.Matrix r x) = IsMatrix n (10 ^ 13) r × IsMatrix n (10 ^ 13) x

abbrev pub IsCharge : ℕ → ChargeForm → Type 0
IsCharge n (charge_form.Sequence c1 c0) = UpTo (10 ^ 15) c1 × UpTo (10 ^ 15) c0
IsCharge n (charge_form.Matrix c) = IsMatrix n (10 ^ 15) c

-- one to three phases, a length from 0 to 10^6, units of length from a centimetre to a mile, 50 or 60 hertz
pub record IsLine (l : LineData) : Type 0 where
  pub some : 1 ≤ l.phases
  pub few : l.phases ≤ 3
  pub form : IsForm l.phases l.form
  pub charge : IsCharge l.phases l.charge
  pub length_least : pos 0 ≤ℤ l.length
  pub length_most : l.length ≤ℤ pos (10 ^ 15)
  pub line_least : 100 ≤ l.line_unit
  pub line_most : l.line_unit ≤ 16093440
  pub code_least : 100 ≤ l.code_unit
  pub code_most : l.code_unit ≤ 16093440
  pub frequency : (l.hertz ≡ 50) ⊎ (l.hertz ≡ 60)

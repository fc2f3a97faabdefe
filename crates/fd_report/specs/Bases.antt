-- The records of the voltage bases of buses, as lists of fields.
use Rattle.std.specs.Prelude.{ℕ, ℤ, List, [], ◌∷◌, codes}
use Rattle.fd_inverse.specs.fd_exact.Rounding.{near_div}
use Rattle.dss_script.specs.dss_model.Names.{bytes}
use Rattle.dss_script.specs.fd_decimal.Decimals.{micro_text}

-- a bus and its base in whole 10^-9 kV: in kV with six decimals, rounded to the nearest
abbrev pub base_fields : List ℕ → ℤ → List (List ℕ)
base_fields bus kv = codes "base" ∷ bytes bus ∷ micro_text (near_div kv 1000) ∷ []

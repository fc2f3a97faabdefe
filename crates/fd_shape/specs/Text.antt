-- The numbers of a load shape as a script writes them.
use Rattle.std.specs.Prelude.{ℕ, ℤ, List, [], ◌∷◌, ◌++◌}
use Rattle.std.specs.List.{flat_map}
use Rattle.fd_decimal.specs.Decimals.{nano_text}

-- numbers with a blank before each
abbrev pub behind_blanks : List ℤ → List ℕ
behind_blanks values = flat_map (λ value. 32 ∷ nano_text value) values

-- numbers in units of 10^-9, each with nine decimals, parted by one blank
abbrev pub values_text : List ℤ → List ℕ
values_text [] = []
values_text (value ∷ values) = nano_text value ++ behind_blanks values

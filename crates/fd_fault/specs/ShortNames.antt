-- The name of the line that a short circuit adds: the first of short, short-1, short-2 and so on that no Line has.
use Rattle.std.specs.Prelude.{◌≡◌, ℕ, zero, suc, ◌<◌, Bool, List, ◌++◌, codes, Option, None, IsSome, is_none}
use Rattle.std.specs.Fmt.{decimal}
use Rattle.std.specs.Map.{lookup}
use Rattle.dss_ready.specs.dss_model.declared.names.Class.TheVariants as class
use Rattle.dss_ready.specs.dss_model.declared.names.ElementName.{ElementName}
use Rattle.dss_ready.specs.dss_model.SameElement.{same_element}
use Rattle.dss_ready.specs.dss_model.fd_exact.First.{first_place}
use Rattle.dss_ready.specs.dss_circuit.Circuit.{Elements}

abbrev pub short_name : ℕ → List ℕ
short_name zero = codes "short"
short_name (suc k) = codes "short-" ++ decimal (suc k)

abbrev pub line_name : ℕ → ElementName
line_name k = record { class = class.Line; name = short_name k }

-- no Line has the name of this number
abbrev pub is_free : Elements → ℕ → Bool
is_free elements k = is_none (lookup (same_element (line_name k)) elements)

-- the first number without a Line; a circuit has at most 2^17 elements, so there is one among these
unfoldable pub first_free : Elements → Option ℕ
first_free elements = first_place (is_free elements) 131_073

-- no Line has the name of this number, and each before it is a Line's
pub record IsShortName (elements : Elements) (k : ℕ) : Type 0 where
  pub few : k < 131_073
  pub free : lookup (same_element (line_name k)) elements ≡ None
  pub taken : (j : ℕ) → j < k → IsSome (lookup (same_element (line_name j)) elements)

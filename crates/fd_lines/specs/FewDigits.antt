-- Numbers of few digits at the head of a text.
use Rattle.std.specs.Prelude.{◌≡◌, ℕ, ℤ, ◌<◌, ◌≤◌, ◌^◌, List, ◌∷◌, ◌++◌, Some, length, take}
use Rattle.std.specs.List.{slice_split}
use Rattle.std.specs.Str.Parse.{AllDigits, digits_value}
use Rattle.fd_lines.specs.Cuts.{Lacks}
use Rattle.fd_lines.specs.Lines.{is_blank}
use Rattle.fd_lines.specs.Numbers.{number_of}
use Rattle.fd_lines.specs.Numerals.{IsSize}

-- the first so many bytes of a text are digits that are worth this
pub record IsHead (text : List ℕ) (value count : ℕ) : Type 0 where
  pub within : count ≤ length text
  pub digits : AllDigits 10 (take count text)
  pub worth : value ≡ digits_value 10 (take count text)
  pub small : value < 2 ^ 63

-- a text begins with digits without leading zeros that are worth this
pub record IsSizeBefore (text : List ℕ) (value : ℕ) (rest : List ℕ) : Type 0 where
  pub digits : List ℕ
  pub whole : text ≡ digits ++ rest
  pub size : IsSize digits
  pub worth : value ≡ digits_value 10 digits
  pub small : value < 2 ^ 63

-- a text begins with what spells this number, without a blank
pub record IsShortBefore (text : List ℕ) (number : ℤ) (rest : List ℕ) : Type 0 where
  pub front : List ℕ
  pub whole : text ≡ front ++ rest
  pub lacks : Lacks 32 front
  pub spells : number_of front ≡ Some number

-- where a field without a blank stands before a text, it ends there, and these are the other fields
abbrev pub EndsField : List ℕ → List (List ℕ) → Type 0
EndsField rest fields = (front : List ℕ) → Lacks 32 front → slice_split is_blank (front ++ rest) ≡ front ∷ fields

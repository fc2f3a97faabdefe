-- What one row loses of another, step by step.
use Rattle.std.specs.Prelude.{◌≡◌, ◌≢◌, ℕ, ℤ, pos, nat_abs, ◌<◌, ◌≤◌, ◌^◌, ◌==◌, if◌then◌else◌, List, [], ◌∷◌, ◌++◌, ◌⊎◌}
use Rattle.fd_derived.specs.declared.entries.Entry.{Entry}
use Rattle.fd_derived.specs.declared.entries.Row.{Row}
use Rattle.fd_triangles.specs.Elimination.{less, multiple}
use Rattle.fd_triangles.specs.Rows.{IsRow, WithNumber, number}
use Rattle.fd_triangles.specs.declared.fault.Stop.{Stop}
use Rattle.fd_triangles.specs.declared.fault.Stop.TheVariants.{Range, NoMemory}

-- P where a number is past its range; want of memory says nothing
abbrev pub IfRange : Stop → Type 0 → Type 0
IfRange Range P = P
IfRange NoMemory P = Unit {0}

-- a row has lost f times another
abbrev pub HasLost : List Entry → List Entry → ℤ → List Entry → Type 0
HasLost old new f others = (c : ℕ) → number new c ≡ less (number old c) f (number others c)

-- a number that is left then is past 2^62 in size
abbrev pub IsLostPast : List Entry → ℤ → List Entry → Type 0
IsLostPast old f others = (c : ℕ) × (2 ^ 62 < nat_abs (less (number old c) f (number others c)))

-- the lists of a derived row
pub record Parts : Type 0 where
  pub equations : List Entry
  pub others : List Entry
  pub left : List Entry

abbrev pub parts_of : Row → Parts
parts_of row = record { equations = row.equations.items; others = row.others.items; left = row.left.items }

-- a derived row has lost f times the row at a place
pub record IsWithMultiple (n : ℕ) (old new : Parts) (f : ℤ) (others : List Entry) (t : ℕ) : Type 0 where
  pub equations : new.equations ≡ old.equations
  pub never : f ≡ pos 0 → new.others ≡ old.others
  pub once : f ≢ pos 0 → new.others ≡ old.others ++ record { place = t; units = f } ∷ []
  pub left : IsRow n new.left
  pub numbers : HasLost old.left new.left f others

-- how often a row loses the row with this pivot
abbrev pub factor_of : List Entry → Entry → ℤ
factor_of row pivot = multiple (number row pivot.place) pivot.units

-- what is left at a place of a row that is cleared by a pivot, beside which these entries stand
abbrev pub left_by : List Entry → Entry → List Entry → ℕ → ℤ
left_by row pivot others c = (if c == pivot.place then pos 0 else less (number row c) (factor_of row pivot) (number others c))

-- a derived row has lost the row at a place as often as clears its entry at the place of the pivot
pub record IsCleared (n : ℕ) (old new : Parts) (pivot : Entry) (others : List Entry) (t : ℕ) : Type 0 where
  pub equations : new.equations ≡ old.equations
  pub small : nat_abs (factor_of old.left pivot) ≤ 2 ^ 62
  pub never : factor_of old.left pivot ≡ pos 0 → new.others ≡ old.others
  pub once : factor_of old.left pivot ≢ pos 0 → new.others ≡ old.others ++ record { place = t; units = factor_of old.left pivot } ∷ []
  pub left : IsRow n new.left
  pub numbers : (c : ℕ) → number new.left c ≡ left_by old.left pivot others c

-- a number is past 2^62 in size where it is to
abbrev pub IsClearedPast : List Entry → Entry → List Entry → Type 0
IsClearedPast row pivot others = (2 ^ 62 < nat_abs (factor_of row pivot)) ⊎ ((c : ℕ) × (2 ^ 62 < nat_abs (left_by row pivot others c)))

-- an entry that stands first, and the others of a row as they were
pub record IsPutFirst (old new : List Entry) (place : ℕ) : Type 0 where
  pub rest : List Entry
  pub new_is : new ≡ record { place = place; units = number old place } ∷ rest
  pub numbers : WithNumber old rest place (pos 0)
  pub row : (n : ℕ) → IsRow n old → IsRow n rest

-- a derived row is an equation with these coefficients
pub record IsFirst (n equation : ℕ) (coefficients : List Entry) (row : Parts) : Type 0 where
  pub equation_is : row.equations ≡ record { place = equation; units = pos (2 ^ 40) } ∷ []
  pub others_are : row.others ≡ []
  pub left : IsRow n row.left
  pub numbers : (c : ℕ) → number row.left c ≡ number coefficients c

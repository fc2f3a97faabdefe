-- Start matrices that were inverted before.
use Rattle.std.specs.Prelude.{◌≡◌, ℕ, ◌-◌, ◌<◌, ℤ, List, [], ◌∷◌, ◌++◌, drop, get_or, length, Ok}
use Rattle.fd_inject.specs.declared.kept.KeptPair.{KeptPair}
use Rattle.fd_inject.specs.Ranges.{inverse_at}

-- the inverse is that of the matrix
abbrev pub IsInverted : KeptPair → Type 0
IsInverted k = inverse_at k.matrix ≡ Ok k.inverse

-- a matrix stands at this place
pub record IsKeptAt (rows : List (List ℤ)) (ks : List KeptPair) (place : ℕ) : Type 0 where
  pub inside : place < length ks
  pub same : (k : KeptPair) → (get_or ks place k).matrix ≡ rows

-- a matrix is among these
abbrev pub IsKept : List (List ℤ) → List KeptPair → Type 0
IsKept rows ks = (place : ℕ) × IsKeptAt rows ks place

-- behind the others; of four the first goes
abbrev pub with_latest : KeptPair → List KeptPair → List KeptPair
with_latest k ks = drop (length ks - 3) ks ++ k ∷ []

-- a matrix was put behind the others with its inverse
pub record IsStored (rows : List (List ℤ)) (old new : List KeptPair) : Type 0 where
  pub pair : KeptPair
  pub matrix_is : pair.matrix ≡ rows
  pub inverted : IsInverted pair
  pub new_is : new ≡ with_latest pair old

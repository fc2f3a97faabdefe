-- Numbers in 64 bits, and beside them those that need more.
use Rattle.std.specs.Prelude.{◌≡◌, ℕ, ◌<◌, ◌^◌, ◌⊎◌, ℤ, nat_abs, List, length, set}
use Rattle.std.specs.List.{fold, AllByRecursion}
use Rattle.fd_settle.specs.fd_exact.States.{part}
use Rattle.fd_certfile.specs.declared.cells.Long.{Long}

-- the list with this number at its place
abbrev pub with_long : List ℤ → Long → List ℤ
with_long xs l = set xs l.place l.value

abbrev pub with_longs : List ℤ → List Long → List ℤ
with_longs shorts longs = fold with_long shorts longs

-- greater in size than each entry of an inverse
abbrev pub IsPast : ℤ → Type 0
IsPast z = 2 ^ 56 < nat_abs z

-- it is out of range, and so is what stands in its place
pub record IsLong (shorts : List ℤ) (l : Long) : Type 0 where
  pub inside : l.place < length shorts
  pub value : IsPast l.value
  pub stand : IsPast (part shorts l.place)

abbrev pub AreLong : List ℤ → List Long → Type 0
AreLong shorts longs = AllByRecursion (IsLong shorts) longs

-- as many numbers, each the same or both out of range
pub record AreNear (xs ys : List ℤ) : Type 0 where
  pub long : length ys ≡ length xs
  pub each : (k : ℕ) → (part ys k ≡ part xs k) ⊎ (IsPast (part xs k) × IsPast (part ys k))

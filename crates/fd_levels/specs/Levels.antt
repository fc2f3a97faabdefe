-- The levels of buses: how many feeds there are at least from the source to a bus.
use Rattle.std.specs.Prelude.{ℕ, zero, suc, ◌==◌, nat_eq, nat_le, Bool, false, ◌&&◌, List, [], ◌∷◌, slice_get, Option, Some, None, if◌then◌else◌}
use Rattle.std.specs.List.{list_any}
use Rattle.fd_levels.specs.declared.feed.Feed.{Feed}

-- the level that a table says
abbrev pub level_in : List (Option ℕ) → ℕ → Option ℕ
level_in levels bus = by (slice_get levels bus)
  where
    by : Option (Option ℕ) → Option ℕ
    by None = None
    by (Some level) = level

-- a bus has this level
abbrev pub is_level : ℕ → Option ℕ → Bool
is_level n None = false
is_level n (Some level) = level == n

-- the level that is found already, or else this one
abbrev pub or_level : Option ℕ → Option ℕ → Option ℕ
or_level None other = other
or_level (Some level) other = Some level

-- ground, which stands behind the last bus, and the bus of the source, with which the feeds begin
abbrev pub starts : ℕ → List Feed → List ℕ
starts count [] = count ∷ []
starts count (f ∷ feeds) = count ∷ f.far ∷ []

-- a feed leads to this bus from one for which it is so
abbrev pub is_led : List Feed → (ℕ → Bool) → ℕ → Bool
is_led feeds from bus = list_any (λ f. (f.far == bus) && from f.near) feeds

module _ (count : ℕ) (feeds : List Feed) where
  -- The levels up to so many, of buses from 0 to this number of them, which is ground. The bus of the source has level 0,
  -- and so has ground; a bus has the next level where it has none yet and a feed leads to it from one of the level before.
  unfoldable pub level_by : ℕ → ℕ → Option ℕ
  level_by zero bus = if nat_le bus count && list_any (nat_eq bus) (starts count feeds) then Some 0 else None
  level_by (suc n) bus =
      or_level (level_by n bus)
      (if nat_le bus count && is_led feeds (λ near. is_level n (level_by n near)) bus then Some (suc n) else None)

  -- the level of a bus, if a feed leads to it: no level is above the number of buses
  abbrev pub level_of : ℕ → Option ℕ
  level_of bus = level_by count bus

-- One round over buses: those without a level behind the buses of a front get one.
use Rattle.std.specs.Prelude.{◌≡◌, ℕ, ◌==◌, nat_eq, nat_lt, Bool, true, false, ◌&&◌, ◌||◌, List, [], ◌∷◌, ◌++◌, length, set, slice_get, Option, Some, None, if◌then◌else◌}
use Rattle.std.specs.List.{list_any}
use Rattle.std.specs.Global.{Vec}
use Rattle.fd_levels.specs.declared.feed.Feed.{Feed}

-- the levels that buses have, by number, and the buses that got theirs in this round
pub record Marking : Type 0 where
  pub levels : List (Option ℕ)
  pub found : List ℕ

abbrev pub marking : List (Option ℕ) → List ℕ → Marking
marking levels found = record { levels = levels; found = found }

-- there is such a bus, and it has no level
abbrev pub lacks_level : Option (Option ℕ) → Bool
lacks_level None = false
lacks_level (Some None) = true
lacks_level (Some (Some level)) = false

-- a bus gets a level where it has none
abbrev pub marked : ℕ → ℕ → Marking → Marking
marked level bus m = (if lacks_level (slice_get m.levels bus) then marking (set m.levels bus (Some level)) (m.found ++ bus ∷ []) else m)

-- so do these
abbrev pub marked_all : ℕ → List ℕ → Marking → Marking
marked_all level [] m = m
marked_all level (bus ∷ buses) m = marked_all level buses (marked level bus m)

-- the far buses of feeds from a bus
abbrev pub buses_behind : Option (Vec ℕ) → List ℕ
buses_behind None = []
buses_behind (Some buses) = buses.items

-- so do those behind a front
abbrev pub marked_behind : ℕ → List (Vec ℕ) → List ℕ → Marking → Marking
marked_behind level behind [] m = m
marked_behind level behind (bus ∷ front) m = marked_behind level behind front (marked_all level (buses_behind (slice_get behind bus)) m)

-- ---- the feeds from each bus

-- a bus is behind another
abbrev pub is_behind : List (Vec ℕ) → ℕ → ℕ → Bool
is_behind behind near far = list_any (nat_eq far) (buses_behind (slice_get behind near))

-- a feed leads from the one to the other
abbrev pub leads : ℕ → ℕ → Feed → Bool
leads near far f = (f.far == far) && (f.near == near)

-- where there is the near bus of a feed, its far bus is behind it too
pub record NotesBehind (before after : List (Vec ℕ)) (f : Feed) : Type 0 where
  pub long : length after ≡ length before
  pub noted : (near far : ℕ) → is_behind after near far ≡ (is_behind before near far || (nat_lt near (length before) && leads near far f))

-- behind each of so many buses are the far buses of the feeds from it
pub record AreBehind (count : ℕ) (feeds : List Feed) (behind : List (Vec ℕ)) : Type 0 where
  pub long : length behind ≡ count
  pub noted : (near far : ℕ) → is_behind behind near far ≡ (nat_lt near count && list_any (leads near far) feeds)

-- Pairs by the levels of far buses.
use Rattle.std.specs.Prelude.{◌≡◌, ℕ, List, [], ◌∷◌, ◌++◌, length, Option, Some, slice_get}
use Rattle.std.specs.List.{flat_map}
use Rattle.fd_levels.specs.declared.feed.Feed.{Feed}
use Rattle.fd_levels.specs.declared.group.Group.{Group}
use Rattle.fd_levels.specs.Order.{at_level, current_pairs, voltage_pairs}

-- a group has the currents and the voltages of these feeds
pub record IsGroupOf (group : Group) (feeds : List Feed) : Type 0 where
  pub currents : group.currents.items ≡ flat_map current_pairs feeds
  pub voltages : group.voltages.items ≡ flat_map voltage_pairs feeds

-- there is one for each level
abbrev pub AreGroupsOf : (ℕ → Option ℕ) → List Feed → List Group → Type 0
AreGroupsOf level feeds groups = (n : ℕ) (group : Group) → slice_get groups n ≡ Some group → IsGroupOf group (at_level level feeds n)

-- the pairs of one more feed stand in the group of the level of its far bus
pub record Adds (level : ℕ → Option ℕ) (before after : List Group) (f : Feed) : Type 0 where
  pub long : length after ≡ length before
  pub each : (n : ℕ) (group : Group) (feeds : List Feed) → slice_get after n ≡ Some group
      → ((old : Group) → slice_get before n ≡ Some old → IsGroupOf old (at_level level feeds n))
      → IsGroupOf group (at_level level (feeds ++ f ∷ []) n)

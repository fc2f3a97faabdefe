-- The level of a bus is the least number of feeds that lead to it, one behind another.
use Rattle.std.specs.Prelude.{◌≡◌, ℕ, zero, suc, ◌+◌, nat_eq, nat_le, Bool, true, ◌&&◌, List, is_some}
use Rattle.std.specs.List.{list_any}
use Rattle.fd_ladder.specs.dss_layout.fd_exact.First.{first_place}
use Rattle.fd_levels.specs.Levels.{is_led, level_of, starts}
use Rattle.fd_levels.specs.declared.feed.Feed.{Feed}

module _ (count : ℕ) (feeds : List Feed) where
  -- so many feeds lead to a bus, each from the far bus of the one before, and the first from where levels start
  abbrev pub is_led_by : ℕ → ℕ → Bool
  is_led_by zero bus = nat_le bus count && list_any (nat_eq bus) (starts count feeds)
  is_led_by (suc n) bus = nat_le bus count && is_led feeds (is_led_by n) bus

-- the level of a bus is the least such number, up to the number of buses; without one it has none
abbrev pub LevelLaw : Type 0
LevelLaw = (count : ℕ) (feeds : List Feed) (bus : ℕ) → level_of count feeds bus ≡ first_place (λ n. is_led_by count feeds n bus) (count + 1)

-- a bus to which feeds lead, however many, has a level
abbrev pub LastLevelLaw : Type 0
LastLevelLaw = (count : ℕ) (feeds : List Feed) (n bus : ℕ) → is_led_by count feeds n bus ≡ true → is_some (level_of count feeds bus) ≡ true

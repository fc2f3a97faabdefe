-- Which sections may be taken: a pass looks at those that are due, and passes over the others.
use Rattle.std.specs.Prelude.{◌≡◌, ℕ, ◌≤◌, ◌<◌, nat_eq, Bool, true, false, List, [], slice_get, ◌||◌, Option, Some, None}
use Rattle.std.specs.List.{list_any}
use Rattle.std.specs.Map.{lookup}
use Rattle.std.specs.Ordering.{nat_cmp}
use Rattle.std.specs.Global.{Vec}
use Rattle.std.specs.BTreeSet.{BTreeSet, contains}
use Rattle.dss_layout.specs.declared.nodes.NodeName.{NodeName}
use Rattle.dss_layout.specs.Nodes.{same_node}
use Rattle.fd_ladder.specs.declared.section.Section.{Section}
use Rattle.fd_ladder.specs.Radial.{Reach, is_reached, is_next, taken}

-- ---- the sections that join a node

-- the places of sections that are noted at each node
abbrev pub Noted : Type 0
Noted = List (NodeName × Vec ℕ)

abbrev pub places_of : Option (Vec ℕ) → List ℕ
places_of None = []
places_of (Some places) = places.items

abbrev pub is_noted : Noted → NodeName → ℕ → Bool
is_noted noted node place = list_any (nat_eq place) (places_of (lookup (same_node node) noted))

-- what was noted is still noted, and this place is at each node that passes the test
pub record Notes (test : NodeName → Bool) (place : ℕ) (before after : Noted) : Type 0 where
  pub kept : (node : NodeName) (other : ℕ) → is_noted before node other ≡ true → is_noted after node other ≡ true
  pub here : (node : NodeName) → test node ≡ true → is_noted after node place ≡ true

-- a section joins this node
abbrev pub joins : Section → NodeName → Bool
joins s node = list_any (same_node node) s.first || list_any (same_node node) s.second

abbrev pub joins_where : Option Section → NodeName → Bool
joins_where None node = false
joins_where (Some s) node = joins s node

-- each section is noted at the nodes that it joins
abbrev pub AreNoted : List Section → Noted → Type 0
AreNoted sections noted = (node : NodeName) (place : ℕ) → joins_where (slice_get sections place) node ≡ true → is_noted noted node place ≡ true

-- ---- the sections that are due

abbrev pub is_due : BTreeSet ℕ → ℕ → Bool
is_due due place = contains nat_cmp due place

-- none is due from this place on
abbrev pub NoneFrom : BTreeSet ℕ → ℕ → Type 0
NoneFrom due from = (place : ℕ) → from ≤ place → is_due due place ≡ false

-- the first that is due from this place on
pub record IsFirstFrom (due : BTreeSet ℕ) (from place : ℕ) : Type 0 where
  pub at_least : from ≤ place
  pub here : is_due due place ≡ true
  pub none_before : (other : ℕ) → from ≤ other → other < place → is_due due other ≡ false

-- the section at a place is the next to be taken
abbrev pub is_next_where : Reach → Option Section → Bool
is_next_where r None = false
is_next_where r (Some s) = is_next r s

-- the section at a place is looked at
abbrev pub taken_where : Option Section → Reach → Reach
taken_where None r = r
taken_where (Some s) r = taken s r

-- those that aren't due can't be taken
abbrev pub AreDue : List Section → BTreeSet ℕ → Reach → Type 0
AreDue sections due r = (place : ℕ) → is_due due place ≡ false → is_next_where r (slice_get sections place) ≡ false

-- those that aren't due weren't before, and none of their nodes is newly reached
pub record IsAsleep (noted : Noted) (before after : List NodeName) (due : BTreeSet ℕ) (place : ℕ) : Type 0 where
  pub before_too : is_due due place ≡ false
  pub same : (node : NodeName) → is_noted noted node place ≡ true → is_reached after node ≡ is_reached before node

-- those that join a newly reached node are due
abbrev pub Wakes : Noted → List NodeName → List NodeName → BTreeSet ℕ → BTreeSet ℕ → Type 0
Wakes noted before after due woken = (place : ℕ) → is_due woken place ≡ false → IsAsleep noted before after due place

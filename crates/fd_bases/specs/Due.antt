-- Which elements may change what is reached, and which elements touch a bus: a pass takes those that are due, and passes
-- over the others.
use Rattle.std.specs.Prelude.{◌≡◌, ℕ, ◌≤◌, ◌<◌, nat_eq, Bool, true, false, cond, not, ◌&&◌, ◌||◌, is_some, List, [], length, slice_get, Option, Some, None}
use Rattle.std.specs.List.{list_any}
use Rattle.std.specs.Map.{lookup}
use Rattle.std.specs.Ordering.{nat_cmp}
use Rattle.std.specs.Global.{Vec}
use Rattle.std.specs.BTreeSet.{BTreeSet, contains}
use Rattle.dss_layout.specs.dss_lexer.Texts.{text_eq}
use Rattle.dss_layout.specs.dss_model.declared.bus.Bus.{Bus}
use Rattle.dss_layout.specs.dss_model.declared.element.Element.{Element}
use Rattle.dss_layout.specs.dss_model.declared.element.Element.TheVariants as the
use Rattle.dss_layout.specs.dss_model.declared.names.ElementName.{ElementName}
use Rattle.dss_circuit.specs.Circuit.{Elements}
use Rattle.fd_bases.specs.Walk.{Reached, nominal_at, taken}

-- ---- the elements that touch a bus

-- the places that are noted at each bus
abbrev pub Noted : Type 0
Noted = List (List ℕ × Vec ℕ)

abbrev pub places_of : Option (Vec ℕ) → List ℕ
places_of None = []
places_of (Some places) = places.items

-- a place is noted at a bus
abbrev pub is_noted : Noted → List ℕ → ℕ → Bool
is_noted noted bus place = list_any (nat_eq place) (places_of (lookup (text_eq bus) noted))

-- this place is noted at those buses that pass the test, and nothing else is
abbrev pub Notes : (List ℕ → Bool) → ℕ → Noted → Noted → Type 0
Notes test place before after =
    (bus : List ℕ) (other : ℕ) → is_noted after bus other ≡ (is_noted before bus other || (test bus && nat_eq other place))

-- one of two buses is this; where one isn't given, none is
abbrev pub ends_touch : Option Bus → Option Bus → List ℕ → Bool
ends_touch (Some a) (Some b) bus = text_eq a.name bus || text_eq b.name bus
ends_touch (Some a) None bus = false
ends_touch None b bus = false

-- an element joins this bus to another
abbrev pub touches : Element → List ℕ → Bool
touches (the.Line l) bus = ends_touch l.bus1 l.bus2 bus
touches (the.Transformer t) bus = ends_touch t.first.bus t.second.bus bus
touches other bus = false

abbrev pub touches_where : Option (ElementName × Element) → List ℕ → Bool
touches_where None bus = false
touches_where (Some entry) bus = touches entry.1 bus

-- the element at a place joins this bus to another
abbrev pub touches_at : Elements → ℕ → List ℕ → Bool
touches_at elements place bus = touches_where (slice_get elements place) bus

-- at each bus the elements that touch it are noted
abbrev pub AreTouching : Elements → Noted → Type 0
AreTouching elements noted = (bus : List ℕ) (place : ℕ) → is_noted noted bus place ≡ touches_at elements place bus

-- ---- the elements that are due

abbrev pub is_due : BTreeSet ℕ → ℕ → Bool
is_due due place = contains nat_cmp due place

-- none is due from this place on
abbrev pub NoneFrom : BTreeSet ℕ → ℕ → Type 0
NoneFrom due from = (place : ℕ) → from ≤ place → is_due due place ≡ false

-- the first that is due from this place on
pub record IsFirstFrom (due : BTreeSet ℕ) (from place : ℕ) : Type 0 where
  pub at_least : from ≤ place
  pub here : is_due due place ≡ true
  pub none_before : (other : ℕ) → from ≤ other → other < place → is_due due other ≡ false

-- a bus is reached
abbrev pub is_reached : Reached → List ℕ → Bool
is_reached reached bus = is_some (nominal_at reached bus)

-- of two buses both are reached, or none is, or one isn't given
abbrev pub is_idle_between : Option Bus → Option Bus → Reached → Bool
is_idle_between (Some a) (Some b) reached = cond (is_reached reached a.name) (is_reached reached b.name) (not (is_reached reached b.name))
is_idle_between (Some a) None reached = true
is_idle_between None b reached = true

-- an element reaches no bus
abbrev pub is_idle : Element → Reached → Bool
is_idle (the.Vsource v) reached = is_reached reached v.bus1.name
is_idle (the.Line l) reached = is_idle_between l.bus1 l.bus2 reached
is_idle (the.Transformer t) reached = is_idle_between t.first.bus t.second.bus reached
is_idle other reached = true

abbrev pub is_idle_where : Option (ElementName × Element) → Reached → Bool
is_idle_where None reached = true
is_idle_where (Some entry) reached = is_idle entry.1 reached

-- the element at a place reaches no bus
abbrev pub is_idle_at : Elements → ℕ → Reached → Bool
is_idle_at elements place reached = is_idle_where (slice_get elements place) reached

-- all that are due are elements, and those that aren't due reach no bus
pub record AreDue (elements : Elements) (due : BTreeSet ℕ) (reached : Reached) : Type 0 where
  pub within : (place : ℕ) → is_due due place ≡ true → place < length elements
  pub idle : (place : ℕ) → is_due due place ≡ false → is_idle_at elements place reached ≡ true

abbrev pub taken_where : Option (ElementName × Element) → Reached → Reached
taken_where None reached = reached
taken_where (Some entry) reached = taken entry.1 reached

-- the element at a place is taken
abbrev pub taken_at : Elements → ℕ → Reached → Reached
taken_at elements place reached = taken_where (slice_get elements place) reached

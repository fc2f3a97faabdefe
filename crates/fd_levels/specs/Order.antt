-- The order in which the unknowns of a radial circuit are eliminated, each with its equation.
use Rattle.std.specs.Prelude.{ℕ, zero, suc, ◌+◌, ◌*◌, ◌==◌, nat_eq, nat_lt, Bool, true, not, ◌&&◌, List, [], ◌∷◌, ◌++◌, filter, length, map, min, slice_index, Option, Some, None, Result, Ok, Err, if◌then◌else◌}
use Rattle.std.specs.List.{flat_map, list_all, list_any, range_with_len}
use Rattle.std.specs.Global.{Vec}
use Rattle.fd_ladder.specs.dss_layout.fd_exact.Answers as answers
use Rattle.fd_ladder.specs.dss_layout.Layout.{Elements, LayoutView, complex_count, layout_of, size_of}
use Rattle.fd_ladder.specs.Radial.{first_offending}
use Rattle.fd_triangles.specs.declared.pair.Pair.{Pair}
use Rattle.fd_levels.specs.declared.fault.OrderFault.{OrderFault}
use Rattle.fd_levels.specs.declared.fault.OrderFault.TheVariants.{NotRadial, Unpaired, NoMemory}
use Rattle.fd_levels.specs.declared.feed.Feed.{Feed}
use Rattle.fd_levels.specs.Feeds.{buses_of, feeds_of}
use Rattle.fd_levels.specs.Levels.{is_level, level_of}

-- ---- the pairs of one feed

-- the real part of a complex unknown with that of a complex equation, then the imaginary one
abbrev pub both_parts : ℕ → ℕ → List Pair
both_parts unknown equation =
    record { unknown = 2 * unknown; equation = 2 * equation }
    ∷ record { unknown = 2 * unknown + 1; equation = 2 * equation + 1 } ∷ []

-- the phases that have a far node
abbrev pub phases_of : Feed → List ℕ
phases_of f = range_with_len 0 (min f.phases (length f.nodes))

-- the current of each phase with the current law of its far node
abbrev pub current_pairs : Feed → List Pair
current_pairs f = flat_map (λ k. both_parts (f.branch + k) (slice_index f.nodes k)) (phases_of f)

-- the voltage of each far node with the voltage equation of its phase
abbrev pub voltage_pairs : Feed → List Pair
voltage_pairs f = flat_map (λ k. both_parts (slice_index f.nodes k) (f.branch + k)) (phases_of f)

-- ---- levels

-- the feeds whose far bus has this level, in order
abbrev pub at_level : (ℕ → Option ℕ) → List Feed → ℕ → List Feed
at_level level feeds n = filter (λ f. is_level n (level f.far)) feeds

-- of a level all currents, then all voltages
abbrev pub level_pairs : (ℕ → Option ℕ) → List Feed → ℕ → List Pair
level_pairs level feeds n = flat_map current_pairs (at_level level feeds n) ++ flat_map voltage_pairs (at_level level feeds n)

-- the numbers below this one, the greatest first
abbrev pub down_from : ℕ → List ℕ
down_from zero = []
down_from (suc n) = n ∷ down_from n

-- ---- the order

-- each magnitude with its own row
abbrev pub magnitude_pairs : LayoutView → List Pair
magnitude_pairs layout = map (λ k. record { unknown = k; equation = k }) (range_with_len (2 * complex_count layout) (length layout.magnitudes))

-- magnitudes first, then the levels from the deepest to level 0; no level is above the number of buses
unfoldable pub pairs_of : Elements → List Pair
pairs_of elements =
    let layout = layout_of elements in
    let feeds = feeds_of elements in
    let count = length (buses_of layout.nodes) in
    magnitude_pairs layout ++ flat_map (level_pairs (level_of count feeds) feeds) (down_from (count + 1))

-- ---- each unknown and each equation once

-- no two of these are the same
abbrev pub are_apart : List ℕ → Bool
are_apart [] = true
are_apart (k ∷ ks) = not (list_any (nat_eq k) ks) && are_apart ks

-- each is below the size, and none comes twice
abbrev pub are_once : ℕ → List ℕ → Bool
are_once size ks = list_all (λ k. nat_lt k size) ks && are_apart ks

-- as many pairs as unknowns, and each unknown and each equation once
abbrev pub is_paired : ℕ → List Pair → Bool
is_paired size pairs =
    (length pairs == size) && (are_once size (map (λ p. p.unknown) pairs) && are_once size (map (λ p. p.equation) pairs))

-- ---- the answer

abbrev pub paired_or_fault : ℕ → List Pair → Result (List Pair) OrderFault
paired_or_fault size pairs = if is_paired size pairs then Ok pairs else Err Unpaired

abbrev pub ordered_unless : Option ℕ → Elements → Result (List Pair) OrderFault
ordered_unless (Some number) elements = Err (NotRadial number)
ordered_unless None elements = paired_or_fault (size_of (layout_of elements)) (pairs_of elements)

-- the order, or the first element for which the circuit isn't radial, or that some unknown has no pair
abbrev pub ordered : Elements → Result (List Pair) OrderFault
ordered elements = ordered_unless (first_offending elements) elements

-- the fault of an answer, unless memory ran out
abbrev pub fault_of : OrderFault → Option OrderFault
fault_of (NotRadial number) = Some (NotRadial number)
fault_of Unpaired = Some Unpaired
fault_of NoMemory = None

-- an answer is what is said
abbrev pub Orders : Result (Vec Pair) OrderFault → Result (List Pair) OrderFault → Type 0
Orders = answers.Gives fault_of (λ pairs. pairs.items)

-- The forms of values: what a pair's value stands for, or why it is refused.
use Rattle.std.specs.Prelude.{ℕ, ℤ, pos, neg_ℤ, unsigned_abs, ◌*◌, ◌/◌, ◌%◌, ◌==◌, nat_le, int_le, int_div, ◌-◌, List, [], ◌∷◌, length, take, find, Bool, ◌&&◌, ◌||◌, Option, Result, Ok, Err, if◌then◌else◌, codes, nat_eq}
use Rattle.std.specs.Char.{is_ascii_digit}
use Rattle.std.specs.List.{slice_split, list_all}
use Rattle.std.specs.Cmp.Lexicographic.{pointwise}
use Rattle.std.specs.Ordering.{int_eq}
use Rattle.dss_model.specs.fd_exact.Rounding.{near_div}
use Rattle.dss_model.specs.dss_lexer.declared.pair.Pair.{Pair}
use Rattle.dss_model.specs.dss_lexer.Arrays.{words_of}
use Rattle.dss_model.specs.dss_lexer.Number.{number_of}
use Rattle.dss_model.specs.dss_lexer.Postfix.{postfix_of}
use Rattle.dss_model.specs.declared.fault.ModelFault.{ModelFault}
use Rattle.dss_model.specs.declared.fault.ModelFault.TheVariants as fault
use Rattle.dss_model.specs.declared.bus.Bus.{Bus}
use Rattle.dss_model.specs.declared.load.ZipShares.{ZipShares}
use Rattle.dss_model.specs.declared.words.BankState.{BankState}
use Rattle.dss_model.specs.declared.words.BankState.TheVariants as state
use Rattle.dss_model.specs.Names.{bytes, lower, named, is_name}
use Rattle.dss_model.specs.Causes.{from_lexer}
use Rattle.dss_model.specs.Ranges.{ones}
use Rattle.dss_model.specs.Answers.{◌>>=◌, or_fault, each}

-- ---- numbers, in units of 10^-9

-- a word spells one number, and a group holds a postfix expression
unfoldable pub number_in : Pair → Result ℤ ModelFault
number_in pair = from_lexer (if pair.grouped then postfix_of pair.value else number_of pair.value)

-- a range includes its ends
abbrev pub is_within : ℤ → ℤ → ℤ → Bool
is_within low high n = int_le low n && int_le n high

abbrev pub within : ℤ → ℤ → ℤ → Result ℤ ModelFault
within low high n = if is_within low high n then Ok n else Err fault.OutOfRange

-- a number from low to high
unfoldable pub number_between : ℤ → ℤ → Pair → Result ℤ ModelFault
number_between low high pair = number_in pair >>= within low high

-- from 0.01 to 1 in size, with either sign
abbrev pub has_power_factor : ℤ → Bool
has_power_factor n = is_within (pos 10_000_000) (ones 1) n || is_within (neg_ℤ (ones 1)) (neg_ℤ (pos 10_000_000)) n

unfoldable pub power_factor_in : Pair → Result ℤ ModelFault
power_factor_in pair = number_in pair >>= λ n. if has_power_factor n then Ok n else Err fault.OutOfRange

-- a number without a fraction
abbrev pub is_whole : ℤ → Bool
is_whole n = unsigned_abs n % 1_000_000_000 == 0

abbrev pub whole : ℤ → Result ℤ ModelFault
whole n = if is_whole n then Ok n else Err fault.BadValue

unfoldable pub whole_in : Pair → Result ℤ ModelFault
whole_in pair = number_in pair >>= whole

-- how many ones a number without a fraction is
abbrev pub count_of : ℤ → ℕ
count_of n = unsigned_abs n / 1_000_000_000

-- a whole number from low to high
unfoldable pub whole_between : ℕ → ℕ → Pair → Result ℕ ModelFault
whole_between low high pair = whole_in pair >>= within (ones low) (ones high) >>= λ n. Ok (count_of n)

-- the first of these whole numbers that a number is
abbrev pub one_of : List ℕ → ℤ → Option ℕ
one_of values n = find (λ m. int_eq (ones m) n) values

-- a whole number that is one of these, and any other is out of range
unfoldable pub whole_among : List ℕ → Pair → Result ℕ ModelFault
whole_among values pair = whole_in pair >>= λ n. or_fault fault.OutOfRange (one_of values n)

-- a number that is one of these, and any other is unsupported
unfoldable pub supported_among : List ℕ → Pair → Result ℕ ModelFault
supported_among values pair = number_in pair >>= λ n. or_fault fault.Unsupported (one_of values n)

-- to the nearest multiple of a unit, halves away from zero: how many units
abbrev pub nearest_count : ℕ → ℤ → ℕ
nearest_count unit n = unsigned_abs (near_div n unit)

-- a tap from 0.5 to 2, to the nearest 10^-5
abbrev pub tap_of : ℤ → ℕ
tap_of = nearest_count 10_000

unfoldable pub tap_in : Pair → Result ℕ ModelFault
tap_in pair = number_between (pos 500_000_000) (ones 2) pair >>= λ n. Ok (tap_of n)

-- seconds from 0 to 10^6, to the nearest millisecond
unfoldable pub milliseconds_in : Pair → Result ℕ ModelFault
milliseconds_in pair = number_between (pos 0) (ones 1_000_000) pair >>= λ n. Ok (nearest_count 1_000_000 n)

-- a ratio from 0 to 100, to the nearest 10^-4
unfoldable pub ratio_in : Pair → Result ℤ ModelFault
ratio_in pair = number_between (pos 0) (ones 100) pair >>= λ n. Ok (pos (nearest_count 100_000 n * 100_000))

-- half of a number that isn't negative, to the nearest unit
abbrev pub half : ℤ → ℤ
half n = pos (nearest_count 2 n)

-- whether a number is a multiple of 30 from -360 to 360
abbrev pub has_angle : ℤ → Bool
has_angle n = (unsigned_abs n % 30_000_000_000 == 0) && nat_le (unsigned_abs n) 360_000_000_000

-- degrees, and any number that is no such angle is unsupported
unfoldable pub angle_in : Pair → Result ℤ ModelFault
angle_in pair = number_in pair >>= λ n. if has_angle n then Ok (int_div n (pos 1_000_000_000)) else Err fault.Unsupported

-- the number of a phase: any whole number of a script, since Solve tests whether the phase is there
unfoldable pub phase_in : Pair → Result ℤ ModelFault
phase_in pair = whole_in pair >>= within (neg_ℤ (ones 1_000_000_000)) (ones 1_000_000_000) >>= λ n. Ok (int_div n (pos 1_000_000_000))

-- ---- words

-- the one word of a value, in lower case; a group holds just one
abbrev pub sole : List (List ℕ) → Result (List ℕ) ModelFault
sole (word ∷ []) = Ok (lower word)
sole words = Err fault.BadValue

unfoldable pub word_in : Pair → Result (List ℕ) ModelFault
word_in pair = sole (words_of pair.value)

-- a word of a table, and any other is refused so
unfoldable pub choice_in : {T : Type 0} → ModelFault → List (List ℕ × T) → Pair → Result T ModelFault
choice_in other table pair = word_in pair >>= λ word. or_fault other (named table (bytes word))

abbrev pub a_name : List ℕ → Result (List ℕ) ModelFault
a_name word = if is_name word then Ok word else Err fault.BadValue

-- the name of an element, without its class
unfoldable pub name_in : Pair → Result (List ℕ) ModelFault
name_in pair = word_in pair >>= a_name

abbrev pub is_point : ℕ → Bool
is_point c = c == 46

-- the name in `line.NAME`
abbrev pub line_name_of : List (List ℕ) → Result (List ℕ) ModelFault
line_name_of (class ∷ name ∷ []) = if pointwise nat_eq class (codes "line") then a_name name else Err fault.BadValue
line_name_of parts = Err fault.BadValue

-- the name of a line, with its class before it
unfoldable pub line_name_in : Pair → Result (List ℕ) ModelFault
line_name_in pair = word_in pair >>= λ word. line_name_of (slice_split is_point word)

-- the name, where an element of that name is there
abbrev pub known : Bool → List ℕ → Result (List ℕ) ModelFault
known found name = if found then Ok name else Err fault.UnknownName

unfoldable pub known_name_in : Bool → Pair → Result (List ℕ) ModelFault
known_name_in found pair = name_in pair >>= known found

unfoldable pub known_line_name_in : Bool → Pair → Result (List ℕ) ModelFault
known_line_name_in found pair = line_name_in pair >>= known found

-- ---- buses

-- a node number is one digit
abbrev pub node_of : List ℕ → Result ℕ ModelFault
node_of (digit ∷ []) = if is_ascii_digit digit then Ok (digit - 48) else Err fault.BadValue
node_of part = Err fault.BadValue

-- a name, and behind it up to four node numbers, points before them
abbrev pub bus_of_parts : List (List ℕ) → Result Bus ModelFault
bus_of_parts [] = Err fault.BadValue
bus_of_parts (name ∷ parts) = if is_name name && nat_le (length parts) 4
    then (each node_of parts >>= λ nodes. Ok (record { name = name; nodes = nodes }))
    else Err fault.BadValue

unfoldable pub bus_of : List ℕ → Result Bus ModelFault
bus_of word = bus_of_parts (slice_split is_point word)

unfoldable pub bus_in : Pair → Result Bus ModelFault
bus_in pair = word_in pair >>= bus_of

-- ---- arrays, which are groups

abbrev pub cells_in : Pair → Result (List (List ℕ)) ModelFault
cells_in pair = if pair.grouped then Ok (words_of pair.value) else Err fault.BadValue

abbrev pub number_of_cell : List ℕ → Result ℤ ModelFault
number_of_cell cell = from_lexer (number_of cell)

unfoldable pub numbers_in : Pair → Result (List ℤ) ModelFault
numbers_in pair = cells_in pair >>= each number_of_cell

abbrev pub all_within : ℤ → ℤ → List ℤ → Result (List ℤ) ModelFault
all_within low high ns = if list_all (is_within low high) ns then Ok ns else Err fault.OutOfRange

abbrev pub all_whole : List ℤ → Result (List ℤ) ModelFault
all_whole ns = if list_all is_whole ns then Ok ns else Err fault.BadValue

-- numbers from low to high: first each text is read, then the ranges are tested
unfoldable pub numbers_between : ℤ → ℤ → Pair → Result (List ℤ) ModelFault
numbers_between low high pair = numbers_in pair >>= all_within low high

-- just two values
abbrev pub two : {A : Type 0} → List A → Result (A × A) ModelFault
two (a ∷ b ∷ []) = Ok (a, b)
two xs = Err fault.WrongCount

unfoldable pub two_numbers_between : ℤ → ℤ → Pair → Result (ℤ × ℤ) ModelFault
two_numbers_between low high pair = numbers_between low high pair >>= two

abbrev pub bus_of_cell : List ℕ → Result Bus ModelFault
bus_of_cell cell = bus_of (lower cell)

unfoldable pub two_buses_in : Pair → Result (Bus × Bus) ModelFault
two_buses_in pair = cells_in pair >>= each bus_of_cell >>= two

-- a word of a table, and any other is a bad value
abbrev pub named_cell : {T : Type 0} → List (List ℕ × T) → List ℕ → Result T ModelFault
named_cell table cell = or_fault fault.BadValue (named table (bytes (lower cell)))

unfoldable pub two_choices_in : {T : Type 0} → List (List ℕ × T) → Pair → Result (T × T) ModelFault
two_choices_in table pair = cells_in pair >>= each (named_cell table) >>= two

unfoldable pub two_taps_in : Pair → Result (ℕ × ℕ) ModelFault
two_taps_in pair = two_numbers_between (pos 500_000_000) (ones 2) pair >>= λ taps. Ok (tap_of taps.0, tap_of taps.1)

-- just one value
abbrev pub one : {A : Type 0} → List A → Result A ModelFault
one (x ∷ []) = Ok x
one xs = Err fault.WrongCount

-- the state of each step of a bank, of which there is one: 0 is open and 1 is closed
abbrev pub state_of : ℤ → BankState
state_of n = if int_eq n (pos 0) then state.Open else state.Closed

unfoldable pub state_in : Pair → Result BankState ModelFault
state_in pair = numbers_in pair >>= all_whole >>= all_within (pos 0) (ones 1) >>= one >>= λ n. Ok (state_of n)

-- the shares of P, then those of Q, each of constant impedance, current and power, and a cutoff, which is 0
abbrev pub shares_of : List ℤ → Result ZipShares ModelFault
shares_of (a1 ∷ a2 ∷ a3 ∷ b1 ∷ b2 ∷ b3 ∷ cutoff ∷ []) =
    if int_eq cutoff (pos 0)
    then Ok (record {
      p = record { impedance = a1; current = a2; power = a3 };
      q = record { impedance = b1; current = b2; power = b3 };
    })
    else Err fault.Unsupported
shares_of numbers = Err fault.WrongCount

-- the ranges of the shares, which are the first six numbers, are tested before the count
abbrev pub shares_within : List ℤ → Result ZipShares ModelFault
shares_within numbers =
    if list_all (is_within (neg_ℤ (ones 10)) (ones 10)) (take 6 numbers) then shares_of numbers else Err fault.OutOfRange

unfoldable pub shares_in : Pair → Result ZipShares ModelFault
shares_in pair = numbers_in pair >>= shares_within

-- What a reader answers, and what the grammar says.
use Rattle.std.specs.Prelude.{◌≡◌, ◌+◌, ◌-◌, ◌≤◌, ◌⊎◌, ◌&&◌, ℕ, zero, suc, ℤ, pos, negsuc, nat_le, nat_lt, not, ◌<◌, Bool, true, false, Option, Some, None, List, [], ◌∷◌, ◌++◌, flat_map, length, option_map, Result, Ok, Err}
use Rattle.fd_lines.specs.Numbers.{numbers_of}
use Rattle.fd_certfile.specs.Lines.{Line}
use Rattle.fd_certfile.specs.Lines as text
use Rattle.fd_certfile.specs.Blocks.{Act, numbered_at, Version, Whole, Sparse, Part, part_at, row_at, row_of, is_zero, entries_at, with_count}
use Rattle.fd_lines.specs.Cuts.{first_number}
pub use Rattle.fd_lines.specs.Numbered.{IsSoFar, RefusedBehind, behind_front}
use Rattle.fd_certfile.specs.declared.fault.Stop.{Stop}
use Rattle.fd_certfile.specs.declared.fault.Stop.TheVariants as stop
use Rattle.std.specs.Option.{option_and_then}

-- a reader keeps all of these, or none
abbrev pub kept : {X : Type 0} → Bool → List X → List X
kept true xs = xs
kept false xs = []

abbrev pub as_they_are : {X : Type 0} → List X → List X
as_they_are xs = xs

-- the entries of rows, one row after another
abbrev pub cells_of : List (List ℤ) → List ℤ
cells_of rows = flat_map as_they_are rows

-- the row of these numbers in a version, if they are numbers, of so many entries
abbrev pub row_in : Version → ℕ → Option (List ℤ) → Option (List ℤ)
row_in v n numbers = option_and_then (row_of v n) numbers

-- so many entries that are 0
abbrev pub zeros : ℕ → List ℤ
zeros zero = []
zeros (suc n) = pos 0 ∷ zeros n

-- the entries of a row of n that these pairs name, if they are so many pairs and no more
abbrev pub entries_in : ℕ → ℤ → Option (List ℤ) → Option (List ℤ)
entries_in n count numbers = option_and_then (λ pairs. option_and_then (with_count count) (entries_at n 0 pairs)) numbers

-- a number of a place from one on and below another
abbrev pub is_between : ℕ → ℕ → ℤ → Bool
is_between from below (pos n) = nat_le from n && nat_lt n below
is_between from below (negsuc n) = false

-- the row that is read is added where it is kept, or no row is read
pub record RowIs (keep : Bool) (old new : List ℤ) (read : Option (List ℤ)) : Type 0 where
  pub entries : List ℤ
  pub same : read ≡ Some entries
  pub added : new ≡ old ++ kept keep entries

-- an entry of a row of n stands behind its place, which isn't before the next; it is added behind the zeros before it
pub record IsPut (keep : Bool) (n next : ℕ) (place entry : ℤ) (behind : ℕ) (old new : List ℤ) : Type 0 where
  pub at : ℕ
  pub place_is : place ≡ pos at
  pub from : next ≤ at
  pub below : at < n
  pub some : is_zero entry ≡ false
  pub behind_is : behind ≡ at + 1
  pub added : new ≡ old ++ kept keep (zeros (at - next) ++ entry ∷ [])

-- the entry is 0, or its place is before the next or past a row of n
abbrev pub IsUnput : ℕ → ℕ → ℤ → ℤ → Type 0
IsUnput n next place entry = (not (is_zero entry) && is_between next n place) ≡ false

-- so many steps of a row of n: in version 1 each entry is one, in version 2 each pair
abbrev pub AreSteps : Version → ℕ → ℕ → Type 0
AreSteps Whole n steps = steps ≡ n
AreSteps Sparse n steps = Unit {0}

-- a place is left for an entry of version 1
abbrev pub HasNext : Version → ℕ → ℕ → Type 0
HasNext Whole n next = next < n
HasNext Sparse n next = Unit {0}

-- the entries of a row of n in so many steps of a version, if the numbers are so many
abbrev pub entries_by : Version → ℕ → ℕ → Option (List ℤ) → Option (List ℤ)
entries_by Whole n steps numbers = row_in Whole n numbers
entries_by Sparse n steps numbers = entries_in n (pos steps) numbers

-- the first field is the next entry; it is added, where entries are kept
pub record IsEntry (keep : Bool) (next : ℕ) (old new : List ℤ) (fields : List (List ℕ)) (behind : ℕ) (more : List (List ℕ)) : Type 0 where
  pub entry : ℤ
  pub first : Some (entry, more) ≡ first_number fields
  pub behind_is : behind ≡ next + 1
  pub added : new ≡ old ++ kept keep (entry ∷ [])

-- the first two fields are the next entry behind its place; it is added behind the zeros before it
pub record IsPair (keep : Bool) (n next : ℕ) (old new : List ℤ) (fields : List (List ℕ)) (behind : ℕ) (more : List (List ℕ)) : Type 0 where
  pub place : ℤ
  pub entry : ℤ
  pub first : numbers_of fields ≡ option_map (λ zs. place ∷ entry ∷ zs) (numbers_of more)
  pub put : IsPut keep n next place entry behind old new

-- the next step of a version, the place behind it and the other fields
abbrev pub IsNext : Version → Bool → ℕ → ℕ → List ℤ → List ℤ → List (List ℕ) → ℕ → List (List ℕ) → Type 0
IsNext Whole keep n next old new fields behind more = IsEntry keep next old new fields behind more
IsNext Sparse keep n next old new fields behind more = IsPair keep n next old new fields behind more

-- the first two fields are a pair that isn't one of a row of n
pub record IsNoPair (n next : ℕ) (fields : List (List ℕ)) : Type 0 where
  pub place : ℤ
  pub entry : ℤ
  pub more : List (List ℕ)
  pub first : numbers_of fields ≡ option_map (λ zs. place ∷ entry ∷ zs) (numbers_of more)
  pub unput : IsUnput n next place entry

-- there is no next step of a version
abbrev pub IsNoNext : Version → ℕ → ℕ → List (List ℕ) → Type 0
IsNoNext Whole n next fields = None ≡ first_number fields
IsNoNext Sparse n next fields = ((zs : List ℤ) → numbers_of fields ≡ Some zs → length zs < 2) ⊎ IsNoPair n next fields

abbrev pub PushesRow : Bool → List ℤ → List ℤ → Bool → Option (List ℤ) → Type 0
PushesRow keep old new true read = RowIs keep old new read
PushesRow keep old new false read = read ≡ None

abbrev pub Fails : {Y : Type 0} → Stop → List Line → Result Y (List Line) → Type 0
Fails stop.NoMemory lines read = Unit {0}
Fails (stop.Refused behind) lines read = RefusedBehind behind lines read

-- ---- numbered lines

-- the next n lines, as unknowns and as rows
abbrev pub parts_at : ℕ → List Line → Result (List Part × List Line) (List Line)
parts_at n lines = numbered_at part_at n 0 lines

abbrev pub rows_at : Version → ℕ → List Line → Result (List (List ℤ) × List Line) (List Line)
rows_at v n lines = numbered_at (row_at v n) n 0 lines

-- so far these lines were read, of which the reader keeps what flat makes of them, or nothing
pub record IsKeptSoFar {X Y : Type 0} (read : ℕ → Line → Option X) (flat : List X → List Y) (keep : Bool) (n : ℕ)
    (lines : List Line) (i : ℕ) (found : List Y) (rest : List Line) : Type 0 where
  pub front : List X
  pub so_far : IsSoFar read n lines i front rest
  pub keeps : found ≡ kept keep (flat front)

-- what was read, of which the reader keeps what flat makes of it, or nothing
pub record IsKept {X Y : Type 0} (flat : List X → List Y) (keep : Bool) (found : List Y) (rest : List Line)
    (read : Result (List X × List Line) (List Line)) : Type 0 where
  pub all : List X
  pub same : read ≡ Ok (all, rest)
  pub keeps : found ≡ kept keep (flat all)

-- an answer, of which found and rest are seen, is what the grammar reads of these lines
abbrev pub Keeps : {X Y Z : Type 0} → (List X → List Y) → Bool → (Z → List Y) → (Z → List Line) → Result Z Stop
    → List Line → Result (List X × List Line) (List Line) → Type 0
Keeps flat keep found rest (Ok z) lines read = IsKept flat keep (found z) (rest z) read
Keeps flat keep found rest (Err e) lines read = Fails e lines read

-- ---- acts

-- the act of a line, if it is one
abbrev pub act_in : Line → Option Act
act_in (text.act time control steps) = Some (record { time = time; control = control; steps = steps })
act_in line = None

-- these acts, and then those that are read
abbrev pub acts_behind : List Act → List Act × List Line → List Act × List Line
acts_behind front read = (front ++ read.0, read.1)

-- ---- a block

-- so many lines were read before the refused one
abbrev pub lines_before : Stop → ℕ
lines_before stop.NoMemory = 0
lines_before (stop.Refused behind) = behind

-- the same, with so many lines before
abbrev pub moved : ℕ → Stop → Stop
moved lines stop.NoMemory = stop.NoMemory
moved lines (stop.Refused behind) = stop.Refused (lines + behind)

-- the numbers of a solution line
abbrev pub due_in : Line → Option (ℤ × ℤ × ℤ × ℤ)
due_in (text.solution number hour round size) = Some (number, hour, round, size)
due_in line = None

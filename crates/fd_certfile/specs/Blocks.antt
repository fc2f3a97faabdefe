-- A block of a certificate, what it is written as, and how it is read from lines.
use Rattle.std.specs.Prelude.{◌≡◌, ℕ, zero, suc, ℤ, pos, ◌==◌, not, Bool, List, [], ◌∷◌, ◌++◌, map, flat_map, length, count_by, Option, Some, None, option_map, option_and_then, Result, Ok, Err, if◌then◌else◌}
use Rattle.std.specs.List.{enumerate_from, AllByRecursion}
use Rattle.fd_lines.specs.Numbers.{IsNumber}
use Rattle.fd_certfile.specs.Lines.{Line, solution, state, row, act, bytes_of}
pub use Rattle.fd_lines.specs.Numbered.{count_of, is_place, is_zero, numbered_at, numbered_lines, or_refused, with_first, ◌>>=◌}
-- the versions differ in the form of an inverse's rows alone: each entry of a row, or those that aren't 0 with their
-- places
pub use Rattle.fd_certfile.specs.declared.version.Version.{Version}
pub use Rattle.fd_certfile.specs.declared.version.Version.TheVariants.{Whole, Sparse}

-- what is claimed of an unknown and its row, in whole microvolts or microamperes
pub record Part : Type 0 where
  pub centre : ℤ
  pub radius : ℤ
  pub mismatch : ℤ

pub record Act : Type 0 where
  pub time : ℤ
  pub control : ℤ
  pub steps : ℤ

-- a block: the numbers of its solution line, a part and a row of the inverse for each unknown, and its acts
pub record Block : Type 0 where
  pub number : ℤ
  pub hour : ℤ
  pub round : ℤ
  pub size : ℤ
  pub parts : List Part
  pub inverse : List (List ℤ)
  pub acts : List Act

abbrev pub is_entry : ℤ → Bool
is_entry z = not (is_zero z)

-- ---- what a block is written as

-- an entry that isn't 0, behind its place
abbrev pub pair_of : ℕ × ℤ → List ℤ
pair_of p = if is_zero p.1 then [] else pos p.0 ∷ p.1 ∷ []

-- what a version has of the entries of a row
abbrev pub fields_of : Version → List ℤ → List ℤ
fields_of Whole entries = entries
fields_of Sparse entries = pos (count_by is_entry entries) ∷ flat_map pair_of (enumerate_from 0 entries)

abbrev pub part_line : ℕ → Part → Line
part_line i p = state (pos i) p.centre p.radius p.mismatch

abbrev pub row_line : Version → ℕ → List ℤ → Line
row_line v i entries = row (pos i ∷ fields_of v entries)

abbrev pub act_line : Act → Line
act_line a = act a.time a.control a.steps

abbrev pub block_lines : Version → Block → List Line
block_lines v b = solution b.number b.hour b.round b.size
    ∷ (numbered_lines part_line 0 b.parts ++ (numbered_lines (row_line v) 0 b.inverse ++ map act_line b.acts))

abbrev pub block_bytes : Version → Block → List ℕ
block_bytes v b = bytes_of (block_lines v b)

-- the size is that of its lists
pub record IsSized (b : Block) : Type 0 where
  pub parts : length b.parts ≡ count_of b.size
  pub rows : length b.inverse ≡ count_of b.size
  pub entries : AllByRecursion (λ r. length r ≡ count_of b.size) b.inverse

-- the numbers of a block can be written
pub record IsWritable (b : Block) : Type 0 where
  pub due : AllByRecursion IsNumber (b.number ∷ b.hour ∷ b.round ∷ b.size ∷ [])
  pub parts : AllByRecursion (λ p. AllByRecursion IsNumber (p.centre ∷ p.radius ∷ p.mismatch ∷ [])) b.parts
  pub inverse : AllByRecursion (AllByRecursion IsNumber) b.inverse
  pub acts : AllByRecursion (λ a. AllByRecursion IsNumber (a.time ∷ a.control ∷ a.steps ∷ [])) b.acts

-- ---- how a block is read: with the lines behind it, or, as a fault, the lines from the first that isn't in the
-- grammar on

-- n entries from place j on, where their places rise and no entry is 0
abbrev pub entries_at : ℕ → ℕ → List ℤ → Option (List ℤ)
entries_at zero j [] = Some []
entries_at zero j (p ∷ fields) = None
entries_at (suc n) j [] = option_map (λ r. pos 0 ∷ r) (entries_at n (suc j) [])
entries_at (suc n) j (p ∷ []) = None
entries_at (suc n) j (p ∷ e ∷ fields) =
    if is_place j p
    then (if is_zero e then None else option_map (λ r. e ∷ r) (entries_at n (suc j) fields))
    else option_map (λ r. pos 0 ∷ r) (entries_at n (suc j) (p ∷ e ∷ fields))

-- so many of the entries aren't 0
abbrev pub with_count : ℤ → List ℤ → Option (List ℤ)
with_count count entries = if is_place (count_by is_entry entries) count then Some entries else None

-- the n entries of a row
abbrev pub row_of : Version → ℕ → List ℤ → Option (List ℤ)
row_of Whole n fields = if length fields == n then Some fields else None
row_of Sparse n [] = None
row_of Sparse n (count ∷ fields) = option_and_then (with_count count) (entries_at n 0 fields)

abbrev pub part_at : ℕ → Line → Option Part
part_at i (state place centre radius mismatch) =
    if is_place i place then Some (record { centre = centre; radius = radius; mismatch = mismatch }) else None
part_at i line = None

abbrev pub row_at : Version → ℕ → ℕ → Line → Option (List ℤ)
row_at v n i (row (place ∷ fields)) = if is_place i place then row_of v n fields else None
row_at v n i line = None

-- acts up to the first line that isn't one
abbrev pub acts_at : List Line → List Act × List Line
acts_at (act time control steps ∷ lines) =
    let more = acts_at lines in (record { time = time; control = control; steps = steps } ∷ more.0, more.1)
acts_at lines = ([], lines)

unfoldable pub block_at : Version → List Line → Result (Block × List Line) (List Line)
block_at v (solution number hour round size ∷ lines) =
    numbered_at part_at (count_of size) 0 lines >>= λ parts.
    numbered_at (row_at v (count_of size)) (count_of size) 0 parts.1 >>= λ rows.
    let acts = acts_at rows.1 in
    Ok (
      record {
        number = number;
        hour = hour;
        round = round;
        size = size;
        parts = parts.0;
        inverse = rows.0;
        acts = acts.0;
      },
      acts.1,
    )
block_at v lines = Err lines

-- a block's acts end before what isn't an act
abbrev pub IsBehindActs : List Line → Type 0
IsBehindActs (act time control steps ∷ lines) = ⊥
IsBehindActs lines = Unit {0}

-- ---- what the grammar says of lines

-- the lines are those of a block of the right sizes, and then these
pub record Spells (v : Version) (lines : List Line) (b : Block) (rest : List Line) : Type 0 where
  pub lines_are : lines ≡ block_lines v b ++ rest
  pub sized : IsSized b
  pub behind : IsBehindActs rest

-- no block begins these lines
abbrev pub BeginNoBlock : Version → List Line → Type 0
BeginNoBlock v lines = (b : Block) (rest : List Line) → IsSized b → lines ≡ block_lines v b ++ rest → ⊥

-- some block begins so
pub record BeginsBlock (v : Version) (front : List Line) : Type 0 where
  pub block : Block
  pub sized : IsSized block
  pub more : List Line
  pub lines_are : block_lines v block ≡ front ++ more

-- The grammar refuses the first line of rest, or misses one there: what stands before it begins a block, and with it,
-- whatever may follow, begins none.
pub record Refuses (v : Version) (lines rest : List Line) : Type 0 where
  pub front : List Line
  pub lines_are : lines ≡ front ++ rest
  pub begins : BeginsBlock v front
  pub refused : (more : List Line) → BeginNoBlock v (front ++ with_first rest more)

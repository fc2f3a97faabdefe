-- What is held of the rows of a block: exactly their numbers in 64 bits, and of those that need more the greatest of
-- their sign, which is out of each range.
use Rattle.std.specs.Prelude.{◌≡◌, ◌+◌, ◌-◌, ◌^◌, ℕ, ℤ, pos, negsuc, min, Bool, true, false, List, [], ◌∷◌, ◌++◌, map, Option, Some, option_and_then, option_map, Result, Ok, Err}
use Rattle.fd_derived.specs.Rows.{derived_row}
use Rattle.fd_lines.specs.Numbered.{count_of}
use Rattle.fd_lines.specs.WordLines.{Line, lines_of}
use Rattle.fd_rowfile.specs.Blocks.{Block, Row, is_anywhere, is_below, is_beside, is_next}
use Rattle.fd_rowfile.specs.Views.{act, bound, head, part}
use Rattle.fd_rowfile.specs.declared.block.HeldBlock.{HeldBlock}
use Rattle.fd_rowfile.specs.declared.pairs.Fit.{Fit}
use Rattle.fd_rowfile.specs.declared.pairs.Fit.TheVariants as the
use Rattle.fd_rowfile.specs.declared.rows.HeldRow.{HeldRow}
use Rattle.fd_rowfile.specs.declared.stop.Stop.{Stop}
use Rattle.fd_rowfile.specs.declared.stop.Stop.TheVariants as stop

-- ---- numbers

abbrev pub clipped : ℤ → ℤ
clipped (pos n) = pos (min n (2 ^ 63 - 1))
clipped (negsuc n) = negsuc (min n (2 ^ 63 - 1))

abbrev pub clipped_place : ℕ → ℕ
clipped_place p = min p (2 ^ 64 - 1)

abbrev pub clipped_pair : ℕ × ℤ → ℕ × ℤ
clipped_pair p = (clipped_place p.0, clipped p.1)

abbrev pub clipped_pairs : List (ℕ × ℤ) → List (ℕ × ℤ)
clipped_pairs pairs = map clipped_pair pairs

abbrev pub clipped_row : Row → Row
clipped_row r = record {
  height = r.height;
  derived = record {
    equations = clipped_pairs r.derived.equations;
    others = clipped_pairs r.derived.others;
    left = clipped_pairs r.derived.left;
  };
}

abbrev pub held_row : HeldRow → Row
held_row r = record { height = r.height; derived = derived_row r.row }

-- ---- pairs

abbrev pub fits : Fit → ℕ → Bool
fits the.Anywhere p = is_anywhere p
fits (the.Below n) p = is_below n p
fits (the.Beside n pivot) p = is_beside n pivot p

-- a number of a place from j on that fits, and a number that isn't 0
abbrev pub is_next_at : (ℕ → Bool) → ℕ → ℤ → ℤ → Bool
is_next_at fit j (pos p) z = is_next fit j p z
is_next_at fit j (negsuc p) z = false

-- the pair is the next, and held behind the others
pub record IsPut (fit : ℕ → Bool) (j : ℕ) (place z : ℤ) (behind : ℕ) (old new : List (ℕ × ℤ)) : Type 0 where
  pub next : is_next_at fit j place z ≡ true
  pub behind_is : behind ≡ count_of place + 1
  pub added : new ≡ old ++ clipped_pair (count_of place, z) ∷ []

-- pairs are read of all numbers, which leave the rest, and held behind others
pub record TakesPairs (read : List ℤ → Option (List (ℕ × ℤ) × List ℤ)) (all rest : Option (List ℤ)) (old new : List (ℕ × ℤ))
    : Type 0 where
  pub pairs : List (ℕ × ℤ)
  pub same : option_and_then read all ≡ option_map (λ zs. (pairs, zs)) rest
  pub held : new ≡ old ++ clipped_pairs pairs

-- ---- rows

-- the row that is read is held
pub record IsRowOf (read : Option Row) (held : HeldRow) : Type 0 where
  pub row : Row
  pub same : read ≡ Some row
  pub held_is : held_row held ≡ clipped_row row

-- the row of the first of these lines is read and held
pub record IsRowStep (step : Result (Option (Row × List Line)) (List Line)) (held : HeldRow) (rest : List Line) : Type 0 where
  pub row : Row
  pub same : step ≡ Ok (Some (row, rest))
  pub held_is : held_row held ≡ clipped_row row

-- ---- lines

-- why nothing was read: want of memory, or the grammar refuses lines from the first of these on
abbrev pub Stops : {Y : Type 0} → Stop → Result Y (List Line) → Type 0
Stops stop.NoMemory read = Unit {0}
Stops (stop.Refused at) read = read ≡ Err (lines_of at.now)

-- an answer, of which this is seen, is what the grammar reads
abbrev pub Reads : {Y Z : Type 0} → (Z → Y) → Result Z Stop → Result Y (List Line) → Type 0
Reads seen (Ok z) read = read ≡ Ok (seen z)
Reads seen (Err e) read = Stops e read

-- rows that are read and held, and the lines behind them
pub record AreRows (read : Result (List Row × List Line) (List Line)) (held : List HeldRow) (rest : List Line) : Type 0 where
  pub rows : List Row
  pub same : read ≡ Ok (rows, rest)
  pub held_are : map held_row held ≡ map clipped_row rows

-- a block that is read and held, and the lines behind it
pub record IsBlock (read : Result (Block × List Line) (List Line)) (held : HeldBlock) (rest : List Line) : Type 0 where
  pub block : Block
  pub same : read ≡ Ok (block, rest)
  pub head_is : head held.head ≡ (block.number, block.hour, block.round, block.size)
  pub divisor : held.divisor ≡ block.divisor
  pub parts : map part held.parts.items ≡ block.parts
  pub rows : map held_row held.rows.items ≡ map clipped_row block.rows
  pub bounds : map bound held.bounds.items ≡ block.bounds
  pub acts : map act held.acts.items ≡ block.acts

-- Laws of the grammar of a block.
use Rattle.std.specs.Prelude.{◌≡◌, ℕ, List, [], ◌∷◌, ◌++◌, None, Ok, Err}
use Rattle.std.specs.List.{AllByRecursion}
use Rattle.fd_lines.specs.Numbered.{with_first}
use Rattle.fd_lines.specs.WordLines.{IsLine, Line, lines_of}
use Rattle.fd_rowfile.specs.Blocks.{Block, IsSized, act_in, block_at, block_bytes, block_lines, lines_behind_rows, row_in}

-- the first line, if there is one, is no row line
abbrev pub IsBehindRows : List Line → Type 0
IsBehindRows [] = Unit {0}
IsBehindRows (l ∷ lines) = row_in l ≡ None

-- the first line, if there is one, is no act
abbrev pub IsBehindActs : List Line → Type 0
IsBehindActs [] = Unit {0}
IsBehindActs (l ∷ lines) = act_in l ≡ None

-- each number of its lines can be written
abbrev pub IsWritable : Block → Type 0
IsWritable b = AllByRecursion IsLine (block_lines b)

-- the lines are those of a block of the right sizes, and then these: its rows end, and so do its acts
pub record Spells (lines : List Line) (b : Block) (rest : List Line) : Type 0 where
  pub lines_are : lines ≡ block_lines b ++ rest
  pub sized : IsSized b
  pub rows_end : IsBehindRows (lines_behind_rows b ++ rest)
  pub acts_end : IsBehindActs rest

-- no block begins these lines
abbrev pub BeginNoBlock : List Line → Type 0
BeginNoBlock lines =
    (b : Block) (rest : List Line) → IsSized b → IsBehindRows (lines_behind_rows b ++ rest) → lines ≡ block_lines b ++ rest → ⊥

-- some block begins so
pub record BeginsBlock (front : List Line) : Type 0 where
  pub block : Block
  pub sized : IsSized block
  pub more : List Line
  pub lines_are : block_lines block ≡ front ++ more

-- The grammar refuses the first line of rest, or misses one there: what stands before it begins a block, and with it,
-- whatever may follow, begins none.
pub record Refuses (lines rest : List Line) : Type 0 where
  pub front : List Line
  pub lines_are : lines ≡ front ++ rest
  pub begins : BeginsBlock front
  pub refused : (more : List Line) → BeginNoBlock (front ++ with_first rest more)

-- what is written is read as exactly that block, and what is read as a block is what is written of it; a refused line is
-- the first with which no block begins
pub record BlockLaw : Type 0 where
  pub again : (b : Block) (rest : List Line) → IsSized b → IsBehindRows (lines_behind_rows b ++ rest) → IsBehindActs rest
      → block_at (block_lines b ++ rest) ≡ Ok (b, rest)
  pub found : (lines : List Line) (b : Block) (rest : List Line) → block_at lines ≡ Ok (b, rest) → Spells lines b rest
  pub refused : (lines rest : List Line) → block_at lines ≡ Err rest → Refuses lines rest
  pub one_refused : (lines a b : List Line) → Refuses lines a → Refuses lines b → a ≡ b

-- the bytes of a block are read as it and as nothing else; and bytes that are read as a block are its bytes and then
-- others
pub record TextLaw : Type 0 where
  pub again : (b : Block) (tail : List ℕ) → IsSized b → IsWritable b → IsBehindRows (lines_behind_rows b ++ lines_of tail)
      → IsBehindActs (lines_of tail) → block_at (lines_of (block_bytes b ++ tail)) ≡ Ok (b, lines_of tail)
  pub found : (bytes : List ℕ) (b : Block) (rest : List Line) → block_at (lines_of bytes) ≡ Ok (b, rest)
      → (tail : List ℕ) × (bytes ≡ block_bytes b ++ tail) × (lines_of tail ≡ rest)

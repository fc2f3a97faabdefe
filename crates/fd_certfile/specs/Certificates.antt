-- A whole certificate: its version, its blocks, and how it ends.
use Rattle.std.specs.Prelude.{◌≡◌, ℕ, ℤ, pos, negsuc, ◌+◌, ◌==◌, List, [], ◌∷◌, ◌++◌, length, Option, Some, None, Ok, Err, if◌then◌else◌}
use Rattle.fd_certfile.specs.Lines.{Line, header, end, bytes_of}
use Rattle.fd_certfile.specs.Blocks.{Version, Whole, Sparse, Block, block_lines, block_at, IsSized, IsWritable}

-- blocks in order, and how they end
pub data Certificate : Type 0 where
  -- with the line `end`, behind which nothing stands
  ends : Certificate
  -- with the line `end`, behind which something stands
  trails : Certificate
  -- the grammar refuses a line, or misses one, behind so many lines of a block that begins here; behind none, no block
  -- begins here
  refuses : ℕ → Certificate
  gives : Block → Certificate → Certificate

-- no certificate ends here
abbrev pub IsNoEnd : List Line → Type 0
IsNoEnd (end ∷ lines) = ⊥
IsNoEnd lines = Unit {0}

-- a block is refused behind so many lines
pub record RefusedBehind (v : Version) (lines : List Line) (count : ℕ) : Type 0 where
  pub rest : List Line
  pub refused : block_at v lines ≡ Err rest
  pub behind : length lines ≡ count + length rest
  pub no_end : IsNoEnd lines

-- the lines behind the first line are those of a certificate
abbrev pub Reads : Version → List Line → Certificate → Type 0
Reads v lines ends = lines ≡ end ∷ []
Reads v lines trails = (line : Line) × (more : List Line) × (lines ≡ end ∷ line ∷ more)
Reads v lines (refuses count) = RefusedBehind v lines count
Reads v lines (gives b certificate) = (rest : List Line) × (block_at v lines ≡ Ok (b, rest)) × Reads v rest certificate

-- the version of a number
abbrev pub version_of : ℤ → Option Version
version_of (pos n) = if n == 1 then Some Whole else if n == 2 then Some Sparse else None
version_of (negsuc n) = None

abbrev pub version_number : Version → ℤ
version_number Whole = pos 1
version_number Sparse = pos 2

-- the version that the first line names
abbrev pub version_in : List Line → Option Version
version_in (header number ∷ lines) = version_of number
version_in lines = None

-- the lines behind the first
abbrev pub behind_first : List Line → List Line
behind_first [] = []
behind_first (line ∷ lines) = lines

-- how many lines a block has, in either version
abbrev pub lines_count : Block → ℕ
lines_count b = 1 + (length b.parts + (length b.inverse + length b.acts))

-- ---- what a certificate is written as

-- it ends with `end` and nothing behind it, and its blocks can be written
abbrev pub IsWhole : Certificate → Type 0
IsWhole ends = Unit {0}
IsWhole trails = ⊥
IsWhole (refuses count) = ⊥
IsWhole (gives b certificate) = IsSized b × IsWritable b × IsWhole certificate

abbrev pub blocks_of : Certificate → List Block
blocks_of (gives b certificate) = b ∷ blocks_of certificate
blocks_of other = []

abbrev pub lines_behind : Version → List Block → List Line
lines_behind v [] = end ∷ []
lines_behind v (b ∷ blocks) = block_lines v b ++ lines_behind v blocks

abbrev pub certificate_lines : Version → List Block → List Line
certificate_lines v blocks = header (version_number v) ∷ lines_behind v blocks

abbrev pub certificate_bytes : Version → List Block → List ℕ
certificate_bytes v blocks = bytes_of (certificate_lines v blocks)

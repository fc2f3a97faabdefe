-- Laws of the grammar.
use Rattle.std.specs.Prelude.{◌≡◌, ℤ, ℕ, List, ◌++◌, length, Some, Ok, Err}
use Rattle.std.specs.List.{AllByRecursion}
pub use Rattle.fd_lines.specs.Laws.{NumberLaw}
use Rattle.fd_certfile.specs.Lines.{Line, text_of, bytes_of, line_of, lines_of, IsKnown, IsLine}
use Rattle.fd_certfile.specs.Blocks.{Version, Whole, Sparse, Block, fields_of, row_of, block_lines, block_bytes, block_at, IsSized, IsBehindActs, IsWritable, Spells, Refuses}
use Rattle.fd_certfile.specs.Certificates.{Certificate, Reads, IsWhole, blocks_of, lines_behind, certificate_lines, certificate_bytes}

-- a line in the grammar is read from its text, and from no other; what is written before other bytes is read before
-- their lines
pub record LineLaw : Type 0 where
  pub again : (line : Line) → IsLine line → line_of (text_of line) ≡ line
  pub found : (text : List ℕ) → IsKnown (line_of text)
      → (text ≡ text_of (line_of text)) × IsLine (line_of text)
  pub many : (lines : List Line) (tail : List ℕ) → AllByRecursion IsLine lines
      → lines_of (bytes_of lines ++ tail) ≡ lines ++ lines_of tail

-- the entries of a row are read from what a version has of them, and from nothing else
pub record RowLaw : Type 0 where
  pub again : (v : Version) (entries : List ℤ)
      → row_of v (length entries) (fields_of v entries) ≡ Some entries
  pub found : (v : Version) (n : ℕ) (fields entries : List ℤ) → row_of v n fields ≡ Some entries
      → (length entries ≡ n) × (fields ≡ fields_of v entries)

-- what is written is read as exactly that block, and what is read as a block is what is written of it; a refused line
-- is the first with which no block begins
pub record BlockLaw : Type 0 where
  pub again : (v : Version) (b : Block) (rest : List Line) → IsSized b → IsBehindActs rest
      → block_at v (block_lines v b ++ rest) ≡ Ok (b, rest)
  pub found : (v : Version) (lines : List Line) (b : Block) (rest : List Line) → block_at v lines ≡ Ok (b, rest)
      → Spells v lines b rest
  pub refused : (v : Version) (lines rest : List Line) → block_at v lines ≡ Err rest → Refuses v lines rest
  pub one_refused : (v : Version) (lines a b : List Line) → Refuses v lines a → Refuses v lines b → a ≡ b
  pub as_long : (b : Block) → length (block_lines Whole b) ≡ length (block_lines Sparse b)

-- the bytes of a block are read as it and as nothing else, before whatever lines that are no acts; and bytes that are
-- read as a block are its bytes and then others
pub record TextLaw : Type 0 where
  pub again : (v : Version) (b : Block) (tail : List ℕ) → IsSized b → IsWritable b → IsBehindActs (lines_of tail)
      → block_at v (lines_of (block_bytes v b ++ tail)) ≡ Ok (b, lines_of tail)
  pub found : (v : Version) (bytes : List ℕ) (b : Block) (rest : List Line)
      → block_at v (lines_of bytes) ≡ Ok (b, rest)
      → (tail : List ℕ) × (bytes ≡ block_bytes v b ++ tail) × (lines_of tail ≡ rest)

-- Lines are those of exactly one certificate. The lines of one that is whole are read as it, in either version, and
-- are as many.
pub record CertificateLaw : Type 0 where
  pub some : (v : Version) (lines : List Line) → (c : Certificate) × Reads v lines c
  pub one : (v : Version) (lines : List Line) (a b : Certificate) → Reads v lines a → Reads v lines b → a ≡ b
  pub again : (v : Version) (c : Certificate) → IsWhole c
      → (lines_of (certificate_bytes v (blocks_of c)) ≡ certificate_lines v (blocks_of c))
      × Reads v (lines_behind v (blocks_of c)) c
  pub as_long : (a b : Version) (c : Certificate)
      → length (certificate_lines a (blocks_of c)) ≡ length (certificate_lines b (blocks_of c))

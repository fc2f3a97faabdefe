-- A block that is read ahead, as contracts see it.
use Rattle.std.specs.Prelude.{◌≡◌, ℕ, List, map, Result, Ok, Err}
use Rattle.fd_certfile.specs.Blocks.{Version, Block, acts_at, block_at, is_place}
use Rattle.fd_certfile.specs.Certificates.{lines_count}
use Rattle.fd_certfile.specs.Lines.{Line, lines_of}
use Rattle.fd_certfile.specs.Readings.{Fails, cells_of, kept}
use Rattle.fd_certfile.specs.Views.{part}
use Rattle.fd_certfile.specs.declared.ahead.Ahead.{Ahead}
use Rattle.fd_certfile.specs.declared.fault.Stop.{Stop}

-- These lines are those of a block and then others. What was read ahead has its numbers, and its unknowns and entries
-- where its size is the one that is due.
pub record IsAhead (v : Version) (due : ℕ) (lines : List Line) (x : Ahead) : Type 0 where
  pub block : Block
  pub same : block_at v lines ≡ Ok (block, lines_of x.rest.now)
  pub number : x.head.number ≡ block.number
  pub hour : x.head.hour ≡ block.hour
  pub round : x.head.round ≡ block.round
  pub size : x.head.size ≡ block.size
  pub parts : map part x.parts.items ≡ kept (is_place due block.size) block.parts
  pub cells : x.cells ≡ kept (is_place due block.size) (cells_of block.inverse)
  pub acts : (acts_at (lines_of x.acts.now)).0 ≡ block.acts
  pub count : x.lines ≡ lines_count block

abbrev pub GivesAhead : Version → ℕ → Result Ahead Stop → List Line → Type 0
GivesAhead v due (Ok x) lines = IsAhead v due lines x
GivesAhead v due (Err stop) lines = Fails stop lines (block_at v lines)

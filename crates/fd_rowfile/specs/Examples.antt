-- Small cases of the grammar, with the answers of an independent exact model.
use Rattle.std.specs.Prelude.{◌≡◌, ℤ, pos, negsuc, codes, List, [], ◌∷◌, Some, None, Ok, Err}
use Rattle.fd_lines.specs.WordLines.{Line, line, other}
use Rattle.fd_rowfile.specs.Blocks.{Block, Row, block_at, row_of}

-- 7 times equation 0, less -2 times row 0 and 4 times row 6, leaves -3 at unknown 1 and 8 at unknown 0
abbrev pub a_row : Row
a_row = record {
  height = pos 5;
  derived = record {
    equations = (0, pos 7) ∷ [];
    others = (0, negsuc 1) ∷ (6, pos 4) ∷ [];
    left = (1, negsuc 2) ∷ (0, pos 8) ∷ [];
  };
}

-- a row of which the numbers behind the height, an equation and no other row are these
abbrev pub leaving : List ℤ → List ℤ
leaving numbers = pos 5 ∷ pos 1 ∷ pos 0 ∷ pos 7 ∷ pos 0 ∷ numbers

pub record RowCases : Type 0 where
  pub read : row_of 2 (pos 5 ∷ pos 1 ∷ pos 0 ∷ pos 7 ∷ pos 2 ∷ pos 0 ∷ negsuc 1 ∷ pos 6 ∷ pos 4 ∷ pos 2 ∷ pos 1 ∷ negsuc 2 ∷ pos 0 ∷ pos 8 ∷ [])
      ≡ Some a_row
  pub nothing_left : row_of 2 (leaving (pos 0 ∷ [])) ≡ None
  pub entry_zero : row_of 2 (leaving (pos 1 ∷ pos 1 ∷ pos 0 ∷ [])) ≡ None
  pub pivot_twice : row_of 2 (leaving (pos 2 ∷ pos 1 ∷ pos 3 ∷ pos 1 ∷ pos 8 ∷ [])) ≡ None
  pub past_end : row_of 2 (leaving (pos 1 ∷ pos 2 ∷ pos 3 ∷ [])) ≡ None
  pub out_of_order : row_of 4 (leaving (pos 3 ∷ pos 1 ∷ pos 3 ∷ pos 2 ∷ pos 8 ∷ pos 0 ∷ pos 8 ∷ [])) ≡ None
  pub fewer : row_of 2 (leaving (pos 2 ∷ pos 1 ∷ pos 3 ∷ [])) ≡ None
  pub more : row_of 2 (leaving (pos 1 ∷ pos 1 ∷ pos 3 ∷ pos 9 ∷ [])) ≡ None
  pub negative_count : row_of 2 (leaving (negsuc 0 ∷ pos 1 ∷ pos 3 ∷ [])) ≡ None

-- a block of one unknown up to its rows, and one of none
abbrev pub one_unknown : List Line → List Line
one_unknown rows = line (codes "solution") (pos 1 ∷ pos 0 ∷ pos 0 ∷ pos 1 ∷ [])
    ∷ line (codes "box") (pos 200 ∷ []) ∷ line (codes "x") (pos 0 ∷ pos 9 ∷ pos 2 ∷ pos 1 ∷ []) ∷ rows

abbrev pub no_unknown : List Line → List Line
no_unknown rows = line (codes "solution") (pos 1 ∷ pos 0 ∷ pos 0 ∷ pos 0 ∷ []) ∷ line (codes "box") (pos 200 ∷ []) ∷ rows

abbrev pub its_row : Line
its_row = line (codes "row") (pos 0 ∷ leaving (pos 1 ∷ pos 0 ∷ negsuc 2 ∷ []))

abbrev pub behind_rows : List Line
behind_rows = line (codes "bound") (pos 0 ∷ pos 0 ∷ pos 4 ∷ []) ∷ line (codes "act") (pos 15000 ∷ pos 0 ∷ negsuc 0 ∷ [])
    ∷ line (codes "end") [] ∷ []

abbrev pub its_block : Block
its_block = record {
  number = pos 1;
  hour = pos 0;
  round = pos 0;
  size = pos 1;
  divisor = pos 200;
  parts = record { centre = pos 9; radius = pos 2; mismatch = pos 1 } ∷ [];
  rows = record {
    height = pos 5;
    derived = record { equations = (0, pos 7) ∷ []; others = []; left = (0, negsuc 2) ∷ [] };
  } ∷ [];
  bounds = record { row = pos 0; bound = pos 4 } ∷ [];
  acts = record { time = pos 15000; control = pos 0; steps = negsuc 0 } ∷ [];
}

pub record BlockCases : Type 0 where
  pub whole : block_at (one_unknown (its_row ∷ behind_rows)) ≡ Ok (its_block, line (codes "end") [] ∷ [])
  -- a row with the number of another is refused at its line
  pub other_row : block_at (one_unknown (its_row ∷ its_row ∷ behind_rows)) ≡ Err (its_row ∷ behind_rows)
  -- a line of another form ends the rows, and a bound is missing there
  pub no_bound : block_at (one_unknown (its_row ∷ other ∷ behind_rows)) ≡ Err (other ∷ behind_rows)
  -- no unknown, no row: a row line is refused, and a line of another form stands behind the block
  pub row_of_none : block_at (no_unknown (its_row ∷ [])) ≡ Err (its_row ∷ [])
  pub none : block_at (no_unknown (other ∷ [])) ≡ Ok (
    record {
      number = pos 1;
      hour = pos 0;
      round = pos 0;
      size = pos 0;
      divisor = pos 200;
      parts = [];
      rows = [];
      bounds = [];
      acts = [];
    },
    other ∷ [],
  )

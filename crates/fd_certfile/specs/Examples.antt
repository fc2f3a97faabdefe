-- Small cases of the grammar, with the answers of an independent exact model.
use Rattle.std.specs.Prelude.{◌≡◌, ℤ, pos, negsuc, List, [], ◌∷◌, Some, None, Ok, Err}
use Rattle.fd_certfile.specs.Lines.{Line, solution, state, row, act, end, other}
use Rattle.fd_certfile.specs.Blocks.{Whole, Sparse, Block, row_of, block_at}

-- the entries 0, 5, 0, -7
abbrev pub a_row : List ℤ
a_row = pos 0 ∷ pos 5 ∷ pos 0 ∷ negsuc 6 ∷ []

pub record SparseRows : Type 0 where
  pub read : row_of Sparse 4 (pos 2 ∷ pos 1 ∷ pos 5 ∷ pos 3 ∷ negsuc 6 ∷ []) ≡ Some a_row
  pub zeros : row_of Sparse 3 (pos 0 ∷ []) ≡ Some (pos 0 ∷ pos 0 ∷ pos 0 ∷ [])
  pub nothing : row_of Sparse 3 [] ≡ None
  pub entry_zero : row_of Sparse 4 (pos 1 ∷ pos 1 ∷ pos 0 ∷ []) ≡ None
  pub out_of_order : row_of Sparse 4 (pos 2 ∷ pos 3 ∷ pos 5 ∷ pos 1 ∷ pos 5 ∷ []) ≡ None
  pub twice : row_of Sparse 4 (pos 2 ∷ pos 1 ∷ pos 5 ∷ pos 1 ∷ pos 5 ∷ []) ≡ None
  pub past_end : row_of Sparse 4 (pos 1 ∷ pos 4 ∷ pos 5 ∷ []) ≡ None
  pub negative_place : row_of Sparse 4 (pos 1 ∷ negsuc 0 ∷ pos 5 ∷ []) ≡ None
  pub fewer : row_of Sparse 4 (pos 2 ∷ pos 1 ∷ pos 5 ∷ []) ≡ None
  pub more : row_of Sparse 4 (pos 1 ∷ pos 1 ∷ pos 5 ∷ pos 3 ∷ negsuc 6 ∷ []) ≡ None
  pub no_entry : row_of Sparse 4 (pos 1 ∷ pos 1 ∷ []) ≡ None

-- one unknown, an act, and `end`
abbrev pub one_unknown : List Line → List Line
one_unknown rows = solution (pos 1) (pos 0) (pos 0) (pos 1) ∷ state (pos 0) (pos 9) (pos 2) (pos 1) ∷ rows

abbrev pub its_block : Block
its_block = record {
  number = pos 1;
  hour = pos 0;
  round = pos 0;
  size = pos 1;
  parts = record { centre = pos 9; radius = pos 2; mismatch = pos 1 } ∷ [];
  inverse = (pos 3 ∷ []) ∷ [];
  acts = record { time = pos 15000; control = pos 0; steps = negsuc 0 } ∷ [];
}

abbrev pub an_act : List Line
an_act = act (pos 15000) (pos 0) (negsuc 0) ∷ end ∷ []

pub record BlockCases : Type 0 where
  pub whole : block_at Whole (one_unknown (row (pos 0 ∷ pos 3 ∷ []) ∷ an_act)) ≡ Ok (its_block, end ∷ [])
  pub sparse : block_at Sparse (one_unknown (row (pos 0 ∷ pos 1 ∷ pos 0 ∷ pos 3 ∷ []) ∷ an_act))
      ≡ Ok (its_block, end ∷ [])
  -- a row of the other version is refused at its line, and so is one with another place
  pub other_version : block_at Whole (one_unknown (row (pos 0 ∷ pos 1 ∷ pos 0 ∷ pos 3 ∷ []) ∷ an_act))
      ≡ Err (row (pos 0 ∷ pos 1 ∷ pos 0 ∷ pos 3 ∷ []) ∷ an_act)
  pub other_place : block_at Whole (one_unknown (row (pos 1 ∷ pos 3 ∷ []) ∷ an_act))
      ≡ Err (row (pos 1 ∷ pos 3 ∷ []) ∷ an_act)
  -- a missing line is refused at the end
  pub missing : block_at Whole (one_unknown []) ≡ Err []
  -- a block of no unknowns, and one of fewer than none, has no lines of them
  pub negative : block_at Whole (solution (pos 1) (pos 0) (pos 0) (negsuc 4) ∷ other ∷ [])
      ≡ Ok (
        record {
          number = pos 1;
          hour = pos 0;
          round = pos 0;
          size = negsuc 4;
          parts = [];
          inverse = [];
          acts = [];
        },
        other ∷ [],
      )

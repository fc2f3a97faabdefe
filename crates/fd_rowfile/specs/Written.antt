-- The block that is written of a claim of derived rows.
use Rattle.std.specs.Prelude.{◌≡◌, ◌<◌, ◌^◌, ℕ, pos, List, map, length}
use Rattle.std.specs.List.{All, zip}
use Rattle.fd_derived.specs.Rows.{derived_row}
use Rattle.fd_derived.specs.declared.entries.Claim.{Claim}
use Rattle.fd_derived.specs.declared.entries.Row.{Row as Derived}
use Rattle.fd_lines.specs.WordLines.{line_bytes}
use Rattle.fd_rowfile.specs.Blocks.{Block, Bound, Row, block_lines}
use Rattle.fd_rowfile.specs.Views.{act, part}
use Rattle.fd_rowfile.specs.declared.data.Act.{Act}
use Rattle.fd_rowfile.specs.declared.data.Part.{Part}

-- a row with its height
abbrev pub made_row : Derived × ℕ → Row
made_row p = record { height = pos p.1; derived = derived_row p.0 }

-- the number of a row with a bound
abbrev pub made_bound : ℕ × ℕ → Bound
made_bound p = record { row = pos p.0; bound = pos p.1 }

-- the block of a settle's number, an hour, a round and the divisor of a box, with what is claimed of the unknowns
abbrev pub block_of : ℕ → ℕ → ℕ → ℕ → List Part → Claim → List Act → Block
block_of number hour round divisor parts claim acts = record {
  number = pos number;
  hour = pos hour;
  round = pos round;
  size = pos (length parts);
  divisor = pos divisor;
  parts = map part parts;
  rows = map made_row (zip claim.rows.items claim.heights.items);
  bounds = map made_bound (zip claim.bounding.items claim.bounds.items);
  acts = map act acts;
}

-- a height for each row, and a row and a bound for each of so many unknowns, all less than 2^127
pub record IsClaimOf (n : ℕ) (claim : Claim) : Type 0 where
  pub heights : length claim.heights.items ≡ length claim.rows.items
  pub bounding : length claim.bounding.items ≡ n
  pub bounds : length claim.bounds.items ≡ n
  pub low_heights : All (λ h. h < 2 ^ 127) claim.heights.items
  pub low_bounds : All (λ b. b < 2 ^ 127) claim.bounds.items

-- these pieces are the lines of a block, one each
abbrev pub AreLinesOf : List (List ℕ) → Block → Type 0
AreLinesOf pieces b = pieces ≡ map line_bytes (block_lines b)

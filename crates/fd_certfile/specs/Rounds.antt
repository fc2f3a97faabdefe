-- The block of a round of a settle.
use Rattle.std.specs.Prelude.{◌≡◌, ℕ, ◌<◌, ◌≤◌, ◌^◌, pos, nat_abs, [], ◌∷◌, length, map, ◌++◌, Ok, List, ℤ}
use Rattle.std.specs.List.{AllByRecursion, concat}
use Rattle.fd_settle.specs.fd_exact.States.{part}
use Rattle.fd_settle.specs.fd_equations.Rounded.{list_of}
use Rattle.fd_settle.specs.fd_enclosure.Sound.{Claim, HasInverse, greatest_mismatch, inverse_in, number_at}
use Rattle.fd_settle.specs.fd_cert.Claims.{claim_in, support_in}
use Rattle.fd_settle.specs.declared.round.Act.{Act as Made}
use Rattle.fd_settle.specs.declared.round.Round.{Round}
use Rattle.fd_lines.specs.Numbers.{IsNumber}
use Rattle.fd_certfile.specs.Blocks.{Act, Block, Part, Sparse, IsBehindActs, block_at, block_lines, part_line, row_line}
use Rattle.fd_settle.specs.fd_mat.Rows.{row_of}
use Rattle.fd_certfile.specs.Lines.{line_bytes, lines_of}

-- what is claimed of the unknown and the row at a place
abbrev pub part_in : Claim → ℕ → Part
part_in m i = record {
  centre = part m.centre i;
  radius = pos (number_at m.radii i);
  mismatch = pos (number_at m.mismatches i);
}

-- an act by its time, its control and its steps
abbrev pub act_of : Made → Act
act_of a = record { time = pos a.time; control = pos a.control; steps = a.steps }

-- its numbers can be written
abbrev pub AreNumbers : Act → Type 0
AreNumbers a = AllByRecursion IsNumber (a.time ∷ a.control ∷ a.steps ∷ [])

-- the rows of its inverse, where an inverse shows it
abbrev pub rows_in : Round → List (List ℤ)
rows_in made = inverse_in (support_in made.certified.value.support)

-- the block of a round in a network of this size: of this settle in the run and this hour, the round that comes so many
-- rounds after the settle's first
abbrev pub block_of : ℕ → ℕ → ℕ → ℕ → Round → Block
block_of size number hour round made = record {
  number = pos number;
  hour = pos hour;
  round = pos round;
  size = pos size;
  parts = list_of size (part_in (claim_in made.certified.value));
  inverse = rows_in made;
  acts = map act_of made.acts.items;
}

-- the lines of an unknown and of a row, as bytes
abbrev pub part_bytes : Claim → ℕ → List ℕ
part_bytes m i = line_bytes (part_line i (part_in m i))

abbrev pub row_bytes : List (List ℤ) → ℕ → List ℕ
row_bytes rows i = line_bytes (row_line Sparse i (row_of rows i))

-- these pieces are the lines of a block in version 2, one each
abbrev pub AreLinesOf : List (List ℕ) → Block → Type 0
AreLinesOf pieces b = pieces ≡ map line_bytes (block_lines Sparse b)

-- they are read as exactly that block, whatever lines that are no acts follow
abbrev pub AreReadAs : List (List ℕ) → Block → Type 0
AreReadAs pieces b = (tail : List ℕ) → IsBehindActs (lines_of tail)
    → block_at Sparse (lines_of (concat pieces ++ tail)) ≡ Ok (b, lines_of tail)

-- what is claimed by an inverse in a network of this size, with numbers that are within those of a certificate
pub record IsClaimOf (size : ℕ) (m : Claim) : Type 0 where
  pub centre_long : length m.centre ≡ size
  pub radii_long : length m.radii ≡ size
  pub mismatches_long : length m.mismatches ≡ size
  pub inverse : HasInverse size m.support
  pub centre : (i : ℕ) → i < size → nat_abs (part m.centre i) ≤ 2 ^ 40
  pub radii : (i : ℕ) → i < size → number_at m.radii i ≤ 2 ^ 40
  pub mismatches : (i : ℕ) → i < size → number_at m.mismatches i ≤ greatest_mismatch

-- a round of such a network
abbrev pub IsRoundOf : ℕ → Round → Type 0
IsRoundOf size made = IsClaimOf size (claim_in made.certified.value)

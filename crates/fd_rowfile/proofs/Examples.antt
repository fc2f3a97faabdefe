-- The small cases compute.
use Rattle.std.proofs.Common.{refl}
use Rattle.fd_rowfile.specs.Blocks.{block_at}
use Rattle.fd_rowfile.specs.Examples.{BlockCases, RowCases}

pub row_cases : RowCases
row_cases = record {
  read = refl;
  nothing_left = refl;
  entry_zero = refl;
  pivot_twice = refl;
  past_end = refl;
  out_of_order = refl;
  fewer = refl;
  more = refl;
  negative_count = refl;
}

pub block_cases : BlockCases
unfolding block_at
block_cases = record { whole = refl; other_row = refl; no_bound = refl; row_of_none = refl; none = refl }

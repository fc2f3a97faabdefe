-- The laws of the grammar; the small cases compute.
use Rattle.std.proofs.Common.{refl}
use Rattle.fd_certfile.specs.Laws.{LineLaw, RowLaw, BlockLaw}
use Rattle.fd_certfile.specs.Examples.{SparseRows, BlockCases}
use Rattle.fd_certfile.specs.Blocks.{block_at}
use Rattle.fd_certfile.specs.Rules.{first_broken}
use Rattle.fd_certfile.specs.RuleExamples.{VerdictCases, RuleCases}
use Rattle.fd_certfile.proofs.Lines.{line_again, line_found, lines_again}
use Rattle.fd_certfile.proofs.RowForms.{row_again, row_found}
use Rattle.fd_certfile.proofs.Blocks.{block_only, block_found, as_long}
use Rattle.fd_certfile.proofs.Refused.{block_refused}
use Rattle.fd_certfile.proofs.Unique.{one_refused}

pub line_law : LineLaw
line_law = record { again = line_again; found = line_found; many = lines_again }

pub row_law : RowLaw
row_law = record { again = λ v entries. row_again v _ entries refl; found = row_found }

pub block_law : BlockLaw
block_law = record { again = block_only; found = block_found; refused = block_refused; one_refused = one_refused; as_long = as_long }

pub sparse_rows : SparseRows
sparse_rows = record {
  read = refl;
  zeros = refl;
  nothing = refl;
  entry_zero = refl;
  out_of_order = refl;
  twice = refl;
  past_end = refl;
  negative_place = refl;
  fewer = refl;
  more = refl;
  no_entry = refl;
}

pub block_cases : BlockCases
unfolding block_at
block_cases = record { whole = refl; sparse = refl; other_version = refl; other_place = refl; missing = refl; negative = refl }

pub verdict_cases : VerdictCases
unfolding first_broken
verdict_cases = record {
  whole = refl;
  nothing = refl;
  missing = refl;
  left = refl;
  trailing = refl;
  trailing_early = refl;
  no_line = refl;
  left_broken = refl;
  due_broken = refl;
  earlier = refl;
}

pub rule_cases : RuleCases
unfolding first_broken
rule_cases = record {
  size = refl;
  centre = refl;
  centre_at = refl;
  entry = refl;
  negative_radius = refl;
  mismatch_low = refl;
  mismatch_high = refl;
  mismatch_at = refl;
  bound_first = refl;
  radius = refl;
  undecided_first = refl;
  acts = refl;
  acts_before_limit = refl;
  limit = refl;
}

use Rattle.std.proofs.Common.{◌≡◌, drop}
use Rattle.dss_model.specs.Answers.{each}
use Rattle.dss_values.specs.Forms.{number_of_cell}
use Rattle.dss_model.proofs.CallerLemmas.dss_lexer.{after}
use Rattle.dss_values.proofs.arrays.numbers_of_cells.Given as goal

abbrev pub invariant-loop-cell : goal.invariant-loop-cell
invariant-loop-cell l = after l.numbers.items (each number_of_cell (drop l.cell-index l.cells)) ≡ each number_of_cell l.cells

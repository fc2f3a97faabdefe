use Rattle.std.proofs.Common.{◌≡◌, drop}
use Rattle.dss_model.specs.Answers.{each}
use Rattle.dss_model.specs.Names.{rows}
use Rattle.dss_values.specs.Forms.{named_cell}
use Rattle.dss_model.proofs.CallerLemmas.dss_lexer.{after}
use Rattle.dss_values.proofs.arrays.choices_of_cells.Given as goal

abbrev pub invariant-loop-cell : goal.invariant-loop-cell
invariant-loop-cell g l = after l.choices.items (each (named_cell (rows l.table)) (drop l.cell-index l.cells)) ≡ each (named_cell (rows l.table)) l.cells

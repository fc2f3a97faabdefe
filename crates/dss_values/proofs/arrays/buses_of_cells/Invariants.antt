use Rattle.std.proofs.Common.{◌≡◌, drop}
use Rattle.dss_model.specs.Answers.{each}
use Rattle.dss_values.specs.Forms.{bus_of_cell}
use Rattle.dss_model.proofs.CallerLemmas.dss_lexer.{after}
use Rattle.dss_values.proofs.arrays.buses_of_cells.Given as goal

abbrev pub invariant-loop-cell : goal.invariant-loop-cell
invariant-loop-cell l = after l.buses.items (each bus_of_cell (drop l.cell-index l.cells)) ≡ each bus_of_cell l.cells

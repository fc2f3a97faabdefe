-- The branches and shunts of scripted Lines and sources.
use Rattle.std.specs.Prelude.{ℕ, Bool, List}
use Rattle.fd_rungs.specs.fd_arith.declared.terms.Ends.{Ends}
use Rattle.fd_rungs.specs.dss_model.declared.line.Line.{Line}
use Rattle.fd_rungs.specs.dss_model.declared.vsource.Vsource.{Vsource}
use Rattle.fd_elements.specs.Lines.{line_data_of}
use Rattle.fd_elements.specs.Sources.{source_data_of}
use Rattle.fd_rungs.specs.declared.branch.Branch.{Branch}
use Rattle.fd_rungs.specs.declared.branch.Shunt.{Shunt}
use Rattle.fd_rungs.specs.Elements.{line_branches, line_shunts, source_branches}

abbrev pub scripted_line : Line → ℕ → Ends → Bool → List Branch
scripted_line line hertz at from_first = line_branches (line_data_of line hertz) at from_first

abbrev pub scripted_charges : Line → ℕ → Ends → List Shunt
scripted_charges line hertz at = line_shunts (line_data_of line hertz) at

abbrev pub scripted_source : Vsource → Ends → List Branch
scripted_source source at = source_branches (source_data_of source) at

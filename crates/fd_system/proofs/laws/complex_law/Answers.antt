use Rattle.fd_system.proofs.ComplexRows.{complex_row}
use Rattle.fd_system.proofs.laws.complex_law.Goals as goal

pub returns : goal.returns
returns c = complex_row

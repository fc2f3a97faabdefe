-- What the definitions see of the code's numbers.
use Rattle.std.specs.Prelude.{ℤ}
use Rattle.fd_rowfile.specs.Blocks as blocks
use Rattle.fd_rowfile.specs.declared.data.Act.{Act}
use Rattle.fd_rowfile.specs.declared.data.Bound.{Bound}
use Rattle.fd_rowfile.specs.declared.data.Head.{Head}
use Rattle.fd_rowfile.specs.declared.data.Part.{Part}

-- the numbers of a solution line
abbrev pub head : Head → ℤ × ℤ × ℤ × ℤ
head h = (h.number, h.hour, h.round, h.size)

abbrev pub part : Part → blocks.Part
part p = record { centre = p.centre; radius = p.radius; mismatch = p.mismatch }

abbrev pub bound : Bound → blocks.Bound
bound b = record { row = b.row; bound = b.bound }

abbrev pub act : Act → blocks.Act
act a = record { time = a.time; control = a.control; steps = a.steps }

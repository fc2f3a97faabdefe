use Rattle.std.proofs.Common.{◌≡◌, drop}
use Rattle.fd_fault.specs.FaultCircuit.{missing_in}
use Rattle.fd_fault.proofs.missing.missing_in.Given as goal

-- none so far is missing
abbrev pub invariant-loop-number : goal.invariant-loop-number
invariant-loop-number l = missing_in l.layout.nodes l.bus (drop l.number-index l.numbers) ≡ missing_in l.layout.nodes l.bus l.numbers

-- Faults of the procedure.
use Rattle.std.specs.Prelude.{ℕ, ◌<◌}
use Rattle.fd_inject.specs.declared.fault.SolveFault.{SolveFault}
use Rattle.fd_inject.specs.declared.fault.SolveFault.TheVariants.{NoInverse, OutOfRange, NotConverged, NoMemory}

-- P, but where memory was refused, which says nothing
abbrev pub UnlessMemory : SolveFault → Type 0 → Type 0
UnlessMemory (NoInverse column cause) P = P
UnlessMemory (OutOfRange place step) P = P
UnlessMemory (NotConverged place steps update) P = P
UnlessMemory NoMemory P = Unit {0}

-- a place or a column that a fault names is below n
abbrev pub IsInside : ℕ → SolveFault → Type 0
IsInside n (NoInverse column cause) = column < n
IsInside n (OutOfRange place step) = place < n
IsInside n (NotConverged place steps update) = place < n
IsInside n NoMemory = Unit {0}

use Rattle.std.proofs.Common.{ℕ, ◌<◌, IsSome}
use Rattle.std.specs.Map.{lookup}
use Rattle.dss_ready.specs.dss_model.SameElement.{same_element}
use Rattle.fd_fault.specs.ShortNames.{line_name}
use Rattle.fd_fault.proofs.names.free_name.Given as goal

-- a Line has each name so far
abbrev pub invariant-loop-number : goal.invariant-loop-number
invariant-loop-number l = (j : ℕ) → j < l.number → IsSome (lookup (same_element (line_name j)) l.elements.entries)

use Rattle.std.proofs.Common.{◌≡◌, ◌++◌, ◌∷◌}
use Rattle.fd_bases.specs.Bases.{based}
use Rattle.fd_bases.proofs.bus_base.based.Given as goal

-- the bases so far, and those of the buses that are left, are those of all
abbrev pub invariant-loop-bus : goal.invariant-loop-bus
invariant-loop-bus l = l.bases.items ++ based (l.first ∷ l.others) l.bus-iterator ≡ based (l.first ∷ l.others) l.fn.reached.entries

use Rattle.std.proofs.Common.{◌≡◌, drop}
use Rattle.dss_model.specs.Names.{named, rows}
use Rattle.dss_model.proofs.names.find_named.Given as goal

abbrev pub invariant-loop-known : goal.invariant-loop-known
invariant-loop-known g l = named (rows (drop l.known-index l.table)) l.name ≡ named (rows l.table) l.name

use Rattle.std.proofs.Common.{rules}
use Rattle.std.proofs.lemmas.Str.{chars-IsAscii}
use Rattle.fd_fault.proofs.names.push_number.Goals as goal

pub returns : goal.returns
returns c = search (rules, chars-IsAscii)

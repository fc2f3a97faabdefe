use Rattle.std.proofs.Common.{rules}
use Rattle.std.proofs.lemmas.Str.{chars-IsAscii}
use Rattle.dss_layout.proofs.names.push_number.Goals as goal

pub returns : goal.returns
returns c = search (rules, chars-IsAscii)

use Rattle.std.proofs.Common.{◌≡◌, ◌++◌, take}
use Rattle.fd_picture.specs.Texts.{escaped}
use Rattle.fd_picture.proofs.text.push_escaped.Given as goal

abbrev pub invariant-loop-byte : goal.invariant-loop-byte
invariant-loop-byte l = l.text.items ≡ l.initial.text.items ++ escaped (take l.byte-index l.bytes)

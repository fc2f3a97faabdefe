use Rattle.std.proofs.Common.{◌≡◌, ◌++◌, drop}
use Rattle.fd_certfile.specs.Texts.{fields_text}
use Rattle.fd_certfile.proofs.RowForms.{pairs_from}
use Rattle.fd_certfile.proofs.texts.push_entries.Given as goal

-- the text so far and that of the entries that are left
abbrev pub invariant-loop-place : goal.invariant-loop-place
invariant-loop-place l = l.text.items ++ fields_text (pairs_from l.place (drop l.place l.row)) ≡ l.fn.text.items ++ fields_text (pairs_from 0 l.row)

use Rattle.std.proofs.Common.{◌≡◌, ◌++◌, drop}
use Rattle.fd_derived.specs.Rows.{entries_of}
use Rattle.fd_lines.specs.Texts.{fields_text}
use Rattle.fd_rowfile.specs.Blocks.{list_fields}
use Rattle.fd_rowfile.proofs.RowTexts.{numbers_of_pairs}
use Rattle.fd_rowfile.proofs.texts.push_list.Given as goal

-- the text so far and that of the pairs that are left
abbrev pub invariant-loop-place : goal.invariant-loop-place
invariant-loop-place l = l.text.items ++ fields_text (numbers_of_pairs (drop l.place l.pairs))
    ≡ l.fn.text.items ++ fields_text (list_fields (entries_of l.pairs))

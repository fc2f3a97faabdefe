use Rattle.std.proofs.Common.{◌≡◌, ◌++◌, drop}
use Rattle.fd_lines.specs.Texts.{fields_text}
use Rattle.fd_lines.proofs.texts.push_numbers.Given as goal

-- the text so far and that of the numbers that are left
abbrev pub invariant-loop-number : goal.invariant-loop-number
invariant-loop-number l = l.text.items ++ fields_text (drop l.number-index l.numbers) ≡ l.fn.text.items ++ fields_text l.numbers

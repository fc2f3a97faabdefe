use Rattle.std.proofs.Common.{◌∙◌, sym}
use Rattle.fd_words.proofs.Digits.{not_read, read}
use Rattle.fd_words.proofs.numbers.value.Goals as goal

pub returns-then-are_digits : goal.returns-then-are_digits
returns-then-are_digits c =
    c.ok.ensures.value
    ∙ read c.args.most c.args.word.now c.parse.result (sym c.are_digits.ensures ∙ c.if-are_digits.true)
    c.parse.ensures.value.0

pub returns-else-are_digits : goal.returns-else-are_digits
returns-else-are_digits c = not_read c.args.most c.args.word.now (sym c.are_digits.ensures ∙ c.if-are_digits.false)

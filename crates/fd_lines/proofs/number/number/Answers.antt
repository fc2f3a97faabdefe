use Rattle.std.proofs.Common.{sym, ◌∙◌}
use Rattle.fd_lines.proofs.Numerals.{plain_field, minus_field}
use Rattle.fd_lines.proofs.number.number.Goals as goal

pub returns-then-is_negative : goal.returns-then-is_negative
returns-then-is_negative c =
    c.below_zero.ensures
    ∙ minus_field c.size.result c.args.field.now (sym c.is_negative.ensures ∙ c.if-is_negative.true) (rw c.split_at.ensures.back at c.size.ensures)

pub returns-else-is_negative : goal.returns-else-is_negative
returns-else-is_negative c =
    c.above_zero.ensures
    ∙ plain_field c.size-else-is_negative.result c.args.field.now (sym c.is_negative.ensures ∙ c.if-is_negative.false) c.size-else-is_negative.ensures

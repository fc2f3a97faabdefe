use Rattle.std.proofs.Common.{◌∙◌, sym}
use Rattle.fd_shape.proofs.Numbers.{first_number_none, first_number_some}
use Rattle.fd_shape.proofs.column.number_of_record.Goals as goal

pub returns-in-Some-clause-value : goal.returns-in-Some-clause-value
returns-in-Some-clause-value c = rw (c.trimmed.ensures) at c.number_of_bytes.ensures.value ∙ sym (first_number_some _ _ c.in-Some.ensures.value)

pub returns-in-None-clause-value : goal.returns-in-None-clause-value
returns-in-None-clause-value c = sym (first_number_none _ c.in-None.ensures.value)

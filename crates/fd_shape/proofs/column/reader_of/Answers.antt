use Rattle.std.proofs.Common.{◌∙◌, refl, inr}
use Rattle.csv.specs.Reading.{strip_bom}
use Rattle.fd_shape.specs.Left.{IsPlain, records_after, records_left}
use Rattle.fd_shape.proofs.column.reader_of.Goals as goal

pub returns-clause-plain : goal.returns-clause-plain
unfolding IsPlain
returns-clause-plain c =
    let from = c.from_reader.ensures in (
      rw (c.flexible.ensures, c.has_headers.ensures) at from.trim ∙ c.new.ensures.trim,
      inr (inr (rw (c.flexible.ensures, c.has_headers.ensures) at from.has_headers, from.headers)),
      rw c.flexible.ensures at from.flexible,
      rw (c.flexible.ensures, c.has_headers.ensures) at from.config ∙ c.new.ensures.config,
      rw from.state refl,
      strip_bom c.args.bytes.now,
      from.source,
    )

pub returns-clause-left : goal.returns-clause-left
unfolding records_left records_after
returns-clause-left c = rw (c.from_reader.ensures.source, c.from_reader.ensures.state) refl

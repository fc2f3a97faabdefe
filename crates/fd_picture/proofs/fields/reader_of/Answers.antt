use Rattle.std.proofs.Common.{◌∙◌, inr}
use Rattle.fd_picture.proofs.fields.reader_of.Goals as goal

pub returns-clause-plain : goal.returns-clause-plain
returns-clause-plain c =
    let from = c.from_reader.ensures in record {
      trims = rw (c.flexible.ensures, c.has_headers.ensures) at from.trim ∙ c.new.ensures.trim;
      ready = inr (inr (rw (c.flexible.ensures, c.has_headers.ensures) at from.has_headers, from.headers));
      config = rw (c.flexible.ensures, c.has_headers.ensures) at from.config ∙ c.new.ensures.config;
      source = from.source;
    }

-- Records as lines of text. A record is a list of fields, and a field a list of bytes.
use Rattle.std.specs.Prelude.{◌≡◌, ℕ, List, [], true, false, map}
use Rattle.csv.specs.Writing.{row_text, default_writer, fields_written, has_written, with_flexible, writer_pending, writer_setup, writer_under}
use Rattle.fd_report.specs.declared.line.RecordWriter.{RecordWriter}

-- a record as csv writes it: commas between fields, quotes where a field needs them, and a line feed at the end
unfoldable pub line_of : List (List ℕ) → List ℕ
line_of fields = row_text default_writer fields

abbrev pub lines_of : List (List (List ℕ)) → List (List ℕ)
lines_of records = map line_of records

-- what a writer of records has written
abbrev pub text_of : RecordWriter → List ℕ
text_of w = (writer_under w.writer).items

-- it is between two records, and nothing is still to be written
pub record IsReady (w : RecordWriter) : Type 0 where
  pub setup : writer_setup w.writer ≡ with_flexible default_writer true
  pub pending : writer_pending w.writer ≡ []
  pub fields : fields_written w.writer ≡ 0
  pub wrote : has_written w.writer ≡ false

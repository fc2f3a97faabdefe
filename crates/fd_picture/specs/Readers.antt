-- A reader of a line. Clauses of private functions alone cite this.
use Rattle.std.specs.Prelude.{◌≡◌, ℕ, List, Bool, Some}
use denote.Ref.{Bor}
use Rattle.csv.specs.Reading.{ReadRecord, Ready, default_config, reader_config, reader_trim, source_of}
use Rattle.csv.specs.declared.reader.Reader.{Reader}
use Rattle.csv.specs.declared.reader.Trim.TheVariants as trim

-- a reader that takes records as they are, and has these bytes left
pub record IsPlain (reader : Reader (Bor (List ℕ))) (left : List ℕ) : Type 0 where
  pub trims : reader_trim reader ≡ trim.None
  pub ready : Ready reader
  pub config : reader_config reader ≡ default_config
  pub source : source_of (λ bytes. Some bytes.now) reader ≡ Some left

-- what a read does to such a reader, and whether it found a record
unfoldable pub Reads : Reader (Bor (List ℕ)) → Reader (Bor (List ℕ)) → Bool → List (List ℕ) → Type 0
Reads old new found fields = (reader_trim old ≡ trim.None) → Ready old → ReadRecord (λ bytes. Some bytes.now) old new found fields

-- What reads of records show.
use Rattle.std.proofs.Common.{◌≡◌, ◌∙◌, ℕ, suc, List, [], ◌∷◌, Some, None, true, false, refl, inl, Bor}
use Rattle.csv.specs.Machine.{Read, next_record}
use Rattle.csv.specs.Reading.{Reached, default_config, records_from, reader_state, reader_trim, took_first}
use Rattle.csv.specs.declared.reader.Reader.{Reader}
use Rattle.csv.specs.declared.reader.Trim.TheVariants as trim
use Rattle.csv.proofs.ReadFacts.{rows-end, rows-more}
use Rattle.fd_picture.specs.Readers.{IsPlain, Reads}

pub none_left : (old new : Reader (Bor (List ℕ))) (fields : List (List ℕ)) (left : List ℕ) → IsPlain old left
    → Reads old new false fields
    → next_record default_config (reader_state old) [] [] left ≡ None
unfolding Reads
none_left old new fields left plain read =
    rows-end (λ (bytes : Bor (List ℕ)). Some bytes.now) old new fields default_config left plain.config plain.source (read plain.trims plain.ready)

-- one more record, and the reader behind it
pub record Took (old new : Reader (Bor (List ℕ))) (fields : List (List ℕ)) (left : List ℕ) : Type 0 where
  pub next : Read
  pub is : next_record default_config (reader_state old) [] [] left ≡ Some next
  pub fields_are : fields ≡ next.0
  pub state_is : next.1 ≡ reader_state new
  pub plain : IsPlain new next.2

pub takes : (old new : Reader (Bor (List ℕ))) (fields : List (List ℕ)) (left : List ℕ) → IsPlain old left
    → Reads old new true fields
    → ((reader_trim old ≡ trim.None) → took_first new ≡ true) → Took old new fields left
unfolding Reached Reads
takes old new fields left plain read first =
    let row = read plain.trims plain.ready in
    let (z, source, reached) = rows-more (λ (bytes : Bor (List ℕ)). Some bytes.now) old new fields default_config
    (reader_state old) left left [] plain.config plain.source (refl, refl) row in
    let (p, is, same, at) = reached in
    record {
      next = p;
      is = is;
      fields_are = same;
      state_is = at.0;
      plain = record { trims = row.3 ∙ plain.trims; ready = inl (first plain.trims); config = row.2 ∙ plain.config; source = rw at.1 source };
    }

-- the records that are left, so many at most, of which this is the first
pub rows_more : (old new : Reader (Bor (List ℕ))) (fields : List (List ℕ)) (left : List ℕ) (n : ℕ)
    → (took : Took old new fields left)
    → records_from default_config (suc n) (reader_state old) left ≡ fields ∷ records_from default_config n (reader_state new) took.next.2
unfolding records_from
rows_more old new fields left n took = rw (took.is, took.state_is, took.fields_are) refl

pub rows_none : (old new : Reader (Bor (List ℕ))) (fields : List (List ℕ)) (left : List ℕ) (n : ℕ) → IsPlain old left
    → Reads old new false fields
    → records_from default_config (suc n) (reader_state old) left ≡ []
unfolding records_from
rows_none old new fields left n plain read = rw (none_left old new fields left plain read) refl

-- What a read of a record does to a reader of bytes in memory.
use Rattle.std.proofs.Common.{◌≡◌, ◌∙◌, ◌∷◌, ℕ, List, [], Some, Bool, true, false, refl, sym, inl, Bor, if◌then◌else◌}
use Rattle.std.proofs.lemmas.Bool.{false≢true}
use Rattle.csv.specs.Machine.{Read, ends_at_end, next_record}
use Rattle.csv.specs.Reading.{ExplainsRead, ReadRecord, Reached, Ready, default_config, is_flexible, reader_config, reader_state, reader_trim, stops_reader, took_first}
use Rattle.csv.specs.declared.error.ErrorKind.{ErrorKind}
use Rattle.csv.specs.declared.error.ErrorKind.TheVariants as kind
use Rattle.csv.specs.declared.parser.State.{State}
use Rattle.csv.specs.declared.reader.Reader.{Reader}
use Rattle.csv.specs.declared.reader.Trim.TheVariants as trim
use Rattle.csv.proofs.ReadFacts.{rows-end, rows-more}
use Rattle.fd_shape.specs.Left.{IsPlain, bytes_left, records_after, records_in, records_left}
use Rattle.fd_shape.proofs.Records.{records_none, records_one}

-- a reader of bytes stops for nothing but memory or a fault underneath
pub stops : (old new : Reader (Bor (List ℕ))) (why : ErrorKind) → IsPlain old
    → (Ready old → ExplainsRead (λ bytes. Some bytes.now) old new false why) → stops_reader why ≡ true
unfolding IsPlain
stops old new (kind.Io e) plain explains = refl
stops old new kind.OutOfMemory plain explains = refl
stops old new (kind.UnequalLengths pos expected len) plain explains = absurd (false≢true (sym (explains plain.1).0 ∙ plain.2))
stops old new (kind.Utf8 pos err) plain explains = absurd (false≢true (explains plain.1).0)
stops old new (kind.Serialize text) plain explains = absurd (explains plain.1)
stops old new (kind.Deserialize pos err) plain explains = absurd (explains plain.1)

abbrev Reads : Reader (Bor (List ℕ)) → Reader (Bor (List ℕ)) → Bool → List (List ℕ) → Type 0
Reads old new found fields = (reader_trim old ≡ trim.None) → Ready old → ReadRecord (λ bytes. Some bytes.now) old new found fields

-- behind a record that was read
abbrev Behind : State → List ℕ → List (List ℕ) → Reader (Bor (List ℕ)) → Type 0
Behind s ys fields new =
    (records_after s ys ≡ fields ∷ records_left new)
    × (ends_at_end (reader_state new) ≡ false)
    × (zs : List ℕ)
    × (bytes_left new ≡ Some zs)

behind_record : (s : State) (ys : List ℕ) (fields : List (List ℕ)) (new : Reader (Bor (List ℕ))) (p : Read)
    → ends_at_end s ≡ false → next_record default_config s [] [] ys ≡ Some p
    → fields ≡ p.0 → p.1 ≡ reader_state new → bytes_left new ≡ Some p.2 → Behind s ys fields new
unfolding records_left
behind_record s ys fields new p between e same at left =
    let one = records_one s ys p between e in
    let rows : records_after s ys ≡ fields ∷ records_in (reader_state new) (bytes_left new) = rw (left, same, sym at) one.1 in
    (rows, rw (sym at) one.0, p.2, left)

behind : (old new : Reader (Bor (List ℕ))) (fields : List (List ℕ)) (ys : List ℕ)
    → ends_at_end (reader_state old) ≡ false → reader_config old ≡ default_config → bytes_left old ≡ Some ys
    → ReadRecord (λ bytes. Some bytes.now) old new true fields → Behind (reader_state old) ys fields new
unfolding Reached
behind old new fields ys between config source read =
    let (z, left, reached) = rows-more (λ (bytes : Bor (List ℕ)). Some bytes.now) old new fields default_config
    (reader_state old) ys ys [] config source (refl, refl) read in
    let (p, e, same, at) = reached in
    behind_record (reader_state old) ys fields new p between e same at.0 (rw at.1 left)

pub reads : (old new : Reader (Bor (List ℕ))) (found : Bool) (fields : List (List ℕ)) → IsPlain old
    → Reads old new found fields
    → records_left old ≡ (if found then fields ∷ records_left new else [])
unfolding IsPlain records_left
reads old new true fields plain read =
    let (trim, ready, flexible, config, between, ys, source) = plain in
    rw source (behind old new fields ys between config source (read trim ready)).0
reads old new false fields plain read =
    let (trim, ready, flexible, config, between, ys, source) = plain in
    rw source (records_none (reader_state old) ys (rows-end (λ (bytes : Bor (List ℕ)). Some bytes.now) old new fields
    default_config ys config source (read trim ready)))

pub plain_after : (old new : Reader (Bor (List ℕ))) (found : Bool) (fields : List (List ℕ)) → IsPlain old
    → Reads old new found fields
    → ((reader_trim old ≡ trim.None) → took_first new ≡ true) → is_flexible new ≡ is_flexible old → found ≡ true
    → IsPlain new
unfolding IsPlain
plain_after old new true fields plain read first keeps is_found =
    let (trim, ready, flexible, config, between, ys, source) = plain in
    let row = read trim ready in
    let left = behind old new fields ys between config source row in
    (row.3 ∙ trim, inl (first trim), keeps ∙ flexible, row.2 ∙ config, left.1, left.2, left.3)
plain_after old new false fields plain read first keeps is_found = absurd (false≢true is_found)

-- The steps of reading a report.
use Rattle.std.proofs.Common.{◌≡◌, ◌∙◌, ◌+◌, ◌-◌, ◌<◌, ◌^◌, ℕ, zero, suc, List, [], ◌∷◌, ◌++◌, length, take, Option, None, true, false, Ok, Err, Result, refl, sym, ap, append_assoc, arith, Bor}
use Rattle.std.proofs.lemmas.List.{append-nil}
use Rattle.csv.specs.Reading.{default_config, reader_state, records_from}
use Rattle.csv.specs.Records.{field_at}
use Rattle.csv.specs.declared.reader.Reader.{Reader}
use Rattle.fd_picture.specs.Drafts.{DraftView, ReportView}
use Rattle.fd_picture.specs.Fields.{at, spaced}
use Rattle.fd_picture.specs.Lines.{first_unfit, is_at, lines_of}
use Rattle.fd_picture.specs.Readers.{IsPlain, Reads}
use Rattle.fd_picture.specs.Reading.{AtLine, Bad, Gives, finished, read_from, row_to, unless_unfit}
use Rattle.fd_picture.specs.Reading.{Reads as Told}
use Rattle.fd_picture.specs.declared.fault.Cause.{Cause}
use Rattle.fd_picture.specs.declared.fault.Cause.TheVariants as cause
use Rattle.fd_picture.specs.declared.fault.ReportFault.{ReportFault}
use Rattle.fd_picture.specs.declared.fault.Stop.{Stop}
use Rattle.fd_picture.specs.declared.fault.Stop.TheVariants as stop
use Rattle.fd_picture.proofs.Records.{Took, rows_more, rows_none}

pub unfit_end : (n : ℕ) (rest : List ℕ) → length rest ≡ 0 → first_unfit n (lines_of rest) ≡ None
unfolding lines_of
unfit_end n [] e = refl
unfit_end n (c ∷ cs) e = absurd (omega (arith, e))

spaced_more : (fields : List (List ℕ)) (i : ℕ) → i < length fields
    → spaced (take (suc i) fields) ≡ spaced (take i fields) ++ 32 ∷ at fields i
unfolding field_at
spaced_more [] i h = absurd (omega arith)
spaced_more (f ∷ fs) zero h = ap (λ text. 32 ∷ text) (append-nil f)
spaced_more (f ∷ fs) (suc i) h =
    let within : i < length fs = omega (arith, h) in
    ap (λ text. 32 ∷ f ++ text) (spaced_more fs i within) ∙ sym (append_assoc (32 ∷ f) (spaced (take i fs)) (32 ∷ at fs i))

pub spaced_next : (fields : List (List ℕ)) (i : ℕ) → i < length fields
    → spaced (take (i + 1) fields) ≡ spaced (take i fields) ++ 32 ∷ at fields i
spaced_next fields i h =
    let e : i + 1 ≡ suc i = omega arith in
    ap (λ n. spaced (take n fields)) e ∙ spaced_more fields i h

fits_at : (unfit : Option ℕ) (n : ℕ) (answer : Result ReportView Bad) → is_at unfit n ≡ false
    → unless_unfit unfit n answer ≡ answer
fits_at unfit n answer e = rw e refl

-- the records that are still to be read, at the number of the next
abbrev pub rows_left : Reader (Bor (List ℕ)) → List ℕ → ℕ → List (List (List ℕ))
rows_left reader left n = records_from default_config (2 ^ 64 - 1 - n) (reader_state reader) left

-- no record is left
pub read_end : (unfit : Option ℕ) (n : ℕ) (d : DraftView) (old new : Reader (Bor (List ℕ))) (fields : List (List ℕ)) (left : List ℕ)
    → n < 2 ^ 64 - 1
    → is_at unfit n ≡ false → IsPlain old left → Reads old new false fields
    → read_from unfit n d (rows_left old left n) ≡ Ok (finished d)
read_end unfit n d old new fields left h fits plain read =
    let e : 2 ^ 64 - 1 - n ≡ suc (2 ^ 64 - 2 - n) = omega (arith, h) in
    ap (λ m. read_from unfit n d (records_from default_config m (reader_state old) left)) e
    ∙ ap (read_from unfit n d) (rows_none old new fields left (2 ^ 64 - 2 - n) plain read)
    ∙ fits_at unfit n (Ok (finished d)) fits

-- one record more is read
pub read_more : (unfit : Option ℕ) (n : ℕ) (d next : DraftView) (old new : Reader (Bor (List ℕ))) (fields : List (List ℕ)) (left : List ℕ)
    → n < 2 ^ 64 - 1
    → is_at unfit n ≡ false → (took : Took old new fields left) → row_to d fields ≡ Ok next
    → read_from unfit n d (rows_left old left n) ≡ read_from unfit (n + 1) next (rows_left new took.next.2 (n + 1))
read_more unfit n d next old new fields left h fits took good =
    let e : 2 ^ 64 - 1 - n ≡ suc (2 ^ 64 - 1 - (n + 1)) = omega (arith, h) in
    ap (λ m. read_from unfit n d (records_from default_config m (reader_state old) left)) e
    ∙ ap (read_from unfit n d) (rows_more old new fields left (2 ^ 64 - 1 - (n + 1)) took)
    ∙ fits_at unfit n _ fits
    ∙ rw good refl

-- the next line is unfit
pub read_unfit : (unfit : Option ℕ) (n : ℕ) (d : DraftView) (rows : List (List (List ℕ))) → is_at unfit n ≡ true
    → read_from unfit n d rows ≡ Err (record { line = n; cause = cause.NotOneRecord })
read_unfit unfit n d [] e = rw e refl
read_unfit unfit n d (row ∷ rows) e = rw e refl

-- the next record is refused
pub read_bad : (unfit : Option ℕ) (n : ℕ) (d : DraftView) (why : Cause) (old new : Reader (Bor (List ℕ))) (fields : List (List ℕ)) (left : List ℕ)
    → n < 2 ^ 64 - 1
    → is_at unfit n ≡ false → Took old new fields left → row_to d fields ≡ Err why
    → read_from unfit n d (rows_left old left n) ≡ Err (record { line = n; cause = why })
read_bad unfit n d why old new fields left h fits took bad =
    let e : 2 ^ 64 - 1 - n ≡ suc (2 ^ 64 - 1 - (n + 1)) = omega (arith, h) in
    ap (λ m. read_from unfit n d (records_from default_config m (reader_state old) left)) e
    ∙ ap (read_from unfit n d) (rows_more old new fields left (2 ^ 64 - 1 - (n + 1)) took)
    ∙ fits_at unfit n _ fits
    ∙ rw bad refl

-- a stop with its line is what is said
pub stop_told : (n : ℕ) (why : Stop) (e : ReportFault) (said : Result DraftView Cause) (report : Result ReportView Bad)
    → Gives (Err why) said → AtLine n why e
    → ((c : Cause) → said ≡ Err c → report ≡ Err (record { line = n; cause = c })) → Told (Err e) report
stop_told n (stop.Refused c) e said report gives at told = rw at (told c gives)
stop_told n stop.NoMemory e said report gives at told = rw at tt

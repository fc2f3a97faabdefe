-- From a file to its picture.
use Rattle.std.specs.Prelude.{◌≡◌, ⊤, ℕ, List, [], ◌∷◌, ◌++◌, map, drop, string_bytes, Option, Some, Result, Ok, Err}
use Rattle.std.specs.Vec.Iter.{into_iter_items}
use Rattle.std.specs.declared.string.String.{String}
use Rattle.std.specs.declared.vec.IntoIter.{IntoIter}
use Rattle.fd_picture.specs.fd_outside.Answers.{Answer, content}
use Rattle.fd_picture.specs.fd_outside.Files.{Files, held}
use Rattle.fd_picture.specs.Drafts.{ReportView}
use Rattle.fd_picture.specs.Pages.{page_of}
use Rattle.fd_picture.specs.Reading.{report_of}
use Rattle.feeder_picture.specs.declared.fault.PictureFault.{PictureFault}
use Rattle.feeder_picture.specs.declared.fault.PictureFault.TheVariants as fault

-- the page of the report that bytes are
pub record IsPageOf (bytes text : List ℕ) : Type 0 where
  pub report : ReportView
  pub reads : report_of bytes ≡ Ok report
  pub page : text ≡ page_of report

-- the line and the cause that a fault names are those of the bytes, if it names any
abbrev pub NamesLine : List ℕ → PictureFault → Type 0
NamesLine bytes (fault.NotReport line cause) = report_of bytes ≡ Err (record { line = line; cause = cause })
NamesLine bytes e = ⊤

-- a library's one answer was this file's bytes, and where it tells what it holds they are held under the name
pub record AnswersBytes (told : Option Files) (before now : List Answer) (name bytes : List ℕ) : Type 0 where
  pub answer : now ≡ before ++ (name, content bytes) ∷ []
  pub file : (files : Files) → told ≡ Some files → held files name ≡ Some bytes

-- a sink took the page of the report that was answered under a name
pub record TakesPicture (told : Option Files) (before now : List Answer) (name : List ℕ) (old new : List ℕ) : Type 0 where
  pub bytes : List ℕ
  pub text : List ℕ
  pub read : AnswersBytes told before now name bytes
  pub page : IsPageOf bytes text
  pub taken : new ≡ old ++ text

-- what was answered under a name is no report, by the line that a fault names
abbrev pub RefusesFile : Option Files → List Answer → List Answer → List ℕ → PictureFault → Type 0
RefusesFile told before now name (fault.NotReport line cause) =
    (bytes : List ℕ) × AnswersBytes told before now name bytes × (report_of bytes ≡ Err (record { line = line; cause = cause }))
RefusesFile told before now name e = ⊤

-- at every fault but a failed write the sink is as it was
abbrev pub LeavesSink : {S : Type 0} → S → S → PictureFault → Type 0
LeavesSink old new fault.Unwritten = ⊤
LeavesSink old new e = new ≡ old

-- a fault of reading a file names no line, and isn't a failed write
abbrev pub IsOfFile : PictureFault → Type 0
IsOfFile (fault.NotReport line cause) = ⊥
IsOfFile fault.Unwritten = ⊥
IsOfFile e = ⊤

-- the words behind the program's name, as their bytes; none where a word is no text
abbrev pub given : {A E : Type 0} → Result (IntoIter (String A) A) E → List (List ℕ)
given (Ok args) = map string_bytes (drop 1 (into_iter_items args))
given (Err e) = []

-- exactly one word is given, and this holds of it
abbrev pub OfOnlyWord : List (List ℕ) → (List ℕ → Type 0) → Type 0
OfOnlyWord words P = (name : List ℕ) × (words ≡ name ∷ []) × P name

abbrev pub RefusesWord : List (List ℕ) → Option Files → List Answer → List Answer → PictureFault → Type 0
RefusesWord words told before now (fault.NotReport line cause) =
    OfOnlyWord words (λ name. RefusesFile told before now name (fault.NotReport line cause))
RefusesWord words told before now e = ⊤

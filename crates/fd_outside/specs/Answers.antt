-- What a library has answered, and the files that agree with it.
use Rattle.std.specs.Prelude.{◌≡◌, ℕ, zero, suc, List, [], ◌∷◌, ◌++◌, map, Option, Some, None, Result, Ok, Err}
use Rattle.fd_outside.specs.Files.{Files, held}
use Rattle.fd_outside.specs.declared.library.Found.{Found}
use Rattle.fd_outside.specs.declared.library.Found.TheVariants as found
use Rattle.fd_outside.specs.declared.library.LibFault.{LibFault}
use Rattle.fd_outside.specs.declared.library.LibFault.TheVariants as fault

-- all the bytes of the file, that there is no such file, or that it could not be read
pub data Reply : Type 0 where
  content : List ℕ → Reply
  absent : Reply
  failed : Reply

-- a name, as its bytes, and what was answered
abbrev pub Answer : Type 0
Answer = List ℕ × Reply

-- one read gives one answer, and none where memory ran out
abbrev pub answered : List ℕ → Result Found LibFault → List Answer
answered name (Ok (found.Bytes b)) = (name, content b.items) ∷ []
answered name (Ok found.Absent) = (name, absent) ∷ []
answered name (Err fault.Failed) = (name, failed) ∷ []
answered name (Err fault.NoMemory) = []

-- the names that were asked, in order
abbrev pub names_asked : List Answer → List (List ℕ)
names_asked answers = map (λ (a : Answer). a.0) answers

-- ---- files that agree

-- what is held under a name is this reply; one that failed says nothing of it
abbrev pub IsReplyOf : Option (List ℕ) → Reply → Type 0
IsReplyOf there (content bs) = there ≡ Some bs
IsReplyOf there absent = there ≡ None
IsReplyOf there failed = Unit {0}

-- these files agree with each of these answers
abbrev pub Agrees : Files → List Answer → Type 0
Agrees files [] = Unit {0}
Agrees files (a ∷ answers) = IsReplyOf (held files a.0) a.1 × Agrees files answers

-- these files agree with each answer that came behind others
pub record AgreesSince (files : Files) (before now : List Answer) : Type 0 where
  pub agree : (since : List Answer) → now ≡ before ++ since → Agrees files since

-- ---- a library before a call and after it

-- Answers were only added. What is held is as it was, and where it is told the answers agree with it.
pub record IsLater {L : Type 0} (answers : L → List Answer) (holds : L → Option Files) (before now : L) : Type 0 where
  pub since : List Answer
  pub told : answers now ≡ answers before ++ since
  pub same : holds now ≡ holds before
  pub held : (files : Files) → holds before ≡ Some files → Agrees files since

-- the last answer that was added is a failed read of a file of this name
pub record EndsFailed (before now : List Answer) (name : List ℕ) : Type 0 where
  pub earlier : List Answer
  pub told : now ≡ before ++ (earlier ++ (name, failed) ∷ [])

-- a read has failed, and it is the last
abbrev pub HasFailed : List Answer → List Answer → Type 0
HasFailed before now = (name : List ℕ) × EndsFailed before now name

-- ---- how a tape has it

abbrev pub reply_on : List ℕ → List ℕ → Reply
reply_on [] bs = failed
reply_on (zero ∷ rest) bs = content bs
reply_on (suc zero ∷ rest) bs = absent
reply_on (suc (suc n) ∷ rest) bs = failed

abbrev pub answer_on : List ℕ × List ℕ × List ℕ → Answer
answer_on note = (note.1, reply_on note.0 note.2)

-- How the program ends.
use Rattle.std.specs.Prelude.{◌≡◌, ℕ, List, [], Option, None}
use Rattle.fd_app.specs.fd_outside.Answers.{Answer, IsLater}
use Rattle.fd_app.specs.fd_outside.Causes.{Rose}
use Rattle.fd_app.specs.fd_outside.Files.{Files}
use Rattle.fd_app.specs.fd_outcome.Untold.{Answers, EndsAtRead}
use Rattle.fd_app.specs.fd_words.Words.{Form, form_of}
use Rattle.fd_app.specs.Promise.{Promised}
use Rattle.feeder.specs.Given.{Given, no_memory, words}

-- nothing was read or written
pub record IsUntouched {L S : Type 0} (lib_old lib_new : L) (old new : S) (status code : ℕ) : Type 0 where
  pub code_is : code ≡ status
  pub lib_is : lib_new ≡ lib_old
  pub out_is : new ≡ old

module _ {L S : Type 0} (answers : L → List Answer) (holds : L → Option Files) (faults : S → ℕ) (taken : S → List ℕ)
    (calls : S → ℕ) where
  -- what the top call promises of words of this form
  pub record IsRun (lib_old lib_new : L) (old new : S) (form : Option Form) (code : ℕ) : Type 0 where
    pub promise : Promised answers taken calls form lib_old lib_new old new code
    pub later : IsLater answers holds lib_old lib_new
    pub statuses : Answers taken calls old new code
    pub usage : code ≡ 2 → form ≡ None
    pub last : code ≡ 4 → EndsAtRead answers lib_old lib_new taken calls old new
    pub write : code ≡ 5 → Rose (faults old) (faults new)

  -- that, or the system had no memory for the words
  abbrev pub EndsAs : (lib_old lib_new : L) (old new : S) → Given → ℕ → Type 0
  EndsAs lib_old lib_new old new (words given) code = IsRun lib_old lib_new old new (form_of given) code
  EndsAs lib_old lib_new old new no_memory code = IsUntouched lib_old lib_new old new 1 code

  -- from a library that has answered nothing, and a sink that has taken nothing
  pub record FromStart (lib_new : L) (new : S) (given : Given) (code : ℕ) : Type 0 where
    pub lib_old : L
    pub old : S
    pub no_answer : answers lib_old ≡ []
    pub none_taken : taken old ≡ []
    pub no_write : calls old ≡ 0
    pub no_fault : faults old ≡ 0
    pub ends : EndsAs lib_old lib_new old new given code

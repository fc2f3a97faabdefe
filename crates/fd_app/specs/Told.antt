-- The promise over a library that tells what it holds.
use Rattle.std.specs.Prelude.{◌≡◌, ℕ, List, Option, Some}
use Rattle.fd_bench.specs.fd_outside.Answers.{Answer as Told, IsLater}
use Rattle.fd_bench.specs.fd_outside.Files.{Files}
use Rattle.fd_words.specs.Words.{Form}
use Rattle.fd_app.specs.Printing.{outside_of}
use Rattle.fd_app.specs.Promise.{IsPromised, Promised}

-- a library that tells that it holds these files answers with them, so over them it is promised
abbrev pub ToldLaw : {L S : Type 0} → (L → List Told) → (L → Option Files) → (S → List ℕ) → (S → ℕ) → Type 0
ToldLaw {L} {S} answers holds taken calls =
    (files : Files) (form : Option Form) (lib_old lib_new : L) (old new : S) (code : ℕ) → holds lib_old ≡ Some files
    → IsLater answers holds lib_old lib_new → Promised answers taken calls form lib_old lib_new old new code
    → IsPromised (outside_of answers taken calls lib_old lib_new old new) files form code

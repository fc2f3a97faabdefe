-- Answers of which none is a failed read.
use Rattle.std.proofs.Common.{◌≡◌, ◌∙◌, ℕ, List, [], ◌∷◌, ◌++◌, true, refl, ap, Result, Ok, Err, IsErrOf}
use Rattle.fd_outside.specs.Answers.{Answer, absent, answered, content, failed}
use Rattle.fd_outside.specs.Unfailing.{all_well}
use Rattle.fd_outside.specs.declared.library.Found.{Found}
use Rattle.fd_outside.specs.declared.library.Found.TheVariants as found
use Rattle.fd_outside.specs.declared.library.LibFault.{LibFault}
use Rattle.fd_outside.specs.declared.library.LibFault.TheVariants as fault

all_well-append : (answers more : List Answer) → all_well answers ≡ true → all_well more ≡ true → all_well (answers ++ more) ≡ true
all_well-append [] more well also = also
all_well-append ((name, content bs) ∷ answers) more well also = all_well-append answers more well also
all_well-append ((name, absent) ∷ answers) more well also = all_well-append answers more well also
all_well-append ((name, failed) ∷ answers) more well also = absurd (cc)

well_answered : (name : List ℕ) (r : Result Found LibFault) → (IsErrOf r fault.Failed → ⊥) → all_well (answered name r) ≡ true
well_answered name (Ok (found.Bytes b)) not = refl
well_answered name (Ok found.Absent) not = refl
well_answered name (Err fault.Failed) not = absurd (not refl)
well_answered name (Err fault.NoMemory) not = refl

pub one_more_well : (before now : List Answer) (name : List ℕ) (r : Result Found LibFault) → all_well before ≡ true
    → now ≡ before ++ answered name r → (IsErrOf r fault.Failed → ⊥) → all_well now ≡ true
one_more_well before now name r well told not =
    ap all_well told ∙ all_well-append before (answered name r) well (well_answered name r not)

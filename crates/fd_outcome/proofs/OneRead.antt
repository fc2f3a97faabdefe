-- One read behind the last command: what was asked, and what files that agree with the answer hold.
use Rattle.std.proofs.Common.{◌≡◌, ◌∙◌, ℕ, List, [], ◌∷◌, ◌++◌, Option, Some, Result, Ok, Err, refl, sym, ap, subst}
use Rattle.fd_certfile.specs.fd_outside.Answers.{Agrees, Answer, EndsFailed, IsLater, Reply, absent, answered, content}
use Rattle.fd_certfile.specs.fd_outside.Answers.{failed, names_asked}
use Rattle.fd_certfile.specs.fd_outside.Files.{AnswersHeld, Files, held}
use Rattle.fd_certfile.specs.fd_outside.declared.library.Found.{Found}
use Rattle.fd_certfile.specs.fd_outside.declared.library.Found.TheVariants as was
use Rattle.fd_certfile.specs.fd_outside.declared.library.LibFault.{LibFault}
use Rattle.fd_certfile.specs.fd_outside.declared.library.LibFault.TheVariants as lib_fault
use Rattle.fd_certfile.proofs.CallerLemmas.fd_outside.{names_behind}
use Rattle.fd_report.specs.dss_model.Names.{bytes}
use Rattle.fd_report.specs.dss_script.Sessions.{found_bytes}

asked_by : (a b : List Answer) (name bs : List ℕ) (reply : Reply) → name ≡ bs → b ≡ a ++ (name, reply) ∷ []
    → names_asked b ≡ names_asked a ++ bs ∷ []
asked_by a b name bs reply same h =
    names_behind a b ((name, reply) ∷ []) h ∙ ap (λ (x : List ℕ). names_asked a ++ x ∷ []) same

pub asked_for : (a b : List Answer) (name n : List ℕ) (r : Result Found LibFault)
    → (r ≡ Err lib_fault.NoMemory → ⊥) → name ≡ bytes n → b ≡ a ++ answered name r
    → names_asked b ≡ names_asked a ++ bytes n ∷ []
asked_for a b name n (Ok (was.Bytes bs)) told same h = asked_by a b name (bytes n) (content bs.items) same h
asked_for a b name n (Ok was.Absent) told same h = asked_by a b name (bytes n) absent same h
asked_for a b name n (Err lib_fault.Failed) told same h = asked_by a b name (bytes n) failed same h
asked_for a b name n (Err lib_fault.NoMemory) told same h = absurd (told refl)

pub asked_none : (a b : List Answer) (name : List ℕ) (r : Result Found LibFault) → r ≡ Err lib_fault.NoMemory
    → b ≡ a ++ answered name r → names_asked b ≡ names_asked a ++ []
asked_none a b name r none h =
    names_behind a b (answered name r) h
    ∙ ap (λ (x : Result Found LibFault). names_asked a ++ names_asked (answered name x)) none

pub ends_failed : (a b : List Answer) (name n : List ℕ) (r : Result Found LibFault) → r ≡ Err lib_fault.Failed
    → name ≡ bytes n → b ≡ a ++ answered name r → EndsFailed a b (bytes n)
ends_failed a b name n r is same h = record {
  earlier = [];
  told = h ∙ ap (λ (x : Result Found LibFault). a ++ answered name x) is
      ∙ ap (λ (x : List ℕ). a ++ (x, failed) ∷ []) same;
}

-- what files hold that agree with it is what was found
pub held_is : (files : Files) (name bs : List ℕ) (r : Result Found LibFault) (found : Found) → r ≡ Ok found → name ≡ bs
    → Agrees files (answered name r) → held files bs ≡ found_bytes found
held_is files name bs r found is same h =
    ap (held files) (sym same)
    ∙ found_is found (subst (λ (x : Result Found LibFault). Agrees files (answered name x)) is h)
  where
    found_is : (f : Found) → Agrees files (answered name (Ok f)) → held files name ≡ found_bytes f
    found_is (was.Bytes bs) h = h.0
    found_is was.Absent h = h.0

agrees_answered : (files : Files) (name : List ℕ) (r : Result Found LibFault) → AnswersHeld (Some files) name r
    → Agrees files (answered name r)
agrees_answered files name (Ok (was.Bytes bs)) h = (h, tt)
agrees_answered files name (Ok was.Absent) h = (h, tt)
agrees_answered files name (Err lib_fault.Failed) h = (tt, tt)
agrees_answered files name (Err lib_fault.NoMemory) h = tt

-- one read adds its answer
pub later_read : {L : Type 0} (answers : L → List Answer) (holds : L → Option Files) (old new : L) (name : List ℕ)
    (r : Result Found LibFault) → answers new ≡ answers old ++ answered name r → holds new ≡ holds old
    → AnswersHeld (holds old) name r → IsLater answers holds old new
later_read answers holds old new name r told same h = record {
  since = answered name r;
  told = told;
  same = same;
  held = λ files is. agrees_answered files name r (subst (λ (x : Option Files). AnswersHeld x name r) is h);
}

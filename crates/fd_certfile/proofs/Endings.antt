-- How a certificate begins and ends.
use Rattle.std.proofs.Common.{◌≡◌, ℕ, ◌+◌, ◌<◌, true, false, List, [], ◌∷◌, length, Some, None, Result, Ok, Err, refl, ap, sym, subst, ◌∙◌, arith}
use Rattle.fd_certfile.specs.Lines.{Line, header, solution, state, row, act, end, other, rest_of, lines_of}
use Rattle.fd_certfile.specs.Blocks.{Version}
use Rattle.fd_certfile.specs.Certificates.{version_in, behind_first}
use Rattle.fd_certfile.specs.Reader.{GivenBlock, IsOpened, ReaderView, finished, is_end, is_solution, starts_with_end}
use Rattle.fd_certfile.specs.declared.fault.CertFileFault.{CertFileFault}
use Rattle.fd_certfile.specs.declared.fault.CertFileFault.TheVariants as fault
use Rattle.fd_settle.specs.fd_cert.declared.rule.Rule.TheVariants.{Count, Grammar}
use Rattle.fd_certfile.proofs.Lines.{lines_some}

-- ---- the first line

-- the first line alone names the version
pub first_alone : (line : Line) (rest : List Line) → version_in (line ∷ rest) ≡ version_in (line ∷ [])
first_alone (header n) rest = refl
first_alone (solution n h r s) rest = refl
first_alone (state p c r m) rest = refl
first_alone (row fields) rest = refl
first_alone (act t c s) rest = refl
first_alone end rest = refl
first_alone other rest = refl

opens : Result ReaderView CertFileFault → List Line → Type 0
opens answer lines = IsOpened answer (version_in lines) (behind_first lines)

pub opened_some : (lines : List Line) (line : Line) (rest : List Line) (given : List GivenBlock) (v : Version)
    → lines ≡ line ∷ rest → Some v ≡ version_in (line ∷ []) → given ≡ []
    → IsOpened (Ok (record { version = v; lines = rest; line = 2; number = 1; hour = 0; round = 0; given = given })) (version_in lines) (behind_first lines)
unfolding opens
opened_some lines line rest given v e f g =
    let answer : Result ReaderView CertFileFault = Ok (record { version = v; lines = rest; line = 2; number = 1; hour = 0; round = 0; given = given }) in
    let named : Some v ≡ version_in (line ∷ rest) = f ∙ sym (first_alone line rest) in
    subst (opens answer) (sym e) (subst (λ o. IsOpened answer o rest) named (ap (λ (gs : List GivenBlock).
    record { version = v; lines = rest; line = 2; number = 1; hour = 0; round = 0; given = gs }) g))

pub opened_none : (lines : List Line) (line : Line) (rest : List Line) → lines ≡ line ∷ rest → None ≡ version_in (line ∷ [])
    → IsOpened (Err (fault.Refused 1 Grammar)) (version_in lines) (behind_first lines)
unfolding opens
opened_none lines line rest e f =
    let answer : Result ReaderView CertFileFault = Err (fault.Refused 1 Grammar) in
    let named : None ≡ version_in (line ∷ rest) = f ∙ sym (first_alone line rest) in
    subst (opens answer) (sym e) (subst (λ o. IsOpened answer o rest) named (refl, refl))

pub opened_rest : (lines : List Line) (bytes : List ℕ) → lines ≡ rest_of bytes
    → IsOpened (Err (fault.Refused 1 Grammar)) (version_in lines) (behind_first lines)
unfolding opens
opened_rest lines [] e = subst (opens (Err (fault.Refused 1 Grammar))) (sym e) (refl, refl)
opened_rest lines (c ∷ bytes) e = subst (opens (Err (fault.Refused 1 Grammar))) (sym e) (refl, refl)

-- ---- the line `end`

pub rest_starts : (bytes : List ℕ) → false ≡ starts_with_end (rest_of bytes)
rest_starts [] = refl
rest_starts (c ∷ bytes) = refl

pub finish_rest : (bytes : List ℕ) (n c : ℕ) → finished (rest_of bytes) n c ≡ Err (n, Grammar)
finish_rest [] n c = refl
finish_rest (b ∷ bytes) n c = refl

none_left : (bytes : List ℕ) → length bytes ≡ 0 → lines_of bytes ≡ []
unfolding lines_of
none_left [] e = refl
none_left (c ∷ bytes) e = absurd (omega (arith, e))

module _ (n c : ℕ) where
  pub finish_nothing : (line : Line) (rest : List ℕ) → true ≡ is_end line → length rest ≡ 0
      → finished (line ∷ lines_of rest) n c ≡ Ok c
  finish_nothing end rest e z = ap (λ (ls : List Line). finished (end ∷ ls) n c) (none_left rest z)
  finish_nothing (header v) rest e z = absurd cc
  finish_nothing (solution m h r s) rest e z = absurd cc
  finish_nothing (state p x r m) rest e z = absurd cc
  finish_nothing (row fields) rest e z = absurd cc
  finish_nothing (act t k s) rest e z = absurd cc
  finish_nothing other rest e z = absurd cc

  more : (lines : List Line) → 0 < length lines → finished (end ∷ lines) n c ≡ Err (n + 1, Grammar)
  more [] l = absurd (omega (arith, l))
  more (line ∷ lines) l = refl

  pub finish_more : (line : Line) (rest : List ℕ) → true ≡ is_end line → 0 < length rest
      → finished (line ∷ lines_of rest) n c ≡ Err (n + 1, Grammar)
  finish_more end rest e z = more (lines_of rest) (lines_some rest z)
  finish_more (header v) rest e z = absurd cc
  finish_more (solution m h r s) rest e z = absurd cc
  finish_more (state p x r m) rest e z = absurd cc
  finish_more (row fields) rest e z = absurd cc
  finish_more (act t k s) rest e z = absurd cc
  finish_more other rest e z = absurd cc

  pub finish_left : (line : Line) (lines : List Line) → true ≡ is_solution line
      → finished (line ∷ lines) n c ≡ Err (n, Count)
  finish_left (solution m h r s) lines e = refl
  finish_left (header v) lines e = absurd cc
  finish_left (state p x r m) lines e = absurd cc
  finish_left (row fields) lines e = absurd cc
  finish_left (act t k s) lines e = absurd cc
  finish_left end lines e = absurd cc
  finish_left other lines e = absurd cc

  pub finish_other : (line : Line) (lines : List Line) → false ≡ is_end line → false ≡ is_solution line
      → finished (line ∷ lines) n c ≡ Err (n, Grammar)
  finish_other (header v) lines e f = refl
  finish_other (solution m h r s) lines e f = absurd cc
  finish_other (state p x r m) lines e f = refl
  finish_other (row fields) lines e f = refl
  finish_other (act t k s) lines e f = refl
  finish_other end lines e f = absurd cc
  finish_other other lines e f = refl

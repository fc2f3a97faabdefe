-- What a certificate comes to: accepted, or refused at a line by a rule.
use Rattle.std.specs.Prelude.{◌≡◌, ℕ, zero, suc, ◌+◌, List, Option, Some, None}
use Rattle.fd_certfile.specs.Lines.{Line, lines_of}
use Rattle.fd_certfile.specs.Blocks.{Version, Block}
use Rattle.fd_certfile.specs.Certificates.{Certificate, ends, trails, refuses, gives, Reads, version_in, behind_first, lines_count}
use Rattle.fd_certfile.specs.Rules.{Broken, Judge, Holds, first_broken, line_at}
use Rattle.fd_settle.specs.fd_cert.declared.rule.Rule.{Rule}
use Rattle.fd_settle.specs.fd_cert.declared.rule.Rule.TheVariants.{Absent, Grammar, Count}

-- what comes next by the script
pub data Due (F : Type 0) : Type 0 where
  -- a block, judged so
  asks : Judge → Due F
  -- no further block
  complete : Due F
  -- a fault of the script, as where the next network is out of range
  stops : F → Due F

pub data Answer (F : Type 0) : Type 0 where
  -- so many blocks
  accepted : ℕ → Answer F
  -- the line, counted from 1, and the rule
  refused : ℕ → Rule → Answer F
  stopped : F → Answer F

abbrev pub by_due : {F : Type 0} → Due F → Answer F → (Judge → Answer F) → Answer F
by_due (asks judge) otherwise more = more judge
by_due complete otherwise more = otherwise
by_due (stops fault) otherwise more = stopped fault

abbrev pub unless_broken : {F : Type 0} → ℕ → Block → Option Broken → Answer F → Answer F
unless_broken first b None more = more
unless_broken first b (Some broken) more = refused (line_at first b broken.place) broken.rule

-- A script: what is due in each state, and the state after a block for which all rules hold.
module _ {S F : Type 0} (due : S → Due F) (after : S → Block → S) where
  -- what a certificate comes to whose next line has this number, behind so many blocks
  abbrev pub verdict : ℕ → ℕ → Certificate → S → Answer F
  verdict line count (gives b more) s =
      by_due (due s) (refused line Count) (λ judge.
      unless_broken line b (first_broken judge b) (verdict (line + lines_count b) (count + 1) more (after s b)))
  verdict line count ends s = by_due (due s) (accepted count) (λ judge. refused line Count)
  verdict line count trails s = by_due (due s) (refused (line + 1) Grammar) (λ judge. refused line Count)
  verdict line count (refuses zero) s = by_due (due s) (refused line Grammar) (λ judge. refused line Grammar)
  verdict line count (refuses (suc k)) s = by_due (due s) (refused line Count) (λ judge. refused (line + suc k) Grammar)

  -- the lines behind the first line are those of a certificate that comes to this
  pub record ComesTo (v : Version) (lines : List Line) (s : S) (answer : Answer F) : Type 0 where
    pub certificate : Certificate
    pub reads : Reads v lines certificate
    pub answer_is : answer ≡ verdict 2 0 certificate s

  abbrev pub IsAnswerBy : Option Version → List Line → S → Answer F → Type 0
  IsAnswerBy None lines s answer = answer ≡ refused 1 Grammar
  IsAnswerBy (Some v) lines s answer = ComesTo v (behind_first lines) s answer

  -- the answer to the bytes of a certificate, where it is held
  abbrev pub IsAnswer : Option (List ℕ) → S → Answer F → Type 0
  IsAnswer None s answer = answer ≡ refused 0 Absent
  IsAnswer (Some bytes) s answer = IsAnswerBy (version_in (lines_of bytes)) (lines_of bytes) s answer

  -- every block is due and holds, and behind the last none is due
  abbrev pub AllHold : Certificate → S → Type 0
  AllHold (gives b more) s = (judge : Judge) × (due s ≡ asks judge) × Holds judge b × AllHold more (after s b)
  AllHold ends s = due s ≡ complete
  AllHold trails s = ⊥
  AllHold (refuses count) s = ⊥

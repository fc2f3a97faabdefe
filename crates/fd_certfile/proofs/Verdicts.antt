-- Bytes have exactly one answer.
use Rattle.std.proofs.Common.{◌≡◌, ℕ, zero, suc, ◌+◌, List, length, Option, Some, None, refl, ap, sym, ◌∙◌, arith}
use Rattle.std.specs.Prelude.{◌↔◌}
use Rattle.fd_certfile.specs.Lines.{Line, lines_of}
use Rattle.fd_certfile.specs.Blocks.{Version, Block}
use Rattle.fd_certfile.specs.Certificates.{Certificate, ends, trails, refuses, gives, blocks_of, version_in, behind_first, lines_count}
use Rattle.fd_certfile.proofs.Certificates as certificates
use Rattle.fd_certfile.specs.Rules.{Broken, Judge, first_broken}
use Rattle.fd_certfile.specs.Verdict.{Due, asks, complete, stops, Answer, accepted, refused, by_due, unless_broken, verdict, IsAnswerBy, IsAnswer, AllHold}
use Rattle.fd_settle.specs.fd_cert.declared.rule.Rule.{Rule}
use Rattle.fd_settle.specs.fd_cert.declared.rule.Rule.TheVariants.{Count}
use Rattle.fd_certfile.specs.RuleLaws.{AnswersLaw}
use Rattle.fd_certfile.proofs.RuleOrder.{rule_law}

-- ---- accepted

asked : {F : Type 0} (d : Due F) (line : ℕ) (rule : Rule) (f : Judge → Answer F) (m : ℕ)
    → by_due d (refused line rule) f ≡ accepted m → (judge : Judge) × (d ≡ asks judge) × (f judge ≡ accepted m)
asked (asks judge) line rule f m e = (judge, refl, e)
asked complete line rule f m e = absurd cc
asked (stops fault) line rule f m e = absurd cc

unbroken : {F : Type 0} (first : ℕ) (b : Block) (o : Option Broken) (more : Answer F) (m : ℕ)
    → unless_broken first b o more ≡ accepted m → (o ≡ None) × (more ≡ accepted m)
unbroken first b None more m e = (refl, e)
unbroken first b (Some broken) more m e = absurd cc

ended : {F : Type 0} (d : Due F) (line count : ℕ) (rule : Rule) (m : ℕ)
    → by_due d (accepted count) (λ judge. refused line rule) ≡ accepted m → (d ≡ complete) × (m ≡ count)
ended (asks judge) line count rule m e = absurd cc
ended complete line count rule m e = (refl, cc)
ended (stops fault) line count rule m e = absurd cc

never : {F : Type 0} (d : Due F) (a b : ℕ) (p q : Rule) (m : ℕ)
    → by_due d (refused a p) (λ judge. refused b q) ≡ accepted m → ⊥
never (asks judge) a b p q m e = cc
never complete a b p q m e = cc
never (stops fault) a b p q m e = cc

module _ {S F : Type 0} (due : S → Due F) (after : S → Block → S) where
  some_by : (version : Option Version) (lines : List Line) (s : S)
      → (answer : Answer F) × IsAnswerBy due after version lines s answer
  some_by None lines s = (_, refl)
  some_by (Some v) lines s =
      let c = certificates.some v (behind_first lines) in
      (verdict due after 2 0 c.0 s, record { certificate = c.0; reads = c.1; answer_is = refl })

  one_by : (version : Option Version) (lines : List Line) (s : S) (a b : Answer F)
      → IsAnswerBy due after version lines s a → IsAnswerBy due after version lines s b → a ≡ b
  one_by None lines s a b p q = p ∙ sym q
  one_by (Some v) lines s a b p q =
      let same : p.certificate ≡ q.certificate = certificates.one v (behind_first lines) p.certificate q.certificate p.reads q.reads in
      p.answer_is ∙ ap (λ (c : Certificate). verdict due after 2 0 c s) same ∙ sym q.answer_is

  some : (held : Option (List ℕ)) (s : S) → (answer : Answer F) × IsAnswer due after held s answer
  some None s = (_, refl)
  some (Some bytes) s = some_by (version_in (lines_of bytes)) (lines_of bytes) s

  one : (held : Option (List ℕ)) (s : S) (a b : Answer F) → IsAnswer due after held s a → IsAnswer due after held s b
      → a ≡ b
  one None s a b p q = p ∙ sym q
  one (Some bytes) s a b p q = one_by (version_in (lines_of bytes)) (lines_of bytes) s a b p q

  accepts_from : (c : Certificate) (line count : ℕ) (s : S) (m : ℕ) → verdict due after line count c s ≡ accepted m
      → AllHold due after c s × (m ≡ count + length (blocks_of c))
  accepts_from ends line count s m e = let h = ended (due s) line count _ m e in (h.0, omega (arith, h.1))
  accepts_from trails line count s m e = absurd (never (due s) (line + 1) line _ _ m e)
  accepts_from (refuses zero) line count s m e = absurd (never (due s) line line _ _ m e)
  accepts_from (refuses (suc k)) line count s m e = absurd (never (due s) line (line + suc k) _ _ m e)
  accepts_from (gives b more) line count s m e =
      let a = asked (due s) line _
      (λ judge. unless_broken line b (first_broken judge b) (verdict due after (line + lines_count b) (count + 1) more (after s b)))
      m e in
      let u = unbroken line b (first_broken a.0 b) (verdict due after (line + lines_count b) (count + 1) more (after s b)) m a.2 in
      let rest = accepts_from more (line + lines_count b) (count + 1) (after s b) m u.1 in
      ((a.0, a.1, (rule_law.none a.0 b).0 u.0, rest.0), omega (arith, rest.1))

  from_accepts : (c : Certificate) (line count : ℕ) (s : S) (m : ℕ) → AllHold due after c s
      → m ≡ count + length (blocks_of c) → verdict due after line count c s ≡ accepted m
  from_accepts ends line count s m h e = ap (λ (d : Due F). by_due d (accepted count) (λ judge. refused line Count)) h
      ∙ ap accepted (omega (arith, e))
  from_accepts trails line count s m h e = absurd h
  from_accepts (refuses k) line count s m h e = absurd h
  from_accepts (gives b more) line count s m h e =
      let rest = from_accepts more (line + lines_count b) (count + 1) (after s b) m h.3 (omega (arith, e)) in
      ap (λ (d : Due F).
      by_due d (refused line Count) (λ judge.
      unless_broken line b (first_broken judge b)
      (verdict due after (line + lines_count b) (count + 1) more (after s b))))
      h.1
      ∙ ap (λ (o : Option Broken).
      unless_broken line b o (verdict due after (line + lines_count b) (count + 1) more (after s b)))
      ((rule_law.none h.0 b).1 h.2)
      ∙ rest

  accepts : (c : Certificate) (s : S) (count : ℕ)
      → (verdict due after 2 0 c s ≡ accepted count) ↔ (AllHold due after c s × (count ≡ length (blocks_of c)))
  accepts c s count =
      (λ e. let a = accepts_from c 2 0 s count e in (a.0, omega (arith, a.1)), λ h. from_accepts c 2 0 s count h.0 (omega (arith, h.1)))

  pub answers_law : AnswersLaw due after
  answers_law = record { some = some; one = one; accepts = accepts }

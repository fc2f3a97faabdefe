-- Laws of a reader as a solver: what it gives is what the certificate comes to.
use Rattle.std.specs.Prelude.{◌≡◌, ℕ, ◌+◌, List, length, None, Result, Ok, Err}
use Rattle.fd_settle.specs.fd_pattern.Views.{NetworkView}
use Rattle.fd_settle.specs.fd_cert.declared.rule.Rule.{Rule}
use Rattle.fd_certfile.specs.Lines.{Line}
use Rattle.fd_certfile.specs.Blocks.{Block, IsSized, block_at}
use Rattle.fd_certfile.specs.Certificates.{Certificate, Reads, gives}
use Rattle.fd_certfile.specs.Reader.{ReaderView, behind, finish_of}
use Rattle.fd_certfile.specs.Rules.{Ball, Sampled, act_rules, claim_rules, first_some}
use Rattle.fd_certfile.specs.Solving.{judge_in, solved_of}
use Rattle.fd_certfile.specs.Verdict.{Answer, Due, accepted, asks, complete, refused, unless_broken, verdict}

-- The lines begin with the block that is given, the reader stands behind it, and the rules on what it claims hold, with
-- whatever samples.
pub record IsGiven (v : NetworkView) (r : ReaderView) (b : Block) (w : ReaderView) : Type 0 where
  pub rest : List Line
  pub block : block_at r.version r.lines ≡ Ok (b, rest)
  pub sized : IsSized b
  pub reader : w ≡ behind r b rest
  pub holds : (sampled : Ball → Sampled) → first_some (claim_rules (judge_in v r sampled) b) ≡ None

abbrev pub GivenLaw : Type 0
GivenLaw = (v : NetworkView) (r : ReaderView) (b : Block) (w : ReaderView) → solved_of v r ≡ Ok (b, w) → IsGiven v r b w

-- the answer that a reader's end is
abbrev pub answer_of : {F : Type 0} → Result ℕ (ℕ × Rule) → Answer F
answer_of (Ok count) = accepted count
answer_of (Err refusal) = refused refusal.0 refusal.1

-- a script, as what is due in each of its states and the state after a block
module _ {S F : Type 0} (due : S → Due F) (after : S → Block → S) where
  -- a certificate begins with the block that is given, and comes to what its acts and the rest of it come to
  pub record ComesAfter (v : NetworkView) (r : ReaderView) (b : Block) (w : ReaderView) (c : Certificate)
      (sampled : Ball → Sampled) (s : S) (count : ℕ) : Type 0 where
    pub rest : Certificate
    pub gives_is : c ≡ gives b rest
    pub reads : Reads w.version w.lines rest
    pub comes : verdict due after r.line count c s
        ≡ unless_broken r.line b (first_some (act_rules (judge_in v r sampled) b)) (verdict due after w.line (count + 1) rest (after s b))

  pub record SolvingLaw : Type 0 where
    -- where a block is given
    pub solved : (v : NetworkView) (r : ReaderView) (b : Block) (w : ReaderView) (c : Certificate)
        (sampled : Ball → Sampled) (s : S) (count : ℕ)
        → solved_of v r ≡ Ok (b, w) → Reads r.version r.lines c → due s ≡ asks (judge_in v r sampled)
        → ComesAfter v r b w c sampled s count
    -- a certificate is refused as the reader refuses it
    pub refused_so : (v : NetworkView) (r : ReaderView) (line : ℕ) (rule : Rule) (c : Certificate)
        (sampled : Ball → Sampled) (s : S) (count : ℕ)
        → solved_of v r ≡ Err (line, rule) → Reads r.version r.lines c → due s ≡ asks (judge_in v r sampled)
        → verdict due after r.line count c s ≡ refused line rule
    -- where no further block is due it comes to what the reader finishes with
    pub finishes : (r : ReaderView) (c : Certificate) (s : S)
        → Reads r.version r.lines c → due s ≡ complete
        → verdict due after r.line (length r.given) c s ≡ answer_of (finish_of r)

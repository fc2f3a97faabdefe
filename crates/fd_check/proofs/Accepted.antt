-- An accepted certificate.
use Rattle.std.proofs.Common.{◌≡◌, ℕ, zero, suc, ◌+◌, List, Option, Some, None, refl}
use Rattle.dss_commands.specs.dss_model.declared.command.Blame.{Blame}
use Rattle.fd_daily.specs.fd_cert.declared.rule.Rule.{Rule}
use Rattle.fd_daily.specs.fd_cert.declared.rule.Rule.TheVariants as rule
use Rattle.fd_certfile.specs.Blocks.{Block, IsSized}
use Rattle.fd_certfile.specs.declared.version.Version.{Version}
use Rattle.fd_certfile.specs.Certificates.{Certificate, ends, trails, refuses, gives, Reads, lines_count}
use Rattle.fd_certfile.specs.Judging.{SoundLaw, judge_of}
use Rattle.fd_certfile.specs.Laws.{BlockLaw}
use Rattle.fd_certfile.specs.Lines.{Line}
use Rattle.fd_certfile.specs.RuleLaws.{RuleLaw}
use Rattle.fd_certfile.specs.Rules.{Broken, Holds, Judge, first_broken}
use Rattle.fd_certfile.specs.Verdict.{Answer, accepted, by_due, refused, unless_broken, verdict}
use Rattle.fd_daily.specs.Underway.{plant_at}
use Rattle.fd_check.specs.Checking.{Checking, Settling, after, done, due, due_in, outcome_in, sampled_by, under_way}
use Rattle.fd_check.specs.Laws.{AcceptedLaw, AreOfRounds, IsOfRound}

-- what would follow a rule that is broken
none_broken : (line n : ℕ) (b : Block) (o : Option Broken) (more : Answer Blame)
    → unless_broken line b o more ≡ accepted n → (o ≡ None) × (more ≡ accepted n)
none_broken line n b None more h = (refl, h)
none_broken line n b (Some k) more h = absurd (let no : ⊥ = cc in no)

module _ (rules : RuleLaw) (block : BlockLaw) (sound : SoundLaw) where
  of_round : (s : Settling) (b : Block) → IsSized b → (plant_at s.circuit s.hour).blame s.machine.at ≡ None
      → Holds (judge_of ((plant_at s.circuit s.hour).network s.machine.at) s.number s.hour s.round (λ ball. sampled_by (outcome_in s.circuit s.machine ball))) b
      → IsOfRound s b
  of_round s b sized in_range h = record {
    number = h.due.number;
    hour = h.due.hour;
    round = h.due.round;
    in_range = in_range;
    sound = sound ((plant_at s.circuit s.hour).network s.machine.at) s.number s.hour s.round
        (λ ball. sampled_by (outcome_in s.circuit s.machine ball)) b sized h;
    acts = h.acts;
  }

  -- a block that is due, unless the network is out of range
  by_blame : (s : Settling) (o : Option Blame) → (plant_at s.circuit s.hour).blame s.machine.at ≡ o → (b : Block)
      → IsSized b → (line n : ℕ) (otherwise more : Answer Blame)
      → by_due (due_in s o) otherwise (λ judge. unless_broken line b (first_broken judge b) more) ≡ accepted n
      → IsOfRound s b × (more ≡ accepted n)
  by_blame s None in_range b sized line n otherwise more h =
      let judge : Judge =
      judge_of ((plant_at s.circuit s.hour).network s.machine.at) s.number s.hour s.round
      (λ ball. sampled_by (outcome_in s.circuit s.machine ball)) in
      let both = none_broken line n b (first_broken judge b) more h in
      (of_round s b sized in_range ((rules.none judge b).0 both.0), both.1)
  by_blame s (Some blame) in_range b sized line n otherwise more h = absurd (let no : ⊥ = cc in no)

  -- nothing else is accepted where a block is due
  never_by : (s : Settling) (o : Option Blame) (n : ℕ) (otherwise other : Answer Blame) → (other ≡ accepted n → ⊥)
      → by_due (due_in s o) otherwise (λ judge. other) ≡ accepted n → ⊥
  never_by s None n otherwise other never h = never h
  never_by s (Some blame) n otherwise other never h = cc

  not_refused : (line n : ℕ) (k : Rule) → (let a : Answer Blame = refused line k in a ≡ accepted n) → ⊥
  not_refused line n k h = cc

  accepted_blocks : (c : Certificate) (v : Version) (lines : List Line) (line count n : ℕ) (s : Checking)
      → Reads v lines c → verdict due after line count c s ≡ accepted n → AreOfRounds c s
  accepted_blocks (gives b c) v lines line count n done reads h = absurd (not_refused line n rule.Count h)
  accepted_blocks (gives b c) v lines line count n (under_way s) reads h =
      let sized : IsSized b = (block.found v lines b reads.0 reads.1).sized in
      let both = by_blame s ((plant_at s.circuit s.hour).blame s.machine.at) refl b sized line n _ _ h in
      (both.0, accepted_blocks c v reads.0 (line + lines_count b) (count + 1) n (after (under_way s) b) reads.2 both.1)
  accepted_blocks ends v lines line count n done reads h = refl
  accepted_blocks ends v lines line count n (under_way s) reads h =
      absurd (never_by s ((plant_at s.circuit s.hour).blame s.machine.at) n (accepted count) (refused line rule.Count)
      (not_refused line n rule.Count) h)
  accepted_blocks trails v lines line count n done reads h = absurd (not_refused (line + 1) n rule.Grammar h)
  accepted_blocks trails v lines line count n (under_way s) reads h =
      absurd (never_by s ((plant_at s.circuit s.hour).blame s.machine.at) n (refused (line + 1) rule.Grammar)
      (refused line rule.Count) (not_refused line n rule.Count) h)
  accepted_blocks (refuses zero) v lines line count n done reads h = absurd (not_refused line n rule.Grammar h)
  accepted_blocks (refuses zero) v lines line count n (under_way s) reads h =
      absurd (never_by s ((plant_at s.circuit s.hour).blame s.machine.at) n (refused line rule.Grammar)
      (refused line rule.Grammar) (not_refused line n rule.Grammar) h)
  accepted_blocks (refuses (suc k)) v lines line count n done reads h = absurd (not_refused line n rule.Count h)
  accepted_blocks (refuses (suc k)) v lines line count n (under_way s) reads h =
      absurd (never_by s ((plant_at s.circuit s.hour).blame s.machine.at) n (refused line rule.Count)
      (refused (line + suc k) rule.Grammar) (not_refused (line + suc k) n rule.Grammar) h)

  pub accepted_so : AcceptedLaw
  accepted_so v lines line count n c s reads h = accepted_blocks c v lines line count n s reads h

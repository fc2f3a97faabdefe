-- Small cases of rules and verdicts: blocks of one unknown, of which so many are due.
use Rattle.std.specs.Prelude.{◌≡◌, ℕ, zero, suc, ℤ, pos, negsuc, ◌+◌, ◌^◌, Bool, true, false, List, [], ◌∷◌}
use Rattle.fd_certfile.specs.Blocks.{Act, Block}
use Rattle.fd_certfile.specs.Certificates.{Certificate, ends, trails, refuses, gives}
use Rattle.fd_certfile.specs.Rules.{Sampled, undecided, moves, at_limit, Judge}
use Rattle.fd_settle.specs.fd_cert.declared.rule.Rule.TheVariants.{Grammar, Size, Range, Mismatch, Bound, Radius, Undecided, Acts, ControlLimit, Count}
use Rattle.fd_certfile.specs.Verdict.{Due, asks, complete, Answer, accepted, refused, verdict}

abbrev pub a_move : List Act
a_move = record { time = pos 15000; control = pos 0; steps = negsuc 0 } ∷ []

-- the mismatch 1 and the radius 2 are due
abbrev pub judge_with : Bool → Sampled → Judge
judge_with reaches sampled = record {
  number = 1;
  hour = 0;
  round = 0;
  size = 1;
  mismatch = λ centre i. 1;
  reaches_one = λ claim i. reaches;
  radius = λ claim i. 2;
  sampled = λ ball. sampled;
}

abbrev pub due_with : Bool → Sampled → ℕ → Due (Unit {0})
due_with reaches sampled zero = complete
due_with reaches sampled (suc n) = asks (judge_with reaches sampled)

abbrev pub one_fewer : ℕ → Block → ℕ
one_fewer zero b = zero
one_fewer (suc n) b = n

-- a block with these numbers
abbrev pub block_with : ℤ → ℤ → ℤ → ℤ → ℤ → List Act → Block
block_with number centre radius mismatch entry acts = record {
  number = number;
  hour = pos 0;
  round = pos 0;
  size = pos 1;
  parts = record { centre = centre; radius = radius; mismatch = mismatch } ∷ [];
  inverse = (entry ∷ []) ∷ [];
  acts = acts;
}

abbrev pub good : Block
good = block_with (pos 1) (pos 9) (pos 2) (pos 1) (pos 3) a_move

abbrev pub says : Certificate → ℕ → Answer (Unit {0})
says c n = verdict (due_with false (moves a_move)) one_fewer 2 0 c n

abbrev pub judged : Bool → Sampled → Block → Answer (Unit {0})
judged reaches sampled b = verdict (due_with reaches sampled) one_fewer 2 0 (gives b ends) 1

pub record VerdictCases : Type 0 where
  pub whole : says (gives good ends) 1 ≡ accepted 1
  pub nothing : says ends 0 ≡ accepted 0
  pub missing : says (gives good ends) 2 ≡ refused 6 Count
  pub left : says (gives good (gives good ends)) 1 ≡ refused 6 Count
  pub trailing : says (gives good trails) 1 ≡ refused 7 Grammar
  pub trailing_early : says (gives good trails) 2 ≡ refused 6 Count
  pub no_line : says (gives good (refuses 0)) 1 ≡ refused 6 Grammar
  -- a block that is left is named at its solution line, whether it is whole or not
  pub left_broken : says (gives good (refuses 2)) 1 ≡ refused 6 Count
  pub due_broken : says (gives good (refuses 2)) 2 ≡ refused 8 Grammar
  -- a rule of an earlier block precedes the grammar of a later one
  pub earlier : says (gives (block_with (pos 1) (pos 9) (pos 1) (pos 1) (pos 3) a_move) (refuses 0)) 1
      ≡ refused 3 Radius

pub record RuleCases : Type 0 where
  pub size : judged false (moves a_move) (block_with (pos 2) (pos 9) (pos 2) (pos 1) (pos 3) a_move) ≡ refused 2 Size
  pub centre : judged false (moves a_move) (block_with (pos 1) (negsuc (2 ^ 40)) (pos 2) (pos 1) (pos 3) a_move)
      ≡ refused 3 Range
  pub centre_at : judged false (moves a_move) (block_with (pos 1) (pos (2 ^ 40)) (pos 2) (pos 1) (pos 3) a_move)
      ≡ accepted 1
  pub entry : judged false (moves a_move) (block_with (pos 1) (pos 9) (pos 2) (pos 1) (pos (2 ^ 56 + 1)) a_move)
      ≡ refused 3 Range
  pub negative_radius : judged false (moves a_move) (block_with (pos 1) (pos 9) (negsuc 0) (pos 1) (pos 3) a_move)
      ≡ refused 3 Range
  pub mismatch_low : judged false (moves a_move) (block_with (pos 1) (pos 9) (pos 2) (pos 0) (pos 3) a_move)
      ≡ refused 3 Mismatch
  pub mismatch_high : judged false (moves a_move) (block_with (pos 1) (pos 9) (pos 2) (pos 1001) (pos 3) a_move)
      ≡ refused 3 Mismatch
  pub mismatch_at : judged false (moves a_move) (block_with (pos 1) (pos 9) (pos 2) (pos 1000) (pos 3) a_move)
      ≡ accepted 1
  pub bound_first : judged true (moves a_move) (block_with (pos 1) (pos 9) (pos 1) (pos 1) (pos 3) a_move)
      ≡ refused 3 Bound
  pub radius : judged false (moves a_move) (block_with (pos 1) (pos 9) (pos 1) (pos 1) (pos 3) a_move)
      ≡ refused 3 Radius
  pub undecided_first : judged false undecided (block_with (pos 1) (pos 9) (pos 2) (pos 1) (pos 3) a_move)
      ≡ refused 5 Undecided
  pub acts : judged false (moves []) good ≡ refused 5 Acts
  pub acts_before_limit : judged false at_limit good ≡ refused 5 Acts
  pub limit : judged false at_limit (block_with (pos 1) (pos 9) (pos 2) (pos 1) (pos 3) []) ≡ refused 5 ControlLimit

-- What it says of a certificate that it is accepted.
use Rattle.std.specs.Prelude.{◌≡◌, ℕ, pos, List, None}
use Rattle.fd_daily.specs.fd_enclosure.Sound.{IsSound}
use Rattle.fd_certfile.specs.Blocks.{Block}
use Rattle.fd_certfile.specs.declared.version.Version.{Version}
use Rattle.fd_certfile.specs.Certificates.{Certificate, ends, trails, refuses, gives, Reads}
use Rattle.fd_certfile.specs.Judging.{claim_on}
use Rattle.fd_certfile.specs.Lines.{Line}
use Rattle.fd_certfile.specs.Rules.{ball_of, moves}
use Rattle.fd_certfile.specs.Verdict.{accepted, verdict}
use Rattle.fd_daily.specs.Underway.{plant_at}
use Rattle.fd_check.specs.Checking.{Checking, Settling, after, done, due, outcome_in, sampled_by, under_way}

-- A block of a settle's round: it has the round's numbers, the network of the round is in range, what the block claims is
-- sound there, and its acts are those that the queue machine makes of the samples of its ball.
pub record IsOfRound (s : Settling) (b : Block) : Type 0 where
  pub number : b.number ≡ pos s.number
  pub hour : b.hour ≡ pos s.hour
  pub round : b.round ≡ pos s.round
  pub in_range : (plant_at s.circuit s.hour).blame s.machine.at ≡ None
  pub sound : IsSound ((plant_at s.circuit s.hour).network s.machine.at) (claim_on ((plant_at s.circuit s.hour).network s.machine.at) b)
  pub acts : sampled_by (outcome_in s.circuit s.machine (ball_of b)) ≡ moves b.acts

-- each block is one of the round that comes next, and behind the last no Solve is left
abbrev pub AreOfRounds : Certificate → Checking → Type 0
AreOfRounds (gives b more) done = ⊥
AreOfRounds (gives b more) (under_way s) = IsOfRound s b × AreOfRounds more (after (under_way s) b)
AreOfRounds ends s = s ≡ done
AreOfRounds trails s = ⊥
AreOfRounds (refuses count) s = ⊥

-- where a certificate is accepted, its blocks are those of the rounds of all Solves, one for each
abbrev pub AcceptedLaw : Type 0
AcceptedLaw = (v : Version) (lines : List Line) (line count n : ℕ) (c : Certificate) (s : Checking)
    → Reads v lines c → verdict due after line count c s ≡ accepted n → AreOfRounds c s

-- What a reader gives as a solver: the next block, where what it claims holds on a network.
use Rattle.std.specs.Prelude.{◌≡◌, ℕ, [], Option, Some, None, Result, Ok, Err}
use Rattle.fd_settle.specs.fd_pattern.Views.{NetworkView}
use Rattle.fd_settle.specs.fd_enclosure.Sound.{Claim}
use Rattle.fd_settle.specs.fd_cert.declared.rule.Rule.{Rule}
use Rattle.fd_certfile.specs.Blocks.{Block}
use Rattle.fd_certfile.specs.Judging.{claim_on, judge_of}
use Rattle.fd_certfile.specs.Reader.{ReaderView, next_of}
use Rattle.fd_certfile.specs.Rules.{Ball, Broken, Judge, Sampled, claim_rules, first_some, line_at, moves}
use Rattle.fd_certfile.specs.declared.fault.CertFileFault.{CertFileFault}
use Rattle.fd_certfile.specs.declared.fault.CertFileFault.TheVariants as fault

-- what judges the block that is due to a reader, on a network
abbrev pub judge_in : NetworkView → ReaderView → (Ball → Sampled) → Judge
judge_in v r sampled = judge_of v r.number r.hour r.round sampled

-- no acts; the rules on what is claimed don't look at samples
abbrev pub no_acts : Ball → Sampled
no_acts ball = moves []

abbrev pub unless_unsound : ℕ → Block × ReaderView → Option Broken → Result (Block × ReaderView) (ℕ × Rule)
unless_unsound line next None = Ok next
unless_unsound line next (Some broken) = Err (line_at line next.0 broken.place, broken.rule)

abbrev pub by_claim : NetworkView → ReaderView → Result (Block × ReaderView) (ℕ × Rule)
    → Result (Block × ReaderView) (ℕ × Rule)
by_claim v r (Err refusal) = Err refusal
by_claim v r (Ok next) = unless_unsound r.line next (first_some (claim_rules (judge_in v r no_acts) next.0))

-- the next block of a reader, for which the rules on what it claims hold on a network, with the reader behind it; or the
-- line and the first rule that is broken
unfoldable pub solved_of : NetworkView → ReaderView → Result (Block × ReaderView) (ℕ × Rule)
solved_of v r = by_claim v r (next_of r v.size)

-- what is answered is what the block that comes next claims on the network, and the reader after it stands behind that
pub record IsSolved (v : NetworkView) (before : ReaderView) (m : Claim) (after : ReaderView) : Type 0 where
  pub block : Block
  pub solved : solved_of v before ≡ Ok (block, after)
  pub claim : m ≡ claim_on v block

-- a refusal, or want of memory, leaves the reader as it was
abbrev pub GivesSolved : NetworkView → ReaderView → Result Claim CertFileFault → ReaderView → Type 0
GivesSolved v before (Ok m) after = IsSolved v before m after
GivesSolved v before (Err (fault.Refused line rule)) after = (solved_of v before ≡ Err (line, rule)) × (after ≡ before)
GivesSolved v before (Err fault.NoMemory) after = after ≡ before

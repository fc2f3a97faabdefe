-- The acts of an hour's blocks beside those of its rounds, and what the hour comes to.
use Rattle.std.specs.Prelude.{ℕ, ◌-◌, List, [], ◌∷◌, length, map, take, Option, Some, None, Result, Ok, Err, if◌then◌else◌}
use Rattle.std.specs.Cmp.Lexicographic.{pointwise}
use Rattle.std.specs.declared.alloc.Global.{Global}
use Rattle.std.specs.declared.vec.Vec.{Vec}
use Rattle.fd_daily.specs.fd_cert.declared.rule.Rule.TheVariants as rule
use Rattle.fd_daily.specs.fd_settle.declared.fault.SettleFault.{SettleFault}
use Rattle.fd_daily.specs.fd_settle.declared.fault.SettleFault.TheVariants as settle
use Rattle.fd_daily.specs.fd_settle.declared.round.Act.{Act as Made}
use Rattle.fd_daily.specs.fd_settle.declared.round.Round.{Round}
use Rattle.fd_certfile.specs.Blocks.{Act}
use Rattle.fd_certfile.specs.Reader.{GivenBlock, ReaderView, given_at}
use Rattle.fd_certfile.specs.Rounds.{act_of}
use Rattle.fd_certfile.specs.Rules.{same_act}
use Rattle.fd_certfile.specs.declared.fault.CertFileFault.{CertFileFault}
use Rattle.fd_certfile.specs.declared.fault.CertFileFault.TheVariants as file
use Rattle.fd_check.specs.declared.fault.CheckFault.{CheckFault}
use Rattle.fd_check.specs.declared.fault.CheckFault.TheVariants as fault

-- acts, as the block of their round is to claim them
abbrev pub acts_claimed : Vec Made Global → List Act
acts_claimed acts = map act_of acts.items

-- those of a round
abbrev pub acts_made : Round → List Act
acts_made r = acts_claimed r.acts

-- the line behind the inverse of the first block that doesn't claim these acts
abbrev pub first_unlike : List (List Act) → List GivenBlock → Option ℕ
first_unlike [] blocks = None
first_unlike (acts ∷ more) [] = None
first_unlike (acts ∷ more) (b ∷ blocks) = if pointwise same_act acts b.acts then first_unlike more blocks else Some b.rule_line

-- all but the last
abbrev pub before_last : {X : Type 0} → List X → List X
before_last xs = take (length xs - 1) xs

-- a round with an undecided sample has no acts
abbrev pub with_acts : {T F X : Type 0} → Result T (SettleFault F) → List X → List X
with_acts (Err (settle.Undecided control low high edge)) xs = before_last xs
with_acts (Err (settle.Range blame)) xs = xs
with_acts (Err (settle.Solver f)) xs = xs
with_acts (Err (settle.ControlLimit acts)) xs = xs
with_acts (Err settle.NoMemory) xs = xs
with_acts (Ok t) xs = xs

-- the line behind the inverse of the last block that was given
abbrev pub last_line : ReaderView → ℕ
last_line r = (given_at r (length r.given - 1)).rule_line

abbrev pub unless_unlike : Option ℕ → Result (Unit {0}) CheckFault → Result (Unit {0}) CheckFault
unless_unlike None otherwise = otherwise
unless_unlike (Some line) otherwise = Err (fault.Refused line rule.Acts)

-- What an hour comes to, by how its settle ended and by a block that claims other acts. A refusal of the rules on what a
-- block claims comes behind the acts of the blocks before, and so does a network that is out of range.
abbrev pub hour_told : ReaderView → Result (Unit {0}) (SettleFault CertFileFault) → Option ℕ
    → Result (Unit {0}) CheckFault
hour_told r (Ok t) unlike = unless_unlike unlike (Ok t)
hour_told r (Err (settle.Undecided control low high edge)) unlike = unless_unlike unlike (Err (fault.Refused (last_line r) rule.Undecided))
hour_told r (Err (settle.ControlLimit acts)) unlike = unless_unlike unlike (Err (fault.Refused (last_line r) rule.ControlLimit))
hour_told r (Err (settle.Range blame)) unlike = unless_unlike unlike (Err (fault.Range blame))
hour_told r (Err (settle.Solver (file.Refused line broken))) unlike = unless_unlike unlike (Err (fault.Refused line broken))
hour_told r (Err (settle.Solver file.NoMemory)) unlike = Err fault.NoMemory
hour_told r (Err settle.NoMemory) unlike = Err fault.NoMemory

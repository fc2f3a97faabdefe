-- The code's verdicts in the words of decisions.
use Rattle.std.specs.Prelude.{Bool, true, false}
use Rattle.fd_queue.specs.Decisions.{Decision}
use Rattle.fd_queue.specs.Decisions as the
use Rattle.fd_queue.specs.declared.verdict.Verdict.{Verdict}
use Rattle.fd_queue.specs.declared.verdict.Verdict.TheVariants as verdict

abbrev pub is_decided : Verdict → Bool
is_decided (verdict.Raise n) = true
is_decided verdict.Hold = true
is_decided (verdict.Lower n) = true
is_decided (verdict.Undecided low high edge) = false

-- of a decided verdict; the rules of the queue are asked of no other
abbrev pub decision : Verdict → Decision
decision (verdict.Raise n) = the.Raise n
decision verdict.Hold = the.Hold
decision (verdict.Lower n) = the.Lower n
decision (verdict.Undecided low high edge) = the.Hold

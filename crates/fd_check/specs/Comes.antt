-- What a certificate comes to from where a reader stands.
use Rattle.std.specs.Prelude.{◌≡◌, List, length}
use Rattle.dss_commands.specs.dss_model.declared.command.Blame.{Blame}
use Rattle.dss_commands.specs.dss_circuit.Circuit.{CircuitView}
use Rattle.fd_certfile.specs.Certificates.{Certificate, Reads}
use Rattle.fd_certfile.specs.Reader.{ReaderView}
use Rattle.fd_certfile.specs.Verdict.{Answer, refused, stopped, verdict}
use Rattle.fd_check.specs.Checking.{Checking, after, due}
use Rattle.fd_check.specs.declared.fault.CheckFault.{CheckFault}
use Rattle.fd_check.specs.declared.fault.CheckFault.TheVariants as fault

-- The lines that a reader has left, behind the blocks that it gave, come to this answer, where the check of the Solves
-- stands so.
pub record Comes (r : ReaderView) (s : Checking) (answer : Answer Blame) : Type 0 where
  pub certificate : Certificate
  pub reads : Reads r.version r.lines certificate
  pub answer_is : answer ≡ verdict due after r.line (length r.given) certificate s

-- whatever comes there comes here
abbrev pub Leads : ReaderView → Checking → ReaderView → Checking → Type 0
Leads r s w t = (answer : Answer Blame) → Comes w t answer → Comes r s answer

-- so with whatever Solves behind
abbrev pub LeadsForAll : ReaderView → (List CircuitView → Checking) → ReaderView → (List CircuitView → Checking)
    → Type 0
LeadsForAll r s w t = (more : List CircuitView) → Leads r (s more) w (t more)

-- a fault as an answer; want of memory tells nothing
abbrev pub Tells : CheckFault → (Answer Blame → Type 0) → Type 0
Tells (fault.Refused line rule) P = P (refused line rule)
Tells (fault.Range blame) P = P (stopped blame)
Tells fault.NoMemory P = Unit {0}

-- a fault is what comes from there, with whatever Solves behind
abbrev pub TellsForAll : ReaderView → (List CircuitView → Checking) → CheckFault → Type 0
TellsForAll r s fault = (more : List CircuitView) → Tells fault (Comes r (s more))

-- a refusal, and nothing else
abbrev pub Refuses : CheckFault → (Answer Blame → Type 0) → Type 0
Refuses (fault.Refused line rule) P = P (refused line rule)
Refuses (fault.Range blame) P = ⊥
Refuses fault.NoMemory P = ⊥

-- The history of a script's commands for a command line.
use Rattle.std.specs.Prelude.{◌≡◌, ℕ, List, [], ◌∷◌, Option, Some, None}
use Rattle.fd_report.specs.dss_model.declared.command.Command.{Command}
use Rattle.fd_report.specs.dss_script.Said.{Said, name, command, ScriptEnd, at_its_end, refused_at}
use Rattle.fd_report.specs.declared.faults.Cause.TheVariants as cause
use Rattle.fd_report.specs.declared.faults.Fault.TheVariants as fault
use Rattle.fd_outcome.specs.Events.{Event, asked, History, ended, before}
use Rattle.fd_outcome.specs.Work.{Step, After, AfterCommand}

-- what is left of a script, and the state that stands before it
pub record Point (S : Type 0) : Type 0 where
  pub left : List Said
  pub end : ScriptEnd
  pub state : S

-- A command line gives what a command comes to, the name that it asks for behind the last command, where it asks for
-- one, and what it does then, by what is held under that name.
module _ {S : Type 0} (is_step : Command → S → Step S → Type 0) (last_name : S → Option (List ℕ))
    (is_last : S → Option (List ℕ) → History → Type 0)
    (held : List ℕ → Option (List ℕ)) where
  abbrev pub IsLast : Option (List ℕ) → S → History → Type 0
  IsLast None s h = is_last s None h
  IsLast (Some n) s h = After (asked n ∷ []) (λ more. is_last s (held n) more) h

  abbrev pub IsEnd : ScriptEnd → S → History → Type 0
  IsEnd at_its_end s h = IsLast (last_name s) s h
  IsEnd (refused_at place c) s h = h ≡ ended [] (fault.Script place (cause.Script c))

  abbrev pub IsHistory : List Said → ScriptEnd → S → History → Type 0
  IsHistory [] end s h = IsEnd end s h
  IsHistory (name n ∷ more) end s h = After (asked n ∷ []) (λ x. IsHistory more end s x) h
  IsHistory (command c ∷ more) end s h = AfterCommand (λ step. is_step c s step) (λ t x. IsHistory more end t x) h

  abbrev pub IsFrom : Point S → History → Type 0
  IsFrom p h = IsHistory p.left p.end p.state h

  -- with these events the run has come from one point to another: whatever history follows there, these events lead to
  -- it
  abbrev pub LeadsTo : Point S → List Event → Point S → Type 0
  LeadsTo p events q = (h : History) → IsFrom q h → IsFrom p (before events h)

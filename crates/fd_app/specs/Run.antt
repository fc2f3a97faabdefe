-- The history of a command line over files, and what a run does of it.
use Rattle.std.specs.Prelude.{◌≡◌, ℕ, Bool, true, false, List, [], Option, Some, None}
use Rattle.std.specs.Str.{chars}
use Rattle.fd_bench.specs.fd_outside.Answers.{AgreesSince, Answer}
use Rattle.fd_bench.specs.fd_outside.Files.{Files}
use Rattle.fd_checking.specs.dss_script.Said.{said_of}
use Rattle.fd_words.specs.Words.{Form, Solve, Cert, Check, Gen, Bench, Upgrade, Fault, Ladder}
use Rattle.fd_words.specs.declared.shorts.Short.{Short}
use Rattle.fd_words.specs.declared.shorts.Short.TheVariants as short
use Rattle.fd_checking.specs.fd_report.declared.faults.Fault.TheVariants as fault
use Rattle.fd_checking.specs.fd_outcome.Calls.{Style, certificate, report}
use Rattle.fd_checking.specs.fd_outcome.Events.{History, ended}
use Rattle.fd_checking.specs.fd_outcome.Runs.{Runs}
use Rattle.fd_checking.specs.fd_outcome.Work.{ExactlyOne}
use Rattle.fd_checking.specs.fd_solving.Scripts.{IsScriptHistory}
use Rattle.fd_checking.specs.Checks.{IsCheckHistory}
use Rattle.fd_upgrade.specs.Upgrading.{IsUpgradeHistory}
use Rattle.fd_shorting.specs.fd_fault.declared.kind.Kind.{Kind}
use Rattle.fd_shorting.specs.fd_fault.declared.kind.Kind.TheVariants as kind
use Rattle.fd_shorting.specs.Shorting.{IsFaultHistory}
use Rattle.fd_sweeping.specs.Sweeping.{IsLadderHistory}
use Rattle.fd_bench.specs.Bench.{IsBenchHistory, lines_alone, script_written}

-- ---- how a form is done

-- whether it asks for names of files, how it prints, and whether a text tells an end without a fault
pub record Manner : Type 0 where
  pub asks : Bool
  pub style : Style
  pub tells : Bool

abbrev pub asking : Style → Bool → Manner
asking style tells = record { asks = true; style = style; tells = tells }

-- of a form that asks for no name, and whose last text tells its end
abbrev pub alone : Style → Manner
alone style = record { asks = false; style = style; tells = true }

-- `solve` and `ladder` may still run out of memory as they look for a command behind the last one, and `fault` behind
-- its one settle
abbrev pub manner_of : Option Form → Manner
manner_of None = alone report
manner_of (Some (Solve file)) = asking report false
manner_of (Some (Cert file)) = asking certificate true
manner_of (Some (Check script name)) = asking report true
manner_of (Some (Gen number sections)) = alone report
manner_of (Some (Bench number sections)) = alone lines_alone
manner_of (Some (Upgrade name)) = asking report true
manner_of (Some (Fault master bus kind)) = asking report false
manner_of (Some (Ladder master)) = asking report false

-- the files agree with what was answered in a call, where names are asked
abbrev pub AgreesIf : Bool → List Answer → List Answer → Files → Type 0
AgreesIf true before now files = AgreesSince files before now
AgreesIf false before now files = Unit {0}

-- ---- what is done

-- the kind of short circuit that a word names
abbrev pub kind_of : Short → Kind
kind_of short.Lll = kind.Lll
kind_of short.Lg1 = kind.Lg1
kind_of short.Lg2 = kind.Lg2
kind_of short.Lg3 = kind.Lg3

-- the history of a command line; words that are no form are a fault
abbrev pub IsFormHistory : Files → Option Form → History → Type 0
IsFormHistory files None h = h ≡ ended [] fault.Usage
IsFormHistory files (Some (Solve file)) h = IsScriptHistory files (said_of files (chars file)) h
IsFormHistory files (Some (Cert file)) h = IsScriptHistory files (said_of files (chars file)) h
IsFormHistory files (Some (Check script name)) h = IsCheckHistory files (said_of files (chars script)) (chars name) h
IsFormHistory files (Some (Gen number sections)) h = h ≡ script_written number sections
IsFormHistory files (Some (Bench number sections)) h = IsBenchHistory number sections h
IsFormHistory files (Some (Upgrade name)) h = IsUpgradeHistory files (chars name) h
IsFormHistory files (Some (Fault master bus kind)) h =
    IsFaultHistory files (said_of files (chars master)) (chars master) (chars bus) (kind_of kind) h
IsFormHistory files (Some (Ladder master)) h = IsLadderHistory files (said_of files (chars master)) h

-- there is exactly one
abbrev pub FormsLaw : Type 0
FormsLaw = (files : Files) (form : Option Form) → ExactlyOne (IsFormHistory files form)

-- ---- what a run does

module _ {L S : Type 0} (answers : L → List Answer) (taken : S → List ℕ) (calls : S → ℕ) where
  -- the one history of the form over these files is done, whole or cut short
  abbrev pub RunsOver : Files → Option Form → L → L → S → S → ℕ → Type 0
  RunsOver files form lib_old lib_new old new code =
      Runs answers taken calls lib_old lib_new old new (λ h. IsFormHistory files form h) (manner_of form).style
      (manner_of form).tells code

  -- so over all files that agree with what was answered in the call
  abbrev pub RunsForm : Option Form → L → L → S → S → ℕ → Type 0
  RunsForm form lib_old lib_new old new code =
      (files : Files) → AgreesIf (manner_of form).asks (answers lib_old) (answers lib_new) files
      → RunsOver files form lib_old lib_new old new code

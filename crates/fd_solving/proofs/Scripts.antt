-- The history of `solve` and `cert`: there is exactly one, and it is that of what the script says.
use Rattle.std.proofs.Common.{◌≡◌, ◌∙◌, ℕ, Bool, List, [], Option, refl, ap, subst}
use Rattle.std.specs.Str.{chars}
use Rattle.fd_pages.specs.fd_outside.Answers.{Answer}
use Rattle.fd_pages.specs.fd_outside.Files.{Files, held}
use Rattle.dss_commands.specs.dss_model.Names.{bytes}
use Rattle.fd_pages.specs.dss_script.Script.{Script, script_of}
use Rattle.fd_pages.specs.dss_script.Said.{Said, ScriptEnd, said_of, ended_by, said_in, end_in}
use Rattle.fd_pages.specs.dss_script.SaidLaws.{SaidLaw}
use Rattle.fd_pages.specs.fd_outcome.Behind.{AsksNames, TellsEnd}
use Rattle.fd_pages.specs.fd_outcome.Calls.{Style, report}
use Rattle.fd_pages.specs.fd_outcome.Events.{History, finishes}
use Rattle.fd_pages.specs.fd_outcome.History.{IsHistory}
use Rattle.fd_pages.specs.fd_outcome.Runs.{Runs}
use Rattle.fd_pages.specs.fd_outcome.Work.{ExactlyOne, Step}
use Rattle.fd_pages.proofs.CallerLemmas.fd_outcome.{ends_first, exactly_one_history, exactly_this}
use Rattle.dss_commands.specs.dss_model.declared.command.Command.{Command}
use Rattle.fd_solving.specs.Commands.{IsStep}
use Rattle.fd_solving.specs.Scripts.{IsDoneThere, IsScriptHistory, first_standing, no_name}
use Rattle.fd_solving.proofs.Tests.{one_step}

-- a report asks for the names of its events
pub report_asks : AsksNames report
report_asks = record { asks = λ n. refl; silent = λ n. refl }

-- ---- exactly one

pub one_script : (files : Files) (file : List ℕ)
    → ExactlyOne (λ h. IsScriptHistory files (said_of files (chars file)) h)
one_script files file =
    let p = said_of files (chars file) in
    exactly_one_history IsStep no_name IsDoneThere one_step (λ s found. exactly_this (finishes []))
    (λ n. held files (bytes n)) p.said (ended_by p.left) first_standing

-- ---- from a session to what its script says

module _ {T : Type 0} (is_step : Command → T → Step T → Type 0) (last_name : T → Option (List ℕ))
    (is_last : T → Option (List ℕ) → History → Type 0) (style : Style) (tells : Bool) {L S : Type 0}
    (answers : L → List Answer) (taken : S → List ℕ) (calls : S → ℕ)
    (files : Files) (file : List ℕ) (first : T) where
  abbrev pub IsHistoryOf : List Said → ScriptEnd → T → History → Type 0
  IsHistoryOf said end state h = IsHistory is_step last_name is_last (λ n. held files (bytes n)) said end state h

  -- what the loop does of a session's script is done of what the script says
  pub of_script : SaidLaw → (script : Script) (state : T) (lib_old lib_new : L) (old new : S) (code : ℕ)
      → script ≡ script_of files file → state ≡ first
      → Runs answers taken calls lib_old lib_new old new
      (λ h. IsHistoryOf (said_in script) (end_in script) state h) style tells code
      → Runs answers taken calls lib_old lib_new old new
      (λ h. IsHistoryOf (said_of files file).said (ended_by (said_of files file).left) first h) style tells code
  of_script law script state lib_old lib_new old new code is begins runs =
      let p = said_of files file in
      let P : List Said → ScriptEnd → T → Type 0 =
      λ l e s. Runs answers taken calls lib_old lib_new old new (λ h. IsHistoryOf l e s h) style tells code in
      let a : P (said_in script) (end_in script) first = subst (P (said_in script) (end_in script)) begins runs in
      let b : P p.said (end_in script) first =
      subst (λ l. P l (end_in script) first) (ap said_in is ∙ law.said files file) a in
      subst (λ e. P p.said e first) (ap end_in is ∙ law.end files file) b

  -- memory runs out before the script is read
  pub not_begun : ((c : Command) (s : T) → ExactlyOne (is_step c s))
      → ((s : T) (found : Option (List ℕ)) → ExactlyOne (is_last s found)) → AsksNames style
      → TellsEnd tells style is_last → (lib : L) (out : S)
      → Runs answers taken calls lib lib out out
      (λ h. IsHistoryOf (said_of files file).said (ended_by (said_of files file).left) first h) style tells 1
  not_begun one_step one_last fits told lib out =
      let p = said_of files file in
      ends_first is_step last_name is_last style tells (λ n. held files (bytes n)) answers taken calls
      (record { left = p.said; end = ended_by p.left; state = first }) lib out one_step one_last fits told p.said
      (ended_by p.left) first refl

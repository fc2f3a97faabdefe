-- What `check` does behind the last command.
use Rattle.std.proofs.Common.{◌≡◌, ◌∙◌, ℕ, Bool, true, false, List, [], ◌∷◌, ◌++◌, Option, Some, None, Result, Ok, Err, refl, sym, ap, subst, arith}
use Rattle.std.specs.Prelude.{IfErr, IfOk}
use Rattle.fd_check.specs.fd_outside.Answers.{Answer, EndsFailed, HasFailed, IsLater, names_asked}
use Rattle.fd_check.specs.fd_outside.Causes.{Rose}
use Rattle.fd_check.specs.fd_outside.Files.{Files, held}
use Rattle.fd_check.specs.dss_model.Names.{bytes}
use Rattle.fd_solving.specs.dss_script.Said.{Part, ended_by}
use Rattle.fd_check.specs.dss_model.declared.command.Blame.{Blame}
use Rattle.fd_check.specs.fd_daily.Underway.{no_positions}
use Rattle.fd_check.specs.fd_certfile.Verdict.{Answer as Verdict, IsAnswer, accepted, refused, stopped}
use Rattle.fd_check.specs.Checking.{after, due, open_solves}
use Rattle.fd_check.specs.Comes.{Tells as Told}
use Rattle.fd_check.specs.fd_cert.declared.rule.Rule.TheVariants as rule
use Rattle.fd_check.specs.declared.fault.CheckFault.{CheckFault}
use Rattle.fd_check.specs.declared.fault.CheckFault.TheVariants as check
use Rattle.fd_solving.specs.fd_report.declared.faults.Cause.TheVariants as cause
use Rattle.fd_solving.specs.fd_report.declared.faults.Fault.TheVariants as fault
use Rattle.fd_solving.specs.fd_outcome.Calls.{Call, body, calls_of, doing, report}
use Rattle.fd_solving.specs.fd_outcome.Behind.{TellsEnd, last_calls}
use Rattle.fd_solving.specs.fd_outcome.Events.{History, asked, before}
use Rattle.fd_solving.specs.fd_outcome.History.{IsLast}
use Rattle.fd_solving.specs.fd_outcome.Parts.{Finishes, Printed, fault_doing}
use Rattle.fd_solving.specs.fd_outcome.Untold.{IsUntold}
use Rattle.fd_solving.proofs.CallerLemmas.fd_outcome.{IsToldBy, cut_before, fault_answers, finishes_asked, finishes_short, finishes_unread, shown_nothing, told_history, untold_fault, untold_finished, untold_last, untold_read, untold_short}
use Rattle.fd_checking.specs.Checks.{GatheredView, IsCheckHistory, IsCheckStep, IsJudged, certificate_name, first_gathered, judged_as}
use Rattle.fd_checking.specs.Judged.{IsAnsweredSo, IsJudgedBy, IsOfCheck, history_in}
use Rattle.fd_checking.specs.declared.judged.Judged.{Judged}
use Rattle.fd_checking.specs.declared.judged.Judged.TheVariants as judged
use Rattle.fd_solving.proofs.CallerLemmas.{never_read, never_usage, printed_cut, report_asks}
use Rattle.fd_checking.proofs.Gathering.{one_judged}

-- ---- the answer of the check

judged_so : (g : GatheredView) (found : Option (List ℕ)) (answer : Verdict Blame) (j : Judged) (other : Judged)
    → IsAnswer due after found (open_solves g.solved no_positions 0) answer → j ≡ other
    → history_in other ≡ judged_as answer → IsJudged g found (history_in j)
judged_so g found answer j other right is same = record { answer = answer; right = right; h_is = ap history_in is ∙ same }

-- it is the one that the certificate comes to
pub judged_is : (g : GatheredView) (found : Option (List ℕ)) (answer : Result ℕ CheckFault) (j : Judged)
    → IfOk answer (λ count. IsAnswer due after found (open_solves g.solved no_positions 0) (accepted count))
    → IfErr answer (λ f. Told f (IsAnswer due after found (open_solves g.solved no_positions 0))) → IsJudgedBy answer j
    → IsJudged g found (history_in j)
judged_is g found (Ok blocks) j ok err is = judged_so g found (accepted blocks) j (judged.Accepted blocks) ok is refl
judged_is g found (Err (check.Refused line rule)) j ok err is =
    judged_so g found (refused line rule) j (judged.Refused (fault.Certificate line rule)) err is refl
judged_is g found (Err (check.Range blame)) j ok err is =
    judged_so g found (stopped blame) j (judged.Refused (fault.Script blame.place (cause.Model blame.cause))) err is
    refl
judged_is g found (Err check.NoMemory) j ok err is = absurd is

-- no certificate
pub absent_is : (g : GatheredView) (found : Option (List ℕ)) (j : Judged) → found ≡ None
    → j ≡ judged.Refused (fault.Certificate 0 rule.Absent) → IsJudged g found (history_in j)
absent_is g found j none is =
    subst (λ (f : Option (List ℕ)). IsJudged g f (history_in j)) (sym none)
    (judged_so g None (refused 0 rule.Absent) j (judged.Refused (fault.Certificate 0 rule.Absent)) refl is refl)

-- some answer comes of what is found, though memory runs out before it is printed
abbrev judged_in : Verdict Blame → Judged
judged_in (accepted blocks) = judged.Accepted blocks
judged_in (refused line rule) = judged.Refused (fault.Certificate line rule)
judged_in (stopped blame) = judged.Refused (fault.Script blame.place (cause.Model blame.cause))

in_so : (answer : Verdict Blame) → judged_as answer ≡ history_in (judged_in answer)
in_so (accepted blocks) = refl
in_so (refused line rule) = refl
in_so (stopped blame) = refl

of_check_in : (answer : Verdict Blame) → IsOfCheck (judged_in answer)
of_check_in (accepted blocks) = tt
of_check_in (refused line rule) = tt
of_check_in (stopped blame) = tt

-- an answer has a text
pub some_answer : (j : Judged) → calls_of report (history_in j).events (history_in j).end ≡ [] → ⊥
some_answer (judged.Accepted blocks) e = cc e
some_answer (judged.Refused f) e = cc e

pub answered_short : {S : Type 0} (taken : S → List ℕ) (calls : S → ℕ) (out : S) (g : GatheredView)
    (found : Option (List ℕ)) → IsAnsweredSo taken calls out out g found 1
answered_short taken calls out g found =
    let one = one_judged g found in
    let j = judged_in one.is.answer in
    record {
      judged = j;
      right = record { answer = one.is.answer; right = one.is.right; h_is = sym (in_so one.is.answer) };
      of_check = of_check_in one.is.answer;
      prints = printed_cut taken calls true out out _ (history_in j).end 1 (λ told none. some_answer j none) (cut_before taken calls out _);
    }

-- ---- what is printed

same_calls : (begun : Bool) (j : Judged)
    → calls_of report (history_in j).events (history_in j).end ≡ last_calls report begun (history_in j).events (history_in j).end
same_calls true (judged.Accepted blocks) = refl
same_calls false (judged.Accepted blocks) = refl
same_calls true (judged.Refused f) = refl
same_calls false (judged.Refused f) = refl

some_text : (answer : Verdict Blame) → (judged_as answer).end ≡ None → body report (judged_as answer).events ++ [] ≡ [] → ⊥
some_text (accepted blocks) none e = cc e
some_text (refused line rule) none e = cc none
some_text (stopped blame) none e = cc none

-- where no fault ends it, the record of an accepted certificate tells the end
pub judged_tells : TellsEnd true report IsJudged
judged_tells g found h told is none e =
    let P : History → Type 0 = λ x. x.end ≡ None → body report x.events ++ [] ≡ [] → ⊥ in
    subst P (sym is.h_is) (some_text is.answer) none e

module _ {L S : Type 0} (answers : L → List Answer) (holds : L → Option Files) (sink_faults : S → ℕ)
    (taken : S → List ℕ) (calls : S → ℕ) (g : GatheredView) (lib_old lib_new : L) where
  abbrev Asks : Type 0
  Asks = names_asked (answers lib_new) ≡ names_asked (answers lib_old) ++ bytes g.certificate ∷ []

  module _ (there : List ℕ → Option (List ℕ)) (begun : Bool) where
    abbrev IsEnd : History → Type 0
    IsEnd h = IsLast IsCheckStep certificate_name IsJudged there (certificate_name g) g h

    abbrev Tells : S → S → ℕ → Type 0
    Tells old new code = Finishes report true IsEnd answers taken calls lib_old lib_new old new begun code

    behind_name : (more : History) → IsJudged g (there g.certificate) more
        → IsEnd (before (asked g.certificate ∷ []) more)
    behind_name more is = record { more = more; right = is; h_is = refl }

    pub judged_told : (j : Judged) → IsJudged g (there g.certificate) (history_in j) → (old new : S) (code : ℕ) → Asks
        → Printed taken calls old new true (doing report (history_in j)) code → Tells old new code
    judged_told j is old new code asks printed =
        let h = history_in j in
        finishes_asked report report_asks answers taken calls true IsEnd g.certificate h
        (behind_name h is) lib_old lib_new begun old new code asks
        (subst (λ (l : List Call). Printed taken calls old new true (record { calls = l; end = h.end }) code)
        (same_calls begun j) printed)

    -- some answer comes of what is held
    abbrev some_end : History
    some_end = (one_judged g (there g.certificate)).some

    pub unasked_told : (out : S) → names_asked (answers lib_new) ≡ names_asked (answers lib_old) ++ [] → Tells out out 1
    unasked_told out same =
        finishes_short report report_asks answers taken calls true IsEnd g.certificate some_end
        (behind_name some_end (one_judged g (there g.certificate)).is) lib_old lib_new begun out same

    pub unread_told : (old new : S) (code : ℕ) → Asks → HasFailed (answers lib_old) (answers lib_new)
        → Printed taken calls old new true (fault_doing (fault.Read g.certificate)) code → Tells old new code
    unread_told old new code asks last printed =
        finishes_unread report report_asks answers taken calls true IsEnd g.certificate some_end
        (behind_name some_end (one_judged g (there g.certificate)).is) lib_old lib_new begun old new code
        asks last printed

  -- ---- whatever the library answers

  abbrev Untold : S → S → ℕ → Type 0
  Untold old new code = IsUntold answers holds sink_faults taken calls lib_old lib_new old new code

  pub judged_untold : (j : Judged) → IsOfCheck j → (old new : S) (code : ℕ) → IsLater answers holds lib_old lib_new
      → Printed taken calls old new true (doing report (history_in j)) code
      → (code ≡ 5 → Rose (sink_faults old) (sink_faults new)) → Untold old new code
  judged_untold (judged.Accepted blocks) of_check old new code later printed write =
      untold_finished answers holds sink_faults taken calls lib_old lib_old lib_new lib_new old old new code
      (shown_nothing answers holds sink_faults taken calls lib_old old)
      later (omega arith) (untold_last answers holds sink_faults taken calls true lib_new old new _ code printed write)
  judged_untold (judged.Refused f) of_check old new code later printed write =
      untold_fault answers holds sink_faults taken calls lib_old lib_old lib_new old old new code
      (shown_nothing answers holds sink_faults taken calls lib_old old)
      later (fault_answers taken calls old new f code printed)
      (never_usage taken calls old new _ f code of_check printed)
      (never_read taken calls old new _ f code of_check printed) write

  pub short_untold : (out : S) → IsLater answers holds lib_old lib_new → Untold out out 1
  short_untold out later =
      untold_short answers holds sink_faults taken calls lib_old lib_old lib_new out out
      (shown_nothing answers holds sink_faults taken calls lib_old out) later

  pub unread_untold : (old new : S) (code : ℕ) → IsLater answers holds lib_old lib_new
      → EndsFailed (answers lib_old) (answers lib_new) (bytes g.certificate)
      → Printed taken calls old new true (fault_doing (fault.Read g.certificate)) code
      → (code ≡ 5 → Rose (sink_faults old) (sink_faults new)) → Untold old new code
  unread_untold old new code later last printed write =
      untold_read answers holds sink_faults taken calls lib_old lib_old lib_new old old new g.certificate code
      (shown_nothing answers holds sink_faults taken calls lib_old old) later last printed write

-- ---- a state as contracts see it

module _ {L S : Type 0} (answers : L → List Answer) (taken : S → List ℕ) (calls : S → ℕ)
    (there : List ℕ → Option (List ℕ)) (lib_old lib_new : L) (begun : Bool) where
  abbrev pub TellsOf : GatheredView → S → S → ℕ → Type 0
  TellsOf g old new code =
      Finishes report true (λ h. IsLast IsCheckStep certificate_name IsJudged there (certificate_name g) g h)
      answers taken calls lib_old lib_new old new begun code

  pub told_as : (s g : GatheredView) (old new : S) (code : ℕ) → s ≡ g → TellsOf s old new code → TellsOf g old new code
  told_as s g old new code same told = subst (λ (x : GatheredView). TellsOf x old new code) same told

-- so does a history of `check`
pub check_tells : (files : Files) (p : Part) (name : List ℕ) (h : History) → IsCheckHistory files p name h
    → IsToldBy report true h.events h.end
check_tells files p name h is =
    told_history IsCheckStep certificate_name IsJudged (λ n. held files (bytes n)) report true judged_tells
    p.said (ended_by p.left) (first_gathered name) h is

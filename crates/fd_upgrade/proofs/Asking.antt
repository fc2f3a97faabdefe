-- A name that is asked, and what is done behind it.
use Rattle.std.proofs.Common.{◌≡◌, ◌∙◌, ℕ, true, false, List, [], ◌∷◌, ◌++◌, inl, inr, Option, Some, None, Result, Ok, Err, refl, sym, ap, subst, arith}
use Rattle.fd_solving.specs.fd_outside.Answers.{Answer, EndsFailed, IsLater, names_asked}
use Rattle.fd_solving.specs.fd_outside.Causes.{Rose}
use Rattle.fd_solving.specs.fd_outside.Files.{Files, held}
use Rattle.fd_solving.specs.dss_model.Names.{bytes}
use Rattle.fd_solving.specs.fd_report.declared.faults.Fault.{Fault}
use Rattle.fd_solving.specs.fd_report.declared.faults.Fault.TheVariants as fault
use Rattle.fd_solving.specs.fd_cert.declared.rule.Rule.{Rule}
use Rattle.fd_solving.specs.fd_cert.declared.rule.Rule.TheVariants.{Absent, Grammar}
use Rattle.fd_solving.specs.fd_outcome.Behind.{last_calls}
use Rattle.fd_solving.specs.fd_outcome.Calls.{Call, calls_of, doing, report}
use Rattle.fd_solving.specs.fd_outcome.Done.{IsDone, failing}
use Rattle.fd_solving.specs.fd_outcome.Events.{Event, History, asked, before, ended}
use Rattle.fd_solving.specs.fd_outcome.Parts.{Finishes, Printed, fault_doing}
use Rattle.fd_solving.specs.fd_outcome.Runs.{Runs}
use Rattle.fd_solving.specs.fd_outcome.Untold.{IsUntold}
use Rattle.fd_solving.proofs.CallerLemmas.fd_outcome.{cut_before, fault_answers, finishes_asked, finishes_short, finishes_unread, shown_nothing, untold_fault, untold_finished, untold_last, untold_read, untold_short}
use Rattle.fd_solving.proofs.CallerLemmas.{never_read, never_usage, printed_cut, report_asks}
use Rattle.fd_upgrade.specs.Answering.{IsAnswered}
use Rattle.fd_upgrade.specs.Upgrading.{IsUpgradeHistory, IsUpgradeOf}
use Rattle.fd_upgrade.proofs.History.{one_upgrade_of}

-- ---- what is done

same_last : (events : List Event) (end : Option Fault) → last_calls report false events end ≡ calls_of report events end
same_last events None = refl
same_last events (Some f) = refl

module _ {L S : Type 0} (answers : L → List Answer) (holds : L → Option Files) (sink_faults : S → ℕ) (taken : S → List ℕ)
    (calls : S → ℕ) (files : Files) (name : List ℕ) (lib_old lib_new : L) where
  abbrev Upgrades : S → S → ℕ → Type 0
  Upgrades old new code = Runs answers taken calls lib_old lib_new old new (λ h. IsUpgradeHistory files name h) report true code

  runs_of : (old new : S) (code : ℕ)
      → Finishes report true (λ h. IsUpgradeHistory files name h) answers taken calls lib_old lib_new old new false code
      → Upgrades old new code
  runs_of old new code f = record {
    history = f.history;
    right = f.right;
    fails = f.fails;
    cause = f.cause;
    made = f.made;
    done = subst (λ (cs : List Call). IsDone true (failing f.fails (record { calls = cs; end = f.history.end })) code f.made)
        (same_last f.history.events f.history.end) f.done;
    sees = f.sees;
  }

  behind_name : (more : History) → IsUpgradeOf (held files (bytes name)) more
      → IsUpgradeHistory files name (before (asked name ∷ []) more)
  behind_name more is = record { more = more; right = is; h_is = refl }

  abbrev some_end : History
  some_end = (one_upgrade_of (held files (bytes name))).some

  abbrev Asks : Type 0
  Asks = names_asked (answers lib_new) ≡ names_asked (answers lib_old) ++ bytes name ∷ []

  pub answered_runs : (more : History) → IsUpgradeOf (held files (bytes name)) more → (old new : S) (code : ℕ) → Asks
      → Printed taken calls old new true (doing report more) code → Upgrades old new code
  answered_runs more is old new code asks printed =
      runs_of old new code
      (finishes_asked report report_asks answers taken calls true (λ h. IsUpgradeHistory files name h) name more
      (behind_name more is) lib_old lib_new false old new code asks
      (subst (λ (cs : List Call). Printed taken calls old new true (record { calls = cs; end = more.end }) code)
      (sym (same_last more.events more.end)) printed))

  pub short_runs : (out : S) → names_asked (answers lib_new) ≡ names_asked (answers lib_old) ++ [] → Upgrades out out 1
  short_runs out same =
      runs_of out out 1
      (finishes_short report report_asks answers taken calls true (λ h. IsUpgradeHistory files name h) name some_end
      (behind_name some_end (one_upgrade_of (held files (bytes name))).is) lib_old lib_new false out same)

  pub unread_runs : (old new : S) (code : ℕ) → Asks → EndsFailed (answers lib_old) (answers lib_new) (bytes name)
      → Printed taken calls old new true (fault_doing (fault.Read name)) code → Upgrades old new code
  unread_runs old new code asks last printed =
      runs_of old new code
      (finishes_unread report report_asks answers taken calls true (λ h. IsUpgradeHistory files name h) name some_end
      (behind_name some_end (one_upgrade_of (held files (bytes name))).is) lib_old lib_new false old new code asks
      (bytes name, last) printed)

-- ---- whatever the library answers

module _ {L S : Type 0} (answers : L → List Answer) (holds : L → Option Files) (sink_faults : S → ℕ) (taken : S → List ℕ)
    (calls : S → ℕ) (lib_old lib_new : L) where
  abbrev Untold : S → S → ℕ → Type 0
  Untold old new code = IsUntold answers holds sink_faults taken calls lib_old lib_new old new code

  by_fault : (line : ℕ) (rule : Rule) (more : History) → more ≡ ended [] (fault.Certificate line rule) → (old new : S) (code : ℕ)
      → IsLater answers holds lib_old lib_new → Printed taken calls old new true (doing report more) code
      → (code ≡ 5 → Rose (sink_faults old) (sink_faults new)) → Untold old new code
  by_fault line rule more e old new code later printed write =
      let f = fault.Certificate line rule in
      let p = subst (λ (x : History). Printed taken calls old new true (doing report x) code) e printed in
      untold_fault answers holds sink_faults taken calls lib_old lib_old lib_new old old new code
      (shown_nothing answers holds sink_faults taken calls lib_old old)
      later (fault_answers taken calls old new f code p)
      (never_usage taken calls old new _ f code tt p)
      (never_read taken calls old new _ f code tt p) write

  pub answered_untold : (there : Option (List ℕ)) (more : History) → IsUpgradeOf there more → (old new : S) (code : ℕ)
      → IsLater answers holds lib_old lib_new → Printed taken calls old new true (doing report more) code
      → (code ≡ 5 → Rose (sink_faults old) (sink_faults new)) → Untold old new code
  answered_untold None more is old new code later printed write = by_fault 0 Absent more is old new code later printed write
  answered_untold (Some file) more (inr r) old new code later printed write = by_fault r.outside Grammar more r.h_is old new code later printed write
  answered_untold (Some file) more (inl w) old new code later printed write =
      let p = subst (λ (x : History). Printed taken calls old new true (doing report x) code) w.h_is printed in
      untold_finished answers holds sink_faults taken calls lib_old lib_old lib_new lib_new old old new code
      (shown_nothing answers holds sink_faults taken calls lib_old old)
      later (omega arith) (untold_last answers holds sink_faults taken calls true lib_new old new _ code p write)

  pub short_untold : (out : S) → IsLater answers holds lib_old lib_new → Untold out out 1
  short_untold out later =
      untold_short answers holds sink_faults taken calls lib_old lib_old lib_new out out
      (shown_nothing answers holds sink_faults taken calls lib_old out) later

  pub unread_untold : (name : List ℕ) (old new : S) (code : ℕ) → IsLater answers holds lib_old lib_new
      → EndsFailed (answers lib_old) (answers lib_new) (bytes name)
      → Printed taken calls old new true (fault_doing (fault.Read name)) code
      → (code ≡ 5 → Rose (sink_faults old) (sink_faults new)) → Untold old new code
  unread_untold name old new code later last printed write =
      untold_read answers holds sink_faults taken calls lib_old lib_old lib_new old old new name code
      (shown_nothing answers holds sink_faults taken calls lib_old old) later last printed write

-- ---- names and want of memory

-- the name that was kept is the one that was given
pub named_runs : {L S : Type 0} (answers : L → List Answer) (taken : S → List ℕ) (calls : S → ℕ) (files : Files)
    (name given : List ℕ) (lib_old lib_new : L) (old new : S) (code : ℕ) → name ≡ given
    → Runs answers taken calls lib_old lib_new old new (λ h. IsUpgradeHistory files name h) report true code
    → Runs answers taken calls lib_old lib_new old new (λ h. IsUpgradeHistory files given h) report true code
named_runs answers taken calls files name given lib_old lib_new old new code same r =
    subst (λ (n : List ℕ). Runs answers taken calls lib_old lib_new old new (λ h. IsUpgradeHistory files n h) report true code) same r

-- some text comes of what is found, though memory runs out before it is printed
some_calls : (there : Option (List ℕ)) (more : History) → IsUpgradeOf there more → calls_of report more.events more.end ≡ [] → ⊥
some_calls None more is e = let k = sym (ap (λ (x : History). calls_of report x.events x.end) is) ∙ e in cc k
some_calls (Some file) more (inr r) e = let k = sym (ap (λ (x : History). calls_of report x.events x.end) r.h_is) ∙ e in cc k
some_calls (Some file) more (inl w) e = let k = sym (ap (λ (x : History). calls_of report x.events x.end) w.h_is) ∙ e in cc k

pub short_answer : {S : Type 0} (taken : S → List ℕ) (calls : S → ℕ) (out : S) (there : Option (List ℕ))
    → IsAnswered taken calls out out there 1
short_answer taken calls out there =
    let one = one_upgrade_of there in
    record {
      more = one.some;
      right = one.is;
      prints = printed_cut taken calls true out out (calls_of report one.some.events one.some.end) one.some.end 1
          (λ told none. some_calls there one.some one.is none) (cut_before taken calls out _);
    }

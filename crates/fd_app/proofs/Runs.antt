-- The history of a command line, what a run does of it, and the run's status.
use Rattle.std.proofs.Common.{ℕ, Bool, true, false, List, [], Option, Some, None, refl, sym, subst, inl, inr}
use Rattle.fd_bench.specs.fd_outside.Answers.{AgreesSince, Answer}
use Rattle.fd_bench.specs.fd_outside.Files.{Files}
use Rattle.fd_checking.specs.fd_report.declared.faults.Fault.TheVariants as fault
use Rattle.fd_checking.specs.dss_script.Said.{said_of}
use Rattle.std.specs.Str.{chars}
use Rattle.fd_checking.specs.fd_outcome.Calls.{body, certificate, doing, report}
use Rattle.fd_checking.specs.fd_outcome.Events.{History, ended}
use Rattle.fd_checking.specs.fd_outcome.Way.{whole}
use Rattle.fd_checking.specs.fd_outcome.Laws.{IsDue}
use Rattle.fd_checking.proofs.CallerLemmas.fd_outcome.{IsToldBy, all_told, exactly_this, not_empty, run_due, sees_none}
use Rattle.fd_checking.proofs.CallerLemmas.fd_outcome.{told_fault}
use Rattle.fd_checking.proofs.CallerLemmas.fd_solving.{one_script}
use Rattle.fd_checking.proofs.CallerLemmas.{check_tells, one_check}
use Rattle.fd_bench.specs.Bench.{script_written}
use Rattle.fd_bench.proofs.CallerLemmas.{agrees_held, bench_tells, one_bench, script_tells}
use Rattle.fd_words.specs.Words.{Form, Solve, Cert, Check, Gen, Bench, Upgrade, Fault, Ladder}
use Rattle.fd_shorting.proofs.CallerLemmas.{one_fault}
use Rattle.fd_sweeping.proofs.CallerLemmas.{one_ladder}
use Rattle.fd_upgrade.proofs.CallerLemmas.{one_upgrade, upgrade_tells}
use Rattle.fd_app.specs.Printing.{Outside}
use Rattle.fd_app.specs.Promise.{IsPromised}
use Rattle.fd_app.specs.Told.{ToldLaw}
use Rattle.fd_app.specs.Run.{AgreesIf, FormsLaw, IsFormHistory, RunsOver, kind_of, manner_of}

pub forms : FormsLaw
forms files None = exactly_this (ended [] fault.Usage)
forms files (Some (Solve file)) = one_script files file
forms files (Some (Cert file)) = one_script files file
forms files (Some (Check script certificate)) = one_check files script certificate
forms files (Some (Gen number sections)) = exactly_this (script_written number sections)
forms files (Some (Bench number sections)) = one_bench number sections
forms files (Some (Upgrade name)) = one_upgrade files (chars name)
forms files (Some (Fault master bus kind)) = one_fault files (chars master) (chars master) (chars bus) (kind_of kind)
forms files (Some (Ladder master)) = one_ladder files (chars master)

-- ---- the text that tells an end

form_tells : (files : Files) (form : Option Form) (h : History) → IsFormHistory files form h
    → IsToldBy (manner_of form).style (manner_of form).tells h.events h.end
form_tells files None h is = told_fault report true [] fault.Usage h is
form_tells files (Some (Solve file)) h is = λ told none e. cc told
form_tells files (Some (Cert file)) h is = λ told none e. not_empty (body certificate h.events) _ [] e
form_tells files (Some (Check script name)) h is = check_tells files (said_of files (chars script)) (chars name) h is
form_tells files (Some (Gen number sections)) h is =
    subst (λ (x : History). IsToldBy report true x.events x.end) (sym is) (script_tells number sections)
form_tells files (Some (Bench number sections)) h is = bench_tells number sections h is
form_tells files (Some (Upgrade name)) h is = upgrade_tells files (chars name) h is
form_tells files (Some (Fault master bus kind)) h is = λ told none e. cc told
form_tells files (Some (Ladder master)) h is = λ told none e. cc told

-- memory runs out before anything is done
module _ {L S : Type 0} (answers : L → List Answer) (taken : S → List ℕ) (calls : S → ℕ) where
  pub form_short : (files : Files) (form : Option Form) (lib : L) (out : S)
      → RunsOver answers taken calls files form lib lib out out 1
  form_short files form lib out =
      let one = forms files form in
      let h = one.some in
      record {
        history = h;
        right = one.is;
        fails = None;
        cause = inl refl;
        made = whole [];
        done = inr (
          inl (record { rest = (doing (manner_of form).style h).calls; calls = refl; torn = refl; status_is = refl }),
          λ told none.
              all_told (manner_of form).style (manner_of form).tells h.events h.end told
              (form_tells files form h one.is) (sym none),
        );
        sees = sees_none answers taken calls lib out;
      }

-- ---- over a library that tells what it holds

agrees_if : (asks : Bool) (before now : List Answer) (files : Files) → AgreesSince files before now
    → AgreesIf asks before now files
agrees_if true before now files agrees = agrees
agrees_if false before now files agrees = tt

module _ {L S : Type 0} (answers : L → List Answer) (holds : L → Option Files) (taken : S → List ℕ)
    (calls : S → ℕ) where
  pub told : ToldLaw answers holds taken calls
  told files form lib_old lib_new old new code is later promised =
      promised files (agrees_if (manner_of form).asks (answers lib_old) (answers lib_new) files
      (agrees_held answers holds files lib_old lib_new is later))

-- ---- the status

-- what is printed, as what is done over what was answered and taken
runs_as : (o : Outside) (files : Files) (form : Option Form) (code : ℕ) → IsPromised o files form code
    → RunsOver {L = List Answer} {S = List ℕ × ℕ} (λ a. a) (λ s. s.0)
    (λ s. s.1) files form o.answers_before o.answers_now
    (o.taken_before, o.writes_before) (o.taken_now, o.writes_now) code
runs_as o files form code p = record {
  history = p.history;
  right = p.right;
  fails = p.printed.fails;
  cause = p.printed.cause;
  made = p.printed.made;
  done = p.printed.done;
  sees = record { names = p.printed.names; bytes = p.printed.bytes_are; writes = p.printed.writes };
}

pub due : (files : Files) (form : Option Form) (h : History) (o : Outside) (code : ℕ) → IsFormHistory files form h
    → IsPromised o files form code → IsDue h.end code o.answers_before o.answers_now
due files form h o code right p =
    let one = forms files form in
    let all = run_due {L = List Answer} {S = List ℕ × ℕ} (λ a. a) (λ s. s.0) (λ s. s.1)
    (λ x. IsFormHistory files form x) (manner_of form).style (manner_of form).tells
    o.answers_before o.answers_now (o.taken_before, o.writes_before) (o.taken_now, o.writes_now) code one
    (runs_as o files form code p) in
    subst (λ (x : History). IsDue x.end code o.answers_before o.answers_now) (sym (one.only h right)) all

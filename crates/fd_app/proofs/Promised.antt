-- What is done for a command line, as it is promised.
use Rattle.std.proofs.Common.{ℕ, List, [], ◌∷◌, Option, Some, None, All}
use Rattle.std.specs.Str.{chars}
use Rattle.std.proofs.lemmas.List.Elements.{All-weaker, recursion_from_All}
use Rattle.fd_checking.specs.dss_circuit.Circuit.{CircuitView}
use Rattle.fd_checking.specs.dss_ready.Passed.{PassedLaw}
use Rattle.fd_checking.specs.dss_script.Said.{ended_by, said_of}
use Rattle.fd_bench.specs.fd_outside.Answers.{Answer}
use Rattle.fd_bench.specs.fd_outside.Files.{Files}
use Rattle.fd_words.specs.Words.{Form, Solve, Cert, Check, Gen, Bench, Upgrade, Fault, Ladder}
use Rattle.fd_checking.specs.fd_certfile.Laws.{CertificateLaw}
use Rattle.fd_checking.specs.fd_check.Checking.{after, due, open_solves}
use Rattle.fd_checking.specs.fd_daily.Underway.{no_positions}
use Rattle.fd_upgrade.proofs.CallerLemmas.{upgrade_answers}
use Rattle.fd_checking.specs.fd_certfile.RuleLaws.{RuleLaw}
use Rattle.fd_checking.specs.fd_daily.Underway.{plant_at}
use Rattle.fd_checking.specs.fd_enclosure.Sound.{Claim}
use Rattle.fd_checking.specs.fd_queue.Controls.{Positions}
use Rattle.fd_checking.specs.fd_queue.Machine.{Machine}
use Rattle.fd_checking.specs.fd_settle.Plant.{Plant, network_at}
use Rattle.fd_checking.specs.fd_settle.Rounds.{AtEach, after_round}
use Rattle.fd_checking.specs.fd_outcome.Events as event
use Rattle.fd_checking.specs.fd_outcome.Settles.{Settle}
use Rattle.fd_checking.specs.fd_outcome.Events.{AllSettles, Event, History, IfSettle, asked, settle, row}
use Rattle.fd_checking.specs.fd_solving.Headline.{EnclosesAll, EnclosesAllSizes, IsSolution, IsSolved, claims_of}
use Rattle.fd_checking.specs.fd_solving.Headline.{machine_of}
use Rattle.fd_checking.specs.fd_solving.Scripts.{IsScriptHistory, first_standing}
use Rattle.fd_checking.specs.fd_solving.SolvedLaw.{SolvedLaw}
use Rattle.fd_app.specs.Meaning.{MeaningLaw}
use Rattle.fd_shorting.specs.StudiedLaw.{StudiedLaw}
use Rattle.fd_shorting.specs.Studies.{IsStudy}
use Rattle.fd_sweeping.specs.Agreements.{HaveSweeps}
use Rattle.fd_sweeping.specs.SweptLaw.{SweptLaw}
use Rattle.fd_app.specs.Printing.{outside_of}
use Rattle.fd_app.specs.Promise.{AreTrue, IsPromised, IsTrue}
use Rattle.fd_app.specs.Sentences.{AreStudied, AreSwept}
use Rattle.fd_app.specs.Rounds.{EachRound, EnclosesLinear, HasEach, IsExact, MeetsEquations}
use Rattle.fd_bench.specs.Bench.{feeder_files, feeder_name}
use Rattle.fd_app.specs.Run.{IsFormHistory, RunsOver, kind_of}
use Rattle.fd_app.proofs.Scripts.{cert_is_accepted}
use Rattle.fd_app.proofs.Steadily.{script_steady}

-- ---- each round

each_weaker : (P Q : Positions → Claim → Type 0) → ((at : Positions) (m : Claim) → P at m → Q at m)
    → (p : Plant) (k : Machine) (ms : List Claim)
    → AtEach P p k ms → AtEach Q p k ms
each_weaker P Q f p k [] h = tt
each_weaker P Q f p k (m ∷ ms) h = (f k.at m h.0, each_weaker P Q f p (after_round p k m) ms h.1)

if_settle : (P Q : Settle → Type 0) → ((s : Settle) → P s → Q s) → (e : Event) → IfSettle P e → IfSettle Q e
if_settle P Q f (settle s) h = f s h
if_settle P Q f (asked n) h = tt
if_settle P Q f (row fields) h = tt
if_settle P Q f (event.waits c es) h = tt
if_settle P Q f (event.swept c m l) h = tt
if_settle P Q f (event.line t) h = tt

each_round : (P : CircuitView → ℕ → Positions → Claim → Type 0)
    → ((c : CircuitView) (hour : ℕ) (at : Positions) (m : Claim) → IsSolution c hour at m → P c hour at m)
    → (events : List Event) → All (IfSettle IsSolved) events → EachRound P events
each_round P f events all =
    All-weaker (IfSettle IsSolved) (IfSettle (HasEach P))
    (λ e. if_settle IsSolved (HasEach P)
    (λ s solved. each_weaker (IsSolution s.circuit s.hour) (P s.circuit s.hour) (λ at m. f s.circuit s.hour at m)
    (plant_at s.circuit s.hour) (machine_of s) (claims_of s) solved.solutions) e)
    events all

-- so of each round of a short circuit
each_studied : (P Q : CircuitView → ℕ → Positions → Claim → Type 0) → ((s : Settle) → IsStudy s → HasEach Q s)
    → ((c : CircuitView) (hour : ℕ) (at : Positions) (m : Claim) → Q c hour at m → P c hour at m)
    → (events : List Event) → All (IfSettle IsStudy) events → EachRound P events
each_studied P Q of f events all =
    All-weaker (IfSettle IsStudy) (IfSettle (HasEach P))
    (λ e. if_settle IsStudy (HasEach P)
    (λ s study. each_weaker (Q s.circuit s.hour) (P s.circuit s.hour) (λ at m. f s.circuit s.hour at m)
    (plant_at s.circuit s.hour) (machine_of s) (claims_of s) (of s study)) e)
    events all

meets_equations : (c : CircuitView) (hour : ℕ) (at : Positions) (m : Claim) → IsSolution c hour at m
    → MeetsEquations c hour at m
unfolding network_at
meets_equations c hour at m is = record { meets = is.meets; most = λ row low. is.sound.mismatches_most row low }

is_exact : (c : CircuitView) (hour : ℕ) (at : Positions) (m : Claim) → IsSolution c hour at m → IsExact c hour at m
is_exact c hour at m is = record {
  state = is.state;
  certificate = is.certificate;
  tied = is.tied;
  boxes = is.boxes;
  one_ball = is.one_ball;
}

studied_true : (events : List Event) → All (IfSettle IsStudy) events → AreStudied events
studied_true events all = record {
  equations = each_studied MeetsEquations IsSolution (λ s study. study.solved.solutions) meets_equations events all;
  enclosed = each_studied EnclosesAll EnclosesAll (λ s study. study.encloses) (λ c hour at m h. h) events all;
  sizes = each_studied EnclosesAllSizes EnclosesAllSizes (λ s study. study.sizes) (λ c hour at m h. h) events all;
  exact = each_studied IsExact IsSolution (λ s study. study.solved.solutions) is_exact events all;
}

swept_true : (events : List Event) → AllSettles IsSolved events → HaveSweeps events → AreSwept events
swept_true events all sweeps = record {
  equations = each_round MeetsEquations meets_equations events all;
  enclosed = each_round _ (λ c hour at m is. is.encloses) events all;
  sizes = each_round _ (λ c hour at m is. is.sizes) events all;
  linear = each_round EnclosesLinear
      (λ c hour at m is. record { all = is.encloses_all; sizes = is.sizes_of_all }) events all;
  exact = each_round IsExact is_exact events all;
  sweeps = sweeps;
}

-- ---- a history

module _ (swept : SweptLaw) (studied : StudiedLaw) (solved : SolvedLaw) (passed : PassedLaw) (rules : RuleLaw)
    (certificates : CertificateLaw) (meaning : MeaningLaw) where
  script_true : (files : Files) (name : List ℕ) (h : History) → IsScriptHistory files (said_of files name) h
      → AreTrue (said_of files name) h.events
  script_true files name h is =
      let all = solved files name h is in
      let p = said_of files name in
      record {
        equations = each_round MeetsEquations meets_equations h.events all;
        enclosed = each_round _ (λ c hour at m is. is.encloses) h.events all;
        sizes = each_round _ (λ c hour at m is. is.sizes) h.events all;
        linear = each_round EnclosesLinear
            (λ c hour at m is. record { all = is.encloses_all; sizes = is.sizes_of_all }) h.events all;
        acts = script_steady passed files p.said (ended_by p.left) first_standing h is
            (recursion_from_All (IfSettle IsSolved) h.events all);
        exact = each_round IsExact is_exact h.events all;
      }

  history_true : (files : Files) (form : Option Form) (h : History) → IsFormHistory files form h → IsTrue files form h
  history_true files None h is = tt
  history_true files (Some (Solve file)) h is = script_true files (chars file) h is
  history_true files (Some (Cert file)) h is = (
    script_true files (chars file) h is,
    λ none. cert_is_accepted rules passed certificates solved files
        (chars file) h is none,
  )
  history_true files (Some (Check script name)) h is = λ none. meaning files script name h is none
  history_true files (Some (Gen number sections)) h is = tt
  history_true files (Some (Fault master bus kind)) h is =
      studied_true h.events (studied files (chars master) (chars bus) (kind_of kind) h is)
  history_true files (Some (Ladder master)) h is =
      let true_of = swept files (chars master) h is in
      swept_true h.events true_of.0 true_of.1
  history_true files (Some (Upgrade name)) h is = λ none solved_of answer.
      upgrade_answers due after files (chars name) h is none (open_solves solved_of no_positions 0) answer
  history_true files (Some (Bench number sections)) h is =
      λ solving right. script_true (feeder_files number sections) (chars feeder_name) solving right

  -- ---- a run

  module _ {L S : Type 0} (answers : L → List Answer) (taken : S → List ℕ) (calls : S → ℕ) where
    pub promised : (files : Files) (form : Option Form) (lib_old lib_new : L) (old new : S) (code : ℕ)
        → RunsOver answers taken calls files form lib_old lib_new old new code
        → IsPromised (outside_of answers taken calls lib_old lib_new old new) files form code
    promised files form lib_old lib_new old new code runs = record {
      history = runs.history;
      right = runs.right;
      printed = record {
        fails = runs.fails;
        cause = runs.cause;
        made = runs.made;
        done = runs.done;
        names = runs.sees.names;
        bytes_are = runs.sees.bytes;
        writes = runs.sees.writes;
      };
      is_true = history_true files form runs.history runs.right;
    }

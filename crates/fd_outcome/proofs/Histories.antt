-- Histories.
use Rattle.std.proofs.Common.{◌≡◌, ◌∙◌, ℕ, ◌≤◌, List, [], ◌∷◌, ◌++◌, Option, Some, None, refl, sym, ap, subst, arith}
use Rattle.std.proofs.lemmas.List.{append_assoc}
use Rattle.fd_report.specs.dss_model.declared.command.Command.{Command}
use Rattle.fd_report.specs.dss_script.Said.{Said, name, command, ScriptEnd, at_its_end, refused_at}
use Rattle.fd_report.specs.declared.faults.Cause.TheVariants as cause
use Rattle.fd_report.specs.declared.faults.Fault.TheVariants as fault
use Rattle.fd_outcome.specs.Events.{Event, asked, History, ended, before}
use Rattle.fd_outcome.specs.Work.{Step, goes, ends, ExactlyOne, After, AfterStep, AfterCommand}
use Rattle.fd_outcome.specs.History.{IsLast, IsEnd, IsHistory, Point, IsFrom, LeadsTo}
use Rattle.fd_outcome.specs.Laws.{IsFaultStatus, StatusLaw, HistoryLaw}

-- ---- statuses

is_status : (n : ℕ) → (n ≡ 0 → ⊥) → (n ≡ 1 → ⊥) → (n ≡ 5 → ⊥) → n ≤ 15 → IsFaultStatus n
is_status n a b c d = record { done = a; memory = b; write = c; most = d }

pub statuses : StatusLaw
statuses fault.Usage = is_status 2 (λ e. omega (arith, e)) (λ e. omega (arith, e)) (λ e. omega (arith, e)) (omega arith)
statuses (fault.Script place cause) =
    is_status 3 (λ e. omega (arith, e)) (λ e. omega (arith, e)) (λ e. omega (arith, e)) (omega arith)
statuses (fault.Read n) =
    is_status 4 (λ e. omega (arith, e)) (λ e. omega (arith, e)) (λ e. omega (arith, e)) (omega arith)
statuses (fault.NoInverse unknown cause) =
    is_status 6 (λ e. omega (arith, e)) (λ e. omega (arith, e)) (λ e. omega (arith, e)) (omega arith)
statuses (fault.OutOfRange unknown step) =
    is_status 7 (λ e. omega (arith, e)) (λ e. omega (arith, e)) (λ e. omega (arith, e)) (omega arith)
statuses (fault.NotConverged unknown steps update) =
    is_status 8 (λ e. omega (arith, e)) (λ e. omega (arith, e)) (λ e. omega (arith, e)) (omega arith)
statuses (fault.Loose row mismatch) =
    is_status 9 (λ e. omega (arith, e)) (λ e. omega (arith, e)) (λ e. omega (arith, e)) (omega arith)
statuses (fault.NotCertified unknown bound) =
    is_status 10 (λ e. omega (arith, e)) (λ e. omega (arith, e)) (λ e. omega (arith, e)) (omega arith)
statuses (fault.Undecided control low high edge scale) =
    is_status 11 (λ e. omega (arith, e)) (λ e. omega (arith, e)) (λ e. omega (arith, e)) (omega arith)
statuses (fault.ControlLimit acts) =
    is_status 12 (λ e. omega (arith, e)) (λ e. omega (arith, e)) (λ e. omega (arith, e)) (omega arith)
statuses (fault.Certificate line broken) =
    is_status 13 (λ e. omega (arith, e)) (λ e. omega (arith, e)) (λ e. omega (arith, e)) (omega arith)
statuses (fault.NoSuchNode node) =
    is_status 14 (λ e. omega (arith, e)) (λ e. omega (arith, e)) (λ e. omega (arith, e)) (omega arith)
statuses (fault.NotRadial element) =
    is_status 15 (λ e. omega (arith, e)) (λ e. omega (arith, e)) (λ e. omega (arith, e)) (omega arith)

-- ---- exactly one

pub one_value : {X : Type 0} (x : X) → ExactlyOne (λ (y : X). y ≡ x)
one_value x = record { some = x; is = refl; only = λ y e. e }

pub one_after : (events : List Event) (rest : History → Type 0) → ExactlyOne rest → ExactlyOne (After events rest)
one_after events rest o = record {
  some = before events o.some;
  is = record { more = o.some; right = o.is; h_is = refl };
  only = λ h a. a.h_is ∙ ap (before events) (o.only a.more a.right);
}

one_step : {S : Type 0} (step : Step S) (rest : S → History → Type 0) → ((s : S) → ExactlyOne (rest s))
    → ExactlyOne (AfterStep step rest)
one_step (goes events s) rest o = one_after events (λ more. rest s more) (o s)
one_step (ends events fault) rest o = one_value (ended events fault)

one_command : {S : Type 0} (is_step : Step S → Type 0) (rest : S → History → Type 0) → ExactlyOne is_step
    → ((s : S) → ExactlyOne (rest s)) → ExactlyOne (AfterCommand is_step rest)
one_command is_step rest step o =
    let then = one_step step.some rest o in
    record {
      some = then.some;
      is = record { step = step.some; right = step.is; goes_on = then.is };
      only = λ h a. then.only h (subst (λ (s : Step _). AfterStep s rest h) (step.only a.step a.right) a.goes_on);
    }

module _ {S : Type 0} (is_step : Command → S → Step S → Type 0) (last_name : S → Option (List ℕ))
    (is_last : S → Option (List ℕ) → History → Type 0) where
  module _ (steps : (c : Command) (s : S) → ExactlyOne (is_step c s))
      (lasts : (s : S) (found : Option (List ℕ)) → ExactlyOne (is_last s found))
      (held : List ℕ → Option (List ℕ)) where
    one_last : (o : Option (List ℕ)) (s : S) → ExactlyOne (IsLast is_step last_name is_last held o s)
    one_last None s = lasts s None
    one_last (Some n) s = one_after (asked n ∷ []) (λ more. is_last s (held n) more) (lasts s (held n))

    one_end : (end : ScriptEnd) (s : S) → ExactlyOne (IsEnd is_step last_name is_last held end s)
    one_end at_its_end s = one_last (last_name s) s
    one_end (refused_at place c) s = one_value (ended [] (fault.Script place (cause.Script c)))

    one_from : (said : List Said) (end : ScriptEnd) (s : S)
        → ExactlyOne (IsHistory is_step last_name is_last held said end s)
    one_from [] end s = one_end end s
    one_from (name n ∷ more) end s =
        one_after (asked n ∷ []) (λ x. IsHistory is_step last_name is_last held more end s x) (one_from more end s)
    one_from (command c ∷ more) end s =
        one_command (λ step. is_step c s step) (λ t x. IsHistory is_step last_name is_last held more end t x)
        (steps c s) (λ t. one_from more end t)

  pub one_history : HistoryLaw is_step last_name is_last
  one_history steps lasts held said end s = one_from steps lasts held said end s

  -- ---- points

  module _ (held : List ℕ → Option (List ℕ)) where
    joined : (p : Point S) (a b : List Event) (h : History)
        → IsFrom is_step last_name is_last held p (before a (before b h))
        → IsFrom is_step last_name is_last held p (before (a ++ b) h)
    joined p a b h is =
        subst (λ (events : List Event).
        let x : History = record { events = events; end = h.end } in IsFrom is_step last_name is_last held p x)
        (sym (append_assoc a b h.events)) is

    abbrev At : List Said → ScriptEnd → S → Point S
    At left end s = record { left = left; end = end; state = s }

    pub stays : (p : Point S) → LeadsTo is_step last_name is_last held p [] p
    stays p h is = is

    pub joins : (p q r : Point S) (a b : List Event) → LeadsTo is_step last_name is_last held p a q
        → LeadsTo is_step last_name is_last held q b r → LeadsTo is_step last_name is_last held p (a ++ b) r
    joins p q r a b pq qr h is = joined p a b h (pq (before b h) (qr h is))

    pub asks_name : (n : List ℕ) (more : List Said) (end : ScriptEnd) (s : S)
        → LeadsTo is_step last_name is_last held (At (name n ∷ more) end s) (asked n ∷ []) (At more end s)
    asks_name n more end s h is = record { more = h; right = is; h_is = refl }

    pub does_command : (c : Command) (more : List Said) (end : ScriptEnd) (s t : S) (events : List Event)
        → is_step c s (goes events t)
        → LeadsTo is_step last_name is_last held (At (command c ∷ more) end s) events (At more end t)
    does_command c more end s t events step h is =
        record { step = goes events t; right = step; goes_on = record { more = h; right = is; h_is = refl } }

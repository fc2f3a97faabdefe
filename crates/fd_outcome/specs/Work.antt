-- What a command comes to, and what is left to do behind the last one.
use Rattle.std.specs.Prelude.{◌≡◌, List}
use Rattle.fd_report.specs.declared.faults.Fault.{Fault}
use Rattle.fd_outcome.specs.Events.{Event, History, before, ended}

-- these events happen, and the run goes on with the state S or ends with a fault
pub data Step (S : Type 0) : Type 0 where
  goes : List Event → S → Step S
  ends : List Event → Fault → Step S

-- something is so, and nothing else
pub record ExactlyOne {X : Type 0} (P : X → Type 0) : Type 0 where
  pub some : X
  pub is : P some
  pub only : (x : X) → P x → x ≡ some

-- a history that begins with these events and goes on so
pub record After (events : List Event) (rest : History → Type 0) (h : History) : Type 0 where
  pub more : History
  pub right : rest more
  pub h_is : h ≡ before events more

-- a history that begins with a step
abbrev pub AfterStep : {S : Type 0} → Step S → (S → History → Type 0) → History → Type 0
AfterStep (goes events s) rest h = After events (λ more. rest s more) h
AfterStep (ends events fault) rest h = h ≡ ended events fault

-- a history that begins with what a command comes to
pub record AfterCommand {S : Type 0} (is_step : Step S → Type 0) (rest : S → History → Type 0)
    (h : History) : Type 0 where
  pub step : Step S
  pub right : is_step step
  pub goes_on : AfterStep step rest h

-- What a command line does that asks the library for nothing.
use Rattle.std.specs.Prelude.{ℕ, Bool, List}
use Rattle.fd_solving.specs.fd_outcome.Calls.{Style, doing}
use Rattle.fd_solving.specs.fd_outcome.Done.{IsDone, Made}
use Rattle.fd_solving.specs.fd_outcome.Events.{History}
use Rattle.fd_solving.specs.fd_outcome.Parts.{Wrote}

-- the one history is done, whole or cut short, and the sink has taken what is done
pub record RunsAlone {S : Type 0} (taken : S → List ℕ) (calls : S → ℕ) (old new : S) (is_history : History → Type 0)
    (style : Style) (tells : Bool) (code : ℕ) : Type 0 where
  pub history : History
  pub right : is_history history
  pub made : Made
  pub done : IsDone tells (doing style history) code made
  pub wrote : Wrote taken calls old new made

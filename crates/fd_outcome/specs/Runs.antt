-- What a run promises.
use Rattle.std.specs.Prelude.{ℕ, Bool, List, Option}
use Rattle.fd_certfile.specs.fd_outside.Answers.{Answer}
use Rattle.fd_outcome.specs.Events.{History}
use Rattle.fd_outcome.specs.Calls.{Style, doing}
use Rattle.fd_outcome.specs.Done.{failing, Made, IsDone, Sees, HasReadCause}

-- over what a library answered and what a sink took
module _ {L S : Type 0} (answers : L → List Answer) (taken : S → List ℕ) (calls : S → ℕ)
    (lib_old lib_new : L) (old new : S) where
  -- The one history is done, whole or cut short, where `tells` says whether a text tells that it ended without a fault;
  -- a read fails only where the library's last answer is a failed read; and the names asked, the bytes taken and the
  -- writes are those of what is done, in one order.
  pub record Runs (is_history : History → Type 0) (style : Style) (tells : Bool) (code : ℕ) : Type 0 where
    pub history : History
    pub right : is_history history
    pub fails : Option ℕ
    pub cause : HasReadCause (answers lib_old) (answers lib_new) fails
    pub made : Made
    pub done : IsDone tells (failing fails (doing style history)) code made
    pub sees : Sees answers taken calls lib_old lib_new old new made

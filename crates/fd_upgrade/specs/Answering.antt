-- What is made of what was found under the name.
use Rattle.std.specs.Prelude.{ℕ, true, List, Option}
use Rattle.fd_solving.specs.fd_outcome.Calls.{doing, report}
use Rattle.fd_solving.specs.fd_outcome.Events.{History}
use Rattle.fd_solving.specs.fd_outcome.Parts.{Printed}
use Rattle.fd_upgrade.specs.Upgrading.{IsUpgradeOf}

-- all of the text that comes of it, or a front, is handed to the sink
pub record IsAnswered {S : Type 0} (taken : S → List ℕ) (calls : S → ℕ) (old new : S)
    (held : Option (List ℕ)) (code : ℕ) : Type 0 where
  pub more : History
  pub right : IsUpgradeOf held more
  pub prints : Printed taken calls old new true (doing report more) code

-- What a run of `cert` wrote that answers 0, and what `check` makes of it.
use Rattle.std.specs.Prelude.{◌≡◌, ℕ, List, length, Some}
use Rattle.std.specs.Str.{chars}
use Rattle.fd_bench.specs.fd_outside.Files.{Files, held}
use Rattle.fd_checking.specs.dss_model.Names.{bytes}
use Rattle.fd_checking.specs.dss_script.Said.{said_of}
use Rattle.fd_checking.specs.fd_outcome.Calls.{certificate}
use Rattle.fd_checking.specs.fd_outcome.Events.{History}
use Rattle.fd_words.specs.Words.{Cert, Check}
use Rattle.fd_app.specs.Accepted.{HasAccepted, HaveTaken}
use Rattle.fd_app.specs.Printed.{all_rounds, bytes_by}
use Rattle.fd_app.specs.Printing.{Outside}
use Rattle.fd_app.specs.Promise.{IsPromised}
use Rattle.fd_app.specs.Run.{IsFormHistory}
use Rattle.fd_app.specs.Solves.{solves_of}

-- where a run of `cert` answers 0, what it wrote is accepted for the Solves of its script
abbrev pub WrittenLaw : Type 0
WrittenLaw = (files : Files) (file : List ℕ) (h : History) (o : Outside)
    → IsFormHistory files (Some (Cert file)) h → IsPromised o files (Some (Cert file)) 0
    → HaveTaken (bytes_by certificate h) (solves_of (said_of files (chars file)))
    (length (all_rounds h.events)) o.taken_before o.taken_now

-- Where a run of `cert` answers 0, `check` of the same script accepts what it wrote, where that is held under the name
-- of the certificate; the script says the same beside it.
abbrev pub RoundTripLaw : Type 0
RoundTripLaw = (files there : Files) (file name : List ℕ) (h g : History) (o : Outside)
    → IsFormHistory files (Some (Cert file)) h → IsPromised o files (Some (Cert file)) 0
    → said_of there (chars file) ≡ said_of files (chars file)
    → held there (bytes (chars name)) ≡ Some (bytes_by certificate h)
    → IsFormHistory there (Some (Check file name)) g → HasAccepted (length (all_rounds h.events)) g

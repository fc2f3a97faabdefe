-- What a history is printed as, and its rounds.
use Rattle.std.specs.Prelude.{ℕ, List, []}
use Rattle.std.specs.List.{concat, flat_map}
use Rattle.fd_checking.specs.fd_outcome.Calls.{Style, doing, texts_written}
use Rattle.fd_checking.specs.fd_outcome.Events.{Event, History, settle}
use Rattle.fd_checking.specs.fd_outcome.Settles.{Round}

-- all bytes of a history in a style, where nothing cuts it short
abbrev pub bytes_by : Style → History → List ℕ
bytes_by style h = concat (texts_written (doing style h).calls)

-- the rounds of the settles of events, in order
abbrev pub rounds_in : Event → List Round
rounds_in (settle s) = s.rounds
rounds_in other = []

abbrev pub all_rounds : List Event → List Round
all_rounds events = flat_map rounds_in events

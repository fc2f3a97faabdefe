-- Lines of text alone: of settles and bases nothing is printed.
use Rattle.std.specs.Prelude.{ℕ, List, [], ◌∷◌, ◌++◌}
use Rattle.fd_outcome.specs.Calls.{Style}
use Rattle.fd_outcome.specs.Events.{Event, asked, line, name_in, row, settle, swept, waits}

-- a line of text is printed, and nothing else
abbrev pub line_texts : Event → List (List ℕ)
line_texts (asked name) = []
line_texts (settle s) = []
line_texts (waits c es) = []
line_texts (swept c m ladder) = []
line_texts (row fields) = []
line_texts (line text) = (text ++ 10 ∷ []) ∷ []

-- lines of text are printed, and files are asked for
abbrev pub lines_of_text : Style
lines_of_text = record { asked_in = name_in; texts_in = line_texts; opening = []; closing = [] }

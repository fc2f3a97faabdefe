-- What `gen` and `bench` do: the lines of the script of a feeder, and one record of what its rounds come to.
use Rattle.std.specs.Prelude.{◌≡◌, ℕ, List, [], ◌∷◌, ◌++◌, codes, map, Option, Some, None}
use Rattle.std.specs.FinMap.{from_entries}
use Rattle.std.specs.Fmt.{decimal}
use Rattle.std.specs.List.{concat}
use Rattle.std.specs.Str.{chars}
use Rattle.fd_solving.specs.fd_decimal.Decimals.{size_text}
use Rattle.fd_gen.specs.Script.{lines_of, script_of}
use Rattle.fd_gen.specs.fd_outside.Files.{Files}
use Rattle.fd_solving.specs.dss_script.Said.{said_of}
use Rattle.fd_solving.specs.fd_report.declared.faults.Fault.{Fault}
use Rattle.fd_solving.specs.fd_outcome.Calls.{Style}
use Rattle.fd_solving.specs.fd_outcome.Events.{Event, History, ended, finishes, line}
use Rattle.fd_solving.specs.fd_pages.Lines.{line_texts}
use Rattle.fd_solving.specs.Scripts.{IsScriptHistory}
use Rattle.fd_solving.specs.Tallies.{no_rounds, tally_of}
use Rattle.fd_solving.specs.declared.tally.Tally.{Tally}

-- ---- the script, which is held as `gen.dss`

abbrev pub feeder_name : List ℕ
feeder_name = codes "gen.dss"

abbrev pub feeder_entries : ℕ → ℕ → List (List ℕ × List ℕ)
feeder_entries number sections = (feeder_name, concat (lines_of number sections)) ∷ []

abbrev pub feeder_files : ℕ → ℕ → Files
feeder_files number sections = from_entries (feeder_entries number sections)

-- the history of `gen`: the lines of the script
abbrev pub script_written : ℕ → ℕ → History
script_written number sections = finishes (map line (script_of number sections))

-- ---- the record of what rounds come to

-- sections, complex unknowns, solutions, and the greatest mismatch with six decimals: no field needs quotes
unfoldable pub tally_text : ℕ → Tally → List ℕ
tally_text sections t = concat (
    codes "bench," ∷ decimal sections ∷ codes "," ∷ decimal t.unknowns ∷ codes "," ∷ decimal t.solutions ∷ codes "," ∷ size_text t.greatest ∷ [])

-- ---- the history

-- what `bench` makes of what `solve` comes to behind the rounds so far: where no fault ends it, the record stands last
abbrev pub bench_behind : ℕ → Tally → List Event → Option Fault → History
bench_behind sections t events None = finishes (events ++ line (tally_text sections (tally_of t events)) ∷ [])
bench_behind sections t events (Some fault) = ended events fault

abbrev pub bench_of : ℕ → History → History
bench_of sections h = bench_behind sections no_rounds h.events h.end

-- the history of `bench`: what `solve` comes to over the script, and the record of its rounds
pub record IsBenchHistory (number sections : ℕ) (h : History) : Type 0 where
  pub solving : History
  pub right : IsScriptHistory (feeder_files number sections) (said_of (feeder_files number sections) (chars feeder_name)) solving
  pub h_is : h ≡ bench_of sections solving

-- ---- the style

-- lines of text are printed, and no file is asked for
abbrev pub lines_alone : Style
lines_alone = record { asked_in = λ e. []; texts_in = line_texts; opening = []; closing = [] }

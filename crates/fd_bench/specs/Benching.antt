-- `bench` at work: what stands between two commands, and what is printed while files are asked for by name.
use Rattle.std.specs.Prelude.{◌≡◌, ℕ, List, [], ◌∷◌, Option, None}
use Rattle.fd_solving.specs.dss_model.declared.command.Command.{Command}
use Rattle.fd_solving.specs.fd_outcome.Events.{History, finishes, line}
use Rattle.fd_solving.specs.fd_outcome.Work.{Step, ends, goes}
use Rattle.fd_solving.specs.Tallies.{tally_of}
use Rattle.fd_solving.specs.Commands.{IsStep}
use Rattle.fd_solving.specs.Steps.{StandingView}
use Rattle.fd_solving.specs.declared.tally.Tally.{Tally}
use Rattle.fd_bench.specs.Bench.{tally_text}

-- what stands, the rounds so far, and the sections of the feeder
pub record BenchView : Type 0 where
  pub standing : StandingView
  pub tally : Tally
  pub sections : ℕ

abbrev pub bench_at : ℕ → Tally → StandingView → BenchView
bench_at sections t s = record { standing = s; tally = t; sections = sections }

-- a step of `solve` adds its rounds
abbrev pub with_tally : ℕ → Tally → Step StandingView → Step BenchView
with_tally sections t (goes events s) = goes events (bench_at sections (tally_of t events) s)
with_tally sections t (ends events fault) = ends events fault

pub record IsBenchStep (command : Command) (s : BenchView) (step : Step BenchView) : Type 0 where
  pub solving : Step StandingView
  pub right : IsStep command s.standing solving
  pub step_is : step ≡ with_tally s.sections s.tally solving

-- no name is asked for behind the last command, and the record is printed
abbrev pub no_bench_name : BenchView → Option (List ℕ)
no_bench_name s = None

abbrev pub IsBenchLast : BenchView → Option (List ℕ) → History → Type 0
IsBenchLast s found h = h ≡ finishes (line (tally_text s.sections s.tally) ∷ [])

use Rattle.std.proofs.Common.{[], ◌∷◌, refl}
use Rattle.fd_solving.specs.fd_outcome.Events.{finishes, line}
use Rattle.fd_solving.proofs.CallerLemmas.fd_outcome.{exactly_this}
use Rattle.fd_bench.specs.Bench.{tally_text}
use Rattle.fd_bench.proofs.Benched.{bench_told, one_bench_step}
use Rattle.fd_bench.proofs.benching.BenchStateLine.law.Goals as goal

pub returns-clause-one_step : goal.returns-clause-one_step
returns-clause-one_step c command state = one_bench_step command state

pub returns-clause-one_last : goal.returns-clause-one_last
returns-clause-one_last c state found = exactly_this (finishes (line (tally_text state.sections state.tally) ∷ []))

pub returns-clause-fits : goal.returns-clause-fits
returns-clause-fits c = record { asks = λ n. refl; silent = λ n. refl }

pub returns-clause-told : goal.returns-clause-told
returns-clause-told c state found h told is none = bench_told state.sections state.tally h is

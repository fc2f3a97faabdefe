-- Lemmas that callers cite.
pub use Rattle.fd_bench.proofs.Alone.{agrees_held, alone_runs, printed_alone, script_tells}
pub use Rattle.fd_bench.proofs.Benched.{bench_tells, one_bench}
pub use Rattle.fd_gen.proofs.CallerLemmas.fd_outside as fd_outside

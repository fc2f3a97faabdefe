-- Lemmas that the crates above use.
pub use Rattle.fd_ladder.proofs.Counted.{few_taken}
pub use Rattle.dss_layout.proofs.CallerLemmas.{drop-more, length-sums_before}

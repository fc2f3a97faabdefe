-- Lemmas that callers cite.
pub use Rattle.fd_equations.proofs.Lists.{get_or-list_of, length-list_of, list_n_more, list_of-ext, list_of-more, list_z_more, rewritten}
pub use Rattle.fd_equations.proofs.LoadSums.{no_load}
pub use Rattle.fd_equations.proofs.Networks.{row_tie}
pub use Rattle.fd_mat.proofs.CallerLemmas as fd_mat
pub use Rattle.fd_pattern.proofs.CallerLemmas as fd_pattern

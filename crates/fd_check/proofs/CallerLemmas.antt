-- The lemmas that this crate hands on.
pub use Rattle.fd_certfile.proofs.CallerLemmas.fd_outside as fd_outside
pub use Rattle.dss_commands.proofs.CallerLemmas as dss_commands
pub use Rattle.fd_daily.proofs.CallerLemmas.fd_equations as fd_equations
pub use Rattle.fd_daily.proofs.CallerLemmas.fd_enclosure as fd_enclosure
pub use Rattle.fd_certfile.proofs.CallerLemmas as fd_certfile
pub use Rattle.fd_certfile.proofs.CallerLemmas.fd_outside as fd_outside
pub use Rattle.dss_commands.proofs.CallerLemmas as dss_commands
pub use Rattle.fd_daily.proofs.CallerLemmas.fd_equations as fd_equations
pub use Rattle.fd_daily.proofs.CallerLemmas.fd_enclosure as fd_enclosure
pub use Rattle.fd_certfile.proofs.CallerLemmas as fd_certfile

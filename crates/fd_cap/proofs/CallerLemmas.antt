-- The lemmas that this crate hands on.
pub use Rattle.fd_cap.proofs.Capacitor.{cap_is}

-- The lemmas that this crate hands on.
pub use Rattle.fd_cert.proofs.Certificates.{length-mismatches, numbers_at}
pub use Rattle.fd_cert.proofs.SlopeRadii.{are_weights, boxes_are, have_widths, is_made, jacobian_made, weights_at}
pub use Rattle.fd_cert.proofs.Verdict.{first_same}
pub use Rattle.fd_cert.proofs.Wider.{of_inverse, of_sized}
pub use Rattle.fd_enclosure.proofs.CallerLemmas as fd_enclosure

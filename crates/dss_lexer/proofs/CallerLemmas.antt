-- The lemmas that this crate hands on.
pub use Rattle.dss_lexer.proofs.SameText.{same_from}
pub use Rattle.dss_lexer.proofs.Each.{after, after-nil, joined, fails_further}

-- What a caller needs to know of an element that is looked up, of one that is put, and of those that stay where a class goes.
pub use Rattle.dss_circuit.proofs.Dropped.{found_as_before, gone, in_range_left, one_class, well_formed_left}
pub use Rattle.dss_circuit.proofs.Entries.{of_found, of_inserted}
pub use Rattle.dss_circuit.proofs.WellFormed.{found_begun, found_class, name_of, none_well_formed, turned, well_formed_kept}
pub use Rattle.dss_model.proofs.CallerLemmas.dss_lexer as dss_lexer
pub use Rattle.dss_model.proofs.CallerLemmas as dss_model

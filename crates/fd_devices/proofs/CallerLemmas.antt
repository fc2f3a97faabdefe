-- The lemmas that this crate hands on.
pub use Rattle.fd_devices.proofs.Collecting.{bounded_more, collected_more, devices_length, list_n-more}
pub use Rattle.fd_devices.proofs.Few.{few_of}
pub use Rattle.fd_devices.proofs.Fits.{settled_at}
pub use Rattle.fd_devices.proofs.Fitting.{fits_by}
pub use Rattle.fd_devices.proofs.Keeping.{few_branches, same_places}
pub use Rattle.fd_devices.proofs.OneKind.{one_bank, one_transformer, transformers_in_range}
pub use Rattle.fd_devices.proofs.Settling.{side_among}
pub use Rattle.fd_devices.proofs.Sides.{HasCounts, first_count, second_count, side_counts}
pub use Rattle.fd_devices.proofs.Siting.{StandsAmong, sited}
pub use Rattle.fd_devices.proofs.Steps.{all_at, first_left}
pub use Rattle.dss_circuit.proofs.CallerLemmas as dss_circuit
pub use Rattle.dss_layout.proofs.CallerLemmas as dss_layout
pub use Rattle.fd_xfmr.proofs.CallerLemmas.fd_system as fd_system
pub use Rattle.fd_elements.proofs.CallerLemmas.fd_source as fd_source
pub use Rattle.fd_elements.proofs.CallerLemmas as fd_elements

-- The lemmas that this crate hands on.
pub use Rattle.fd_system.proofs.ComplexRows.{complex_row, negative_complex, plain_complex, minus_complex, same_place, same_place_concat, row-append, row_sum-append, equation-append, concat_row, single, rewritten, difference_times, SameComplex-sym, negative-minus, unknown-pos, side-plus, side-pos, apart, negated, IsWhole, opposite-pos, plus-pos, total-negative}
pub use Rattle.fd_system.proofs.Divided.{complex_divided, concat_divided}
pub use Rattle.fd_system.proofs.Joining.{linear_row, beside_row, no_parts, term_stamp, Represents-joined, first_beside, room_then, Meets-Same}
pub use Rattle.fd_system.proofs.LoadRows.{SameComplex-negative, loads_represent}
pub use Rattle.fd_system.proofs.Steps.{one_more, joined_two, joined_four}
pub use Rattle.fd_system.proofs.Drops.{drops_add, drops_divided}
pub use Rattle.fd_system.proofs.Counts.{joined_few, concat_few, one_few, complex_few, real_few, imaginary_few}
pub use Rattle.fd_system.proofs.Volts.{phase_volts_between}
pub use Rattle.fd_system.proofs.Intervals.{residual_holds, mismatch_held, greater_size_held, length-constants, length-terms, row-constants, row-terms}

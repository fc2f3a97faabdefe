-- Lemmas that callers cite: of texts and numbers, of what stands before a blank or a line feed, of fields, and of
-- numbered lines.
pub use Rattle.fd_lines.proofs.SameTexts.{and_then_some, let_through, map_some, same_from, same_self}
pub use Rattle.fd_lines.proofs.Numbers.{number_again, number_found, numbers_again, numbers_found}
pub use Rattle.fd_lines.proofs.Inked.{Above, above_by, above_tested, lacks_all, split_by}
pub use Rattle.fd_lines.proofs.Fields.{fields_append, first_none, first_some, line_fields, some_field, text_by_fields}
pub use Rattle.fd_lines.proofs.WordLines.{Begins, IsKnown, lines_again, lines_cut, lines_found, of_last}
pub use Rattle.fd_lines.proofs.Numbered.{Cut, IsFound, ReadsAgain, bind_err, bind_ok, enumerate-append, filled, length-numbered, made_ok, numbered_again, numbered_found, numbered_refused, read_ok, right_append, right_replicate}
pub use Rattle.fd_lines.proofs.SoFar.{all_read, numbered_left, numbered_long, refused_at, refused_end, refused_line, so_far_more, so_far_start}
pub use Rattle.fd_outside.proofs.CallerLemmas as fd_outside

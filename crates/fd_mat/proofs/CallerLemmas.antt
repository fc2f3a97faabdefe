-- Lemmas that this crate hands on.
pub use Rattle.fd_mat.proofs.Entries.{held_entry, held_within, value_more}
use Rattle.std.proofs.Common.{◌≡◌, ℕ, ℤ, List, None}
use Rattle.fd_mat.specs.Rows.{EntriesWithin, first_column_past}
use Rattle.fd_mat.proofs.Columns.{column_none}

-- no column has an entry past a limit that no entry passes
pub no_column_past : (limit : ℕ) (m : List (List ℤ)) → EntriesWithin m limit → first_column_past limit m ≡ None
no_column_past = column_none

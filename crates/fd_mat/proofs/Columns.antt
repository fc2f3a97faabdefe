-- The first column with an entry past a limit.
use Rattle.std.proofs.Common.{◌≡◌, ℕ, ◌<◌, ◌≤◌, ℤ, nat_abs, nat_lt, List, length, true, false, is_some, Some, None, ap, arith}
use Rattle.fd_exact.specs.States.{entry}
use Rattle.fd_exact.specs.FirstLaws.{first_none, first_some, found}
use Rattle.fd_mat.specs.Rows.{EntriesWithin, first_column_past, is_column_past}

-- an entry of a column is greater than this in size
pub record IsColumnPast (rows : List (List ℤ)) (limit col : ℕ) : Type 0 where
  pub row : ℕ
  pub row_in : row < length rows
  pub past : limit < nat_abs (entry rows row col)

not_past : (limit n : ℕ) → n ≤ limit → nat_lt limit n ≡ false
not_past limit n h = grind arith

is_past : (limit n : ℕ) → limit < n → nat_lt limit n ≡ true
is_past limit n h = grind arith

column_within : (limit : ℕ) (m : List (List ℤ)) (col : ℕ)
    → ((row : ℕ) → row < length m → nat_abs (entry m row col) ≤ limit) → is_column_past limit m col ≡ false
column_within limit m col h =
    ap is_some (first_none (λ row. nat_lt limit (nat_abs (entry m row col))) (length m) (λ row l.
    not_past limit (nat_abs (entry m row col)) (h row l)))

pub column_none : (limit : ℕ) (m : List (List ℤ)) → EntriesWithin m limit → first_column_past limit m ≡ None
column_none limit m h = first_none (is_column_past limit m) (length m) (λ col l. column_within limit m col (λ row k. h row col k l))

pub column_some : (limit : ℕ) (m : List (List ℤ)) (col : ℕ) → col < length m → IsColumnPast m limit col
    → ((row earlier : ℕ) → row < length m → earlier < col → nat_abs (entry m row earlier) ≤ limit)
    → first_column_past limit m ≡ Some col
column_some limit m col l h before =
    first_some (is_column_past limit m) (length m) col l
    (λ earlier k. column_within limit m earlier (λ row r. before row earlier r k))
    (found (λ row. nat_lt limit (nat_abs (entry m row col))) (length m) h.row h.row_in
    (is_past limit (nat_abs (entry m h.row col)) h.past))

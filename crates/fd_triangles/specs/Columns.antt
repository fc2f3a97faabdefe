-- The rows that had an entry in a column once.
use Rattle.std.specs.Prelude.{◌≡◌, ◌≢◌, ℕ, pos, List, [], length, get_or, map, ◌⊎◌}
use Rattle.std.specs.List.{Contains}
use Rattle.fd_triangles.specs.Rows.{number}
use Rattle.fd_derived.specs.declared.entries.Entry.{Entry}
use Rattle.fd_triangles.specs.declared.columns.Column.{Column}

abbrev pub rows_of : Column → List ℕ
rows_of column = column.rows.items

-- the rows that are noted in a column
abbrev pub rows_in : List Column → ℕ → List ℕ
rows_in columns c = get_or (map rows_of columns) c []

-- a row is noted in a column
unfoldable pub Holds : List Column → ℕ → ℕ → Type 0
Holds columns c i = Contains (rows_in columns c) i

-- one row more is noted in one column
pub record IsNoted (old new : List Column) (place index : ℕ) : Type 0 where
  pub long : length new ≡ length old
  pub kept : (c i : ℕ) → Holds old c i → Holds new c i
  pub noted : Holds new place index
  pub from : (c i : ℕ) → Holds new c i → Holds old c i ⊎ (i ≡ index)

-- one row more is noted, in each column in which it has got an entry
pub record HasNoted (old new : List Column) (before now : List Entry) (index : ℕ) : Type 0 where
  pub long : length new ≡ length old
  pub kept : (c i : ℕ) → Holds old c i → Holds new c i
  pub noted : (c : ℕ) → number now c ≢ pos 0 → (number before c ≢ pos 0) ⊎ Holds new c index
  pub from : (c i : ℕ) → Holds new c i → Holds old c i ⊎ (i ≡ index)

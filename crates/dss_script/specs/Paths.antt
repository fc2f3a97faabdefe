-- Names of files, joined to MASTER's folder.
use Rattle.std.specs.Prelude.{ℕ, ◌-◌, ◌==◌, Bool, not, take, List, ◌++◌, length, map, if◌then◌else◌}
use Rattle.std.specs.List.{suffix_len}

abbrev pub is_slash : ℕ → Bool
is_slash c = c == 47

abbrev pub is_no_slash : ℕ → Bool
is_no_slash c = not (is_slash c)

-- all up to and with the last slash
abbrev pub folder_of : List ℕ → List ℕ
folder_of name = take (length name - suffix_len is_no_slash name) name

-- a backslash is read as a slash
abbrev pub slashed : ℕ → ℕ
slashed c = if c == 92 then 47 else c

-- names are those of MASTER's folder, wherever they are written
abbrev pub joined : List ℕ → List ℕ → List ℕ
joined folder name = folder ++ map slashed name

-- The entries of a row as text.
use Rattle.std.specs.Prelude.{ℕ, ℤ, pos, List, [], ◌∷◌, ◌++◌, codes, count_by, flat_map, if◌then◌else◌}
use Rattle.std.specs.List.{enumerate_from}
pub use Rattle.fd_lines.specs.Texts.{field_text, fields_text}
use Rattle.fd_lines.specs.Numbers.{text_eq}
use Rattle.fd_certfile.specs.Blocks.{is_entry, pair_of}

-- the text of a field behind the place of its entry, and how many entries it is: none where it spells 0
abbrev pub entry_text : ℕ → List ℕ → List ℕ
entry_text place field = if text_eq field (codes "0") then [] else field_text (pos place) ++ 32 ∷ field

abbrev pub entry_count : List ℕ → ℕ
entry_count field = if text_eq field (codes "0") then 0 else 1

-- how many of the entries of a row aren't 0, and these behind a text, each behind its place
abbrev pub with_entries : List ℕ → List ℤ → ℕ × List ℕ
with_entries text entries = (count_by is_entry entries, text ++ fields_text (flat_map pair_of (enumerate_from 0 entries)))

-- The first line of the bytes of a file.
use Rattle.std.specs.Prelude.{ℕ, ◌==◌, nat_lt, Bool, List, length, if◌then◌else◌}
use Rattle.std.specs.List.{position_or_len, before_first}
use Rattle.std.specs.Str.Lines.{strip_carriage_return}

abbrev pub is_line_feed : ℕ → Bool
is_line_feed b = b == 10

-- a carriage return directly before a line feed is dropped, and one at the end of a file stays
abbrev pub first_line : List ℕ → List ℕ
first_line bytes = if nat_lt (position_or_len is_line_feed bytes) (length bytes) then strip_carriage_return (before_first is_line_feed bytes) else bytes

-- Answers of which none is a failed read.
use Rattle.std.specs.Prelude.{List, [], ◌∷◌, Bool, true, false, if◌then◌else◌}
use Rattle.fd_outside.specs.Answers.{Answer, Reply, absent, content, failed}

abbrev pub is_well : Reply → Bool
is_well (content bs) = true
is_well absent = true
is_well failed = false

abbrev pub all_well : List Answer → Bool
all_well [] = true
all_well (a ∷ answers) = if is_well a.1 then all_well answers else false

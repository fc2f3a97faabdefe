-- How much room the commands take that a script says.
use Rattle.std.specs.Prelude.{ℕ, ◌+◌, ◌≤◌, List, [], ◌∷◌}
use Rattle.fd_outside.specs.Files.{Files}
use Rattle.dss_script.specs.Said.{Said, name, command, said_of}
use Rattle.dss_script.specs.Sessions.{cost}

abbrev pub room_of : List Said → ℕ
room_of [] = 0
room_of (name n ∷ more) = room_of more
room_of (command c ∷ more) = cost c.verb + room_of more

-- no more than the bytes that a script may have, with a line feed behind the last
abbrev pub SaidRoomLaw : Type 0
SaidRoomLaw = (files : Files) (master : List ℕ) → room_of (said_of files master).said ≤ 1_048_577

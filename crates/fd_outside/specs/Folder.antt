-- What real files were asked for.
use Rattle.std.specs.Prelude.{List}
use Rattle.fd_outside.specs.System.{Event}
use Rattle.fd_outside.specs.Told.{events_on}
use Rattle.fd_outside.specs.declared.folder.FolderLibrary.{FolderLibrary}

-- what the system answered so far
abbrev pub asked_of_system : {R F D : Type 0} → FolderLibrary R F D → List Event
asked_of_system m = events_on m.tapes.system

-- What a writer took.
use Rattle.std.specs.Prelude.{ℕ, List}
use Rattle.fd_outside.specs.System.{Event}
use Rattle.fd_outside.specs.Told.{events_on}
use Rattle.fd_outside.specs.Reading.{bytes_moved}
use Rattle.fd_outside.specs.declared.writer.StdSink.{StdSink}

-- what the system answered so far
abbrev pub asked_of_system : {W : Type 0} → StdSink W → List Event
asked_of_system m = events_on m.system

-- all that it took
abbrev pub taken_of : {W : Type 0} → StdSink W → List ℕ
taken_of m = bytes_moved (asked_of_system m)

-- what it is handed to
abbrev pub writer_of : {W : Type 0} → StdSink W → W
writer_of m = m.writer

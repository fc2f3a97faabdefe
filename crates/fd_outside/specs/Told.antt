-- What tapes tell.
use Rattle.std.specs.Prelude.{List, map}
use Rattle.fd_outside.specs.Answers.{Answer, answer_on}
use Rattle.fd_outside.specs.System.{Event, event_on}
use Rattle.fd_outside.specs.declared.answers.AnswerTape.{AnswerTape}
use Rattle.fd_outside.specs.declared.system.SystemTape.{SystemTape}

abbrev pub answers_on : AnswerTape → List Answer
answers_on t = map answer_on t.tape.notes

abbrev pub events_on : SystemTape → List Event
events_on t = map (λ n. event_on n.0 n.1 n.2) t.tape.notes

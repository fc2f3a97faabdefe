-- What a call prints of a history, and what it asks and writes besides: nothing.
use Rattle.std.specs.Prelude.{◌≡◌, ◌+◌, ◌++◌, ℕ, List, length, Option}
use Rattle.std.specs.List.{concat}
use Rattle.fd_bench.specs.fd_outside.Answers.{Answer, names_asked}
use Rattle.fd_checking.specs.fd_outcome.Calls.{doing, names_read, texts_written}
use Rattle.fd_checking.specs.fd_outcome.Done.{HasReadCause, IsDone, Made, failing, torn_bytes, torn_writes}
use Rattle.fd_checking.specs.fd_outcome.Events.{History}
use Rattle.fd_app.specs.Run.{Manner}

-- a call's outside, before it and after it: what the library answered, the bytes that the sink took, and its writes
pub record Outside : Type 0 where
  pub answers_before : List Answer
  pub answers_now : List Answer
  pub taken_before : List ℕ
  pub taken_now : List ℕ
  pub writes_before : ℕ
  pub writes_now : ℕ

module _ {L S : Type 0} (answers : L → List Answer) (taken : S → List ℕ) (calls : S → ℕ) where
  abbrev pub outside_of : L → L → S → S → Outside
  outside_of lib_old lib_new old new = record {
    answers_before = answers lib_old;
    answers_now = answers lib_new;
    taken_before = taken old;
    taken_now = taken new;
    writes_before = calls old;
    writes_now = calls new;
  }

-- Printed: all calls of the history are made, reads and writes in order, and the status is its end's; or a front, cut
-- short by want of memory, a failed write or a failed read. No other name is asked and no other byte written.
pub record IsPrinted (o : Outside) (m : Manner) (h : History) (code : ℕ) : Type 0 where
  pub fails : Option ℕ
  pub cause : HasReadCause o.answers_before o.answers_now fails
  pub made : Made
  pub done : IsDone m.tells (failing fails (doing m.style h)) code made
  pub names : names_asked o.answers_now ≡ names_asked o.answers_before ++ names_read made.calls
  pub bytes_are : o.taken_now ≡ o.taken_before ++ (concat (texts_written made.calls) ++ torn_bytes made.torn)
  pub writes : o.writes_now ≡ o.writes_before + (length (texts_written made.calls) + torn_writes made.torn)

use Rattle.std.proofs.Common.{◌≡◌, ℕ, List}
use Rattle.fd_picture.specs.Readers.{IsPlain}
use Rattle.fd_picture.specs.Reading.{read_from}
use Rattle.fd_picture.proofs.ReadSteps.{rows_left}
use Rattle.fd_picture.proofs.reading.read_rows.Given as goal

-- the report is what the records that are left make of the draft
abbrev pub invariant-loop-number : goal.invariant-loop-number
invariant-loop-number l =
    (all : List ℕ) → IsPlain l.fn.reader all
    → (left : List ℕ)
    × IsPlain l.reader left
    × (read_from l.unfit 1 l.fn.draft (rows_left l.fn.reader all 1) ≡ read_from l.unfit l.number l.draft (rows_left l.reader left l.number))

-- The node numbers of a bus as the code holds them.
use Rattle.std.specs.Prelude.{ℕ, List, [], Some, Result, Ok, Err}
use Rattle.dss_model.specs.fd_exact.Answers as answers
use Rattle.dss_layout.specs.declared.numbers.PhaseNumbers.{PhaseNumbers}
use Rattle.dss_layout.specs.declared.numbers.PhaseNumbers.TheVariants.{Zero, One, Two, Three}
use Rattle.dss_layout.specs.declared.numbers.TerminalFault.{TerminalFault}
use Rattle.dss_layout.specs.declared.numbers.TerminalNumbers.{TerminalNumbers}

abbrev pub numbers_of : PhaseNumbers → List ℕ
numbers_of Zero = []
numbers_of (One numbers) = numbers
numbers_of (Two numbers) = numbers
numbers_of (Three numbers) = numbers

-- the numbers at the first bus and at the second
abbrev pub both_numbers : TerminalNumbers → List ℕ × List ℕ
both_numbers numbers = (numbers_of numbers.first, numbers_of numbers.second)

-- an answer, seen by view
abbrev pub seen : {X Y : Type 0} → (X → Y) → Result X TerminalFault → Result Y TerminalFault
seen view (Ok x) = Ok (view x)
seen view (Err e) = Err e

-- an answer, seen by view, is what is said; memory is never wanted
abbrev pub Gives : {X Y : Type 0} → (X → Y) → Result X TerminalFault → Result Y TerminalFault → Type 0
Gives = answers.Gives Some

-- What the definitions see of the code's lines.
use Rattle.std.specs.Prelude.{ℕ, ℤ, List, Option, Some, None, codes, option_map, if◌then◌else◌}
use Rattle.fd_lines.specs.Numbers.{numbers_of, text_eq}
use Rattle.fd_lines.specs.Cuts.{texts_of}
use Rattle.fd_certfile.specs.Lines as text
use Rattle.fd_certfile.specs.Blocks as blocks
use Rattle.fd_certfile.specs.declared.ahead.Head.{Head}
use Rattle.fd_certfile.specs.declared.block.ClaimedAct.{ClaimedAct}
use Rattle.fd_certfile.specs.declared.block.Part.{Part}
use Rattle.fd_certfile.specs.declared.line.Line.{Line}
use Rattle.fd_certfile.specs.declared.line.Line.TheVariants as the

-- the line that these numbers are, where all fields spell one
abbrev pub or_other : (List ℤ → text.Line) → Option (List ℤ) → text.Line
or_other line None = text.other
or_other line (Some numbers) = line numbers

abbrev pub view : Line → text.Line
view (the.Header version) = text.header version
view (the.Solution number hour round size) = text.solution number hour round size
view (the.State place centre radius mismatch) = text.state place centre radius mismatch
view (the.Row fields) = or_other text.row (numbers_of (texts_of (option_map (λ t. t.now) fields)))
view (the.Act time control steps) = text.act time control steps
view the.End = text.end
view the.Other = text.other

-- a line by its word and what its fields spell
unfoldable pub line_by_fields : List ℕ → Option (List ℤ) → text.Line
line_by_fields word numbers =
    if text_eq word (codes "cert") then or_other text.header_of numbers
    else if text_eq word (codes "solution") then or_other text.solution_of numbers
    else if text_eq word (codes "x") then or_other text.state_of numbers
    else if text_eq word (codes "c") then or_other text.row numbers
    else if text_eq word (codes "act") then or_other text.act_of numbers
    else if text_eq word (codes "end") then or_other text.end_of numbers
    else text.other

abbrev pub part : Part → blocks.Part
part p = record { centre = p.centre; radius = p.radius; mismatch = p.mismatch }

abbrev pub act : ClaimedAct → blocks.Act
act a = record { time = a.time; control = a.control; steps = a.steps }

-- the numbers of a solution line
abbrev pub head : Head → ℤ × ℤ × ℤ × ℤ
head h = (h.number, h.hour, h.round, h.size)
